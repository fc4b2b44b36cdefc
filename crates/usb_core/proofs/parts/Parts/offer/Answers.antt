-- The packet that is next, or that there is none.
use Rattle.std.proofs.Common.{Some, None, sym, subst, ◌∙◌}
use Rattle.refine_core.specs.Offers.{IsNext}
use Rattle.refine_core.specs.State.{State}
use Rattle.refine_core.specs.Works.{IsFront, IsHolder}
use Rattle.refine_core.proofs.Offers.{offers}
use Rattle.usb_core.proofs.NextPackets.{none_front, none_held}
use Rattle.usb_core.proofs.Serves.{can_serve}
use Rattle.usb_core.proofs.parts.Parts.offer.Goals as goal

pub returns-in_err-owner-clause-none : goal.returns-in_err-owner-clause-none
returns-in_err-owner-clause-none g c = λ setup w core keeps shows none.
    let held : IsHolder c.args.self.now c.args.dev c.args.ep None = subst (λ (s : State g.row.P.Denot). IsHolder s c.args.dev c.args.ep None) c.self.view_is (λ setup set. sym c.in_err-owner.was ∙ c.holder.ensures setup set) in
    none_held c.args.self.now c.args.dev c.args.ep setup w core held keeps shows

pub returns-in_err-item-clause-none : goal.returns-in_err-item-clause-none
returns-in_err-item-clause-none g c = λ setup w core keeps shows none.
    let held : IsHolder c.args.self.now c.args.dev c.args.ep (Some c.in_ok-owner.owner) =
    subst (λ (s : State g.row.P.Denot). IsHolder s c.args.dev c.args.ep (Some c.in_ok-owner.owner)) c.self.view_is (λ setup set. sym c.in_ok-owner.was ∙ c.holder.ensures setup set) in
    none_front c.args.self.now c.in_ok-owner.owner c.args.dev c.args.ep setup w core held
    (subst (λ o. IsFront c.args.self.now c.args.dev c.args.ep o) c.in_err-item.was c.front.ensures) keeps shows

pub offer_at-requires-clause-served : goal.offer_at-requires-clause-served
offer_at-requires-clause-served g c =
    let held : IsHolder c.args.self.now c.args.dev c.args.ep (Some c.in_ok-owner.owner) =
    subst (λ (s : State g.row.P.Denot). IsHolder s c.args.dev c.args.ep (Some c.in_ok-owner.owner)) c.self.view_is (λ setup set. sym c.in_ok-owner.was ∙ c.holder.ensures setup set) in
    can_serve c.args.self.now c.in_ok-owner.owner c.args.dev c.args.ep c.in_ok-item.item c.requires held
    (subst (λ o. IsFront c.args.self.now c.args.dev c.args.ep o) c.in_ok-item.was c.front.ensures)

pub returns-clause-next : goal.returns-clause-next
returns-clause-next g c = λ setup w core keeps shows.
    let held : IsHolder c.args.self.now c.args.dev c.args.ep (Some c.in_ok-owner.owner) =
    subst (λ (s : State g.row.P.Denot). IsHolder s c.args.dev c.args.ep (Some c.in_ok-owner.owner)) c.self.view_is (λ setup set. sym c.in_ok-owner.was ∙ c.holder.ensures setup set) in
    subst (λ h. IsNext setup w c.args.dev c.args.ep h c.in-Some.offer.n c.in-Some.offer.out.now c.in-Some.offer.room c.in-Some.offer.wants) (sym c.in-Some.ensures.whose)
    (offers c.args.self.now setup w core c.in_ok-owner.owner c.args.dev c.args.ep c.in_ok-item.item c.in-Some.offer.n c.in-Some.offer.out.now c.in-Some.offer.room c.in-Some.offer.wants keeps shows held
    (subst (λ o. IsFront c.args.self.now c.args.dev c.args.ep o) c.in_ok-item.was c.front.ensures) c.in-Some.ensures.offered)
