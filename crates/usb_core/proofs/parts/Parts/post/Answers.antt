-- The order is the errand's, and stands under the index that is kept.
use Rattle.std.proofs.Common.{ℕ, ap, sym, subst, ◌∙◌, length, ◌≤◌}
use Rattle.std.specs.Prelude.{IfSome, option_map, ◌≡◌}
use Rattle.refine_core.specs.State.{State}
use Rattle.refine_core.specs.Steps.{CanPost}
use Rattle.refine_core.specs.Works.{Posts, context_in, order_by}
use Rattle.refine_core.proofs.Posts.{can_post_blanks, can_post_order, can_post_room, post_is}
use Rattle.usb_core.proofs.Views.{parts}
use Rattle.usb_core.proofs.parts.Parts.post.Goals as goal

pub order_of-requires : goal.order_of-requires
order_of-requires g c =
    let old : State g.row.P.Denot = parts c.self.inside.claims c.self.inside.controller c.self.inside.flights c.self.inside.callers c.self.inside.outstanding in
    let can : CanPost old c.args.dev c.args.ep = subst (λ (s : State g.row.P.Denot). CanPost s c.args.dev c.args.ep) (sym c.self.view_is) c.requires in
    subst (λ (s : State g.row.P.Denot). IfSome (context_in s.controller c.args.dev c.args.ep) (λ x. c.blanks_from-blanks.result ≤ length x.ring.line.items)) c.self.view_is
    (can_post_blanks old c.args.dev c.args.ep c.blanks_from-blanks.result can c.blanks_from-blanks.ensures.value)

pub order-index-requires : goal.order-index-requires
order-index-requires g c =
    let old : State g.row.P.Denot = parts c.self.inside.claims c.self.inside.controller c.self.inside.flights c.self.inside.callers c.self.inside.outstanding in
    let can : CanPost old c.args.dev c.args.ep = subst (λ (s : State g.row.P.Denot). CanPost s c.args.dev c.args.ep) (sym c.self.view_is) c.requires in
    can_post_room old c.args.dev c.args.ep can

pub returns-in-Some-clause-done : goal.returns-in-Some-clause-done
returns-in-Some-clause-done g c =
    let old : State g.row.P.Denot = parts c.self.inside.claims c.self.inside.controller c.self.inside.flights c.self.inside.callers c.self.inside.outstanding in
    let can : CanPost old c.args.dev c.args.ep = subst (λ (s : State g.row.P.Denot). CanPost s c.args.dev c.args.ep) (sym c.self.view_is) c.requires in
    let ordered : option_map (λ x. order_by x c.blanks_from-blanks.result c.args.errand) (context_in old.controller c.args.dev c.args.ep) ≡ c.order_of.result =
    ap (λ (s : State g.row.P.Denot). option_map (λ x. order_by x c.blanks_from-blanks.result c.args.errand) (context_in s.controller c.args.dev c.args.ep)) c.self.view_is ∙ sym c.order_of.ensures in
    subst (λ (s : State g.row.P.Denot). (h : ℕ) → Posts s (record old { controller = c.order-index.new.self; outstanding = c.set.new.self }) h c.args.dev c.args.ep c.args.errand) c.self.view_is
    (λ h. post_is old c.order-index.new.self c.set.new.self c.args.dev c.args.ep c.blanks_from-blanks.result c.order-index.result c.args.errand c.in-Some.order can c.blanks_from-blanks.ensures.value (ordered ∙ c.in-Some.is) c.order-index.ensures.index c.order-index.ensures.controller c.set.ensures.written h)

pub returns-in_default-clause-done : goal.returns-in_default-clause-done
returns-in_default-clause-done g c =
    let old : State g.row.P.Denot = parts c.self.inside.claims c.self.inside.controller c.self.inside.flights c.self.inside.callers c.self.inside.outstanding in
    let can : CanPost old c.args.dev c.args.ep = subst (λ (s : State g.row.P.Denot). CanPost s c.args.dev c.args.ep) (sym c.self.view_is) c.requires in
    absurd (can_post_order old c.args.dev c.args.ep c.blanks_from-blanks.result c.args.errand can (ap (λ (s : State g.row.P.Denot). option_map (λ x. order_by x c.blanks_from-blanks.result c.args.errand) (context_in s.controller c.args.dev c.args.ep)) c.self.view_is ∙ sym c.order_of.ensures ∙ c.in_default.is))
