-- A line of another name has none of the name's transfers.
use Rattle.std.proofs.Common.{Some, ap, sym, subst, ◌≡◌, ◌∙◌}
use Rattle.std.specs.Prelude.{position}
use Rattle.proof_model.proofs.Handles.Alone.{is_its-some}
use Rattle.usb_tables.specs.TransfersInFlight.{is_number, line_at}
use Rattle.refine_core.specs.State.{State}
use Rattle.refine_core.specs.Works.{IsHolder}
use Rattle.refine_core.proofs.Held.{is_at}
use Rattle.refine_core.proofs.Homes.{in_line}
use Rattle.usb_core.proofs.parts.Parts.item_of.Goals as goal

pub returns-then-is_its : goal.returns-then-is_its
returns-then-is_its g c = λ setup core keeps.
    let held : c.holder.result ≡ Some c.args.h = is_its-some c.args.h c.holder.result (sym c.is_its.ensures ∙ c.if-is_its.true) in
    let holder : IsHolder c.args.self.now c.args.dev c.args.ep (Some c.args.h) =
    subst (λ (s : State g.row.P.Denot). IsHolder s c.args.dev c.args.ep (Some c.args.h)) c.self.view_is (λ v set. sym held ∙ c.holder.ensures v set) in
    in_line setup c.args.self.now core c.args.h c.args.n c.args.dev c.args.ep c.find.result (is_at setup c.args.self.now core c.args.h c.args.dev c.args.ep keeps holder)
    (sym (c.find.ensures.value ∙ ap (λ (s : State g.row.P.Denot). position (is_number c.args.n) (line_at s.flights c.args.dev c.args.ep)) c.self.view_is))
