-- Without a line, or a holder, there is nothing to do.
use Rattle.std.proofs.Common.{ap, subst, sym, ◌∙◌}
use Rattle.std.specs.Prelude.{length}
use Rattle.usb_tables.specs.TransfersInFlight.{line_at}
use Rattle.refine_core.specs.State.{State}
use Rattle.refine_core.specs.Works.{IsHolder}
use Rattle.usb_core.proofs.Worth.{with_holder, without_holder, without_line}
use Rattle.usb_core.proofs.parts.Parts.has_packet.Goals.{then-len-eq0-via-then-len-eq0, then-len-eq0-via-else-len-eq0+then-is_none}
use Rattle.usb_core.proofs.parts.Parts.has_packet.Goals as goal

pub returns-then-len-eq0 : goal.returns-then-len-eq0
returns-then-len-eq0 g c = λ setup w core keeps shows. elim c.then-len-eq0.branch [
  | then-len-eq0-via-then-len-eq0 v ↦ sym (without_line setup w c.args.self.now core c.args.dev c.args.ep keeps shows
      (ap (λ (s : State g.row.P.Denot). length (line_at s.flights c.args.dev c.args.ep)) (sym c.self.view_is) ∙ sym c.len.ensures.value ∙ v.if-len-eq0.true))
  | then-len-eq0-via-else-len-eq0+then-is_none v ↦ sym (without_holder setup w c.args.self.now core c.args.dev c.args.ep v.holder.result keeps shows
      (subst (λ (s : State g.row.P.Denot). IsHolder s c.args.dev c.args.ep v.holder.result) c.self.view_is v.holder.ensures) v.if-is_none.ensures)
]

pub returns : goal.returns
returns g c = λ setup w core keeps shows. c.can_answer.ensures ∙ sym (with_holder setup w c.args.self.now core c.args.dev c.args.ep c.holder.result keeps shows
    (subst (λ (s : State g.row.P.Denot). IsHolder s c.args.dev c.args.ep c.holder.result) c.self.view_is c.holder.ensures) c.if-is_none.ensures)
