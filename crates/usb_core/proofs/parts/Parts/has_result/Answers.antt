-- A result waits where a transfer ended and wasn't taken out.
use Rattle.std.proofs.Common.{ap, ◌∙◌}
use Rattle.std.specs.Prelude.{is_some, slice_get}
use Rattle.refine_core.specs.State.{State}
use Rattle.usb_core.proofs.Waits.{some_map, takes}
use Rattle.usb_core.proofs.parts.Parts.has_result.Goals as goal

pub returns : goal.returns
returns g c = λ setup w core keeps shows.
    c.is_some.ensures ∙ some_map _ c.first_ended.result ∙ ap is_some c.first_ended.ensures ∙ ap (λ (s : State g.row.P.Denot). is_some (slice_get s.flights.ended 0)) c.self.view_is
    ∙ takes setup w c.args.self.now core keeps shows 0
