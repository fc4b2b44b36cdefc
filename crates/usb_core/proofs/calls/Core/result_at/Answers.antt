use Rattle.std.proofs.Common.{ap, subst, sym, ◌∙◌}
use Rattle.std.specs.Option.{option_map}
use Rattle.usb_tables.specs.TransfersInFlight.{EndedOf}
use Rattle.usb_tables.specs.declared.transfer.Transfer.{Transfer}
use Rattle.refine_core.specs.State.{ShowsWorld, State, result_of}
use Rattle.usb_core.specs.Inventory.{waiting_result}
use Rattle.usb_core.proofs.Unfinished.{waiting_shown}
use Rattle.usb_core.proofs.calls.Core.result_at.Goals as goal

pub returns-in-Some : goal.returns-in-Some
returns-in-Some g c = λ setup w shown.
    ap (option_map (λ (x : EndedOf (Transfer g.row.P.Denot)). waiting_result (result_of x))) c.in-Some.ensures ∙ waiting_shown setup c.self.inside.parts w (subst (λ (s : State g.row.P.Denot). ShowsWorld setup s w) (sym c.self.view_is) shown) c.args.i

pub returns-in-None : goal.returns-in-None
returns-in-None g c = λ setup w shown.
    ap (option_map (λ (x : EndedOf (Transfer g.row.P.Denot)). waiting_result (result_of x))) c.in-None.ensures ∙ waiting_shown setup c.self.inside.parts w (subst (λ (s : State g.row.P.Denot). ShowsWorld setup s w) (sym c.self.view_is) shown) c.args.i
