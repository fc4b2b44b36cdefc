use Rattle.std.proofs.Common.{subst, sym}
use Rattle.std.specs.Option.{option_copied}
use Rattle.refine_core.specs.State.{ShowsWorld, State}
use Rattle.usb_core.proofs.Shown.{taken_shown}
use Rattle.usb_core.proofs.calls.Core.taken.Goals as goal

pub returns : goal.returns
returns g c = λ setup w k shown its. taken_shown c.self.inside.parts c.args.dev c.args.ep c.args.i (option_copied c.taken.result) c.taken.ensures setup w k (subst (λ (s : State g.row.P.Denot). ShowsWorld setup s w) (sym c.self.view_is) shown) its
