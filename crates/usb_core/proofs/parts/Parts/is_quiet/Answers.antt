-- The name's own, by its tables.
use Rattle.std.proofs.Common.{subst}
use Rattle.refine_core.specs.State.{State}
use Rattle.refine_core.specs.Works.{IsHolder}
use Rattle.refine_core.proofs.Quiet.{quiet_own}
use Rattle.usb_core.proofs.parts.Parts.is_quiet.Goals as goal

pub returns : goal.returns
returns g c = quiet_own c.args.self.now c.args.h c.args.dev c.args.ep c.holder.result c.rests_at.result
    (subst (λ (s : State g.row.P.Denot). IsHolder s c.args.dev c.args.ep c.holder.result) c.self.view_is c.holder.ensures) (cc) c.rests_at.ensures
