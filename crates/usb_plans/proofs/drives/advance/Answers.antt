-- Behind the entries before.
use Rattle.std.proofs.Common.{ap, ◌∙◌, ◌++◌}
use Rattle.usb_plans.specs.Drives.{StaysAt}
use Rattle.usb_plans.specs.PlanRuns.{entries_of}
use Rattle.usb_plans.proofs.StillShown.{none_for, on_err}
use Rattle.usb_plans.proofs.drives.advance.Goals as goal

pub returns-clause-advanced : goal.returns-clause-advanced
returns-clause-advanced g c = (entries_of c.in_ok-performed.performed, c.in_ok-performed.ensures.performs, c.tell.ensures ∙ ap (λ l. l ++ entries_of c.in_ok-performed.performed) c.reserve.ensures.items)

pub returns-in_err-performed-clause-stays : goal.returns-in_err-performed-clause-stays
returns-in_err-performed-clause-stays g c =
    on_err c.from_residual-in_err-performed.result (StaysAt g.C.Callback.rule c.args.run.now c.args.piece c.perform.new.self) (none_for g.C.Callback.rule c.args.run.now c.perform.new.self c.args.piece c.in_err-performed.ensures.none)
