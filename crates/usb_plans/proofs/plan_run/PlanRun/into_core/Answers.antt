-- It is the run's.
use Rattle.std.proofs.Common.{sym, subst}
use Rattle.usb_plans.specs.PlanRuns.{PlanState, ShowsStage}
use Rattle.usb_plans.proofs.plan_run.PlanRun.into_core.Goals as goal

pub returns : goal.returns
returns g c = λ setup s shown. (subst (λ (v : PlanState g.row.C.Denot). ShowsStage g.C.Callback.rule setup v s) (sym c.self.view_is) shown).world
