-- The core hands them back.
use Rattle.std.proofs.Common.{sym, subst}
use Rattle.usb_plans.specs.PlanRuns.{PlanState, ShowsStage}
use Rattle.usb_plans.proofs.plan_run.PlanRun.into_setup.Goals as goal

pub returns-clause-setup : goal.returns-clause-setup
returns-clause-setup g c = λ setup s shown. c.into_setup.ensures.setup setup s.world (subst (λ (v : PlanState g.row.C.Denot). ShowsStage g.C.Callback.rule setup v s) (sym c.self.view_is) shown).world

pub returns-clause-devices : goal.returns-clause-devices
returns-clause-devices g c = λ setup s d e k shown its. c.into_setup.ensures.devices setup s.world d e k (subst (λ (v : PlanState g.row.C.Denot). ShowsStage g.C.Callback.rule setup v s) (sym c.self.view_is) shown).world its
