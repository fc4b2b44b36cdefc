use Rattle.std.proofs.Common.{refl}
use Rattle.usb_plans.proofs.Stages.{answered}
use Rattle.usb_plans.proofs.plan_run.PlanRun.answer.Goals as goal

pub returns-in-Ok-clause-made : goal.returns-in-Ok-clause-made
returns-in-Ok-clause-made g c = rw (← c.self.view_is) (answered g.C.Callback.rule (record { core = c.self.inside.core; running = c.self.inside.running }) c.args.h c.args.n c.args.verdict c.args.callback c.in-Ok.stepped.entry (record { core = c.step.new.self; running = c.self.inside.running }) c.in-Ok.ensures.turned c.in-Ok.ensures.carries c.requires refl)

pub returns-in-Ok-clause-same : goal.returns-in-Ok-clause-same
returns-in-Ok-clause-same g c = rw (← c.self.view_is) refl
