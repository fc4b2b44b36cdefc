use Rattle.usb_core.specs.Public.{setup_of}
use Rattle.usb_plans.proofs.Stages.{first_shown}
use Rattle.usb_plans.proofs.plan_run.PlanRun.new.Goals as goal

pub returns : goal.returns
returns g c = λ rules. first_shown g.C.Callback.rule (setup_of c.args.setup) (record { core = c.in_ok-new.field-0; running = c.in_ok-new-2.field-0 }) rules c.in_ok-new.ensures.shows c.in_ok-new.ensures.carries c.in_ok-new-2.ensures
