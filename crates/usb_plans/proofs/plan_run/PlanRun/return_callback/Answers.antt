-- One that is out, or none.
use Rattle.std.proofs.Common.{refl, sym, ap, ◌∙◌}
use Rattle.usb_model.specs.declared.plan.Plan.TheVariants.{Return}
use Rattle.usb_plans.specs.PlanRuns.{FindsNone, StillShows, running_at}
use Rattle.usb_plans.proofs.StillShown.{no_return, on_err_so}
use Rattle.usb_plans.proofs.ToldVerdicts.{call_result, return_result, returns_none, run_result}
use Rattle.usb_plans.proofs.plan_run.PlanRun.return_callback.Goals as goal

pub returns-in_ok-answer-in-None-clause-performs : goal.returns-in_ok-answer-in-None-clause-performs
returns-in_ok-answer-in-None-clause-performs g c = rw (← c.self.view_is)
    (returns_none g.C.Callback.rule (record { core = c.self.inside.core; running = c.self.inside.running }) (record { core = c.self.inside.core; running = c.remove.new.self }) c.answer.new.self c.args.h c.args.n c.args.callback c.in_ok-answer-in-None.field-0
    refl c.remove.ensures.others (sym c.remove.ensures.value ∙ c.in-None.is) c.in_ok-answer-in-None.ensures.made)

pub returns-in_ok-answer-in-None-clause-called : goal.returns-in_ok-answer-in-None-clause-called
returns-in_ok-answer-in-None-clause-called g c = rw (← c.self.view_is) (λ t is. absurd (cc (c.remove.ensures.value, c.in-None.is, is)))

pub returns-in_ok-answer-in-None-clause-out : goal.returns-in_ok-answer-in-None-clause-out
returns-in_ok-answer-in-None-clause-out g c = rw (← c.self.view_is) (λ h n. ap (λ v. running_at v h n) c.in_ok-answer-in-None.ensures.same ∙ c.remove.ensures.others h n)

pub returns-in-Some-clause-performs : goal.returns-in-Some-clause-performs
returns-in-Some-clause-performs g c = rw (← c.self.view_is)
    (return_result g.C.Callback.rule g.C.Callback.may_answer (record { core = c.self.inside.core; running = c.self.inside.running }) (record { core = c.self.inside.core; running = c.remove.new.self }) c.call_back.new.self c.args.h c.args.n c.args.callback c.in-Some.taken c.call_back.result
    refl c.remove.ensures.others (sym c.remove.ensures.value ∙ c.in-Some.is) c.call_back.ensures.returns)

pub returns-in-Some-clause-called : goal.returns-in-Some-clause-called
returns-in-Some-clause-called g c = rw (← c.self.view_is)
    (call_result g.C.Callback.rule g.C.Callback.may_answer (record { core = c.self.inside.core; running = c.self.inside.running }) (record { core = c.self.inside.core; running = c.remove.new.self }) c.call_back.new.self c.args.h c.args.n c.in-Some.taken c.call_back.result
    refl c.remove.ensures.others (sym c.remove.ensures.value ∙ c.in-Some.is) c.call_back.ensures.returns)

pub returns-in-Some-clause-out : goal.returns-in-Some-clause-out
returns-in-Some-clause-out g c = rw (← c.self.view_is)
    (run_result g.C.Callback.rule g.C.Callback.may_answer (record { core = c.self.inside.core; running = c.self.inside.running }) (record { core = c.self.inside.core; running = c.remove.new.self }) c.call_back.new.self c.args.h c.args.n c.in-Some.taken c.call_back.result
    refl c.remove.ensures.others c.call_back.ensures.returns)

pub returns-in-Some-clause-none : goal.returns-in-Some-clause-none
returns-in-Some-clause-none g c = rw (← c.self.view_is)
    (on_err_so c.call_back.result (StillShows g.C.Callback.rule (record { core = c.self.inside.core; running = c.remove.new.self }) c.call_back.new.self) (FindsNone g.C.Callback.rule (record { core = c.self.inside.core; running = c.self.inside.running }) (Return c.args.h c.args.n) c.call_back.new.self)
    (no_return g.C.Callback.rule (record { core = c.self.inside.core; running = c.self.inside.running }) (record { core = c.self.inside.core; running = c.remove.new.self }) c.call_back.new.self c.args.h c.args.n refl c.remove.ensures.others) c.call_back.ensures.stays)
