use Rattle.std.proofs.Common.{sym, ap, ◌∙◌}
use Rattle.usb_model.specs.declared.plan.Plan.TheVariants.{Do}
use Rattle.usb_plans.specs.PlanRuns.{FindsNone, StillShows, is_verdict}
use Rattle.usb_plans.proofs.StillShown.{no_do, on_err_so}
use Rattle.usb_plans.proofs.ToldVerdicts.{calls_none, step_result}
use Rattle.usb_plans.proofs.plan_run.PlanRun.perform.Goals as goal

pub returns-in-Do-clause-performs : goal.returns-in-Do-clause-performs
returns-in-Do-clause-performs g c = rw c.in-Do.is
    (step_result g.C.Callback.rule c.args.self.now c.make.new.self c.in-Do.step c.args.callback c.make.result (ap is_verdict (sym c.in-Do.is) ∙ c.requires.no_verdict) c.make.ensures.made c.make.ensures.once)

pub returns-in-Do-clause-called : goal.returns-in-Do-clause-called
returns-in-Do-clause-called g c = rw c.in-Do.is (calls_none c.make.result)

pub returns-in-Do-clause-out : goal.returns-in-Do-clause-out
returns-in-Do-clause-out g c = rw c.in-Do.is c.make.ensures.out

pub returns-in-Return-clause-performs : goal.returns-in-Return-clause-performs
returns-in-Return-clause-performs g c = rw c.in-Return.is c.return_callback.ensures.performs

pub returns-in-Return-clause-called : goal.returns-in-Return-clause-called
returns-in-Return-clause-called g c = rw c.in-Return.is c.return_callback.ensures.called

pub returns-in-Return-clause-out : goal.returns-in-Return-clause-out
returns-in-Return-clause-out g c = rw c.in-Return.is c.return_callback.ensures.out

pub returns-in-Do-clause-back : goal.returns-in-Do-clause-back
returns-in-Do-clause-back g c = rw c.in-Do.is c.make.ensures.back

pub returns-in-Return-clause-back : goal.returns-in-Return-clause-back
returns-in-Return-clause-back g c = rw c.in-Return.is c.return_callback.ensures.back

pub returns-in-Do-clause-none : goal.returns-in-Do-clause-none
returns-in-Do-clause-none g c = rw c.in-Do.is
    (on_err_so c.make.result (StillShows g.C.Callback.rule c.args.self.now c.make.new.self) (FindsNone g.C.Callback.rule c.args.self.now (Do c.in-Do.step) c.make.new.self) (no_do g.C.Callback.rule c.args.self.now c.make.new.self c.in-Do.step) c.make.ensures.stays)

pub returns-in-Return-clause-none : goal.returns-in-Return-clause-none
returns-in-Return-clause-none g c = rw c.in-Return.is c.return_callback.ensures.none
