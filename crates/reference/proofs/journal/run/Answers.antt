-- A step further each turn.
use Rattle.std.proofs.Common.{drop, inr, sym}
use Rattle.usb_model.specs.World.Journal.{world_run, journal}
use Rattle.usb_model.specs.World.Journal.{run_from}
use Rattle.reference.specs.System.{world_of}
use Rattle.proof_model.proofs.Handles.Runs.{step_further, run_ends}
use Rattle.proof_model.proofs.Handles.Beginnings.{first_steps, step_left}
use Rattle.reference.proofs.journal.run.Goals as goal

pub returns-in_default-clause-stopped : goal.returns-in_default-clause-stopped
returns-in_default-clause-stopped c = (world_run c.args.setup.now c.args.steps.now, rw c.new-entries.ensures)

pub returns-in_default-advance-clause-stopped : goal.returns-in_default-advance-clause-stopped
returns-in_default-advance-clause-stopped c =
    (run_from c.args.setup.now (world_of c.args.setup.now c.loop-step.system) (drop c.loop-step.step-index c.args.steps.now), rw c.in_default-advance.ensures.kept (sym c.loop-step.invariant))

pub returns-in_default-clause-reached : goal.returns-in_default-clause-reached
returns-in_default-clause-reached c = first_steps c.args.setup.now _ c.args.steps.now (returns-in_default-clause-stopped c)

pub returns-in_default-advance-clause-reached : goal.returns-in_default-advance-clause-reached
returns-in_default-advance-clause-reached c = first_steps c.args.setup.now _ c.args.steps.now (returns-in_default-advance-clause-stopped c)

pub returns-in_default-advance-clause-left : goal.returns-in_default-advance-clause-left
returns-in_default-advance-clause-left c =
    inr (step_left c.args.setup.now (world_of c.args.setup.now c.loop-step.system) c.args.steps.now c.loop-step.step-index c.advance.new.entries c.loop-step-test.true
    (rw c.in_default-advance.ensures.kept c.loop-step.invariant))

pub loop-step-init : goal.loop-step-init
unfolding journal
loop-step-init c = rw (c.new-entries.ensures, c.in-Ok.ensures)

pub loop-step-preserved : goal.loop-step-preserved
loop-step-preserved c =
    step_further c.args.setup.now (world_of c.args.setup.now c.loop-step.system) (world_of c.args.setup.now c.advance.new.system) c.args.steps.now c.loop-step.step-index c.step-item.result c.loop-step.entries c.advance.new.entries (world_run c.args.setup.now c.args.steps.now)
    c.loop-step-test.true c.step-item.is c.loop-step.invariant c.in-Ok-advance.ensures.advanced.0 c.in-Ok-advance.ensures.advanced.1

pub returns-clause-entries : goal.returns-clause-entries
returns-clause-entries c =
    run_ends c.args.setup.now (world_of c.args.setup.now c.loop-step.system) c.args.steps.now c.loop-step.step-index c.loop-step.entries (world_run c.args.setup.now c.args.steps.now) c.loop-step-test.false c.loop-step.invariant
