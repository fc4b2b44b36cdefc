-- A step further each turn.
use Rattle.std.proofs.Common.{inl, inr, length, take}
use Rattle.refine_core.specs.Made.{setup_of}
use Rattle.usb_core.proofs.Reached.{all, lawful, left, none_stopped, none_yet, obeys_laws, one_more, stopped}
use Rattle.usb_core.proofs.runs.run.Goals as goal

pub returns-in_default-clause-laws : goal.returns-in_default-clause-laws
returns-in_default-clause-laws g c = obeys_laws (setup_of c.args.setup) c.args.steps.now

pub returns-in_default-advance-clause-laws : goal.returns-in_default-advance-clause-laws
returns-in_default-advance-clause-laws g c = obeys_laws (setup_of c.args.setup) c.args.steps.now

pub returns-clause-laws : goal.returns-clause-laws
returns-clause-laws g c = obeys_laws (setup_of c.args.setup) c.args.steps.now

pub returns-in_default-clause-stopped : goal.returns-in_default-clause-stopped
returns-in_default-clause-stopped g c = none_stopped (setup_of c.args.setup) c.args.steps.now c.new-entries.result c.new-entries.ensures

pub loop-step-init : goal.loop-step-init
loop-step-init g c = rw c.new-entries.ensures (none_yet (setup_of c.args.setup) c.args.steps.now c.in-Ok.core c.in-Ok.ensures.shows)

pub loop-step-preserved : goal.loop-step-preserved
loop-step-preserved g c = one_more (setup_of c.args.setup) c.args.steps.now c.loop-step.core c.advance.new.core c.loop-step.entries c.advance.new.entries c.loop-step.step-index c.step-item.result c.loop-step-test.true c.step-item.is c.loop-step.invariant c.in-Ok-advance.ensures.advanced

pub returns-in_default-advance-clause-stopped : goal.returns-in_default-advance-clause-stopped
returns-in_default-advance-clause-stopped g c = rw c.in_default-advance.ensures.kept (stopped (setup_of c.args.setup) c.args.steps.now c.loop-step.core c.loop-step.entries c.loop-step.step-index c.loop-step.invariant)

pub returns-in_default-advance-clause-left : goal.returns-in_default-advance-clause-left
returns-in_default-advance-clause-left g c = inr (rw c.in_default-advance.ensures.kept (left (setup_of c.args.setup) c.args.steps.now c.loop-step.core c.loop-step.entries c.loop-step.step-index c.loop-step-test.true c.loop-step.invariant))

pub returns-clause-entries : goal.returns-clause-entries
returns-clause-entries g c = all (setup_of c.args.setup) c.args.steps.now c.loop-step.core c.loop-step.entries c.loop-step.step-index c.loop-step-test.false c.loop-step.invariant

pub returns-clause-lawful : goal.returns-clause-lawful
returns-clause-lawful g c = lawful (setup_of c.args.setup) c.args.steps.now c.loop-step.core c.loop-step.entries c.loop-step.step-index c.loop-step.invariant c.args.steps.now

pub returns-in_default-clause-lawful_so_far : goal.returns-in_default-clause-lawful_so_far
returns-in_default-clause-lawful_so_far g c = inl c.new-entries.ensures

pub returns-in_default-advance-clause-lawful_so_far : goal.returns-in_default-advance-clause-lawful_so_far
returns-in_default-advance-clause-lawful_so_far g c =
    inr (lawful (setup_of c.args.setup) c.args.steps.now c.loop-step.core c.loop-step.entries c.loop-step.step-index c.loop-step.invariant (take (length c.advance.new.entries) c.args.steps.now))
