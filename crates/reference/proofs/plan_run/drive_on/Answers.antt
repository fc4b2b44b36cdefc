-- A piece further each turn.
use Rattle.std.proofs.Common.{ap, inr}
use Rattle.usb_model.specs.World.Journal.{world_run, journal}
use Rattle.usb_model.specs.World.Plans.{Stage, expand, expand_from}
use Rattle.usb_model.specs.World.Journal.{run_from}
use Rattle.reference.specs.PlanRuns.{kept_with, stage_of}
use Rattle.reference.proofs.Drives.{piece_further, plan_ends, begun_all, steps_further, steps_end}
use Rattle.proof_model.proofs.Handles.Beginnings.{first_steps, piece_left}
use Rattle.reference.proofs.plan_run.drive_on.Goals as goal

pub returns-in_default-clause-stopped : goal.returns-in_default-clause-stopped
returns-in_default-clause-stopped c = (world_run c.args.setup.now (expand c.args.setup.now c.args.plan.now c.args.rules.now), rw c.new-entries.ensures)

pub loop-piece-init : goal.loop-piece-init
unfolding journal
loop-piece-init c = record {
  entries = rw c.new-entries.ensures (ap (λ (s : Stage). run_from c.args.setup.now s.world (expand_from c.args.setup.now s c.args.plan.now)) (c.in-Ok.ensures.stage c.args.rules.now));
  steps = rw c.in-Ok.ensures.kept (ap (λ (s : Stage). kept_with c.args.made (expand_from c.args.setup.now s c.args.plan.now)) (c.in-Ok.ensures.stage c.args.rules.now));
}

pub returns-in_default-perform-clause-stopped : goal.returns-in_default-perform-clause-stopped
returns-in_default-perform-clause-stopped c =
    begun_all c.args.setup.now (stage_of c.args.setup.now c.loop-piece.run c.loop-piece.left.now) c.piece-item.result c.args.plan.now c.loop-piece.piece-index c.loop-piece.entries c.perform.new.out
    (world_run c.args.setup.now (expand c.args.setup.now c.args.plan.now c.args.rules.now)) c.loop-piece-test.true c.piece-item.is c.loop-piece.invariant.entries c.in_default-perform.ensures.stopped

pub returns-in_default-clause-reached : goal.returns-in_default-clause-reached
returns-in_default-clause-reached c =
    first_steps c.args.setup.now _ (expand c.args.setup.now c.args.plan.now c.args.rules.now) (returns-in_default-clause-stopped c)

pub returns-in_default-perform-clause-reached : goal.returns-in_default-perform-clause-reached
returns-in_default-perform-clause-reached c =
    first_steps c.args.setup.now _ (expand c.args.setup.now c.args.plan.now c.args.rules.now) (returns-in_default-perform-clause-stopped c)

pub returns-in_default-perform-clause-left : goal.returns-in_default-perform-clause-left
returns-in_default-perform-clause-left c =
    inr (piece_left c.args.setup.now (stage_of c.args.setup.now c.loop-piece.run c.loop-piece.left.now) c.piece-item.result c.args.plan.now c.loop-piece.piece-index c.loop-piece.entries c.perform.new.out
    (expand c.args.setup.now c.args.plan.now c.args.rules.now) c.loop-piece-test.true c.piece-item.is c.loop-piece.invariant.entries c.in_default-perform.ensures.left)

pub loop-piece-preserved : goal.loop-piece-preserved
loop-piece-preserved c = record {
  entries =
      rw c.rules_after-left.ensures
      (piece_further c.args.setup.now (stage_of c.args.setup.now c.loop-piece.run c.loop-piece.left.now) _ c.piece-item.result c.args.plan.now c.loop-piece.piece-index c.loop-piece.entries c.perform.new.out
      (world_run c.args.setup.now (expand c.args.setup.now c.args.plan.now c.args.rules.now)) c.loop-piece-test.true c.piece-item.is c.loop-piece.invariant.entries c.in-Ok-perform.ensures.made);
  steps =
      rw c.rules_after-left.ensures
      (steps_further c.args.setup.now (stage_of c.args.setup.now c.loop-piece.run c.loop-piece.left.now) _ c.piece-item.result c.args.plan.now c.loop-piece.piece-index c.loop-piece.run.made _
      (kept_with c.args.made (expand c.args.setup.now c.args.plan.now c.args.rules.now)) c.loop-piece-test.true c.piece-item.is c.loop-piece.invariant.steps c.in-Ok-perform.ensures.noted c.in-Ok-perform.ensures.made.1);
}

pub returns-clause-steps : goal.returns-clause-steps
returns-clause-steps c =
    steps_end c.args.setup.now (stage_of c.args.setup.now c.loop-piece.run c.loop-piece.left.now) c.args.plan.now c.loop-piece.piece-index c.loop-piece.run.made
    (kept_with c.args.made (expand c.args.setup.now c.args.plan.now c.args.rules.now)) c.loop-piece-test.false c.loop-piece.invariant.steps

pub returns-clause-entries : goal.returns-clause-entries
returns-clause-entries c =
    plan_ends c.args.setup.now (stage_of c.args.setup.now c.loop-piece.run c.loop-piece.left.now) c.args.plan.now c.loop-piece.piece-index c.loop-piece.entries
    (world_run c.args.setup.now (expand c.args.setup.now c.args.plan.now c.args.rules.now)) c.loop-piece-test.false c.loop-piece.invariant.entries
