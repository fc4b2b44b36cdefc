use Rattle.std.proofs.Common.{arith, inr, subst}
use Rattle.usb_library.specs.Calls.{ShowsPending}
use Rattle.usb_workers.specs.Rounds as R
use Rattle.usb_workers.proofs.controller.work.Goals as goal

pub loop-init : goal.loop-init
loop-init g c = record { rounds = R.Rounds.none; counted = (omega (arith, c.new-tries.ensures), omega (arith, c.new-tries.ensures)) }

pub loop-preserved : goal.loop-preserved
loop-preserved g c = record {
  rounds = R.Rounds.more c.in-Some-work.pending c.loop.caller c.work.new.caller c.turn.new.caller c.loop.invariant.rounds c.work.ensures.looks c.in-Some-work.ensures.pending c.turn.ensures.made;
  counted = c.turn.ensures.counted (omega (arith, c.loop.invariant.counted.0, c.work.ensures.looks.missed), c.loop.invariant.counted.1);
}

pub returns-in_default-clause-rounds : goal.returns-in_default-clause-rounds
returns-in_default-clause-rounds g c =
    subst (λ x. R.Rounds (ShowsPending g.L.Naming.setup) (R.Controls g.L.Naming.setup) x c.work.new.caller) c.past-past.ensures.same
    (R.Rounds.last c.loop.caller c.work.new.caller c.loop.invariant.rounds c.work.ensures.looks)

pub returns-then-are_over-clause-rounds : goal.returns-then-are_over-clause-rounds
returns-then-are_over-clause-rounds g c =
    subst (λ x. R.Rounds (ShowsPending g.L.Naming.setup) (R.Controls g.L.Naming.setup) x c.turn.new.caller) c.past-past.ensures.same
    (R.Rounds.more c.in-Some-work.pending c.loop.caller c.work.new.caller c.turn.new.caller c.loop.invariant.rounds c.work.ensures.looks c.in-Some-work.ensures.pending c.turn.ensures.made)

pub returns-then-are_over-clause-ended : goal.returns-then-are_over-clause-ended
returns-then-are_over-clause-ended g c =
    let counted = c.turn.ensures.counted (omega (arith, c.loop.invariant.counted.0, c.work.ensures.looks.missed), c.loop.invariant.counted.1) in
    inr (omega (arith, counted.0, c.are_over.ensures c.if-are_over.true))
