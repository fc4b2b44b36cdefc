use Rattle.std.proofs.Common.{ap, arith, inr, subst, ◌∙◌}
use Rattle.usb_library.specs.Calls.{ShowsEvents}
use Rattle.usb_workers.specs.Rounds.{called_in}
use Rattle.usb_workers.specs.Rounds as R
use Rattle.usb_workers.proofs.event.work.Goals as goal

pub loop-init : goal.loop-init
loop-init g c = record { rounds = R.Rounds.none; called = omega (arith, c.new-limit.ensures.0); most = c.new-limit.ensures.1; counted = (omega (arith, c.new-tries.ensures), omega (arith, c.new-tries.ensures)); empty = c.new-taken.ensures.items }

pub turn-requires-clause-counted : goal.turn-requires-clause-counted
turn-requires-clause-counted g c = (omega (arith, c.loop.invariant.counted.0, c.events.ensures.looks.missed), c.loop.invariant.counted.1)

pub turn-requires-clause-called : goal.turn-requires-clause-called
turn-requires-clause-called g c = omega (arith, c.loop.invariant.called, ap called_in c.events.ensures.looks.own)

pub loop-preserved : goal.loop-preserved
loop-preserved g c = record {
  rounds =
      R.Rounds.more c.in-Some-events.events c.loop.caller c.events.new.caller c.turn.new.caller c.loop.invariant.rounds c.events.ensures.looks c.in-Some-events.ensures.events
      (subst (λ n. R.Handles g.L.Naming.setup (R.MayAnswer n g.C.Whom.Suiting.suits g.C.Callback.may_answer g.C.Callback.rule) c.in-Some-events.events c.events.new.caller c.turn.new.caller) c.loop.invariant.most c.turn.ensures.made);
  called = c.turn.ensures.called;
  most = c.turn.ensures.rounds ∙ c.loop.invariant.most;
  counted = c.turn.ensures.counted;
  empty = c.turn.ensures.empty;
}

pub returns-in_default-clause-rounds : goal.returns-in_default-clause-rounds
returns-in_default-clause-rounds g c =
    subst (λ x. R.Rounds (ShowsEvents g.L.Naming.setup) (R.Handles g.L.Naming.setup (R.MayAnswer c.args.rounds g.C.Whom.Suiting.suits g.C.Callback.may_answer g.C.Callback.rule)) x c.events.new.caller) c.past-past.ensures.same
    (R.Rounds.last c.loop.caller c.events.new.caller c.loop.invariant.rounds c.events.ensures.looks)

pub returns-then-are_over-clause-rounds : goal.returns-then-are_over-clause-rounds
returns-then-are_over-clause-rounds g c =
    subst (λ x. R.Rounds (ShowsEvents g.L.Naming.setup) (R.Handles g.L.Naming.setup (R.MayAnswer c.args.rounds g.C.Whom.Suiting.suits g.C.Callback.may_answer g.C.Callback.rule)) x c.turn.new.caller) c.past-past.ensures.same
    (R.Rounds.more c.in-Some-events.events c.loop.caller c.events.new.caller c.turn.new.caller c.loop.invariant.rounds c.events.ensures.looks c.in-Some-events.ensures.events
    (subst (λ n. R.Handles g.L.Naming.setup (R.MayAnswer n g.C.Whom.Suiting.suits g.C.Callback.may_answer g.C.Callback.rule) c.in-Some-events.events c.events.new.caller c.turn.new.caller) c.loop.invariant.most c.turn.ensures.made))

pub returns-then-are_over-clause-ended : goal.returns-then-are_over-clause-ended
returns-then-are_over-clause-ended g c =
    inr (omega (arith, c.turn.ensures.counted.0, c.are_over.ensures c.if-are_over.true))
