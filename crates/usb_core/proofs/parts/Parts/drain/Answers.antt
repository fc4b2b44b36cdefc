-- One more each turn, until nothing is left.
use Rattle.std.proofs.Common.{ℕ, arith, subst}
use Rattle.usb_core.proofs.Drains.{Drained, drained_state, most_drained, none_drained, one_drained, rest_drained}
use Rattle.usb_core.proofs.parts.Parts.drain.Goals as goal

pub loop-done-init : goal.loop-done-init
loop-done-init g c = record { drained = none_drained c.args.self.now; carries = λ kept carried. carried }

pub drain_one-requires : goal.drain_one-requires
drain_one-requires g c = drained_state c.args.self.now c.loop-done.self c.loop-done.done c.loop-done.invariant.drained c.requires

pub returns-then-not-drain_one-clause-drained : goal.returns-then-not-drain_one-clause-drained
returns-then-not-drain_one-clause-drained g c =
    rest_drained c.args.self.now c.loop-done.self c.drain_one.new.self c.args.most c.loop-done.done (omega (arith, c.loop-done-test.true)) c.loop-done.invariant.drained c.if-not-drain_one.ensures.drained

pub loop-done-preserved : goal.loop-done-preserved
loop-done-preserved g c = record {
  drained = one_drained c.args.self.now c.loop-done.self c.drain_one.new.self c.loop-done.done c.loop-done.invariant.drained c.if-not-drain_one.ensures.drained;
  carries = λ kept carried. c.if-not-drain_one.ensures.carries kept (c.loop-done.invariant.carries kept carried);
}

pub returns-clause-drained : goal.returns-clause-drained
returns-clause-drained g c =
    most_drained c.args.self.now c.loop-done.self c.args.most
    (subst (λ (n : ℕ). Drained c.args.self.now n c.loop-done.self) (omega (arith, c.loop-done-test.false, c.loop-done.auto.done-end)) c.loop-done.invariant.drained)
