use Rattle.std.proofs.Common.{◌≡◌, ◌≤◌, ◌+◌, ◌∙◌, Bool, List, length, sym, ap, subst, arith, if◌then◌else◌}
use Rattle.trace_test.specs.declared.settling.Settling.{Settling}
use Rattle.trace_test.specs.Settling.{SettleTo, most_steps}
use Rattle.trace_test.proofs.SettlingSteps.{settle_none, settled_all, settled_more, settled_most}
use Rattle.trace_test.proofs.settling.settle.Goals as goal

pub loop-init : goal.loop-init
loop-init g c = record {
  count = ap length c.new-steps.ensures.items;
  each = λ setup s shows. (s, subst (λ (l : List Settling). SettleTo setup s l s) (sym c.new-steps.ensures.items) (settle_none setup s), shows);
}

pub returns-then-not-branch : goal.returns-then-not-branch
returns-then-not-branch g c =
    let few : length c.loop.steps.items ≤ most_steps = omega (arith, c.loop.invariant.count) in
    settled_all g.C.Callback.rule c.args.run.now c.loop.run c.settle_once.new.run c.loop.steps.items c.settle_once.new.steps.items c.in_ok-settle_once.field-0 c.if-not-branch.true c.in_ok-settle_once.ensures.next c.loop.invariant.each few

pub loop-preserved : goal.loop-preserved
loop-preserved g c = record {
  count = c.in_ok-settle_once.ensures.count ∙ (ap (λ (b : Bool). length c.loop.steps.items + (if b then 1 else 0)) c.if-not-branch.false ∙ ap (λ n. n + 1) c.loop.invariant.count);
  each = settled_more g.C.Callback.rule c.args.run.now c.loop.run c.settle_once.new.run c.loop.steps.items c.settle_once.new.steps.items c.in_ok-settle_once.field-0 c.if-not-branch.false c.in_ok-settle_once.ensures.next c.loop.invariant.each;
}

pub returns : goal.returns
returns g c =
    let most : length c.loop.steps.items ≡ most_steps = omega (arith, c.loop.invariant.count) in
    settled_most g.C.Callback.rule c.args.run.now c.loop.run c.loop.steps.items c.loop.invariant.each most
