use Rattle.std.proofs.Common.{arith, suc, sym, ◌∙◌}
use Rattle.usb_workers.specs.Rounds.{Ends}
use Rattle.usb_workers.specs.Rounds as R
use Rattle.usb_workers.proofs.Told.{ends_told, not_missed, once_counted, once_more}
use Rattle.usb_workers.proofs.answers.stop.Goals as goal

pub loop-init : goal.loop-init
loop-init g c = record { often = (0, not_missed _); counted = c.requires.counted }

pub returns-then-is_ok-clause-told : goal.returns-then-is_ok-clause-told
returns-then-is_ok-clause-told g c =
    let i = c.loop.invariant.often in
    ends_told g.L.Naming.setup c.args.h c.args.n i.0 c.args.caller.now c.loop.caller c.stop.new.caller c.stop.result (λ a. a.receipt) i.1 c.stop.ensures.made (sym c.is_ok.ensures.value ∙ c.if-is_ok.true)

pub returns-then-are_over-clause-told : goal.returns-then-are_over-clause-told
returns-then-are_over-clause-told g c =
    let i = c.loop.invariant.often in
    let none = sym c.is_ok.ensures.value ∙ c.if-is_ok.false in
    let counted = once_counted c.loop.tries.refused c.refused.new.self.refused c.loop.caller c.stop.new.caller c.stop.result c.stop.ensures.refused none c.refused.ensures c.loop.invariant.counted in
    R.Ends.given_up i.0 (once_more g.L.Naming.setup i.0 c.args.caller.now c.loop.caller c.stop.new.caller c.stop.result i.1 c.stop.ensures.refused none) (omega (arith, counted.0, c.are_over.ensures c.if-are_over.true))

pub loop-preserved : goal.loop-preserved
loop-preserved g c =
    let i = c.loop.invariant.often in
    let none = sym c.is_ok.ensures.value ∙ c.if-is_ok.false in
    record {
      often = (suc i.0, once_more g.L.Naming.setup i.0 c.args.caller.now c.loop.caller c.stop.new.caller c.stop.result i.1 c.stop.ensures.refused none);
      counted = once_counted c.loop.tries.refused c.refused.new.self.refused c.loop.caller c.stop.new.caller c.stop.result c.stop.ensures.refused none c.refused.ensures c.loop.invariant.counted;
    }

pub returns-then-are_over-clause-counted : goal.returns-then-are_over-clause-counted
returns-then-are_over-clause-counted g c =
    let none = sym c.is_ok.ensures.value ∙ c.if-is_ok.false in
    once_counted c.loop.tries.refused c.refused.new.self.refused c.loop.caller c.stop.new.caller c.stop.result c.stop.ensures.refused none c.refused.ensures c.loop.invariant.counted
