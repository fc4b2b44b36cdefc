-- Nothing is written of a text that isn't read.
use Rattle.std.proofs.Common.{inr, subst, sym, Result, ℕ}
use Rattle.trace_scenario.specs.declared.scenario.Scenario.{Scenario}
use Rattle.trace_main.specs.Lived.{BeginsCallbacks}
use Rattle.trace_main.proofs.Reports.{lived}
use Rattle.trace_main.proofs.live.live.Goals as goal

pub returns-clause-ends : goal.returns-clause-ends
returns-clause-ends g c =
    lived c.args.text.now c.in_ok-source.field-0.source c.args.rounds c.in_ok-lived.field-0 c.live_scenario.new.notes.items (g.W.Write.contents c.args.out.now) (g.W.Write.contents c.live_scenario.new.out) c.live_scenario.result
    c.in_ok-source.ensures.given c.in_ok-source.ensures.stands c.in_ok-lived.ensures.scenario c.requires.short c.live_scenario.ensures.lines c.live_scenario.ensures.good c.live_scenario.ensures.fault c.live_scenario.ensures.silent

pub returns-clause-begun : goal.returns-clause-begun
returns-clause-begun g c =
    inr (
      c.in_ok-source.field-0.source,
      c.in_ok-source.ensures.given,
      c.in_ok-source.ensures.stands,
      subst (λ (r : Result Scenario ℕ). BeginsCallbacks c.args.rounds r (g.W.Write.contents c.args.out.now) (g.W.Write.contents c.live_scenario.new.out)) (sym c.in_ok-lived.ensures.scenario) c.live_scenario.ensures.begun,
    )
