-- What is printed, and what is told behind it.
use Rattle.std.proofs.Common.{ℕ, List, refl, subst}
use Rattle.trace_io.specs.declared.words.Task.TheVariants.{Run}
use Rattle.trace_run.specs.Tasks.{run_text}
use Rattle.trace_main.specs.Program.{EndsTold}
use Rattle.trace_main.proofs.JudgedRuns.{begun_by, begun_front, ends_by}
use Rattle.trace_main.proofs.judged.entries.Goals as goal

pub returns-in_err-run-clause-begun : goal.returns-in_err-run-clause-begun
returns-in_err-run-clause-begun g c =
    let src = c.in_ok-source.field-0.source in
    begun_front c.args.text.now src c.in_ok-scenario.scenario (λ src. run_text) (g.W.Write.contents c.args.out.now) (g.W.Write.contents c.run.new.out) c.in_ok-source.ensures.given c.in_ok-source.ensures.stands c.in_ok-scenario.ensures.scenario c.run.ensures.begun

pub returns-clause-ends : goal.returns-clause-ends
returns-clause-ends g c =
    let src = c.in_ok-source.field-0.source in
    ends_by Run c.args.text.now src c.in_ok-scenario.scenario (run_text c.in_ok-scenario.scenario) (g.W.Write.contents c.args.out.now) (g.W.Write.contents c.run.new.out) (g.W.Write.contents c.tell_judged.new.out) c.tell_judged.result
    c.in_ok-source.ensures.given c.in_ok-source.ensures.stands c.in_ok-scenario.ensures.scenario c.requires refl (λ none put. (c.requires, (src, c.in_ok-source.ensures.given, c.in_ok-source.ensures.stands, (c.in_ok-scenario.scenario, c.in_ok-scenario.ensures.scenario, (none, put, refl))))) (λ found. found)
    c.in_ok-run.ensures.lines (subst (λ (t : List ℕ). EndsTold t (g.W.Write.contents c.run.new.out) (g.W.Write.contents c.tell_judged.new.out) c.tell_judged.result) (c.in_ok-told.ensures c.in_ok-scenario.scenario c.in_ok-scenario.ensures.scenario) c.tell_judged.ensures)

pub returns-clause-begun : goal.returns-clause-begun
returns-clause-begun g c =
    let src = c.in_ok-source.field-0.source in
    begun_by c.args.text.now src c.in_ok-scenario.scenario (λ src. run_text) (g.W.Write.contents c.args.out.now) (g.W.Write.contents c.run.new.out) (g.W.Write.contents c.tell_judged.new.out) c.tell_judged.result
    c.in_ok-source.ensures.given c.in_ok-source.ensures.stands c.in_ok-scenario.ensures.scenario c.in_ok-run.ensures.lines (subst (λ (t : List ℕ). EndsTold t (g.W.Write.contents c.run.new.out) (g.W.Write.contents c.tell_judged.new.out) c.tell_judged.result) (c.in_ok-told.ensures c.in_ok-scenario.scenario c.in_ok-scenario.ensures.scenario) c.tell_judged.ensures)
