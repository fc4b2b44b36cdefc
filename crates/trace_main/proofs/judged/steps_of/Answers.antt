-- What is printed, and what is told behind it.
use Rattle.std.proofs.Common.{◌≡◌, ℕ, List, map, refl, subst}
use Rattle.trace_scenario.specs.StepLines.{numbered}
use Rattle.trace_main.specs.Source.{step_lines_in}
use Rattle.trace_io.specs.declared.words.Task.TheVariants.{Steps}
use Rattle.trace_main.specs.Program.{EndsTold, steps_text}
use Rattle.trace_main.proofs.JudgedRuns.{begun_by, begun_front, ends_by}
use Rattle.trace_main.proofs.judged.steps_of.Goals as goal

pub returns-in_err-print_steps-clause-begun : goal.returns-in_err-print_steps-clause-begun
returns-in_err-print_steps-clause-begun g c =
    let src = c.args.source.now in
    let lines : map numbered c.as_slice-2.result.now ≡ step_lines_in src = cc (c.as_slice-2.ensures.value, c.in_ok-lines.ensures.lines, c.as_slice.ensures.value, c.in_ok-scenario.ensures.lines) in
    begun_front src.given src c.in_ok-scenario.field-0.scenario steps_text (g.W.Write.contents c.args.out.now) (g.W.Write.contents c.print_steps.new.out) refl c.requires.stands c.in_ok-scenario.ensures.scenario (rw lines at c.print_steps.ensures.begun)

pub returns-clause-ends : goal.returns-clause-ends
returns-clause-ends g c =
    let src = c.args.source.now in
    let lines : map numbered c.as_slice-2.result.now ≡ step_lines_in src = cc (c.as_slice-2.ensures.value, c.in_ok-lines.ensures.lines, c.as_slice.ensures.value, c.in_ok-scenario.ensures.lines) in
    ends_by Steps src.given src c.in_ok-scenario.field-0.scenario (steps_text src c.in_ok-scenario.field-0.scenario) (g.W.Write.contents c.args.out.now) (g.W.Write.contents c.print_steps.new.out) (g.W.Write.contents c.tell_judged.new.out) c.tell_judged.result
    refl c.requires.stands c.in_ok-scenario.ensures.scenario c.requires.short refl (λ none put. (c.requires.short, (src, refl, c.requires.stands, (c.in_ok-scenario.field-0.scenario, c.in_ok-scenario.ensures.scenario, (none, put, refl))))) (λ found. found)
    (rw lines at c.in_ok-print_steps.ensures.lines) (subst (λ (t : List ℕ). EndsTold t (g.W.Write.contents c.print_steps.new.out) (g.W.Write.contents c.tell_judged.new.out) c.tell_judged.result) (c.in_ok-told.ensures c.in_ok-scenario.field-0.scenario c.in_ok-scenario.ensures.scenario) c.tell_judged.ensures)

pub returns-clause-begun : goal.returns-clause-begun
returns-clause-begun g c =
    let src = c.args.source.now in
    let lines : map numbered c.as_slice-2.result.now ≡ step_lines_in src = cc (c.as_slice-2.ensures.value, c.in_ok-lines.ensures.lines, c.as_slice.ensures.value, c.in_ok-scenario.ensures.lines) in
    begun_by src.given src c.in_ok-scenario.field-0.scenario steps_text (g.W.Write.contents c.args.out.now) (g.W.Write.contents c.print_steps.new.out) (g.W.Write.contents c.tell_judged.new.out) c.tell_judged.result
    refl c.requires.stands c.in_ok-scenario.ensures.scenario (rw lines at c.in_ok-print_steps.ensures.lines) (subst (λ (t : List ℕ). EndsTold t (g.W.Write.contents c.print_steps.new.out) (g.W.Write.contents c.tell_judged.new.out) c.tell_judged.result) (c.in_ok-told.ensures c.in_ok-scenario.field-0.scenario c.in_ok-scenario.ensures.scenario) c.tell_judged.ensures)
