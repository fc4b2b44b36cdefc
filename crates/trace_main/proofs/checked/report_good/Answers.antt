-- What is said of a scenario, or a beginning of it.
use Rattle.std.proofs.Common.{◌≡◌, ◌++◌, ◌∙◌, map, ap, subst}
use Rattle.std.specs.Io.KnownBytes.{Appends}
use Rattle.trace_explain.specs.Explained.{explained_text}
use Rattle.trace_explain.specs.declared.telling.Telling.TheVariants.{Refusals}
use Rattle.trace_io.specs.Output.{counts_line, AppendsSome}
use Rattle.trace_scenario.specs.StepLines.{numbered}
use Rattle.trace_main.specs.Source.{step_lines_in}
use Rattle.trace_main.proofs.Reports.{all_good, good_begun}
use Rattle.trace_main.proofs.checked.report_good.Goals as goal

pub returns-in_err-write_all-clause-begun : goal.returns-in_err-write_all-clause-begun
returns-in_err-write_all-clause-begun g c =
    let src = c.args.source.now in
    let s = c.in-Ok.field-0.scenario in
    let lines : map numbered c.as_slice-2.result.now ≡ step_lines_in src = cc (c.as_slice-2.ensures.value, c.in_ok-lines.ensures.lines, c.as_slice.ensures.value, c.in-Ok.ensures.lines) in
    let text : c.as_slice-3.result.now ≡ counts_line c.args.counts.now ++ explained_text Refusals s.setup s.plan s.rules (step_lines_in src) =
    c.as_slice-3.ensures.value ∙ c.in_ok-said.ensures.text
    ∙ ap (λ l. counts_line c.args.counts.now ++ explained_text Refusals s.setup s.plan s.rules l) lines in
    good_begun src s c.args.counts.now (g.W.Write.contents c.args.out.now) (g.W.Write.contents c.write_all.new.out) c.requires.stands c.requires.good c.requires.counts c.in-Ok.ensures.scenario
    (subst (λ t. AppendsSome t (g.W.Write.contents c.args.out.now) (g.W.Write.contents c.write_all.new.out)) text c.write_all.ensures.begun)

pub returns-clause-begun : goal.returns-clause-begun
returns-clause-begun g c =
    let src = c.args.source.now in
    let s = c.in-Ok.field-0.scenario in
    let lines : map numbered c.as_slice-2.result.now ≡ step_lines_in src = cc (c.as_slice-2.ensures.value, c.in_ok-lines.ensures.lines, c.as_slice.ensures.value, c.in-Ok.ensures.lines) in
    let text : c.as_slice-3.result.now ≡ counts_line c.args.counts.now ++ explained_text Refusals s.setup s.plan s.rules (step_lines_in src) =
    c.as_slice-3.ensures.value ∙ c.in_ok-said.ensures.text
    ∙ ap (λ l. counts_line c.args.counts.now ++ explained_text Refusals s.setup s.plan s.rules l) lines in
    good_begun src s c.args.counts.now (g.W.Write.contents c.args.out.now) (g.W.Write.contents c.write_all.new.out) c.requires.stands c.requires.good c.requires.counts c.in-Ok.ensures.scenario
    (subst (λ t. AppendsSome t (g.W.Write.contents c.args.out.now) (g.W.Write.contents c.write_all.new.out)) text c.write_all.ensures.begun)

pub returns-clause-ends : goal.returns-clause-ends
returns-clause-ends g c =
    let src = c.args.source.now in
    let s = c.in-Ok.field-0.scenario in
    let lines : map numbered c.as_slice-2.result.now ≡ step_lines_in src = cc (c.as_slice-2.ensures.value, c.in_ok-lines.ensures.lines, c.as_slice.ensures.value, c.in-Ok.ensures.lines) in
    let text : c.as_slice-3.result.now ≡ counts_line c.args.counts.now ++ explained_text Refusals s.setup s.plan s.rules (step_lines_in src) =
    c.as_slice-3.ensures.value ∙ c.in_ok-said.ensures.text
    ∙ ap (λ l. counts_line c.args.counts.now ++ explained_text Refusals s.setup s.plan s.rules l) lines in
    all_good src s c.args.counts.now (g.W.Write.contents c.args.out.now) (g.W.Write.contents c.write_all.new.out) c.requires.stands c.requires.good c.requires.counts c.in-Ok.ensures.scenario c.requires.short
    (subst (λ t. Appends (g.W.Write.contents c.args.out.now) (g.W.Write.contents c.write_all.new.out) t) text c.in_ok-write_all.ensures.whole)
