-- A check's report, or a beginning of it.
use Rattle.std.proofs.Common.{◌≡◌, ◌∙◌, ℕ, List, ap, arith, map, refl}
use Rattle.std.proofs.lemmas.Grind.{common_steps}
use Rattle.trace_scenario.specs.Counts.{counts_of}
use Rattle.trace_scenario.specs.Findings.{bad_lines, good_lines}
use Rattle.trace_scenario.specs.declared.findings.Finding.{Finding}
use Rattle.trace_main.specs.Source.{bad_lines_in, text_in, told_number}
use Rattle.trace_main.proofs.Reports.{bad_begun, some_bad}
use Rattle.trace_main.proofs.Words.{check_begun_of}
use Rattle.trace_main.proofs.checked.report.Goals as goal

pub returns-then-is_empty-clause-begun : goal.returns-then-is_empty-clause-begun
returns-then-is_empty-clause-begun g c =
    check_begun_of c.args.text.now c.in_ok-source.field-0.source.given (g.W.Write.contents c.args.out.now) (g.W.Write.contents c.report_good.new.out) c.in_ok-source.ensures.given c.report_good.ensures.begun

pub returns-in_err-print_findings-clause-begun : goal.returns-in_err-print_findings-clause-begun
returns-in_err-print_findings-clause-begun g c =
    let src = c.in_ok-source.field-0.source in
    let found : map (λ (f : Finding). f.line) c.in_ok-bad.field-0.bad.items ≡ bad_lines (text_in src) = c.in_ok-bad.ensures.bad ∙ ap bad_lines c.text.ensures in
    let counted : c.in_ok-bad.field-0.counts ≡ counts_of (good_lines (text_in src)) = c.in_ok-bad.ensures.counts ∙ ap (λ (t : List ℕ). counts_of (good_lines t)) c.text.ensures in
    let told : map (λ (f : Finding). f.line) c.in_ok-bad-2.bad.items ≡ bad_lines_in src =
    c.in_ok-bad-2.ensures ∙ ap (map (told_number src)) (ap (map (λ (f : Finding). f.line)) c.as_slice.ensures.value ∙ found) in
    bad_begun c.args.text.now src (g.W.Write.contents c.args.out.now) (g.W.Write.contents c.print_findings.new.out) c.in_ok-source.ensures.given c.in_ok-source.ensures.stands
    (some_bad (text_in src) c.in_ok-bad.field-0.bad.items found (λ none. grind (arith, common_steps)))
    (rw (told, counted) at c.print_findings.ensures.begun)

pub returns-clause-begun : goal.returns-clause-begun
returns-clause-begun g c =
    let src = c.in_ok-source.field-0.source in
    let found : map (λ (f : Finding). f.line) c.in_ok-bad.field-0.bad.items ≡ bad_lines (text_in src) = c.in_ok-bad.ensures.bad ∙ ap bad_lines c.text.ensures in
    let counted : c.in_ok-bad.field-0.counts ≡ counts_of (good_lines (text_in src)) = c.in_ok-bad.ensures.counts ∙ ap (λ (t : List ℕ). counts_of (good_lines t)) c.text.ensures in
    let told : map (λ (f : Finding). f.line) c.in_ok-bad-2.bad.items ≡ bad_lines_in src =
    c.in_ok-bad-2.ensures ∙ ap (map (told_number src)) (ap (map (λ (f : Finding). f.line)) c.as_slice.ensures.value ∙ found) in
    bad_begun c.args.text.now src (g.W.Write.contents c.args.out.now) (g.W.Write.contents c.print_findings.new.out) c.in_ok-source.ensures.given c.in_ok-source.ensures.stands
    (some_bad (text_in src) c.in_ok-bad.field-0.bad.items found (λ none. grind (arith, common_steps)))
    (rw (told, counted) at c.print_findings.ensures.begun)

pub returns-clause-ends : goal.returns-clause-ends
returns-clause-ends g c =
    let src = c.in_ok-source.field-0.source in
    let found : map (λ (f : Finding). f.line) c.in_ok-bad.field-0.bad.items ≡ bad_lines (text_in src) = c.in_ok-bad.ensures.bad ∙ ap bad_lines c.text.ensures in
    let counted : c.in_ok-bad.field-0.counts ≡ counts_of (good_lines (text_in src)) = c.in_ok-bad.ensures.counts ∙ ap (λ (t : List ℕ). counts_of (good_lines t)) c.text.ensures in
    let told : map (λ (f : Finding). f.line) c.in_ok-bad-2.bad.items ≡ bad_lines_in src =
    c.in_ok-bad-2.ensures ∙ ap (map (told_number src)) (ap (map (λ (f : Finding). f.line)) c.as_slice.ensures.value ∙ found) in (
      refl,
      (
        c.requires,
        (
          src,
          c.in_ok-source.ensures.given,
          c.in_ok-source.ensures.stands,
          (
            some_bad (text_in src) c.in_ok-bad.field-0.bad.items found (λ none. grind (arith, common_steps)),
            rw (told, counted) at c.in_ok-print_findings.ensures.report,
          ),
        ),
      ),
    )
