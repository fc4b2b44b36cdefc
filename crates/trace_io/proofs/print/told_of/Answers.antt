-- The first lines' numbers are the first numbers.
use Rattle.std.proofs.Common.{◌≡◌, ◌∙◌, ap, map, sym, subst, take, min, length}
use Rattle.std.proofs.lemmas.List.{take_min, take-map}
use Rattle.trace_scenario.specs.declared.findings.Finding.{Finding}
use Rattle.trace_io.specs.Output.{most_findings}
use Rattle.trace_io.proofs.print.told_of.Goals as goal

pub returns : goal.returns
returns c =
    ap (λ n. map (λ (f : Finding). f.line) (take n c.args.bad.now)) c.min.ensures
    ∙ ap (map (λ (f : Finding). f.line)) (take_min most_findings c.args.bad.now)
    ∙ sym (take-map (λ (f : Finding). f.line) most_findings c.args.bad.now)
