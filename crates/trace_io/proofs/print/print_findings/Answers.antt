-- The lines, what stands behind them, and how far both came.
use Rattle.std.proofs.Common.{ℕ, List, map, length, ◌-◌}
use Rattle.trace_scenario.specs.declared.findings.Finding.{Finding}
use Rattle.trace_io.specs.Output.{last_lines, most_findings}
use Rattle.trace_io.proofs.Beginnings.{stays}
use Rattle.trace_io.proofs.Findings.{findings_begun, last_begun, report, report_begun}
use Rattle.trace_io.proofs.print.print_findings.Goals as goal

pub returns-in_err-print_bad-clause-begun : goal.returns-in_err-print_bad-clause-begun
returns-in_err-print_bad-clause-begun g c =
    let numbers : List ℕ = map (λ (f : Finding). f.line) c.args.findings.now.bad.items in
    findings_begun numbers c.args.findings.now.counts (g.W.Write.contents c.args.out.now) (g.W.Write.contents c.print_bad.new.out)
    (rw (c.told_of.ensures, c.as_slice-bad.ensures.value) at c.in_err-print_bad.ensures.begun)

pub returns-in_err-print_last-clause-begun : goal.returns-in_err-print_last-clause-begun
returns-in_err-print_last-clause-begun g c =
    let numbers : List ℕ = map (λ (f : Finding). f.line) c.args.findings.now.bad.items in
    last_begun numbers c.args.findings.now.counts (g.W.Write.contents c.args.out.now) (g.W.Write.contents c.print_bad.new.out) (g.W.Write.contents c.print_last.new.out)
    (rw (c.told_of.ensures, c.as_slice-bad.ensures.value) at c.in_ok-print_bad.ensures.lines)
    (rw (c.untold_of.ensures, c.as_slice-bad.ensures.value) at c.in_err-print_last.ensures.begun)

pub returns-in_err-flush-clause-begun : goal.returns-in_err-flush-clause-begun
returns-in_err-flush-clause-begun g c =
    let numbers : List ℕ = map (λ (f : Finding). f.line) c.args.findings.now.bad.items in
    report_begun numbers c.args.findings.now.counts (g.W.Write.contents c.args.out.now) (g.W.Write.contents c.flush.new.self)
    (report numbers c.args.findings.now.counts (g.W.Write.contents c.args.out.now) (g.W.Write.contents c.print_bad.new.out) (g.W.Write.contents c.flush.new.self)
    (rw (c.told_of.ensures, c.as_slice-bad.ensures.value) at c.in_ok-print_bad.ensures.lines)
    (stays (g.W.Write.contents c.print_bad.new.out) (g.W.Write.contents c.print_last.new.out) (g.W.Write.contents c.flush.new.self)
    (last_lines (length numbers - most_findings) c.args.findings.now.counts)
    (rw (c.untold_of.ensures, c.as_slice-bad.ensures.value) at c.in_ok-print_last.ensures.lines) c.flush.ensures.bytes))

pub returns-clause-report : goal.returns-clause-report
returns-clause-report g c =
    let numbers : List ℕ = map (λ (f : Finding). f.line) c.args.findings.now.bad.items in
    report numbers c.args.findings.now.counts (g.W.Write.contents c.args.out.now) (g.W.Write.contents c.print_bad.new.out) (g.W.Write.contents c.flush.new.self)
    (rw (c.told_of.ensures, c.as_slice-bad.ensures.value) at c.in_ok-print_bad.ensures.lines)
    (stays (g.W.Write.contents c.print_bad.new.out) (g.W.Write.contents c.print_last.new.out) (g.W.Write.contents c.flush.new.self)
    (last_lines (length numbers - most_findings) c.args.findings.now.counts)
    (rw (c.untold_of.ensures, c.as_slice-bad.ensures.value) at c.in_ok-print_last.ensures.lines) c.flush.ensures.bytes)

pub returns-clause-begun : goal.returns-clause-begun
returns-clause-begun g c =
    let numbers : List ℕ = map (λ (f : Finding). f.line) c.args.findings.now.bad.items in
    report_begun numbers c.args.findings.now.counts (g.W.Write.contents c.args.out.now) (g.W.Write.contents c.flush.new.self)
    (report numbers c.args.findings.now.counts (g.W.Write.contents c.args.out.now) (g.W.Write.contents c.print_bad.new.out) (g.W.Write.contents c.flush.new.self)
    (rw (c.told_of.ensures, c.as_slice-bad.ensures.value) at c.in_ok-print_bad.ensures.lines)
    (stays (g.W.Write.contents c.print_bad.new.out) (g.W.Write.contents c.print_last.new.out) (g.W.Write.contents c.flush.new.self)
    (last_lines (length numbers - most_findings) c.args.findings.now.counts)
    (rw (c.untold_of.ensures, c.as_slice-bad.ensures.value) at c.in_ok-print_last.ensures.lines) c.flush.ensures.bytes))
