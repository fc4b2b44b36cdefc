use Rattle.std.proofs.Common.{map, take}
use Rattle.trace_io.specs.Output.{AppendsFindings}
use Rattle.trace_io.proofs.print.print_bad.Given as goal

abbrev pub invariant-loop-finding : goal.invariant-loop-finding
invariant-loop-finding g l = AppendsFindings (map (λ finding. finding.line) (take l.finding-index l.bad)) (g.W.Write.contents l.initial.out) (g.W.Write.contents l.out)
