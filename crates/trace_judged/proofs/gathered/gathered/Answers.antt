-- At first there is no entry.
use Rattle.std.proofs.Common.{ap, subst, sym}
use Rattle.trace_judged.specs.Expected.{expected_at}
use Rattle.trace_judged.specs.Gathered.{HasEndpointsOnce}
use Rattle.trace_judged.proofs.Entries.{none_once}
use Rattle.trace_judged.proofs.gathered.gathered.Goals as goal

pub loop-line-init : goal.loop-line-init
loop-line-init c = record {
  once = subst HasEndpointsOnce (sym c.new-entries.ensures.items) none_once;
  expected = λ dev ep. ap (λ l. expected_at l dev ep) c.new-entries.ensures.items;
}
