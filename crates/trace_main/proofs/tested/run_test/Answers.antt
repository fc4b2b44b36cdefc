-- What came of it says how it ends.
use Rattle.trace_main.proofs.Outcomes.{test_ends}
use Rattle.trace_main.proofs.tested.run_test.Goals as goal

pub returns-clause-ends : goal.returns-clause-ends
returns-clause-ends g c =
    test_ends c.args.text.now c.in_ok-outcome.outcome c.ending_of.result (g.W.Write.contents c.args.out.now) (g.W.Write.contents c.tell_outcome.new.out)
    c.in_ok-outcome.ensures.outcome c.requires c.in_ok-tell_outcome.ensures.told c.ending_of.ensures
