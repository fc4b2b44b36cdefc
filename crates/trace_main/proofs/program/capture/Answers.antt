-- The text is the one that was opened.
use Rattle.std.proofs.Common.{ℕ, List, [], subst}
use Rattle.trace_io.specs.declared.words.Task.TheVariants.{Capture}
use Rattle.trace_main.specs.Program.{Begins, IsSilentAtBad, Performs}
use Rattle.trace_main.proofs.program.capture.Goals as goal

pub returns-clause-ends : goal.returns-clause-ends
returns-clause-ends g c = subst (λ (t : List ℕ). Performs Capture t [] (g.W.Write.contents c.args.out.now) (g.W.Write.contents c.capture_of.new.out) c.capture_of.result) c.in_ok-source.ensures.given c.capture_of.ensures.ends

pub returns-clause-silent : goal.returns-clause-silent
returns-clause-silent g c = subst (λ (t : List ℕ). IsSilentAtBad t (g.W.Write.contents c.args.out.now) (g.W.Write.contents c.capture_of.new.out)) c.in_ok-source.ensures.given c.capture_of.ensures.silent

pub returns-clause-begun : goal.returns-clause-begun
returns-clause-begun g c = subst (λ (t : List ℕ). Begins Capture t (g.W.Write.contents c.args.out.now) (g.W.Write.contents c.capture_of.new.out)) c.in_ok-source.ensures.given c.capture_of.ensures.begun
