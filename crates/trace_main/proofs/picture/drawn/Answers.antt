-- The text is the one that was opened.
use Rattle.std.proofs.Common.{ℕ, List, [], subst}
use Rattle.trace_io.specs.declared.words.Task.TheVariants.{Draw, Page}
use Rattle.trace_main.specs.Program.{Begins, IsSilentAtBad, Performs}
use Rattle.trace_main.proofs.picture.drawn.Goals as goal

pub returns-clause-picture : goal.returns-clause-picture
returns-clause-picture g c = subst (λ (t : List ℕ). Performs (Draw c.args.from c.args.to) t [] (g.W.Write.contents c.args.out.now) (g.W.Write.contents c.drawn_of.new.out) c.drawn_of.result) c.in_ok-source.ensures.given c.drawn_of.ensures.picture

pub returns-clause-page : goal.returns-clause-page
returns-clause-page g c = subst (λ (t : List ℕ). Performs (Page c.args.from c.args.to) t [] (g.W.Write.contents c.args.out.now) (g.W.Write.contents c.drawn_of.new.out) c.drawn_of.result) c.in_ok-source.ensures.given c.drawn_of.ensures.page

pub returns-clause-silent : goal.returns-clause-silent
returns-clause-silent g c = subst (λ (t : List ℕ). IsSilentAtBad t (g.W.Write.contents c.args.out.now) (g.W.Write.contents c.drawn_of.new.out)) c.in_ok-source.ensures.given c.drawn_of.ensures.silent

pub returns-clause-begun : goal.returns-clause-begun
returns-clause-begun g c = subst (λ (t : List ℕ). Begins (Draw c.args.from c.args.to) t (g.W.Write.contents c.args.out.now) (g.W.Write.contents c.drawn_of.new.out)) c.in_ok-source.ensures.given c.drawn_of.ensures.begun

pub returns-clause-begun_page : goal.returns-clause-begun_page
returns-clause-begun_page g c = subst (λ (t : List ℕ). Begins (Page c.args.from c.args.to) t (g.W.Write.contents c.args.out.now) (g.W.Write.contents c.drawn_of.new.out)) c.in_ok-source.ensures.given c.drawn_of.ensures.begun_page
