use Rattle.std.proofs.Common.{sym, ◌∙◌}
use Rattle.refine_core.proofs.Settleable.{posts_same}
use Rattle.usb_core.proofs.parts.Parts.go_on.Goals as goal

pub returns-in-Some-clause-ordered : goal.returns-in-Some-clause-ordered
returns-in-Some-clause-ordered g c = λ h errand some. posts_same c.args.self.now _ h c.args.dev c.args.ep c.in-Some.errand errand (sym c.in-Some.is ∙ some) (c.post.ensures.done h)

pub returns-in-None-clause-resumed : goal.returns-in-None-clause-resumed
returns-in-None-clause-resumed g c = λ h none. c.resume.ensures.done h
