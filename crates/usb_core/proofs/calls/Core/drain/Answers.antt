use Rattle.std.proofs.Common.{subst, sym}
use Rattle.refine_core.specs.State.{ShowsWorld, State}
use Rattle.usb_core.proofs.InRows.{drains}
use Rattle.usb_core.proofs.calls.Core.drain.Goals as goal

pub invariant_of-self : goal.invariant_of-self
invariant_of-self g c =
    let is = c.self.invariant in
    (is.0, _, (drains c.self.inside.parts c.drain.new.self c.args.most c.drain.result c.drain.ensures.drained is.0 is.1 is.2).1)

pub returns-clause-count : goal.returns-clause-count
returns-clause-count g c = λ setup w shown. (drains c.self.inside.parts c.drain.new.self c.args.most c.drain.result c.drain.ensures.drained setup w (subst (λ (s : State g.row.P.Denot). ShowsWorld setup s w) (sym c.self.view_is) shown)).0

pub returns-clause-turned : goal.returns-clause-turned
returns-clause-turned g c = λ setup w shown. (drains c.self.inside.parts c.drain.new.self c.args.most c.drain.result c.drain.ensures.drained setup w (subst (λ (s : State g.row.P.Denot). ShowsWorld setup s w) (sym c.self.view_is) shown)).1
