-- What the parts tell of each core that they keep holds of each world that this shows.
use Rattle.std.proofs.Common.{sym, subst}
use Rattle.refine_core.specs.State.{ShowsWorld, State}
use Rattle.usb_core.proofs.calls.Core.offer.Goals as goal

pub returns-clause-next : goal.returns-clause-next
returns-clause-next g c = λ setup w shows.
    let shown : ShowsWorld setup c.self.inside.parts w = subst (λ (s : State g.row.P.Denot). ShowsWorld setup s w) (sym c.self.view_is) shows in
    c.offer.ensures.next setup w shown.0 shown.1 shown.2

pub returns-clause-none : goal.returns-clause-none
returns-clause-none g c = λ setup w shows none.
    let shown : ShowsWorld setup c.self.inside.parts w = subst (λ (s : State g.row.P.Denot). ShowsWorld setup s w) (sym c.self.view_is) shows in
    c.offer.ensures.none setup w shown.0 shown.1 shown.2 none
