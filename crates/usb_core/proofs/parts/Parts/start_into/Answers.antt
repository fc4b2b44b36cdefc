-- What joins line and ring is the transfer, as its TRBs.
use Rattle.std.proofs.Common.{ap, refl, sym, subst, subst₂, ◌∙◌, List}
use Rattle.usb_model.specs.Setup.{endpoint_id}
use Rattle.usb_tables.specs.HandleStates.{number_of}
use Rattle.usb_trb.specs.declared.kind.Normal.{Normal as NormalTrb}
use Rattle.usb_rings.specs.Line.{normals}
use Rattle.usb_tables.specs.declared.transfer.Transfer.{Transfer as InFlight}
use Rattle.usb_tables.specs.Trbs.{normals_of}
use Rattle.usb_xhc.specs.Host.{with_pushed, with_ring}
use Rattle.usb_xhc.specs.Controller.{slot_changed}
use Rattle.usb_xhc.specs.Slots.{changed}
use Rattle.refine_core.specs.State.{State}
use Rattle.refine_core.specs.Submissions.{CanStart}
use Rattle.refine_core.specs.Works.{IsUnstarted, Starts}
use Rattle.refine_core.proofs.Starts.{starts}
use Rattle.usb_core.proofs.Views.{parts}
use Rattle.refine_core.specs.Payloads.{CarriesMore}
use Rattle.refine_core.proofs.Payloads.{joins_carried}
use Rattle.usb_core.proofs.parts.Parts.start_into.Goals as goal

pub returns-clause-started : goal.returns-clause-started
returns-clause-started g c =
    let old : State g.row.P.Denot = parts c.self.inside.claims c.self.inside.controller c.self.inside.flights c.self.inside.callers c.self.inside.outstanding in
    let new : State g.row.P.Denot = record old { controller = c.push-2.new.self; flights = c.push.new.self; callers = c.count_up.new.self } in
    let can : CanStart old c.args.h c.args.admission.dev c.args.request c.args.admission.tds = subst (λ (s : State g.row.P.Denot). CanStart s c.args.h c.args.admission.dev c.args.request c.args.admission.tds) (sym c.self.view_is) c.requires in
    let made = c.in_ok-transfer.ensures.made in
    let is : IsUnstarted c.args.h c.in_ok-transfer.transfer (number_of old.callers c.args.h) c.args.request c.args.round = record {
      number = ap (λ (t : InFlight g.row.P.Denot). t.n) made ∙ c.next_number-n.ensures;
      asks_for = ap (λ (t : InFlight g.row.P.Denot). t.request) made;
      again = ap (λ (t : InFlight g.row.P.Denot). t.round) made;
      asked = ap (λ (t : InFlight g.row.P.Denot). t.ask) made;
      told = ap (λ (t : InFlight g.row.P.Denot). t.moved) made;
      read = c.in_ok-transfer.ensures.empty;
      room = c.in_ok-transfer.ensures.room;
      whose = ap (λ (t : InFlight g.row.P.Denot). t.name) made;
    } in
    let trbs = c.as_slice.ensures.value ∙ c.trbs-trbs.ensures.value ∙ ap (normals_of c.in-Ok.key) can.split in
    subst (λ (s : State g.row.P.Denot). Starts s new c.args.h c.args.admission.dev c.args.request.ep c.args.request c.args.round) c.self.view_is
    (starts old c.push-2.new.self c.push.new.self c.count_up.new.self c.args.h c.args.admission.dev c.args.request.ep can.context c.in_ok-transfer.transfer c.in-Ok.key c.args.request c.args.round can.there can.fits refl is
    c.in-Ok.ensures.lines c.in-Ok.ensures.keys c.in-Ok.ensures.ended
    (c.push-2.ensures ∙ ap (λ (l : List NormalTrb). slot_changed old.controller c.args.admission.dev (λ s. changed s (endpoint_id c.args.request.ep) (λ v. with_ring v (with_pushed v.ring (normals l))))) trbs)
    c.count_up.ensures.numbers c.count_up.ensures.callbacks c.count_up.ensures.results c.count_up.ensures.counts)

pub returns-clause-carries : goal.returns-clause-carries
returns-clause-carries g c =
    let old : State g.row.P.Denot = parts c.self.inside.claims c.self.inside.controller c.self.inside.flights c.self.inside.callers c.self.inside.outstanding in
    let new : State g.row.P.Denot = record old { controller = c.push-2.new.self; flights = c.push.new.self; callers = c.count_up.new.self } in
    let made = c.in_ok-transfer.ensures.made in
    subst (λ (s : State g.row.P.Denot). CarriesMore c.args.h c.next_number-n.result c.args.payload s new) c.self.view_is
    (subst₂ (λ n p. CarriesMore c.args.h n p old new) (sym c.next_number-n.ensures) (ap (λ (t : InFlight g.row.P.Denot). t.payload) made)
    (joins_carried old new c.args.h c.args.admission.dev c.args.request.ep c.in_ok-transfer.transfer (ap (λ (t : InFlight g.row.P.Denot). t.name) made) (ap (λ (t : InFlight g.row.P.Denot). t.n) made ∙ c.next_number-n.ensures)
    c.in-Ok.ensures.lines c.in-Ok.ensures.ended c.count_up.ensures.numbers))
