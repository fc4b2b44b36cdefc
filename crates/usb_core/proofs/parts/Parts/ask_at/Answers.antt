-- What is asked, and what is ordered for it, is the core's.
use Rattle.std.proofs.Common.{◌≡◌, Some, None, refl, sym, subst, ◌∙◌}
use Rattle.std.proofs.lemmas.Option.{same_Some}
use Rattle.usb_model.specs.declared.errand.Errand.{Errand}
use Rattle.refine_core.specs.Payloads.{StillCarries}
use Rattle.refine_core.specs.State.{State}
use Rattle.refine_core.specs.Steps.{AskedAt, CanAsk}
use Rattle.refine_core.specs.Works.{Posts}
use Rattle.refine_core.proofs.Askable.{can_ask_item, can_post_asked}
use Rattle.refine_core.proofs.Asks.{asked_at}
use Rattle.refine_core.proofs.Transfers.{asks}
use Rattle.usb_core.proofs.Views.{parts}
use Rattle.usb_core.proofs.Carried.{flights_follow}
use Rattle.refine_core.proofs.Payloads.{follows_ask, still_on}
use Rattle.usb_core.proofs.parts.Parts.ask_at.Goals as goal

pub ask-requires : goal.ask-requires
ask-requires g c =
    let old : State g.row.P.Denot = parts c.self.inside.claims c.self.inside.controller c.self.inside.flights c.self.inside.callers c.self.inside.outstanding in
    can_ask_item old c.args.dev c.args.ep c.args.item (subst (λ (s : State g.row.P.Denot). CanAsk s c.args.dev c.args.ep c.args.item) (sym c.self.view_is) c.requires)

pub post-requires : goal.post-requires
post-requires g c =
    let old : State g.row.P.Denot = parts c.self.inside.claims c.self.inside.controller c.self.inside.flights c.self.inside.callers c.self.inside.outstanding in
    let can : CanAsk old c.args.dev c.args.ep c.args.item = subst (λ (s : State g.row.P.Denot). CanAsk s c.args.dev c.args.ep c.args.item) (sym c.self.view_is) c.requires in
    can_post_asked old (record old { flights = c.ask.new.self }) c.args.dev c.args.ep c.args.item c.args.why can (asks old c.ask.new.self can.can.name c.args.dev c.args.ep c.args.item c.args.why c.ask.ensures)

pub returns-in-Some-clause-done : goal.returns-in-Some-clause-done
returns-in-Some-clause-done g c =
    let old : State g.row.P.Denot = parts c.self.inside.claims c.self.inside.controller c.self.inside.flights c.self.inside.callers c.self.inside.outstanding in
    let mid : State g.row.P.Denot = record old { flights = c.ask.new.self } in
    subst (λ (s : State g.row.P.Denot). AskedAt s c.post.new.self c.args.dev c.args.ep c.args.item c.args.why) c.self.view_is
    (asked_at old mid c.post.new.self c.args.dev c.args.ep c.args.item c.args.why c.errand.result c.ask-2.result (λ h. asks old c.ask.new.self h c.args.dev c.args.ep c.args.item c.args.why c.ask.ensures)
    c.errand.ensures c.ask-2.ensures.endpoint
    (λ none. let both : Some c.in-Some.errand ≡ None = sym c.in-Some.is ∙ none in absurd cc)
    (λ errand is h. subst (λ (x : Errand). Posts mid c.post.new.self h c.args.dev c.args.ep x) (same_Some c.in-Some.errand errand (sym c.in-Some.is ∙ is)) (c.post.ensures.done h)))

pub returns-in_default-clause-done : goal.returns-in_default-clause-done
returns-in_default-clause-done g c =
    let old : State g.row.P.Denot = parts c.self.inside.claims c.self.inside.controller c.self.inside.flights c.self.inside.callers c.self.inside.outstanding in
    let mid : State g.row.P.Denot = record old { flights = c.ask.new.self } in
    subst (λ (s : State g.row.P.Denot). AskedAt s mid c.args.dev c.args.ep c.args.item c.args.why) c.self.view_is
    (asked_at old mid mid c.args.dev c.args.ep c.args.item c.args.why c.errand.result c.ask-2.result (λ h. asks old c.ask.new.self h c.args.dev c.args.ep c.args.item c.args.why c.ask.ensures)
    c.errand.ensures c.ask-2.ensures.endpoint (λ none. refl)
    (λ errand is h. let both : None ≡ Some errand = sym c.in_default.is ∙ is in absurd cc))

pub returns-in-Some-clause-carries : goal.returns-in-Some-clause-carries
returns-in-Some-clause-carries g c =
    let old : State g.row.P.Denot = parts c.self.inside.claims c.self.inside.controller c.self.inside.flights c.self.inside.callers c.self.inside.outstanding in
    let mid : State g.row.P.Denot = record old { flights = c.ask.new.self } in
    let asked : StillCarries c.args.self.now mid = flights_follow c.args.self.now _ c.self.view_is c.ask.new.self
    (follows_ask c.self.inside.flights c.ask.new.self c.args.dev c.args.ep c.args.item c.args.why (can_ask_item old c.args.dev c.args.ep c.args.item (subst (λ (s : State g.row.P.Denot). CanAsk s c.args.dev c.args.ep c.args.item) (sym c.self.view_is) c.requires)) c.ask.ensures) in
    still_on c.args.self.now mid c.post.new.self asked c.post.ensures.carries

pub returns-in_default-clause-carries : goal.returns-in_default-clause-carries
returns-in_default-clause-carries g c =
    let old : State g.row.P.Denot = parts c.self.inside.claims c.self.inside.controller c.self.inside.flights c.self.inside.callers c.self.inside.outstanding in
    let mid : State g.row.P.Denot = record old { flights = c.ask.new.self } in
    let asked : StillCarries c.args.self.now mid = flights_follow c.args.self.now _ c.self.view_is c.ask.new.self
    (follows_ask c.self.inside.flights c.ask.new.self c.args.dev c.args.ep c.args.item c.args.why (can_ask_item old c.args.dev c.args.ep c.args.item (subst (λ (s : State g.row.P.Denot). CanAsk s c.args.dev c.args.ep c.args.item) (sym c.self.view_is) c.requires)) c.ask.ensures) in
    asked
