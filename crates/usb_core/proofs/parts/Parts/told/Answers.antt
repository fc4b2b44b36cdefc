use Rattle.std.proofs.Common.{◌≡◌, ◌∙◌, ap, ap₂, subst, sym, Some, None, length, ◌<◌}
use Rattle.std.proofs.lemmas.Option.{same_Some}
use Rattle.usb_tables.specs.Events.{read_target}
use Rattle.usb_tables.specs.declared.target.Target.{Target}
use Rattle.usb_core.specs.Reports.{target_of}
use Rattle.usb_core.proofs.Readings.{is_told}
use Rattle.usb_tables.specs.Tds.{lengths, tds_of}
use Rattle.usb_tables.specs.TransfersInFlight.{item_at}
use Rattle.refine_core.proofs.Reports.{FindsHeld, FindsPlace, at_held, at_place, found_by, no_held}
use Rattle.usb_core.proofs.parts.Parts.told.Goals as goal

pub returns-in_err-at : goal.returns-in_err-at
returns-in_err-at g c = λ setup core taken.
    absurd (no_held setup c.args.self.now core _ _ _ _ _ _ _ taken c.number.ensures.value c.number-2.ensures.value
    (subst (λ v. FindsHeld v c.number.result c.number-2.result None) c.self.view_is c.in_err-at.ensures.found))

pub returns-in_err-context : goal.returns-in_err-context
returns-in_err-context g c = λ setup core taken.
    let at = at_held setup c.args.self.now core _ _ _ _ _ _ _ c.in_ok-at.at taken c.number.ensures.value c.number-2.ensures.value
    (subst (λ v. FindsHeld v c.number.result c.number-2.result (Some c.in_ok-at.at)) c.self.view_is c.in_ok-at.ensures.found) in
    let none : None ≡ Some at.x = c.in_err-context.ensures ∙ at.context in
    absurd cc

pub returns-in_err-item : goal.returns-in_err-item
returns-in_err-item g c = λ setup core taken.
    let at = at_held setup c.args.self.now core _ _ _ _ _ _ _ c.in_ok-at.at taken c.number.ensures.value c.number-2.ensures.value
    (subst (λ v. FindsHeld v c.number.result c.number-2.result (Some c.in_ok-at.at)) c.self.view_is c.in_ok-at.ensures.found) in
    let place = at_place setup c.args.self.now core _ _ _ _ _ _ c.in_ok-context.context.now c.address.result None at c.in_ok-context.ensures c.address.ensures.value
    (subst (λ r. FindsPlace r.line c.address.result None) c.ring.ensures c.in_err-item.ensures.found) in
    let none : None ≡ Some (at.item, at.trb) = place.1 in
    absurd cc

pub returns-in_err-transfer : goal.returns-in_err-transfer
returns-in_err-transfer g c = λ setup core taken.
    let at = at_held setup c.args.self.now core _ _ _ _ _ _ _ c.in_ok-at.at taken c.number.ensures.value c.number-2.ensures.value
    (subst (λ v. FindsHeld v c.number.result c.number-2.result (Some c.in_ok-at.at)) c.self.view_is c.in_ok-at.ensures.found) in
    let place = at_place setup c.args.self.now core _ _ _ _ _ _ c.in_ok-context.context.now c.address.result (Some (c.in_ok-item.item, c.in_ok-item.trb)) at c.in_ok-context.ensures c.address.ensures.value
    (subst (λ r. FindsPlace r.line c.address.result (Some (c.in_ok-item.item, c.in_ok-item.trb))) c.ring.ensures c.in_ok-item.ensures.found) in
    let item : c.in_ok-item.item ≡ at.item = ap (λ v. v.0) (same_Some _ _ place.1) in
    let none : None ≡ Some at.t = c.in_err-transfer.ensures ∙ ap (λ v. item_at v.flights c.in_ok-at.at.dev c.in_ok-at.at.ep c.in_ok-item.item) c.self.view_is ∙ ap (item_at c.args.self.now.flights c.in_ok-at.at.dev c.in_ok-at.at.ep) item ∙ at.flight in
    absurd cc

pub target-target-requires-clause-few : goal.target-target-requires-clause-few
target-target-requires-clause-few g c =
    let setup = c.requires.0 in
    let core = c.requires.1 in
    let taken = c.requires.2 in
    let at = at_held setup c.args.self.now core _ _ _ _ _ _ _ c.in_ok-at.at taken c.number.ensures.value c.number-2.ensures.value
    (subst (λ v. FindsHeld v c.number.result c.number-2.result (Some c.in_ok-at.at)) c.self.view_is c.in_ok-at.ensures.found) in
    let is = found_by setup c.args.self.now core _ _ _ _ _ _ c.in_ok-context.context.now c.in_ok-item.item c.in_ok-item.trb c.address.result c.in_ok-transfer.transfer.now at c.in_ok-context.ensures c.address.ensures.value
    (subst (λ r. FindsPlace r.line c.address.result (Some (c.in_ok-item.item, c.in_ok-item.trb))) c.ring.ensures c.in_ok-item.ensures.found)
    (c.in_ok-transfer.ensures ∙ ap (λ v. item_at v.flights c.in_ok-at.at.dev c.in_ok-at.at.ep c.in_ok-item.item) c.self.view_is) in
    is.few

pub target-target-requires-clause-inside : goal.target-target-requires-clause-inside
target-target-requires-clause-inside g c =
    let setup = c.requires.0 in
    let core = c.requires.1 in
    let taken = c.requires.2 in
    let at = at_held setup c.args.self.now core _ _ _ _ _ _ _ c.in_ok-at.at taken c.number.ensures.value c.number-2.ensures.value
    (subst (λ v. FindsHeld v c.number.result c.number-2.result (Some c.in_ok-at.at)) c.self.view_is c.in_ok-at.ensures.found) in
    let is = found_by setup c.args.self.now core _ _ _ _ _ _ c.in_ok-context.context.now c.in_ok-item.item c.in_ok-item.trb c.address.result c.in_ok-transfer.transfer.now at c.in_ok-context.ensures c.address.ensures.value
    (subst (λ r. FindsPlace r.line c.address.result (Some (c.in_ok-item.item, c.in_ok-item.trb))) c.ring.ensures c.in_ok-item.ensures.found)
    (c.in_ok-transfer.ensures ∙ ap (λ v. item_at v.flights c.in_ok-at.at.dev c.in_ok-at.at.ep c.in_ok-item.item) c.self.view_is) in
    subst (λ m. c.in_ok-item.trb < length (lengths (tds_of m c.in_ok-transfer.transfer.now.request))) (sym c.size.ensures) is.inside

pub returns : goal.returns
returns g c = λ setup core taken.
    let at = at_held setup c.args.self.now core _ _ _ _ _ _ _ c.in_ok-at.at taken c.number.ensures.value c.number-2.ensures.value
    (subst (λ v. FindsHeld v c.number.result c.number-2.result (Some c.in_ok-at.at)) c.self.view_is c.in_ok-at.ensures.found) in
    let is = found_by setup c.args.self.now core _ _ _ _ _ _ c.in_ok-context.context.now c.in_ok-item.item c.in_ok-item.trb c.address.result c.in_ok-transfer.transfer.now at c.in_ok-context.ensures c.address.ensures.value
    (subst (λ r. FindsPlace r.line c.address.result (Some (c.in_ok-item.item, c.in_ok-item.trb))) c.ring.ensures c.in_ok-item.ensures.found)
    (c.in_ok-transfer.ensures ∙ ap (λ v. item_at v.flights c.in_ok-at.at.dev c.in_ok-at.at.ep c.in_ok-item.item) c.self.view_is) in
    is_told setup c.args.self.now core _ _ _ c.in_ok-at.at c.in_ok-context.context.now c.in_ok-item.item c.in_ok-item.trb c.in_ok-transfer.transfer.now c.read.result is
    (c.read.ensures ∙ ap (λ (t : Target). read_target t c.args.residual c.args.code) (c.target-target.ensures.value ∙ ap₂ (λ g m. target_of g m c.in_ok-item.item c.in_ok-item.trb c.in_ok-transfer.transfer.now) c.is_gone.ensures c.size.ensures))
