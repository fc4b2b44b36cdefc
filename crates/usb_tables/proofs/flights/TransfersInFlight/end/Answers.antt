-- The key of a transfer that ends goes from its line to those that ended.
use Rattle.std.proofs.Common.{sym, ap, ◌∙◌, arith}
use Rattle.usb_tables.proofs.Seen.{none-seen}
use Rattle.usb_tables.proofs.Shown.{item-shown, end-shown}
use Rattle.usb_tables.proofs.Stands.{ended-fewer, end-stands}
use Rattle.usb_tables.specs.TransfersInFlight.{item_at}
use Rattle.usb_tables.specs.Places.{seen}
use Rattle.usb_tables.proofs.flights.TransfersInFlight.end.Goals as goal

pub push_back_reserved-requires : goal.push_back_reserved-requires
push_back_reserved-requires g c =
    let fewer = ended-fewer c.self.inside.store c.self.inside.lanes c.self.inside.ended.items c.self.invariant.0 c.args.dev c.args.ep c.blank.ensures.lane c.args.item c.in-Some.key (sym c.in-Some.ensures.key) in
    omega (arith, c.self.invariant.1)

pub invariant_of-self : goal.invariant_of-self
invariant_of-self g c = (
  rw (c.blank.ensures.line, c.push_back_reserved.ensures.items) (end-stands c.self.inside.store c.self.inside.lanes c.self.inside.ended.items c.self.invariant.0 c.args.dev c.args.ep c.blank.ensures.lane c.args.item (record { key = c.in-Some.key; ending = c.args.ending }) (sym c.in-Some.ensures.key)),
  omega (arith, c.self.invariant.1, c.push_back_reserved.ensures.capacity),
)

pub returns-in-Some : goal.returns-in-Some
returns-in-Some g c = rw (← c.self.view_is, c.blank.ensures.line, c.push_back_reserved.ensures.items)
    (λ t there. end-shown c.self.inside.store c.self.inside.lanes c.self.inside.ended.items c.args.dev c.args.ep c.args.item (record { key = c.in-Some.key; ending = c.args.ending }) t (sym c.in-Some.ensures.key) there)

pub returns-in_default : goal.returns-in_default
returns-in_default g c = λ t there.
    let shown = item-shown c.self.inside.store c.self.inside.lanes c.self.inside.ended.items c.args.dev c.args.ep c.args.item in
    absurd (none-seen c.self.inside.store c.blank.result t c.in_default.not-Some
    (ap (seen c.self.inside.store) c.blank.ensures.key ∙ sym shown ∙ ap (λ v. item_at v c.args.dev c.args.ep c.args.item) c.self.view_is ∙ there))
