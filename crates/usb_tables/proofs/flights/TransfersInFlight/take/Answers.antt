-- The first that ended leaves its place, and its key the store.
use Rattle.std.proofs.Common.{◌≡◌, ◌∷◌, [], refl, sym, arith}
use Rattle.usb_tables.specs.Places.{Stands}
use Rattle.usb_tables.proofs.Plain.{nil-is}
use Rattle.usb_tables.proofs.Seen.{ended-head, ended-none}
use Rattle.usb_tables.proofs.Shown.{take-shown}
use Rattle.usb_tables.proofs.Stands.{first-gone, take-stands}
use Rattle.usb_tables.proofs.flights.TransfersInFlight.take.Goals as goal

pub returns-in_err-first-clause-value : goal.returns-in_err-first-clause-value
returns-in_err-first-clause-value g c =
    let none : c.self.inside.ended.items ≡ [] = nil-is c.self.inside.ended.items (omega (arith, c.in_err-first.ensures.cases.0)) in
    rw (c.from_residual.ensures, ← c.self.view_is, none, ended-none c.self.inside.store) refl

pub returns-in_err-first-clause-ended : goal.returns-in_err-first-clause-ended
returns-in_err-first-clause-ended g c =
    let none : c.self.inside.ended.items ≡ [] = nil-is c.self.inside.ended.items (omega (arith, c.in_err-first.ensures.cases.0)) in
    rw (c.in_err-first.ensures.rest, ← c.self.view_is, none, ended-none c.self.inside.store) refl

pub invariant_of-self-in_err-transfer : goal.invariant_of-self-in_err-transfer
invariant_of-self-in_err-transfer g c =
    absurd (first-gone c.self.inside.store c.self.inside.lanes c.self.inside.ended.items c.pop_front.new.self.items c.in_ok-first.first
    c.in_ok-first.ensures.items c.self.invariant.0 c.in_err-transfer.ensures.value)

pub returns-in_err-transfer : goal.returns-in_err-transfer
returns-in_err-transfer g c =
    absurd (first-gone c.self.inside.store c.self.inside.lanes c.self.inside.ended.items c.pop_front.new.self.items c.in_ok-first.first
    c.in_ok-first.ensures.items c.self.invariant.0 c.in_err-transfer.ensures.value)

pub invariant_of-self-2 : goal.invariant_of-self-2
invariant_of-self-2 g c =
    let stands : Stands c.self.inside.store c.self.inside.lanes (c.in_ok-first.first ∷ c.pop_front.new.self.items) = rw (← c.in_ok-first.ensures.items) c.self.invariant.0 in (
      take-stands c.self.inside.store c.remove.new.self c.self.inside.lanes c.pop_front.new.self.items c.in_ok-first.first stands c.in_ok-transfer.ensures.updates c.in_ok-transfer.ensures.len,
      omega (arith, c.self.invariant.1, c.in_ok-transfer.ensures.len, c.in_ok-first.ensures.capacity),
    )

pub returns-clause-value : goal.returns-clause-value
returns-clause-value g c =
    let head = ended-head c.self.inside.store c.pop_front.new.self.items c.in_ok-first.first c.in_ok-transfer.transfer (sym c.in_ok-transfer.ensures.value) in
    rw (← c.self.view_is, c.in_ok-first.ensures.items, head) refl

pub returns-clause-lines : goal.returns-clause-lines
returns-clause-lines g c =
    let stands : Stands c.self.inside.store c.self.inside.lanes (c.in_ok-first.first ∷ c.pop_front.new.self.items) = rw (← c.in_ok-first.ensures.items) c.self.invariant.0 in
    let shown = take-shown c.self.inside.store c.remove.new.self c.self.inside.lanes c.pop_front.new.self.items c.in_ok-first.first stands c.in_ok-transfer.ensures.updates in
    rw (← c.self.view_is) shown.0

pub returns-clause-keys : goal.returns-clause-keys
returns-clause-keys g c = rw (← c.self.view_is) refl

pub returns-clause-ended : goal.returns-clause-ended
returns-clause-ended g c =
    let stands : Stands c.self.inside.store c.self.inside.lanes (c.in_ok-first.first ∷ c.pop_front.new.self.items) = rw (← c.in_ok-first.ensures.items) c.self.invariant.0 in
    let shown = take-shown c.self.inside.store c.remove.new.self c.self.inside.lanes c.pop_front.new.self.items c.in_ok-first.first stands c.in_ok-transfer.ensures.updates in
    let head = ended-head c.self.inside.store c.pop_front.new.self.items c.in_ok-first.first c.in_ok-transfer.transfer (sym c.in_ok-transfer.ensures.value) in
    rw (← c.self.view_is, c.in_ok-first.ensures.items, head) shown.1
