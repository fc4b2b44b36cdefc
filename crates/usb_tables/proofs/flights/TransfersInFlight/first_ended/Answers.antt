-- The first that ended is the first that is seen.
use Rattle.std.proofs.Common.{◌≡◌, ◌∷◌, [], drop, refl, sym, ap, arith}
use Rattle.usb_tables.specs.Places.{seen_ended}
use Rattle.usb_tables.proofs.Plain.{nil-is, first-is, zero-is}
use Rattle.usb_tables.proofs.Seen.{ended-head, ended-none}
use Rattle.usb_tables.proofs.Stands.{first-gone}
use Rattle.usb_tables.proofs.flights.TransfersInFlight.first_ended.Goals as goal

pub returns-in_err-first : goal.returns-in_err-first
returns-in_err-first g c =
    let len = zero-is _ c.in_err-first.ensures.variant.1 in
    let none : c.self.inside.ended.items ≡ [] = nil-is c.self.inside.ended.items (omega arith) in
    rw (c.from_residual.ensures, ← c.self.view_is, none, ended-none c.self.inside.store) refl

pub returns-in_err-transfer : goal.returns-in_err-transfer
returns-in_err-transfer g c =
    let some = c.in_ok-first.ensures.variant.0 refl in
    let split = first-is c.self.inside.ended.items c.in_ok-first.first.now (omega arith) c.in_ok-first.ensures.lookup in
    absurd (first-gone c.self.inside.store c.self.inside.lanes c.self.inside.ended.items (drop 1 c.self.inside.ended.items) c.in_ok-first.first.now split c.self.invariant.0
    c.in_err-transfer.ensures)

pub returns : goal.returns
returns g c =
    let some = c.in_ok-first.ensures.variant.0 refl in
    let split = first-is c.self.inside.ended.items c.in_ok-first.first.now (omega arith) c.in_ok-first.ensures.lookup in
    let shown : seen_ended c.self.inside.store c.self.inside.ended.items ≡ seen_ended c.self.inside.store (c.in_ok-first.first.now ∷ drop 1 c.self.inside.ended.items)
    = ap (seen_ended c.self.inside.store) split in
    let head = ended-head c.self.inside.store (drop 1 c.self.inside.ended.items) c.in_ok-first.first.now c.in_ok-transfer.transfer.now (sym c.in_ok-transfer.ensures) in
    rw (← c.self.view_is, shown, head) refl
