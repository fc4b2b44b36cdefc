-- One that ended is seen at its place.
use Rattle.std.proofs.Common.{◌≡◌, Some, length, refl, sym, arith}
use Rattle.std.specs.Prelude.{slice_get}
use Rattle.std.proofs.lemmas.Option.{slice_get_past, slice_get_read}
use Rattle.usb_tables.specs.Places.{seen_ended}
use Rattle.usb_tables.proofs.Plain.{not-below}
use Rattle.usb_tables.proofs.Seen.{ended-most}
use Rattle.usb_tables.proofs.Stands.{ended-live, ended-shown}
use Rattle.usb_tables.proofs.flights.TransfersInFlight.ended_at.Goals as goal

pub returns-in_err-waiting : goal.returns-in_err-waiting
returns-in_err-waiting g c =
    let past = not-below c.args.i _ c.in_err-waiting.ensures.variant.1 in
    let few = ended-most c.self.inside.store c.self.inside.ended.items in
    rw (c.from_residual.ensures, ← c.self.view_is) (sym (slice_get_past (seen_ended c.self.inside.store c.self.inside.ended.items) c.args.i (omega arith)))

pub returns-in_err-transfer : goal.returns-in_err-transfer
returns-in_err-transfer g c =
    let within = c.in_ok-waiting.ensures.variant.0 refl in
    let at : slice_get c.self.inside.ended.items c.args.i ≡ Some c.in_ok-waiting.waiting.now
    = slice_get_read c.self.inside.ended.items (length c.self.inside.ended.items) c.args.i c.in_ok-waiting.waiting.now refl (omega arith) c.in_ok-waiting.ensures.lookup in
    absurd (ended-live c.self.inside.store c.self.inside.lanes c.self.inside.ended.items c.self.invariant.0 c.args.i c.in_ok-waiting.waiting.now at (sym c.in_err-transfer.ensures))

pub returns : goal.returns
returns g c =
    let within = c.in_ok-waiting.ensures.variant.0 refl in
    let at : slice_get c.self.inside.ended.items c.args.i ≡ Some c.in_ok-waiting.waiting.now
    = slice_get_read c.self.inside.ended.items (length c.self.inside.ended.items) c.args.i c.in_ok-waiting.waiting.now refl (omega arith) c.in_ok-waiting.ensures.lookup in
    rw (← c.self.view_is)
    (sym (ended-shown c.self.inside.store c.self.inside.lanes c.self.inside.ended.items c.self.invariant.0 c.args.i c.in_ok-waiting.waiting.now c.in_ok-transfer.transfer.now at (sym c.in_ok-transfer.ensures)))
