use Rattle.std.proofs.Common.{◌+◌, ◌≤◌, ◌∙◌, length, subst, sym}
use Rattle.std.specs.Prelude.{IfSome}
use Rattle.usb_recorder.specs.declared.kept.LongEntry.{LongEntry}
use Rattle.usb_recorder.specs.declared.short.ResultTail.{ResultTail}
use Rattle.usb_recorder.proofs.KeptPlaces.{among_found, within_found}
use Rattle.usb_recorder.proofs.reader.place_in.Goals as goal

pub bytes_of-requires : goal.bytes_of-requires
bytes_of-requires c = subst (λ o. IfSome o (λ (r : ResultTail). r.from + r.count ≤ length c.args.bytes.now)) (sym c.item.ensures ∙ c.in-Some.is) (among_found (length c.args.bytes.now) c.args.rests.now c.in-Called.at c.requires.rests)

pub found-requires : goal.found-requires
found-requires c = subst (λ o. IfSome o (λ (k : LongEntry). k.from + k.sent + k.given ≤ length c.args.bytes.now)) (sym c.item-in-Long.ensures) (within_found (length c.args.bytes.now) c.args.longs.now c.in-Long.at c.requires.longs)
