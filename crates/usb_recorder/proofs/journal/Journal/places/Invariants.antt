use Rattle.std.proofs.Common.{◌≡◌, map, take}
use Rattle.usb_recorder.specs.Kept.{place_in}
use Rattle.usb_recorder.proofs.journal.Journal.places.Given as goal

abbrev pub invariant-loop-short : goal.invariant-loop-short
invariant-loop-short l = l.places.items ≡ map (place_in l.self-inside.bytes.items l.self-inside.rests.items l.self-inside.longs.items) (take l.short-index l.self-inside.shorts.items)
