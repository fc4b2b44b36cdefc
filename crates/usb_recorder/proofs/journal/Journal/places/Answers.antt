use Rattle.std.proofs.Common.{◌≤◌, arith, length, subst, sym}
use Rattle.usb_recorder.specs.Kept.{AreAmong, AreWithin}
use Rattle.usb_recorder.proofs.KeptPlaces.{among_more, within_more}
use Rattle.usb_recorder.proofs.journal.Journal.places.Goals as goal

pub place_in-requires-clause-rests : goal.place_in-requires-clause-rests
place_in-requires-clause-rests c =
    let all = length c.as_slice-in-loop-short-2.result.now in
    let le : c.self.inside.used ≤ all = omega (arith, c.self.invariant.0, c.as_slice-in-loop-short-2.ensures.len) in
    subst (AreAmong all) (sym c.as_slice.ensures.value) (among_more c.self.inside.used all c.self.inside.rests.items le c.self.invariant.1)

pub place_in-requires-clause-longs : goal.place_in-requires-clause-longs
place_in-requires-clause-longs c =
    let all = length c.as_slice-in-loop-short-2.result.now in
    let le : c.self.inside.used ≤ all = omega (arith, c.self.invariant.0, c.as_slice-in-loop-short-2.ensures.len) in
    subst (AreWithin all) (sym c.as_slice-in-loop-short.ensures.value) (within_more c.self.inside.used all c.self.inside.longs.items le c.self.invariant.2)
