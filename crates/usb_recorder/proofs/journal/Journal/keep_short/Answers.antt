use Rattle.std.proofs.Common.{◌≡◌, ap, arith, subst, sym, vec_len}
use Rattle.usb_recorder.specs.Kept.{AreThere, Journaled}
use Rattle.usb_recorder.proofs.KeptPlaces.{there_push}
use Rattle.usb_recorder.proofs.journal.Journal.keep_short.Goals as goal

pub invariant_of-self : goal.invariant_of-self
invariant_of-self c =
    let rests = vec_len c.self.inside.rests in
    let longs = vec_len c.self.inside.longs in
    let room : c.self.inside.room ≡ c.args.self.now.room = ap (λ (j : Journaled). j.room) c.self.view_is in
    let is = c.self.invariant in (
      is.0,
      is.1,
      is.2,
      subst (AreThere rests longs) (sym c.push_reserved.ensures.items) (there_push rests longs c.self.inside.shorts.items c.args.short is.3 (c.requires.here rests longs)),
      omega (arith, room, c.requires.room, is.4, c.push_reserved.ensures.len, c.push_reserved.ensures.capacity),
      omega (arith, is.5),
      omega (arith, is.6),
    )
