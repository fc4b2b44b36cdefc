use Rattle.std.proofs.Common.{◌≡◌, ◌∙◌, ◌++◌, ◌+◌, ◌-◌, ◌≤◌, [], ◌∷◌, ap, arith, length, map, refl, subst, sym, vec_len}
use Rattle.usb_recorder.specs.declared.kept.LongEntry.{LongEntry}
use Rattle.usb_recorder.specs.declared.short.PackedEntry.TheVariants.{Long}
use Rattle.usb_recorder.specs.Kept.{AreThere, AreWithin, IsThere, Journaled, place_in, reply_of, step_of}
use Rattle.usb_recorder.proofs.KeptPlaces.{among_more, long_kept, there_more, there_push, within_more, within_push}
use Rattle.usb_recorder.proofs.journal.Journal.keep_long.Goals as goal

pub invariant_of-self : goal.invariant_of-self
invariant_of-self c =
    let is = c.self.invariant in
    let used = c.self.inside.used in
    let all = c.len-self-inside.result in
    let grown : all ≡ vec_len c.self.inside.bytes + length c.args.given.now = omega (arith, c.len-self-inside.ensures, c.append.ensures.len) in
    let more : used ≤ all = omega (arith, grown, is.0) in
    let rests = vec_len c.self.inside.rests in
    let before = vec_len c.self.inside.longs in
    let longs = vec_len c.push_reserved-2.new.self in
    let one : longs ≡ before + 1 = c.push_reserved-2.ensures.len in
    let here : IsThere rests longs (Long c.len-2.result) = omega (arith, one, c.len-2.ensures) in
    let room : c.self.inside.room ≡ c.args.self.now.room = ap (λ (j : Journaled). j.room) c.self.view_is in (
      omega (arith, c.len-self-inside.ensures),
      among_more used all c.self.inside.rests.items more is.1,
      subst (AreWithin all) (sym c.push_reserved-2.ensures.items) (within_push all c.self.inside.longs.items _ (within_more used all c.self.inside.longs.items more is.2) (omega (arith, grown, is.0, c.len.ensures))),
      subst (AreThere rests longs) (sym c.push_reserved.ensures.items) (there_push rests longs c.self.inside.shorts.items _ (there_more rests before rests longs c.self.inside.shorts.items (omega arith) (omega (arith, one)) is.3) here),
      omega (arith, room, c.requires.room.0, is.4, c.push_reserved.ensures.len, c.push_reserved.ensures.capacity),
      omega (arith, is.5),
      omega (arith, room, c.requires.room.0, is.6, one, c.push_reserved-2.ensures.capacity),
    )

pub returns-clause-places : goal.returns-clause-places
returns-clause-places c =
    let is = c.self.invariant in
    let used = c.self.inside.used in
    let bytes = c.self.inside.bytes.items in
    let shorts = c.self.inside.shorts.items in
    let rests = c.self.inside.rests.items in
    let longs = c.self.inside.longs.items in
    let given = c.args.given.now in
    let le : used ≤ length bytes = omega (arith, is.0, c.self.inside.bytes.ok.0) in
    let k : LongEntry = record { from = used; sent = c.len.result - used; given = length given; moment = c.args.moment; asked = c.args.asked; replied = c.args.replied; caller = c.args.caller; owner = c.args.owner } in
    let sent : used + k.sent ≡ length bytes = omega (arith, le, c.len.ensures, c.self.inside.bytes.ok.0) in
    let there : AreThere (length rests) (length longs) shorts = there_more (vec_len c.self.inside.rests) (vec_len c.self.inside.longs) (length rests) (length longs) shorts (omega (arith, c.self.inside.rests.ok.0)) (omega (arith, c.self.inside.longs.ok.0)) is.3 in
    let at : c.len-2.result ≡ length longs = omega (arith, c.len-2.ensures, c.self.inside.longs.ok.0) in
    ap (λ b. map (place_in b rests c.push_reserved-2.new.self.items) c.push_reserved.new.self.items) c.append.ensures.items
    ∙ (ap (λ ks. map (place_in (bytes ++ given) rests ks) c.push_reserved.new.self.items) c.push_reserved-2.ensures.items
    ∙ (ap (map (place_in (bytes ++ given) rests (longs ++ k ∷ []))) (c.push_reserved.ensures.items ∙ ap (λ i. shorts ++ Long i ∷ []) at)
    ∙ (long_kept bytes given used rests longs shorts k le is.1 is.2 there refl sent refl
    ∙ ap (λ (j : Journaled). j.places ++ record { step = step_of c.args.asked j.drafted; caller = c.args.caller; entry = record { owner = c.args.owner; reply = reply_of c.args.replied given }; moment = c.args.moment } ∷ []) c.self.view_is)))
