use Rattle.std.proofs.Common.{◌≡◌, ◌∙◌, ◌++◌, ◌+◌, ◌≤◌, ℕ, List, [], ◌∷◌, ap, arith, length, map, refl, subst, sym, vec_len}
use Rattle.usb_recorder.specs.declared.short.ResultTail.{ResultTail}
use Rattle.usb_recorder.specs.declared.short.PackedEntry.TheVariants.{Called}
use Rattle.usb_recorder.specs.Kept.{AreAmong, AreThere, Journaled, place_in, result_with}
use Rattle.usb_recorder.proofs.KeptPlaces.{among_more, among_push, result_kept, there_more, there_push, within_more}
use Rattle.usb_recorder.proofs.journal.Journal.keep_result.Goals as goal

pub invariant_of-self : goal.invariant_of-self
invariant_of-self c =
    let is = c.self.invariant in
    let used = c.self.inside.used in
    let all = c.len-self-inside.result in
    let given = c.as_slice-bytes.result.now in
    let grown : all ≡ vec_len c.self.inside.bytes + length given = omega (arith, c.len-self-inside.ensures, c.append.ensures.len) in
    let more : used ≤ all = omega (arith, grown, is.0) in
    let before = vec_len c.self.inside.rests in
    let rests = vec_len c.push_reserved-2.new.self in
    let longs = vec_len c.self.inside.longs in
    let one : rests ≡ before + 1 = c.push_reserved-2.ensures.len in
    let room : c.self.inside.room ≡ c.args.self.now.room = ap (λ (j : Journaled). j.room) c.self.view_is in (
      omega (arith, c.len-self-inside.ensures),
      subst (AreAmong all) (sym c.push_reserved-2.ensures.items) (among_push all c.self.inside.rests.items _ (among_more used all c.self.inside.rests.items more is.1) (omega (arith, grown, c.len-from.ensures))),
      within_more used all c.self.inside.longs.items more is.2,
      subst (AreThere rests longs) (sym c.push_reserved.ensures.items) (there_push rests longs c.self.inside.shorts.items _ (there_more before longs rests longs c.self.inside.shorts.items (omega (arith, one)) (omega arith) is.3) (omega (arith, one, c.len.ensures))),
      omega (arith, room, c.requires.room.0, is.4, c.push_reserved.ensures.len, c.push_reserved.ensures.capacity),
      omega (arith, room, c.requires.room.0, is.5, one, c.push_reserved-2.ensures.capacity),
      omega (arith, is.6),
    )

pub returns-clause-places : goal.returns-clause-places
returns-clause-places c =
    let is = c.self.invariant in
    let used = c.self.inside.used in
    let bytes = c.self.inside.bytes.items in
    let shorts = c.self.inside.shorts.items in
    let rests = c.self.inside.rests.items in
    let longs = c.self.inside.longs.items in
    let given = c.as_slice-bytes.result.now in
    let it = c.args.returned.now in
    let le : used ≤ length bytes = omega (arith, is.0, c.self.inside.bytes.ok.0) in
    let r : ResultTail = record { round = it.round; from = c.len-from.result; count = length given; actual = it.actual } in
    let from : c.len-from.result ≡ length bytes = omega (arith, c.len-from.ensures, c.self.inside.bytes.ok.0) in
    let there : AreThere (length rests) (length longs) shorts = there_more (vec_len c.self.inside.rests) (vec_len c.self.inside.longs) (length rests) (length longs) shorts (omega (arith, c.self.inside.rests.ok.0)) (omega (arith, c.self.inside.longs.ok.0)) is.3 in
    let at : c.len.result ≡ length rests = omega (arith, c.len.ensures, c.self.inside.rests.ok.0) in
    ap (λ b. map (place_in b c.push_reserved-2.new.self.items longs) c.push_reserved.new.self.items) c.append.ensures.items
    ∙ (ap (λ rs. map (place_in (bytes ++ given) rs longs) c.push_reserved.new.self.items) c.push_reserved-2.ensures.items
    ∙ (ap (map (place_in (bytes ++ given) (rests ++ r ∷ []) longs)) (c.push_reserved.ensures.items ∙ ap (λ i. shorts ++ Called it.h it.ep it.status c.args.caller c.args.moment it.n i ∷ []) at)
    ∙ (result_kept bytes given used rests longs shorts it.h it.ep it.status c.args.caller c.args.moment it.n r le is.1 is.2 there from refl
    ∙ (ap (λ (j : Journaled). j.places ++ result_with it.h it.ep it.status c.args.caller c.args.moment it.n r given ∷ []) c.self.view_is
    ∙ ap (λ (b : List ℕ). c.args.self.now.places ++ result_with it.h it.ep it.status c.args.caller c.args.moment it.n r b ∷ []) c.as_slice-bytes.ensures))))
