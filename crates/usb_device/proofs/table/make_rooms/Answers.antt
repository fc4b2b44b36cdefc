-- Room for one more id.
use Rattle.std.proofs.Common.{◌≡◌, ℕ, ap, sym, ◌∙◌, ◌∷◌, [], ◌++◌, arith, List, map, refl}
use Rattle.std.specs.List.{range_with_len}
use Rattle.std.proofs.lemmas.List.FromFn.{map-range_with_len_more}
use Rattle.usb_device.specs.Scripts.{room_of, rooms_of}
use Rattle.usb_device.specs.Taken.{Taken}
use Rattle.usb_device.proofs.Fits.{acks-few}
use Rattle.usb_device.proofs.table.make_rooms.Goals as goal

pub new-requires : goal.new-requires
new-requires c = rw (c.acks-places.ensures, c.script_by.ensures) (acks-few c.args.config.now c.args.scripts.now c.loop-id.id c.requires)

pub loop-id-preserved : goal.loop-id-preserved
loop-id-preserved c =
    let f = room_of c.args.config.now c.args.scripts.now in
    let id = c.loop-id.id in
    let room : c.in_ok-new.field-0 ≡ f id = rw (c.in_ok-new.ensures, c.acks-places.ensures, c.script_by.ensures, c.size_by.ensures) refl in
    c.in_ok-push.ensures.items
    ∙ ap (λ (xs : List Taken). xs ++ c.in_ok-new.field-0 ∷ []) c.loop-id.invariant
    ∙ ap (λ (t : Taken). map f (range_with_len 0 id) ++ t ∷ []) room
    ∙ sym (map-range_with_len_more f 0 id id (omega arith))

pub returns : goal.returns
unfolding rooms_of
returns c =
    let all : c.loop-id.id ≡ 32 = omega (arith, c.loop-id-test.false, c.loop-id.auto.id-end) in
    c.loop-id.invariant ∙ ap (λ (n : ℕ). map (room_of c.args.config.now c.args.scripts.now) (range_with_len 0 n)) all
