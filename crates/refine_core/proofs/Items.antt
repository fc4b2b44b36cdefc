-- Which item of a line has a place.
use Rattle.std.proofs.Common.{◌≡◌, ℕ, zero, suc, ◌≤◌, refl, ap, subst, ◌∙◌, arith, List, [], ◌∷◌, drop, Some, Bool, true, false}
use Rattle.std.specs.Prelude.{slice_get, slice_set, if◌then◌else◌}
use Rattle.std.proofs.lemmas.Option.{same_Some}
use Rattle.usb_trb.specs.declared.kind.TrbKind.{TrbKind}
use Rattle.usb_model.specs.Kept.{InRow, KeptEndpoint, KeptTransfer, first_place}
use Rattle.usb_model.specs.Events.{covers, find_at, past_at}
use Rattle.usb_model.specs.Packets.{put_at}
use Rattle.usb_xhc.specs.Context.{Context}
use Rattle.refine_rings.specs.Endpoint.{IsContext}
use Rattle.refine_rings.specs.Line.{AllItems}

-- the transfer at a place stands here in the line
pub record IsFoundAt (p : ℕ) (ys : List KeptTransfer) (y : KeptTransfer) (i : ℕ) : Type 0 where
  pub there : slice_get ys i ≡ Some y
  pub put : (z : KeptTransfer) → put_at p z ys ≡ slice_set ys i z
  pub past : past_at p ys ≡ drop (suc i) ys

-- each transfer that is found stands somewhere
pub found_somewhere : (p : ℕ) (ys : List KeptTransfer) (y : KeptTransfer) → find_at p ys ≡ Some y → (i : ℕ) × IsFoundAt p ys y i
unfolding find_at put_at past_at
found_somewhere p [] y found = absurd cc
found_somewhere p (x ∷ xs) y found = by_test (covers p x) refl found (found_somewhere p xs y)
  where
    by_test : (b : Bool) → covers p x ≡ b → (if b then Some x else find_at p xs) ≡ Some y → (find_at p xs ≡ Some y → (i : ℕ) × IsFoundAt p xs y i) → (i : ℕ) × IsFoundAt p (x ∷ xs) y i
    by_test true here it later = (
      0,
      record {
        there = it;
        put = λ z. ap (λ (b : Bool). if b then z ∷ xs else x ∷ put_at p z xs) here;
        past = ap (λ (b : Bool). if b then xs else past_at p xs) here;
      },
    )
    by_test false here it later =
        let rest = later it in (
          suc rest.0,
          record {
            there = rest.1.there;
            put = λ z. ap (λ (b : Bool). if b then z ∷ xs else x ∷ put_at p z xs) here ∙ ap (λ zs. x ∷ zs) (rest.1.put z);
            past = ap (λ (b : Bool). if b then xs else past_at p xs) here ∙ rest.1.past;
          },
        )

-- no transfer of a line stands before its beginning
no_earlier : (ys : List KeptTransfer) (end i : ℕ) (y : KeptTransfer) → InRow ys end → slice_get ys i ≡ Some y → first_place ys end ≤ y.place
no_earlier [] end i y row there = absurd cc
no_earlier (x ∷ xs) end zero y row there =
    let same : x.place ≡ y.place = ap (λ (v : KeptTransfer). v.place) (same_Some x y there) in
    omega (arith, same)
no_earlier (x ∷ xs) end (suc i) y row there =
    let later : first_place xs end ≤ y.place = no_earlier xs end i y row.1 there in
    omega (arith, later, row.0)

-- two places of a line have two transfers
pub one_place : (size : ℕ) (ys : List KeptTransfer) (kss : List (List TrbKind)) (end i j : ℕ) (y : KeptTransfer) → AllItems size ys kss → InRow ys end → slice_get ys i ≡ Some y → slice_get ys j ≡ Some y → i ≡ j
one_place size [] kss end i j y all row here there = absurd cc
one_place size (x ∷ xs) [] end i j y all row here there = absurd all
one_place size (x ∷ xs) (ks ∷ kss) end zero zero y all row here there = refl
one_place size (x ∷ xs) (ks ∷ kss) end zero (suc j) y all row here there =
    let same : x.place ≡ y.place = ap (λ (v : KeptTransfer). v.place) (same_Some x y here) in
    let later : first_place xs end ≤ y.place = no_earlier xs end j y row.1 there in
    absurd (omega (arith, same, later, row.0, all.0.some))
one_place size (x ∷ xs) (ks ∷ kss) end (suc i) zero y all row here there =
    let same : x.place ≡ y.place = ap (λ (v : KeptTransfer). v.place) (same_Some x y there) in
    let later : first_place xs end ≤ y.place = no_earlier xs end i y row.1 here in
    absurd (omega (arith, same, later, row.0, all.0.some))
one_place size (x ∷ xs) (ks ∷ kss) end (suc i) (suc j) y all row here there = ap suc (one_place size xs kss end i j y all.1 row.1 here there)

-- in the line that a ring holds the transfer at a place is the one of an index
pub found_at : (x : Context) (b : KeptEndpoint) (p i : ℕ) (y : KeptTransfer) → IsContext x b → find_at p b.line ≡ Some y → slice_get b.line i ≡ Some y → IsFoundAt p b.line y i
found_at x b p i y is found there =
    let at = found_somewhere p b.line y found in
    subst (λ (n : ℕ). IsFoundAt p b.line y n) (one_place x.size b.line x.ring.line.items b.end at.0 i y is.ring.items is.ring.row at.1.there there) at.1
