-- Where a line begins, and where its transfers stand, after each kind of change of a line.
use Rattle.std.proofs.Common.{Bool, List, Some, [], ap, arith, drop, false, length, map, refl, subst, suc, sym, true, ℕ, ◌+◌, ◌++◌, ◌-◌, ◌<◌, ◌≤◌, ◌∙◌, ◌∷◌, ◌≡◌, length-drop}
use Rattle.std.specs.Prelude.{if◌then◌else◌, nat_le, nat_lt, not, ◌&&◌, ◌==◌}
use Rattle.std.proofs.lemmas.Bool.{and_parts, leb-true, ltb-true}
use Rattle.std.proofs.lemmas.Option.{same_Some}
use Rattle.usb_model.specs.declared.item.Ask.{Ask}
use Rattle.usb_model.specs.Events.{covers, find_at, past_at}
use Rattle.usb_model.specs.Joins.{kept_ask}
use Rattle.usb_model.specs.Kept.{InRow, KeptTransfer, first_place}
use Rattle.usb_model.specs.Packets.{put_at}
use Rattle.usb_model.specs.Settlements.{kept_blanked, kept_withdrawn}
use Rattle.usb_model.specs.Stands.{one_on, stand}
use Rattle.refine_world.proofs.Ahead.{row_low}

-- another transfer at the place of one that is found
pub put_first : (p : ℕ) (y z : KeptTransfer) (ys : List KeptTransfer) (end : ℕ) → find_at p ys ≡ Some y → z.place ≡ y.place → first_place (put_at p z ys) end ≡ first_place ys end
unfolding find_at put_at
put_first p y z [] end q same = refl
put_first p y z (w ∷ ys) end q same = by_test (covers p w) q
  where
    by_test : (t : Bool) → (if t then Some w else find_at p ys) ≡ Some y → first_place (if t then z ∷ ys else w ∷ put_at p z ys) end ≡ w.place
    by_test true q = same ∙ ap (λ k. k.place) (sym (same_Some w y q))
    by_test false q = refl

-- a change of each transfer that leaves its place
pub map_first : (f : KeptTransfer → KeptTransfer) (ys : List KeptTransfer) (end : ℕ) → ((y : KeptTransfer) → (f y).place ≡ y.place) → first_place (map f ys) end ≡ first_place ys end
map_first f [] end same = refl
map_first f (y ∷ ys) end same = same y

-- a withdrawal leaves it
pub blanked_place : (y : KeptTransfer) → (kept_blanked y).place ≡ y.place
blanked_place y = by_test (kept_withdrawn y)
  where
    by_test : (t : Bool) → (if t then record y { blank = true } else y).place ≡ y.place
    by_test true = refl
    by_test false = refl

-- and so does an ask
pub ask_place : (n : ℕ) (ask : Ask) (y : KeptTransfer) → (kept_ask n ask y).place ≡ y.place
ask_place n ask y = by_test (not y.blank && (y.n == n))
  where
    by_test : (t : Bool) → (if t then record y { ask = Some ask } else y).place ≡ y.place
    by_test true = refl
    by_test false = refl

-- one that joins at the end
pub push_first : (ys : List KeptTransfer) (z : KeptTransfer) (end end' : ℕ) → z.place ≡ end → first_place (ys ++ z ∷ []) end' ≡ first_place ys end
push_first [] z end end' at = at
push_first (y ∷ ys) z end end' at = refl

-- a transfer that is found at a place
pub record IsAt (p : ℕ) (y : KeptTransfer) (ys : List KeptTransfer) (end : ℕ) : Type 0 where
  pub low : y.place ≤ p
  pub high : p < y.place + length y.lengths
  pub inside : y.place + length y.lengths ≤ end
  pub behind : first_place (past_at p ys) end ≡ y.place + length y.lengths

-- by where it was found
pub is_at : (p : ℕ) (y : KeptTransfer) (ys : List KeptTransfer) (end : ℕ) → InRow ys end → find_at p ys ≡ Some y → IsAt p y ys end
unfolding find_at past_at
is_at p y [] end row q = absurd cc
is_at p y (w ∷ ys) end row q = by_test (covers p w) refl q (is_at p y ys end row.1)
  where
    by_test : (t : Bool) → covers p w ≡ t → (if t then Some w else find_at p ys) ≡ Some y → (find_at p ys ≡ Some y → IsAt p y ys end) → IsAt p y (w ∷ ys) end
    by_test true is q rest =
        let parts = and_parts (nat_le w.place p) (nat_lt p (w.place + length w.lengths)) is in
        let passed : past_at p (w ∷ ys) ≡ ys = rw is refl in
        subst (λ k. IsAt p k (w ∷ ys) end) (same_Some w y q)
        (record {
          low = leb-true w.place p parts.0;
          high = ltb-true p (w.place + length w.lengths) parts.1;
          inside = omega (arith, row.0, row_low ys end row.1);
          behind = ap (λ l. first_place l end) passed ∙ row.0;
        })
    by_test false is q rest =
        let r = rest q in
        let passed : past_at p (w ∷ ys) ≡ past_at p ys = rw is refl in
        record { low = r.low; high = r.high; inside = r.inside; behind = ap (λ l. first_place l end) passed ∙ r.behind }

-- a stand is among the TRBs
stand_inside : (l : ℕ) (ls : List ℕ) (c : ℕ) → (stand (l ∷ ls) c).index < suc (length ls)
stand_inside l [] c = omega arith
stand_inside l (m ∷ ls) c = by_test (nat_lt c l) (stand_inside m ls (c - l))
  where
    by_test : (b : Bool) → (stand (m ∷ ls) (c - l)).index < suc (length ls) → (if b then record { index = 0; within = c } else one_on (stand (m ∷ ls) (c - l))).index < suc (suc (length ls))
    by_test true rest = omega arith
    by_test false rest = omega (arith, rest)

-- so is one that begins behind some of them
pub stand_behind : (i : ℕ) (ls : List ℕ) (c : ℕ) → i < length ls → i + (stand (drop i ls) c).index < length ls
stand_behind i ls c less = by_left (drop i ls) (length-drop i ls)
  where
    by_left : (ms : List ℕ) → length ms ≡ length ls - i → i + (stand ms c).index < length ls
    by_left [] e = absurd (omega (arith, e, less))
    by_left (m ∷ ms) e = omega (arith, e, less, stand_inside m ms c)
