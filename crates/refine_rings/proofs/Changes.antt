-- A ring that changes holds the line that changes with it.
use Rattle.std.proofs.Common.{◌≡◌, ℕ, zero, suc, ◌+◌, ◌-◌, ◌%◌, ◌<◌, ◌≤◌, refl, ap, sym, subst, ◌∙◌, arith, List, [], ◌∷◌, ◌++◌, length, length-append, take, drop, Some, true, inl, inr, ◌⊎◌}
use Rattle.std.specs.Prelude.{slice_get, slice_set, get_or, replicate}
use Rattle.std.proofs.lemmas.List.{drop_all, length-drop, length-replicate}
use Rattle.std.proofs.lemmas.Bool.{cases_lt}
use Rattle.usb_trb.specs.declared.kind.TrbKind.{TrbKind}
use Rattle.usb_trb.specs.declared.kind.TrbKind.TheVariants.{NoOp}
use Rattle.usb_model.specs.Kept.{InRow, KeptTransfer, first_place}
use Rattle.usb_rings.specs.Line.{Line, all_of, blanked, dropped, moved, moved_behind, place_behind, pushed}
use Rattle.refine_rings.specs.Line.{AllItems, IsItem, IsLine, in_ring}

-- the controller goes on by n
pub moves : (size : ℕ) (l : Line) (line : List KeptTransfer) (end dequeue n : ℕ) → IsLine size l line end dequeue → dequeue + n ≤ end → IsLine size (moved l n) line end (dequeue + n)
moves size l line end dequeue n is le = record {
  items = is.items;
  row = is.row;
  below = le;
  few = is.few;
  stands = omega (arith, is.stands);
  between = omega (arith, is.between, length-drop n l.gone);
  whole = λ some. by_count some (cases_lt 0 l.passed);
}
  where
    by_count : 0 < l.passed + (n - length l.gone) → (0 < l.passed) ⊎ (l.passed ≤ 0) → drop n l.gone ≡ []
    by_count some (inl few) = drop_all n l.gone (omega (arith, ap length (is.whole few)))
    by_count some (inr none) = drop_all n l.gone (omega (arith, some, none))

-- the ring's place so many behind its first item's first is that of the line
pub place_behind_is : (size : ℕ) (l : Line) (line : List KeptTransfer) (end dequeue n : ℕ) → IsLine size l line end dequeue → place_behind l n ≡ in_ring (first_place line end + n)
place_behind_is size l line end dequeue n is = there (cases_lt 0 l.passed)
  where
    there : (0 < l.passed) ⊎ (l.passed ≤ 0) → (l.dequeue + (length l.gone + 254 + n - l.passed)) % 254 ≡ in_ring (first_place line end + n)
    there (inl some) =
        let few : l.passed ≤ 126 = omega (arith, is.few, is.between, is.below, ap length (is.whole some)) in
        omega (arith, is.stands, is.between, few)
    there (inr none) = omega (arith, is.stands, is.between, none)

-- it goes to the place so many behind the line's first
pub moves_behind : (size : ℕ) (l : Line) (line : List KeptTransfer) (end dequeue n : ℕ) → IsLine size l line end dequeue → first_place line end + n ≤ end
    → IsLine size (moved_behind l n) line end (first_place line end + n)
moves_behind size l line end dequeue n is le = record {
  items = is.items;
  row = is.row;
  below = le;
  few = is.few;
  stands = place_behind_is size l line end dequeue n is;
  between = omega arith;
  whole = λ some. refl;
}

-- the first k items leave
items_drop : (size : ℕ) (ys : List KeptTransfer) (kss : List (List TrbKind)) (k : ℕ) → AllItems size ys kss → AllItems size (drop k ys) (drop k kss)
items_drop size [] [] zero items = tt
items_drop size [] [] (suc k) items = tt
items_drop size [] (ks ∷ kss) k items = absurd items
items_drop size (y ∷ ys) [] k items = absurd items
items_drop size (y ∷ ys) (ks ∷ kss) zero items = items
items_drop size (y ∷ ys) (ks ∷ kss) (suc k) items = items_drop size ys kss k items.1

row_drop : (ys : List KeptTransfer) (end k : ℕ) → InRow ys end → InRow (drop k ys) end
row_drop [] end zero row = tt
row_drop [] end (suc k) row = tt
row_drop (y ∷ ys) end zero row = row
row_drop (y ∷ ys) end (suc k) row = row_drop ys end k row.1

-- the line without them begins where the next stands
pub first_drop : (size : ℕ) (ys : List KeptTransfer) (kss : List (List TrbKind)) (end k : ℕ) → AllItems size ys kss → InRow ys end → first_place (drop k ys) end ≡ first_place ys end + length (all_of (take k kss))
first_drop size [] [] end zero items row = omega arith
first_drop size [] [] end (suc k) items row = omega arith
first_drop size [] (ks ∷ kss) end k items row = absurd items
first_drop size (y ∷ ys) [] end k items row = absurd items
first_drop size (y ∷ ys) (ks ∷ kss) end zero items row = omega arith
first_drop size (y ∷ ys) (ks ∷ kss) end (suc k) items row = omega (arith, first_drop size ys kss end k items.1 row.1, row.0, items.0.count, length-append ks (all_of (take k kss)))

pub drops : (size : ℕ) (l : Line) (line : List KeptTransfer) (end dequeue k : ℕ) → IsLine size l line end dequeue → IsLine size (dropped l k) (drop k line) end dequeue
drops size l line end dequeue k is = record {
  items = items_drop size line l.items k is.items;
  row = row_drop line end k is.row;
  below = is.below;
  few = omega (arith, is.few, first_drop size line l.items end k is.items is.row);
  stands = is.stands;
  between = omega (arith, is.between, first_drop size line l.items end k is.items is.row, length-append l.gone (drop l.passed (all_of (take k l.items))), length-drop l.passed (all_of (take k l.items)));
  whole = λ some. gone (is.whole (omega (arith, some))) (drop_all l.passed (all_of (take k l.items)) (omega (arith, some)));
}
  where
    gone : l.gone ≡ [] → drop l.passed (all_of (take k l.items)) ≡ [] → l.gone ++ drop l.passed (all_of (take k l.items)) ≡ []
    gone e f = ap (λ (g : List TrbKind). g ++ drop l.passed (all_of (take k l.items))) e ∙ f

-- a transfer is withdrawn
blank_item : (size : ℕ) (y : KeptTransfer) (ks : List TrbKind) → IsItem size y ks → IsItem size (record y { blank = true }) (replicate (length ks) NoOp)
blank_item size y ks is = record {
  some = is.some;
  count = length-replicate (length ks) NoOp ∙ is.count;
  sent = λ e. absurd cc;
  blank = λ e. ap (λ n. replicate n NoOp) is.count;
}

items_set : (size : ℕ) (ys : List KeptTransfer) (kss : List (List TrbKind)) (i : ℕ) (y : KeptTransfer) → AllItems size ys kss → slice_get ys i ≡ Some y
    → AllItems size (slice_set ys i (record y { blank = true })) (slice_set kss i (replicate (length (get_or kss i [])) NoOp))
items_set size [] [] i y items h = absurd cc
items_set size [] (ks ∷ kss) i y items h = absurd items
items_set size (z ∷ zs) [] i y items h = absurd items
items_set size (z ∷ zs) (ks ∷ kss) zero y items h =
    let same : z ≡ y = cc in
    (subst (λ x. IsItem size (record x { blank = true }) (replicate (length ks) NoOp)) same (blank_item size z ks items.0), items.1)
items_set size (z ∷ zs) (ks ∷ kss) (suc i) y items h = (items.0, items_set size zs kss i y items.1 h)

first_set : (ys : List KeptTransfer) (end i : ℕ) (y : KeptTransfer) → slice_get ys i ≡ Some y → first_place (slice_set ys i (record y { blank = true })) end ≡ first_place ys end
first_set [] end i y h = refl
first_set (z ∷ zs) end zero y h =
    let same : z ≡ y = cc in
    ap (λ (x : KeptTransfer). x.place) (sym same)
first_set (z ∷ zs) end (suc i) y h = refl

row_set : (ys : List KeptTransfer) (end i : ℕ) (y : KeptTransfer) → slice_get ys i ≡ Some y → InRow ys end → InRow (slice_set ys i (record y { blank = true })) end
row_set [] end i y h row = absurd cc
row_set (z ∷ zs) end zero y h row =
    let same : z ≡ y = cc in
    (row.0 ∙ ap (λ (x : KeptTransfer). x.place + length x.lengths) same, row.1)
row_set (z ∷ zs) end (suc i) y h row = (first_set zs end i y h ∙ row.0, row_set zs end i y h row.1)

pub blanks : (size : ℕ) (l : Line) (line : List KeptTransfer) (end dequeue i : ℕ) (y : KeptTransfer) → IsLine size l line end dequeue → slice_get line i ≡ Some y
    → IsLine size (blanked l i) (slice_set line i (record y { blank = true })) end dequeue
blanks size l line end dequeue i y is h = record {
  items = items_set size line l.items i y is.items h;
  row = row_set line end i y h is.row;
  below = is.below;
  few = omega (arith, is.few, first_set line end i y h);
  stands = is.stands;
  between = omega (arith, is.between, first_set line end i y h);
  whole = is.whole;
}

-- a transfer joins
items_push : (size : ℕ) (ys : List KeptTransfer) (kss : List (List TrbKind)) (y : KeptTransfer) (ks : List TrbKind) → AllItems size ys kss → IsItem size y ks → AllItems size (ys ++ y ∷ []) (kss ++ ks ∷ [])
items_push size [] [] y ks items is = (is, tt)
items_push size [] (x ∷ xs) y ks items is = absurd items
items_push size (z ∷ zs) [] y ks items is = absurd items
items_push size (z ∷ zs) (x ∷ xs) y ks items is = (items.0, items_push size zs xs y ks items.1 is)

first_push : (ys : List KeptTransfer) (y : KeptTransfer) (end more : ℕ) → y.place ≡ end → first_place (ys ++ y ∷ []) (end + more) ≡ first_place ys end
first_push [] y end more e = e
first_push (z ∷ zs) y end more e = refl

row_push : (ys : List KeptTransfer) (y : KeptTransfer) (end : ℕ) → InRow ys end → y.place ≡ end → InRow (ys ++ y ∷ []) (end + length y.lengths)
row_push [] y end row e = (omega (arith, e), tt)
row_push (z ∷ zs) y end row e = (first_push zs y end (length y.lengths) e ∙ row.0, row_push zs y end row.1 e)

pub pushes : (size : ℕ) (l : Line) (line : List KeptTransfer) (end dequeue : ℕ) (y : KeptTransfer) (ks : List TrbKind) → IsLine size l line end dequeue → IsItem size y ks → y.place ≡ end → end + length y.lengths ≤ first_place line end + 126
    → IsLine size (pushed l ks) (line ++ y ∷ []) (end + length y.lengths) dequeue
pushes size l line end dequeue y ks is item e room = record {
  items = items_push size line l.items y ks is.items item;
  row = row_push line y end is.row e;
  below = omega (arith, is.below);
  few = omega (arith, room, first_push line y end (length y.lengths) e);
  stands = is.stands;
  between = omega (arith, is.between, first_push line y end (length y.lengths) e);
  whole = is.whole;
}
