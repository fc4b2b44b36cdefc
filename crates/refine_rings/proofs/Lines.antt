-- A line and its items, transfer by transfer.
use Rattle.std.proofs.Common.{◌≡◌, ℕ, zero, suc, ◌+◌, ◌-◌, ◌<◌, ◌≤◌, refl, ap, sym, subst, ◌∙◌, arith, List, [], ◌∷◌, ◌++◌, length, length-append, take, drop, Some, None, true, false, Bool}
use Rattle.std.specs.Prelude.{nat_le, nat_lt, slice_get, if◌then◌else◌}
use Rattle.std.proofs.lemmas.Bool.{and_parts, le-leb, leb-true, lt-ltb, ltb-true}
use Rattle.std.proofs.lemmas.Option.{same_Some}
use Rattle.usb_trb.specs.declared.kind.TrbKind.{TrbKind}
use Rattle.usb_model.specs.Kept.{InRow, KeptTransfer, first_place}
use Rattle.usb_model.specs.Events.{covers, find_at, past_at}
use Rattle.usb_rings.specs.Line.{all_of}
use Rattle.refine_rings.specs.Line.{AllItems, IsItem}

-- a line spans as many places as its items have TRBs
pub spans : (size : ℕ) (ys : List KeptTransfer) (kss : List (List TrbKind)) (end : ℕ) → AllItems size ys kss → InRow ys end → first_place ys end + length (all_of kss) ≡ end
spans size [] [] end items row = omega arith
spans size [] (ks ∷ kss) end items row = absurd items
spans size (y ∷ ys) [] end items row = absurd items
spans size (y ∷ ys) (ks ∷ kss) end items row = omega (arith, spans size ys kss end items.1 row.1, row.0, items.0.count, length-append ks (all_of kss))

-- a place among a transfer's TRBs
pub covered : (p : ℕ) (y : KeptTransfer) → covers p y ≡ true → (y.place ≤ p) × (p < y.place + length y.lengths)
covered p y h =
    let parts = and_parts (nat_le y.place p) (nat_lt p (y.place + length y.lengths)) h in
    (leb-true y.place p parts.0, ltb-true p (y.place + length y.lengths) parts.1)

pub covers_is : (p : ℕ) (y : KeptTransfer) → y.place ≤ p → p < y.place + length y.lengths → covers p y ≡ true
covers_is p y low high = rw (lt-ltb p (y.place + length y.lengths) high, le-leb y.place p low) refl

-- the item of the transfer at a place, and what stands before and behind it
pub record Found (size : ℕ) (ys : List KeptTransfer) (kss : List (List TrbKind)) (end p : ℕ) (y : KeptTransfer) : Type 0 where
  pub ks : List TrbKind
  pub rest : List (List TrbKind)
  pub i : ℕ
  pub line : slice_get ys i ≡ Some y
  pub item : slice_get kss i ≡ Some ks
  pub is_item : IsItem size y ks
  pub low : y.place ≤ p
  pub high : p < y.place + length y.lengths
  pub first : y.place ≡ first_place ys end + length (all_of (take i kss))
  pub ahead : drop (p - first_place ys end) (all_of kss) ≡ drop (p - y.place) ks ++ all_of rest
  pub items : AllItems size (past_at p ys) rest
  pub row : InRow (past_at p ys) end
  pub next : first_place (past_at p ys) end ≡ y.place + length y.lengths

-- what stands so far behind others
pub drop_past : {A : Type 0} (xs ys : List A) (n : ℕ) → drop (length xs + n) (xs ++ ys) ≡ drop n ys
drop_past [] ys n = ap (λ m. drop m ys) (omega arith)
drop_past (x ∷ xs) ys n = ap (λ m. drop m (x ∷ (xs ++ ys))) (let more : suc (length xs) + n ≡ suc (length xs + n) = omega arith in more) ∙ drop_past xs ys n

pub drop_within : {A : Type 0} (xs ys : List A) (n : ℕ) → n ≤ length xs → drop n (xs ++ ys) ≡ drop n xs ++ ys
drop_within [] ys zero le = refl
drop_within [] ys (suc n) le = absurd (omega (arith, le))
drop_within (x ∷ xs) ys zero le = refl
drop_within (x ∷ xs) ys (suc n) le = drop_within xs ys n (omega (arith, le))

pub finds : (size : ℕ) (ys : List KeptTransfer) (kss : List (List TrbKind)) (end p : ℕ) (y : KeptTransfer) → AllItems size ys kss → InRow ys end → find_at p ys ≡ Some y → Found size ys kss end p y
unfolding find_at past_at
finds size [] kss end p y items row h = absurd cc
finds size (z ∷ zs) [] end p y items row h = absurd items
finds size (z ∷ zs) (ks ∷ kss) end p y items row h = by_test (covers p z) refl h (finds size zs kss end p y items.1 row.1)
  where
    by_test : (b : Bool) → covers p z ≡ b → (if b then Some z else find_at p zs) ≡ Some y → (find_at p zs ≡ Some y → Found size zs kss end p y) → Found size (z ∷ zs) (ks ∷ kss) end p y
    by_test true e g rest =
        let same : z ≡ y = cc in
        let c = covered p z e in
        let past : past_at p (z ∷ zs) ≡ zs = rw e refl in
        let here : Found size (z ∷ zs) (ks ∷ kss) end p z = record {
          ks = ks;
          rest = kss;
          i = 0;
          line = refl;
          item = refl;
          is_item = items.0;
          low = c.0;
          high = c.1;
          first = omega arith;
          ahead = drop_within ks (all_of kss) (p - z.place) (omega (arith, c.0, c.1, items.0.count));
          items = subst (λ l. AllItems size l kss) (sym past) items.1;
          row = subst (λ l. InRow l end) (sym past) row.1;
          next = ap (λ l. first_place l end) past ∙ row.0;
        } in
        subst (λ x. Found size (z ∷ zs) (ks ∷ kss) end p x) same here
    by_test false e g rest =
        let r = rest g in
        let past : past_at p (z ∷ zs) ≡ past_at p zs = rw e refl in
        let far : z.place + length ks ≤ p = omega (arith, r.low, r.first, row.0, items.0.count) in
        let split : p - z.place ≡ length ks + (p - first_place zs end) = omega (arith, r.low, r.first, row.0, items.0.count) in
        record {
          ks = r.ks;
          rest = r.rest;
          i = suc r.i;
          line = r.line;
          item = r.item;
          is_item = r.is_item;
          low = r.low;
          high = r.high;
          first = omega (arith, r.first, row.0, items.0.count, length-append ks (all_of (take r.i kss)));
          ahead = ap (λ n. drop n (ks ++ all_of kss)) split ∙ drop_past ks (all_of kss) (p - first_place zs end) ∙ r.ahead;
          items = subst (λ l. AllItems size l r.rest) (sym past) r.items;
          row = subst (λ l. InRow l end) (sym past) r.row;
          next = ap (λ l. first_place l end) past ∙ r.next;
        }

-- a place before the line's first, or behind its last, is none's
pub none_before : (ys : List KeptTransfer) (end p : ℕ) → InRow ys end → p < first_place ys end → find_at p ys ≡ None
unfolding find_at
none_before [] end p row less = refl
none_before (y ∷ ys) end p row less = by_test (covers p y) refl (none_before ys end p row.1)
  where
    by_test : (b : Bool) → covers p y ≡ b → (p < first_place ys end → find_at p ys ≡ None) → (if b then Some y else find_at p ys) ≡ None
    by_test true e rest = absurd (omega (arith, less, (covered p y e).0))
    by_test false e rest = rest (omega (arith, less, row.0))

pub row_below : (ys : List KeptTransfer) (end : ℕ) → InRow ys end → first_place ys end ≤ end
row_below [] end row = omega arith
row_below (y ∷ ys) end row = omega (arith, row_below ys end row.1, row.0)

pub none_behind : (ys : List KeptTransfer) (end p : ℕ) → InRow ys end → end ≤ p → find_at p ys ≡ None
unfolding find_at
none_behind [] end p row le = refl
none_behind (y ∷ ys) end p row le = by_test (covers p y) refl (none_behind ys end p row.1 le)
  where
    by_test : (b : Bool) → covers p y ≡ b → find_at p ys ≡ None → (if b then Some y else find_at p ys) ≡ None
    by_test true e rest = absurd (omega (arith, le, (covered p y e).1, row.0, row_below ys end row.1))
    by_test false e rest = rest

-- what is found in a line stands behind where it begins
pub starts_behind : (ys : List KeptTransfer) (end p : ℕ) (y : KeptTransfer) → InRow ys end → find_at p ys ≡ Some y → first_place ys end ≤ y.place
unfolding find_at
starts_behind [] end p y row h = absurd cc
starts_behind (z ∷ zs) end p y row h = by_test (covers p z) refl h (starts_behind zs end p y row.1)
  where
    by_test : (b : Bool) → covers p z ≡ b → (if b then Some z else find_at p zs) ≡ Some y → (find_at p zs ≡ Some y → first_place zs end ≤ y.place) → z.place ≤ y.place
    by_test true e g rest =
        let same : z.place ≡ y.place = ap (λ (x : KeptTransfer). x.place) (same_Some z y g) in
        omega (arith, same)
    by_test false e g rest = omega (arith, rest g, row.0)
