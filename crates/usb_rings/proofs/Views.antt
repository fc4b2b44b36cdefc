-- The line that stands in memory, through changes of both.
use Rattle.std.proofs.Common.{◌≡◌, ℕ, zero, suc, ◌+◌, ◌-◌, ◌*◌, ◌%◌, ◌<◌, ◌≤◌, Bool, true, false, refl, ap, sym, ◌∙◌, subst, arith, List, [], ◌∷◌, ◌++◌, length, drop, inl, inr, ◌⊎◌, leb, nat_le, Some, None}
use Rattle.std.proofs.lemmas.Bool.{cases_lt, le-leb}
use Rattle.std.specs.Prelude.{Option, option_map}
use Rattle.usb_trb.specs.declared.kind.Normal.{Normal as NormalTrb}
use Rattle.usb_trb.specs.declared.kind.TrbKind.{TrbKind}
use Rattle.usb_trb.specs.declared.trb.Trb.{Trb}
use Rattle.usb_trb.specs.Words.{trb_bytes, IsTrb}
use Rattle.usb_trb.specs.Read.{as_normal, kind_of, is_no_op}
use Rattle.usb_rings.specs.Places.{after, address_of}
use Rattle.usb_rings.specs.Memory.{Memory, cell, kind_at, trb_at, puts}
use Rattle.usb_rings.specs.Written.{kinds, AllKinds, IsCell, IsWritten}
use Rattle.usb_rings.proofs.Places.{cycle-same}
use Rattle.usb_rings.proofs.Cells.{cell-same, is_cell-same, puts-same, written-same}
use Rattle.usb_rings.proofs.Lists.{length-kinds, kinds-append, kinds-keep, kinds-same, drop-kinds}
use Rattle.usb_rings.proofs.Puts.{cell-puts-before, base-puts, length-puts, kinds-puts, written-puts, memory-puts, memory-same}
use Rattle.usb_rings.specs.Line.{places, Line, all_of, contents, enqueue_of, used, moved, advanced, no_ops, first_of, front_of, ahead_of, normal_at}
use Rattle.usb_rings.specs.View.{split, total, back, line_in, IsSound}
use Rattle.usb_rings.proofs.ItemsTrbs.{some-places, split-keep, split-same, split-append, all_of-split}
use Rattle.usb_rings.proofs.Totals.{total-append, some-append}

-- what stands before the controller are the TRBs from dequeue to enqueue
pub contents-are : (m : Memory) (e left held : ℕ) (ns : List ℕ) → left ≤ 126 → held ≤ 126 → total ns ≡ held
    → contents (line_in m e left held ns) ≡ kinds places m (back e left) left
contents-are m e left held ns a b t =
    let all : all_of (split m (back e held) ns) ≡ kinds places m (back e held) held = all_of-split m (back e held) ns ∙ ap (λ (n : ℕ). kinds places m (back e held) n) t in
    let rest : drop (held - left) (all_of (split m (back e held) ns)) ≡ kinds places m (back e held + (held - left)) (held - (held - left)) =
    ap (drop (held - left)) all ∙ drop-kinds places m (back e held) (held - left) held in
    let at : back e held + (held - left) ≡ back e left + (left - held) = omega arith in
    ap (λ (ks : List TrbKind). kinds places m (back e left) (left - held) ++ ks) (rest ∙ ap (λ (q : ℕ). kinds places m q (held - (held - left))) at)
    ∙ kinds-append places m (back e left) (left - held) (held - (held - left)) left (omega arith)

-- so many TRBs stand before the controller as dequeue is behind enqueue
pub length-contents : (m : Memory) (e left held : ℕ) (ns : List ℕ) → left ≤ 126 → held ≤ 126 → total ns ≡ held → length (contents (line_in m e left held ns)) ≡ left
length-contents m e left held ns a b t = ap length (contents-are m e left held ns a b t) ∙ length-kinds places m (back e left) left

-- how many places are in use
pub used-is : (m : Memory) (e left held : ℕ) (ns : List ℕ) → total ns ≡ held → used (line_in m e left held ns) ≡ (left - held) + held
used-is m e left held ns t =
    let a : length (kinds places m (back e left) (left - held)) ≡ left - held = length-kinds places m (back e left) (left - held) in
    let b : length (all_of (split m (back e held) ns)) ≡ held = ap length (all_of-split m (back e held) ns) ∙ length-kinds places m (back e held) (total ns) ∙ t in
    rw (a, b) refl

-- enqueue of the line is that of the fields
pub enqueue-is : (m : Memory) (e left held : ℕ) (ns : List ℕ) → e < 254 → left ≤ 126 → held ≤ 126 → total ns ≡ held → enqueue_of (line_in m e left held ns) ≡ e
enqueue-is m e left held ns p a b t =
    ap (λ (k : ℕ). (back e left % 254 + k) % 254) (length-contents m e left held ns a b t) ∙ round
  where
    round : (back e left % 254 + left) % 254 ≡ e
    round = omega arith

-- what fits beside what is used
pub fits-is : (u n : ℕ) → u ≤ 126 → nat_le n (126 - u) ≡ nat_le (u + n) 126
fits-is u n h = by_size (cases_lt (126 - u) n)
  where
    by_size : (126 - u < n) ⊎ (n ≤ 126 - u) → nat_le n (126 - u) ≡ nat_le (u + n) 126
    by_size (inl far) = not_leb n (126 - u) far ∙ sym (not_leb (u + n) 126 (omega arith))
      where
        not_leb : (a b : ℕ) → b < a → leb a b ≡ false
        not_leb a b k = grind arith
    by_size (inr near) = le-leb n (126 - u) near ∙ sym (le-leb (u + n) 126 (omega arith))

-- dequeue goes on
pub moved-is : (m : Memory) (e left held rest s : ℕ) (ns : List ℕ) → e < 254 → left ≤ 126 → held ≤ 126 → s + rest ≡ left
    → line_in m e rest held ns ≡ moved (line_in m e left held ns) s
moved-is m e left held rest s ns p a b h =
    let dequeue : back e rest % 254 ≡ (back e left % 254 + s) % 254 = omega arith in
    let gone : kinds places m (back e rest) (rest - held) ≡ drop s (kinds places m (back e left) (left - held)) =
    sym (drop-kinds places m (back e left) s (left - held) ∙ ends (back e left + s) (left - held - s) (back e rest) (rest - held) (omega arith) (omega arith)) in
    let passed : held - rest ≡ (held - left) + (s - length (kinds places m (back e left) (left - held))) =
    omega (arith, length-kinds places m (back e left) (left - held)) in
    rw (dequeue, gone, passed) refl
  where
    ends : (p n q k : ℕ) → p ≡ q → n ≡ k → kinds places m p n ≡ kinds places m q k
    ends p n q k f g = rw (f, g) refl

-- a cell before enqueue is kept by TRBs that are put there, less than a turn
pub far-keep : (m : Memory) (p e : ℕ) (ks : List TrbKind) → (q : ℕ) → q < e + 254 → e + 254 + length ks ≤ q + 127 → cell places (puts places m e ks) q ≡ cell places m q
far-keep m p e ks q a b =
    ap (λ (m' : Memory). cell places m' q) (puts-same places m e (e + 254) ks some-places (omega arith)) ∙ cell-puts-before places m (e + 254) q ks a b

-- the line with one item more
pub pushed-is : (m : Memory) (e left held n : ℕ) (ns : List ℕ) (ks : List TrbKind) → IsSound m e left held ns → length ks ≡ n → AllKinds ks
    → left + n ≤ 126 → held + n ≤ 126
    → line_in (puts places m e ks) (after places e n) (left + n) (held + n) (ns ++ n ∷ []) ≡ record (line_in m e left held ns) { items = split m (back e held) ns ++ ks ∷ [] }
pushed-is m e left held n ns ks s size ranges a b =
    let h1 = s.place in
    let h2 = s.counted in
    let dequeue : back (after places e n) (left + n) % 254 ≡ back e left % 254 = omega arith in
    let gone : kinds places (puts places m e ks) (back (after places e n) (left + n)) ((left + n) - (held + n)) ≡ kinds places m (back e left) (left - held) =
    kinds-same places (puts places m e ks) (back (after places e n) (left + n)) (back e left) ((left + n) - (held + n)) some-places (omega arith)
    ∙ ap (λ (k : ℕ). kinds places (puts places m e ks) (back e left) k) (omega arith)
    ∙ kinds-keep places m (puts places m e ks) (back e left) (left - held) (λ q c d. far-keep m q e ks q (omega arith) (omega arith)) in
    let old : split (puts places m e ks) (back e held) ns ≡ split m (back e held) ns =
    split-keep m (puts places m e ks) (back e held) ns (λ q c d. far-keep m q e ks q (omega arith) (omega arith)) in
    let new : kinds places (puts places m e ks) (back e held + total ns) n ≡ ks =
    kinds-same places (puts places m e ks) (back e held + total ns) e n some-places (omega arith) ∙ ap (λ (k : ℕ). kinds places (puts places m e ks) e k) (sym size)
    ∙ kinds-puts places m e ks some-places s.memory.cells ranges (omega arith) in
    let items : split (puts places m e ks) (back (after places e n) (held + n)) (ns ++ n ∷ []) ≡ split m (back e held) ns ++ ks ∷ [] =
    split-same (puts places m e ks) (back (after places e n) (held + n)) (back e held) (ns ++ n ∷ []) (omega arith)
    ∙ split-append (puts places m e ks) (back e held) ns (n ∷ [])
    ∙ join old new in
    let passed : (held + n) - (left + n) ≡ held - left = omega arith in
    rw (base-puts places m e ks, dequeue, gone, items, passed) refl
  where
    join : {xs ys : List (List TrbKind)} {x y : List TrbKind} → xs ≡ ys → x ≡ y → xs ++ x ∷ [] ≡ ys ++ y ∷ []
    join f g = rw (f, g) refl

-- a window that ends at enqueue, with TRBs put there
pub pushed-written : (m : Memory) (e w n : ℕ) (ks : List TrbKind) → places ≤ length m.cells → e < 254 → length ks ≡ n → AllKinds ks → w + n ≤ 126
    → IsWritten places m (back e w) w → IsWritten places (puts places m e ks) (back (after places e n) (w + n)) (w + n)
pushed-written m e w n ks cells place size ranges few h =
    let far : IsWritten places (puts places m (e + 254) ks) (back e w) (w + length ks) = written-puts places m (back e w) w (e + 254) ks cells ranges (omega arith) (omega arith) h in
    let near : IsWritten places (puts places m e ks) (back e w) (w + length ks) =
    subst (λ (m' : Memory). IsWritten places m' (back e w) (w + length ks)) (puts-same places m (e + 254) e ks some-places (omega arith)) far in
    written-same places (puts places m e ks) (back e w) (back (after places e n) (w + n)) (w + n) some-places (omega arith)
    (subst (λ (k : ℕ). IsWritten places (puts places m e ks) (back e w) (w + k)) size near)

-- a ring with one item more
pub pushed-sound : (m : Memory) (e left held n : ℕ) (ns : List ℕ) (ks : List TrbKind) → IsSound m e left held ns → length ks ≡ n → AllKinds ks → 0 < n
    → left + n ≤ 126 → held + n ≤ 126 → IsSound (puts places m e ks) (after places e n) (left + n) (held + n) (ns ++ n ∷ [])
pushed-sound m e left held n ns ks s size ranges pos a b = record {
  base_fits = rw (base-puts places m e ks) s.base_fits;
  place = omega arith;
  left_fits = a;
  held_fits = b;
  counted = omega (arith, total-append ns (n ∷ []), s.counted);
  some = some-append ns n s.some pos;
  left_written = pushed-written m e left n ks s.memory.cells s.place size ranges a s.left_written;
  held_written = pushed-written m e held n ks s.memory.cells s.place size ranges b s.held_written;
  size = length-puts places m e ks ∙ s.size;
  memory = memory-same places (puts places m e ks) (e + length ks) (after places e n) some-places (omega arith) (memory-puts places m e ks some-places ranges s.memory);
}

-- dequeue goes on past No Ops
pub advanced-is : (m : Memory) (e left held rest : ℕ) (ns : List ℕ) → e < 254 → left ≤ 126 → held ≤ 126 → total ns ≡ held → 0 < left
    → rest + no_ops (kinds places m (back e (left - 1)) (left - 1)) ≡ left - 1 → line_in m e rest held ns ≡ advanced (line_in m e left held ns)
advanced-is m e left held rest ns p a b t some h =
    let behind : drop 1 (contents (line_in m e left held ns)) ≡ kinds places m (back e (left - 1)) (left - 1) =
    ap (drop 1) (contents-are m e left held ns a b t) ∙ drop-kinds places m (back e left) 1 left ∙ ap (λ (q : ℕ). kinds places m q (left - 1)) (omega arith) in
    moved-is m e left held rest (suc (no_ops (kinds places m (back e (left - 1)) (left - 1)))) ns p a b (omega arith)
    ∙ ap (λ (ks : List TrbKind). moved (line_in m e left held ns) (suc (no_ops ks))) (sym behind)

-- the TRB at a place before enqueue can be read there
pub cell-at : (m : Memory) (e left rest p : ℕ) → e < 254 → left ≤ 126 → rest ≤ left → 0 < rest → p ≡ back e rest % 254 → IsWritten places m (back e left) left → IsCell places m p
cell-at m e left rest p a b c d f w = is_cell-same places m (back e rest) p some-places (omega arith) (w (back e rest) (omega arith) (omega arith))

-- what stands at places that are equal over two turns
pub kind-same : (m : Memory) (p q : ℕ) → p ≡ q % 254 → kind_at places m p ≡ kind_at places m q
kind-same m p q h = ap kind_of (cell-same places m p q some-places (omega arith))

-- the first TRB of a window, and the others
pub kinds-first : (m : Memory) (e r : ℕ) → r ≤ 126 → 0 < r → kinds places m (back e r) r ≡ kind_at places m (back e r) ∷ kinds places m (back e (r - 1)) (r - 1)
kinds-first m e zero few some = absurd (omega arith)
kinds-first m e (suc r) few some =
    let at : suc (back e (suc r)) ≡ back e (suc r - 1) = omega arith in
    let n : r ≡ suc r - 1 = omega arith in
    ap (λ (q : ℕ). kind_at places m (back e (suc r)) ∷ kinds places m q r) at ∙ ap (λ (k : ℕ). kind_at places m (back e (suc r)) ∷ kinds places m (back e (suc r - 1)) k) n

-- a No Op in front is one more
pub no_ops-one : (k : TrbKind) (ks : List TrbKind) → is_no_op k ≡ true → no_ops (k ∷ ks) ≡ suc (no_ops ks)
no_ops-one k ks h = rw h refl

-- no No Op in front
pub no_ops-none : (k : TrbKind) (ks : List TrbKind) → is_no_op k ≡ false → no_ops (k ∷ ks) ≡ 0
no_ops-none k ks h = rw h refl

-- nothing stands so many behind dequeue
pub ahead-none : (m : Memory) (e left held n : ℕ) (ns : List ℕ) → left ≤ 126 → held ≤ 126 → total ns ≡ held → left ≤ n
    → None ≡ ahead_of (line_in m e left held ns) n
ahead-none m e left held n ns a b t few =
    let none : left - n ≡ 0 = omega arith in
    let all : drop n (contents (line_in m e left held ns)) ≡ [] =
    ap (drop n) (contents-are m e left held ns a b t) ∙ drop-kinds places m (back e left) n left ∙ ap (kinds places m (back e left + n)) none in
    ap (first_of m.base (after places (back e left % 254) n)) (sym all)

-- the TRB so many behind dequeue
pub ahead-some : (m : Memory) (e left held n p : ℕ) (ns : List ℕ) → left ≤ 126 → held ≤ 126 → total ns ≡ held → n < left → p ≡ back e (left - n) % 254
    → Some (address_of places m.base p, trb_at places (kind_at places m p) p) ≡ ahead_of (line_in m e left held ns) n
ahead-some m e left held n p ns a b t some h =
    let at : back e left + n ≡ back e (left - n) = omega arith in
    let all : drop n (contents (line_in m e left held ns)) ≡ kind_at places m (back e (left - n)) ∷ kinds places m (back e (left - n - 1)) (left - n - 1) =
    ap (drop n) (contents-are m e left held ns a b t) ∙ drop-kinds places m (back e left) n left ∙ ap (λ (q : ℕ). kinds places m q (left - n)) at
    ∙ kinds-first m e (left - n) (omega arith) (omega arith) in
    let place : p ≡ after places (back e left % 254) n = omega arith in
    let kind : kind_at places m p ≡ kind_at places m (back e (left - n)) = kind-same m p (back e (left - n)) h in
    first-kind p (after places (back e left % 254) n) (kind_at places m p) (kind_at places m (back e (left - n))) (kinds places m (back e (left - n - 1)) (left - n - 1)) place kind
    ∙ ap (first_of m.base (after places (back e left % 254) n)) (sym all)
  where
    first-kind : (p q : ℕ) (k k' : TrbKind) (ks : List TrbKind) → p ≡ q → k ≡ k' → Some (address_of places m.base p, trb_at places k p) ≡ first_of m.base q (k' ∷ ks)
    first-kind p q k k' ks f g = rw (f, g) refl

-- what is read as a Normal TRB of the cell so many behind dequeue is what the line has there
pub normal-ahead : (m : Memory) (e left held n p : ℕ) (ns : List ℕ) → IsSound m e left held ns → n < left → p ≡ back e (left - n) % 254 → (read : Option NormalTrb)
    → ((t : Trb) → IsTrb t → trb_bytes t ≡ cell places m p → read ≡ as_normal t.kind)
    → option_map (λ (x : NormalTrb). (address_of places m.base p, x)) read ≡ normal_at (ahead_of (line_in m e left held ns) n)
normal-ahead m e left held n p ns s some h read found =
    let at = cell-at m e left (left - n) p s.place s.left_fits (omega arith) (omega arith) h s.left_written in
    ap (option_map (λ (x : NormalTrb). (address_of places m.base p, x))) (found (trb_at places (kind_at places m p) p) at.0 at.1)
    ∙ ap normal_at (ahead-some m e left held n p ns s.left_fits s.held_fits s.counted some h)

-- the TRB at dequeue is the one that is none behind it
pub front-is : (l : Line) → ahead_of l 0 ≡ front_of l
front-is l = first-same l.base (after places l.dequeue 0) l.dequeue (contents l) (omega arith)
  where
    first-same : (base p q : ℕ) (ks : List TrbKind) → p % 254 ≡ q % 254 → first_of base p ks ≡ first_of base q ks
    first-same base p q [] h = refl
    first-same base p q (k ∷ ks) h =
        let at : p % 127 ≡ q % 127 = omega arith in
        ap (λ (i : ℕ). Some (base + 16 * i, trb_at places k p)) at
        ∙ ap (λ (b : Bool). Some (address_of places base q, record { kind = k; cycle = b })) (cycle-same places p q h)
