-- Items' TRBs that stand behind one another.
use Rattle.std.proofs.Common.{◌≡◌, ℕ, zero, suc, ◌+◌, ◌%◌, ◌<◌, ◌≤◌, refl, ap, sym, ◌∙◌, arith, List, [], ◌∷◌, ◌++◌, length, take, drop, get_or, set}
use Rattle.std.proofs.lemmas.List.{length-append}
use Rattle.usb_trb.specs.declared.kind.TrbKind.{TrbKind}
use Rattle.usb_rings.specs.Memory.{Memory, cell, puts}
use Rattle.usb_rings.specs.Written.{kinds, AllKinds}
use Rattle.usb_rings.proofs.Lists.{kinds-append, kinds-keep, kinds-same}
use Rattle.usb_rings.proofs.Puts.{cell-puts-before, cell-puts-after, kinds-puts}
use Rattle.usb_rings.specs.Line.{places, all_of}
use Rattle.usb_rings.specs.View.{split, total}
use Rattle.usb_rings.proofs.Totals.{item-part}

-- there are places
pub some-places : 0 < places
some-places = omega arith

-- where the cells are kept, the items' TRBs are
pub split-keep : (m m' : Memory) (p : ℕ) (ns : List ℕ) → ((q : ℕ) → p ≤ q → q < p + total ns → cell places m' q ≡ cell places m q) → split m' p ns ≡ split m p ns
split-keep m m' p [] h = refl
split-keep m m' p (n ∷ ns) h =
    rw (kinds-keep places m m' p n (λ q a b. h q a (omega arith)), split-keep m m' (p + n) ns (λ q a b. h q (omega arith) (omega arith))) refl

-- the first items have no more TRBs than all
pub first-few : (xs : List (List TrbKind)) (i : ℕ) → length (all_of (take i xs)) ≤ length (all_of xs)
first-few xs zero = omega arith
first-few [] (suc i) = omega arith
first-few (x ∷ xs) (suc i) = omega (arith, length-append x (all_of (take i xs)), length-append x (all_of xs), first-few xs i)

-- items at places that are equal over two turns
pub split-same : (m : Memory) (p q : ℕ) (ns : List ℕ) → p % 254 ≡ q % 254 → split m p ns ≡ split m q ns
split-same m p q [] h = refl
split-same m p q (n ∷ ns) h = rw (kinds-same places m p q n some-places h, split-same m (p + n) (q + n) ns (omega arith)) refl

-- items put behind items
pub split-append : (m : Memory) (p : ℕ) (ns ms : List ℕ) → split m p (ns ++ ms) ≡ split m p ns ++ split m (p + total ns) ms
split-append m p [] ms = ap (λ (q : ℕ). split m q ms) (omega arith)
split-append m p (n ∷ ns) ms =
    let at : p + n + total ns ≡ p + (n + total ns) = omega arith in
    rw (split-append m (p + n) ns ms, at) refl

-- the TRBs of items stand behind one another
pub all_of-split : (m : Memory) (p : ℕ) (ns : List ℕ) → all_of (split m p ns) ≡ kinds places m p (total ns)
all_of-split m p [] = refl
all_of-split m p (n ∷ ns) = rw (all_of-split m (p + n) ns) (kinds-append places m p n (total ns) (n + total ns) refl)

-- so many numbers are so many items
pub length-split : (m : Memory) (p : ℕ) (ns : List ℕ) → length (split m p ns) ≡ length ns
length-split m p [] = refl
length-split m p (n ∷ ns) = ap suc (length-split m (p + n) ns)

-- the first items
pub take-split : (m : Memory) (p : ℕ) (ns : List ℕ) (i : ℕ) → take i (split m p ns) ≡ split m p (take i ns)
take-split m p ns zero = refl
take-split m p [] (suc i) = refl
take-split m p (n ∷ ns) (suc i) = ap (λ (xs : List (List TrbKind)). kinds places m p n ∷ xs) (take-split m (p + n) ns i)

-- the items without the first ones
pub drop-split : (m : Memory) (p : ℕ) (ns : List ℕ) (i : ℕ) → drop i (split m p ns) ≡ split m (p + total (take i ns)) (drop i ns)
drop-split m p ns zero = ap (λ (q : ℕ). split m q ns) (omega arith)
drop-split m p [] (suc i) = refl
drop-split m p (n ∷ ns) (suc i) =
    drop-split m (p + n) ns i ∙ ap (λ (q : ℕ). split m q (drop i ns)) (omega arith)

-- one item
pub item-split : (m : Memory) (p : ℕ) (ns : List ℕ) (i : ℕ) → get_or (split m p ns) i [] ≡ kinds places m (p + total (take i ns)) (get_or ns i 0)
item-split m p [] i = refl
item-split m p (n ∷ ns) zero = ap (λ (q : ℕ). kinds places m q n) (omega arith)
item-split m p (n ∷ ns) (suc i) =
    item-split m (p + n) ns i ∙ ap (λ (q : ℕ). kinds places m q (get_or ns i 0)) (omega arith)

-- a first and a rest that are equal make equal lists
pub both : {x y : List TrbKind} {xs ys : List (List TrbKind)} → x ≡ y → xs ≡ ys → x ∷ xs ≡ y ∷ ys
both e f = rw (e, f) refl

-- one item's TRBs are written over
pub split-over : (m : Memory) (p at i : ℕ) (ns : List ℕ) (ks : List TrbKind) → places ≤ length m.cells → AllKinds ks → i < length ns → length ks ≡ get_or ns i 0
    → at ≡ p + total (take i ns) → total ns ≤ 126 → split (puts places m at ks) p ns ≡ set (split m p ns) i ks
split-over m p at i [] ks size h lt len e few = absurd (omega arith)
split-over m p at zero (n ∷ ns) ks size h lt len e few =
    let here : at ≡ p = omega (arith, e) in
    let first : kinds places (puts places m p ks) p n ≡ ks = ap (kinds places (puts places m p ks) p) (sym len) ∙ kinds-puts places m p ks some-places size h (omega arith) in
    let rest : split (puts places m p ks) (p + n) ns ≡ split m (p + n) ns =
    split-keep m (puts places m p ks) (p + n) ns (λ q a b. cell-puts-after places m p q ks (omega arith) (omega arith)) in
    ap (λ (a : ℕ). split (puts places m a ks) p (n ∷ ns)) here ∙ both first rest
split-over m p at (suc i) (n ∷ ns) ks size h lt len e few =
    let part : total (take i ns) + get_or ns i 0 ≤ total ns = item-part ns i in
    let first : kinds places (puts places m at ks) p n ≡ kinds places m p n =
    kinds-keep places m (puts places m at ks) p n (λ q a b. cell-puts-before places m at q ks (omega arith) (omega arith)) in
    let rest : split (puts places m at ks) (p + n) ns ≡ set (split m (p + n) ns) i ks =
    split-over m (p + n) at i ns ks size h (omega arith) len (omega arith) (omega arith) in
    both first rest
