-- The line through drops, moves and blanks.
use Rattle.std.proofs.Common.{◌≡◌, ℕ, zero, suc, ◌+◌, ◌-◌, ◌%◌, ◌<◌, ◌≤◌, refl, ap, sym, ◌∙◌, subst, arith, List, [], ◌++◌, length, take, drop, get_or, set, replicate, inl, inr, ◌⊎◌}
use Rattle.std.proofs.lemmas.List.{length-replicate}
use Rattle.std.proofs.lemmas.Bool.{cases_lt}
use Rattle.usb_trb.specs.declared.kind.TrbKind.{TrbKind}
use Rattle.usb_trb.specs.declared.kind.TrbKind.TheVariants.{NoOp}
use Rattle.usb_rings.specs.Memory.{Memory, puts}
use Rattle.usb_rings.specs.Written.{kinds, AllKinds, IsWritten, IsMemory}
use Rattle.usb_rings.proofs.Cells.{puts-same, written-less}
use Rattle.usb_rings.proofs.Lists.{length-kinds, kinds-append, kinds-keep, drop-kinds}
use Rattle.usb_rings.proofs.Puts.{cell-puts-before, base-puts, length-puts, memory-same}
use Rattle.usb_rings.proofs.Over.{memory-over, written-over-all}
use Rattle.usb_rings.specs.Line.{places, all_of, place_of, dropped, moved_behind, moved_to, place_behind, blanked}
use Rattle.usb_rings.specs.View.{split, total, back, line_in, IsSound}
use Rattle.usb_rings.proofs.ItemsTrbs.{some-places, all_of-split, take-split, drop-split, item-split, split-over}
use Rattle.usb_rings.proofs.Totals.{total-split, total-part, item-part, some-drop}

-- the TRBs of the first items
pub first-items : (m : Memory) (e held : ℕ) (ns : List ℕ) (k : ℕ) → all_of (take k (split m (back e held) ns)) ≡ kinds places m (back e held) (total (take k ns))
first-items m e held ns k = ap all_of (take-split m (back e held) ns k) ∙ all_of-split m (back e held) (take k ns)

-- how many TRBs the first items have
pub length-first : (m : Memory) (e held : ℕ) (ns : List ℕ) (k : ℕ) → length (all_of (take k (split m (back e held) ns))) ≡ total (take k ns)
length-first m e held ns k = ap length (first-items m e held ns k) ∙ length-kinds places m (back e held) (total (take k ns))

-- the place so many behind the first item's first, by enqueue
pub behind-first : (m : Memory) (e left held n : ℕ) (ns : List ℕ) → e < 254 → left ≤ 126 → held ≤ 126 → n ≤ 126
    → place_behind (line_in m e left held ns) n ≡ (back e held + n) % 254
behind-first m e left held n ns p a b few = numbers (length (kinds places m (back e left) (left - held))) (length-kinds places m (back e left) (left - held))
  where
    numbers : (g : ℕ) → g ≡ left - held → (back e left % 254 + (g + 254 + n - (held - left))) % 254 ≡ (back e held + n) % 254
    numbers g x = omega arith

-- the place of an item, from the first one on
pub place-is : (m : Memory) (e left held : ℕ) (ns : List ℕ) (k : ℕ) → e < 254 → left ≤ 126 → held ≤ 126 → total ns ≡ held
    → place_of (line_in m e left held ns) k ≡ (back e held + total (take k ns)) % 254
place-is m e left held ns k p a b t =
    let part = total-part ns k in
    ap (place_behind (line_in m e left held ns)) (length-first m e held ns k) ∙ behind-first m e left held (total (take k ns)) ns p a b (omega arith)

-- the first items leave the line
pub dropped-is : (m : Memory) (e left held k : ℕ) (ns : List ℕ) → left ≤ 126 → held ≤ 126 → total ns ≡ held
    → line_in m e left (held - total (take k ns)) (drop k ns) ≡ dropped (line_in m e left held ns) k
dropped-is m e left held k ns a b t =
    let d = total (take k ns) in
    let part = total-part ns k in
    let rest : drop (held - left) (all_of (take k (split m (back e held) ns))) ≡ kinds places m (back e left + (left - held)) (total (take k ns) - (held - left)) =
    ap (drop (held - left)) (first-items m e held ns k) ∙ drop-kinds places m (back e held) (held - left) (total (take k ns))
    ∙ ap (λ (q : ℕ). kinds places m q (total (take k ns) - (held - left))) (omega arith) in
    let gone : kinds places m (back e left) (left - (held - total (take k ns))) ≡ kinds places m (back e left) (left - held) ++ drop (held - left) (all_of (take k (split m (back e held) ns))) =
    sym (ap (λ (ks : List TrbKind). kinds places m (back e left) (left - held) ++ ks) rest
    ∙ kinds-append places m (back e left) (left - held) (total (take k ns) - (held - left)) (left - (held - total (take k ns))) (omega arith)) in
    let items : split m (back e (held - total (take k ns))) (drop k ns) ≡ drop k (split m (back e held) ns) =
    sym (drop-split m (back e held) ns k ∙ ap (λ (q : ℕ). split m q (drop k ns)) (omega arith)) in
    let passed : held - total (take k ns) - left ≡ held - left - length (all_of (take k (split m (back e held) ns))) =
    omega (arith, length-first m e held ns k) in
    rw (gone, items, passed) refl

-- a ring without its first items
pub dropped-sound : (m : Memory) (e left held k : ℕ) (ns : List ℕ) → IsSound m e left held ns → IsSound m e left (held - total (take k ns)) (drop k ns)
dropped-sound m e left held k ns s =
    let part = total-split ns k in
    let h1 = s.counted in
    let h2 = s.held_fits in
    record {
      base_fits = s.base_fits;
      place = s.place;
      left_fits = s.left_fits;
      held_fits = omega arith;
      counted = omega arith;
      some = some-drop ns k s.some;
      left_written = s.left_written;
      held_written = written-less places m (back e held) (back e (held - total (take k ns))) held (held - total (take k ns)) (omega arith) (omega arith) s.held_written;
      size = s.size;
      memory = s.memory;
    }

-- dequeue goes to the TRB so many behind the first item's first
pub moved_behind-is : (m : Memory) (e left held n : ℕ) (ns : List ℕ) → e < 254 → left ≤ 126 → held ≤ 126 → n ≤ held
    → line_in m e (held - n) held ns ≡ moved_behind (line_in m e left held ns) n
moved_behind-is m e left held n ns p a b few =
    let dequeue : back e (held - n) % 254 ≡ place_behind (line_in m e left held ns) n =
    sym (behind-first m e left held n ns p a b (omega arith) ∙ ap (λ (q : ℕ). q % 254) (omega arith)) in
    let none : held - n - held ≡ 0 = omega arith in
    let gone : kinds places m (back e (held - n)) (held - n - held) ≡ [] = ap (kinds places m (back e (held - n))) none in
    let passed : held - (held - n) ≡ n = omega arith in
    lines dequeue gone passed
  where
    lines : {d d' g' : ℕ} {g : List TrbKind} → d ≡ d' → g ≡ [] → held - (held - n) ≡ g'
        → record { base = m.base; dequeue = d; gone = g; items = split m (back e held) ns; passed = held - (held - n) }
        ≡ record (line_in m e left held ns) { dequeue = d'; gone = []; passed = g' }
    lines x y z = rw (x, y, z) refl

-- dequeue goes to an item
pub moved_to-is : (m : Memory) (e left held k : ℕ) (ns : List ℕ) → e < 254 → left ≤ 126 → held ≤ 126 → total ns ≡ held
    → line_in m e (held - total (take k ns)) held ns ≡ moved_to (line_in m e left held ns) k
moved_to-is m e left held k ns p a b t =
    let part = total-part ns k in
    moved_behind-is m e left held (total (take k ns)) ns p a b (omega arith)
    ∙ ap (moved_behind (line_in m e left held ns)) (sym (length-first m e held ns k))

-- a ring whose dequeue was moved
pub moved_to-sound : (m : Memory) (e left held k : ℕ) (ns : List ℕ) → IsSound m e left held ns → IsSound m e (held - total (take k ns)) held ns
moved_to-sound m e left held k ns s =
    let h2 = s.held_fits in
    record {
      base_fits = s.base_fits;
      place = s.place;
      left_fits = omega arith;
      held_fits = s.held_fits;
      counted = s.counted;
      some = s.some;
      left_written = written-less places m (back e held) (back e (held - total (take k ns))) held (held - total (take k ns)) (omega arith) (omega arith) s.held_written;
      held_written = s.held_written;
      size = s.size;
      memory = s.memory;
    }

-- No Ops have no fields to be out of range
pub no_ops-kinds : (n : ℕ) → AllKinds (replicate n NoOp)
no_ops-kinds zero = tt
no_ops-kinds (suc n) = (tt, no_ops-kinds n)

-- an item's TRBs become No Ops, at a place that is its own over two turns
pub blanked-is : (m : Memory) (e left held i place : ℕ) (ns : List ℕ) → IsSound m e left held ns → i < length ns → place % 254 ≡ (back e held + total (take i ns)) % 254
    → line_in (puts places m place (replicate (get_or ns i 0) NoOp)) e left held ns ≡ blanked (line_in m e left held ns) i
blanked-is m e left held i place ns s lt at =
    let n = get_or ns i 0 in
    let ks = replicate (get_or ns i 0) NoOp in
    let h1 = s.counted in
    let h2 = s.held_fits in
    let h3 = s.left_fits in
    let size : length (replicate (get_or ns i 0) NoOp) ≡ get_or ns i 0 = length-replicate (get_or ns i 0) NoOp in
    let part = item-part ns i in
    let there : puts places m place ks ≡ puts places m (back e held + total (take i ns)) ks = puts-same places m place (back e held + total (take i ns)) ks some-places at in
    let gone : kinds places (puts places m (back e held + total (take i ns)) ks) (back e left) (left - held) ≡ kinds places m (back e left) (left - held) =
    kinds-keep places m (puts places m (back e held + total (take i ns)) ks) (back e left) (left - held)
    (λ q a b. cell-puts-before places m (back e held + total (take i ns)) q ks (omega arith) (omega arith)) in
    let items : split (puts places m (back e held + total (take i ns)) ks) (back e held) ns ≡ set (split m (back e held) ns) i ks =
    split-over m (back e held) (back e held + total (take i ns)) i ns ks s.memory.cells (no_ops-kinds n) lt size refl (omega arith) in
    let long : length (get_or (split m (back e held) ns) i []) ≡ get_or ns i 0 =
    ap length (item-split m (back e held) ns i) ∙ length-kinds places m (back e held + total (take i ns)) (get_or ns i 0) in
    ap (λ (m' : Memory). line_in m' e left held ns) there
    ∙ lines (base-puts places m (back e held + total (take i ns)) ks) gone items
    ∙ ap (λ (k : ℕ). record (line_in m e left held ns) { items = set (split m (back e held) ns) i (replicate k NoOp) }) (sym long)
  where
    lines : {b : ℕ} {g : List TrbKind} {xs ys : List (List TrbKind)} → b ≡ m.base → g ≡ kinds places m (back e left) (left - held) → xs ≡ ys
        → record { base = b; dequeue = back e left % 254; gone = g; items = xs; passed = held - left } ≡ record (line_in m e left held ns) { items = ys }
    lines x y z = rw (x, y, z) refl

-- a ring with an item of No Ops
pub blanked-sound : (m : Memory) (e left held i place : ℕ) (ns : List ℕ) → IsSound m e left held ns → i < length ns → place % 254 ≡ (back e held + total (take i ns)) % 254
    → IsSound (puts places m place (replicate (get_or ns i 0) NoOp)) e left held ns
blanked-sound m e left held i place ns s lt at =
    let ks = replicate (get_or ns i 0) NoOp in
    let p = back e held + total (take i ns) in
    let h1 = s.counted in
    let h2 = s.held_fits in
    let h3 = s.left_fits in
    let h4 = s.place in
    let size : length (replicate (get_or ns i 0) NoOp) ≡ get_or ns i 0 = length-replicate (get_or ns i 0) NoOp in
    let part = item-part ns i in
    let there : puts places m (back e held + total (take i ns)) ks ≡ puts places m place ks = sym (puts-same places m place (back e held + total (take i ns)) ks some-places at) in
    let q = puts places m (back e held + total (take i ns)) ks in
    let kept : IsWritten places (puts places m (back e held + total (take i ns)) ks) (back e held) held =
    written-over-all places m (back e held) held (back e held + total (take i ns)) ks s.memory.cells (no_ops-kinds (get_or ns i 0)) (omega arith) (omega arith) (omega arith) s.held_written in
    let memory : IsMemory places (puts places m (back e held + total (take i ns)) ks) e =
    memory-same places (puts places m (back e held + total (take i ns)) ks) (e + 254) e some-places (omega arith)
    (memory-over places m (e + 254) (back e held + total (take i ns)) ks some-places (no_ops-kinds (get_or ns i 0)) (omega arith) (omega arith) (memory-same places m e (e + 254) some-places (omega arith) s.memory)) in
    subst (λ (m' : Memory). IsSound m' e left held ns) there (record {
      base_fits = rw (base-puts places m (back e held + total (take i ns)) ks) s.base_fits;
      place = s.place;
      left_fits = s.left_fits;
      held_fits = s.held_fits;
      counted = s.counted;
      some = s.some;
      left_written = by_reach (cases_lt held left) kept size part;
      held_written = kept;
      size = length-puts places m (back e held + total (take i ns)) ks ∙ s.size;
      memory = memory;
    })
  where
    by_reach : (held < left) ⊎ (left ≤ held) → IsWritten places (puts places m (back e held + total (take i ns)) (replicate (get_or ns i 0) NoOp)) (back e held) held
        → length (replicate (get_or ns i 0) NoOp) ≡ get_or ns i 0 → total (take i ns) + get_or ns i 0 ≤ total ns
        → IsWritten places (puts places m (back e held + total (take i ns)) (replicate (get_or ns i 0) NoOp)) (back e left) left
    by_reach (inl more) kept size part =
        let h1 = s.counted in
        let h2 = s.left_fits in
        written-over-all places m (back e left) left (back e held + total (take i ns)) (replicate (get_or ns i 0) NoOp) s.memory.cells (no_ops-kinds (get_or ns i 0)) (omega arith) (omega arith) (omega arith) s.left_written
    by_reach (inr less) kept size part =
        let h2 = s.held_fits in
        written-less places (puts places m (back e held + total (take i ns)) (replicate (get_or ns i 0) NoOp)) (back e held) (back e left) held left (omega arith) (omega arith) kept
