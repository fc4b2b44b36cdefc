-- Which item a TRB belongs to.
use Rattle.std.proofs.Common.{◌≡◌, ℕ, zero, suc, ◌+◌, ◌-◌, ◌*◌, ◌%◌, ◌<◌, refl, ap, sym, ◌∙◌, arith, List, [], ◌∷◌, length, take, get_or}
use Rattle.usb_rings.specs.Memory.{Memory}
use Rattle.usb_rings.proofs.Lists.{length-kinds}
use Rattle.usb_rings.specs.Places.{address_of}
use Rattle.usb_rings.specs.Line.{places, all_of, IsAt, place_behind, place_of}
use Rattle.usb_rings.specs.View.{total, split, back, line_in, IsSound, Holds}
use Rattle.usb_rings.proofs.ItemsTrbs.{length-split, item-split, all_of-split}
use Rattle.usb_rings.proofs.Changes.{behind-first, place-is}
use Rattle.usb_rings.proofs.Totals.{item-part}

-- a TRB belongs to one item
pub one-holder : (ns : List ℕ) (a b i j k l : ℕ) → i < length ns → k < length ns → j < get_or ns i 0 → l < get_or ns k 0
    → total (take i ns) + j ≡ a → total (take k ns) + l ≡ a → i ≡ k
one-holder [] a b i j k l p q r s e f = absurd (omega arith)
one-holder (n ∷ ns) a b zero j zero l p q r s e f = refl
one-holder (n ∷ ns) a b zero j (suc k) l p q r s e f = absurd (omega arith)
one-holder (n ∷ ns) a b (suc i) j zero l p q r s e f = absurd (omega arith)
one-holder (n ∷ ns) a b (suc i) j (suc k) l p q r s e f =
    ap suc (one-holder ns (a - n) b i j k l (omega arith) (omega arith) r s (omega arith) (omega arith))

-- what an address says of the item's TRB in memory
pub item-found : (m : Memory) (e left held : ℕ) (ns : List ℕ) (pointer i j : ℕ) → IsSound m e left held ns → IsAt (line_in m e left held ns) pointer i j
    → (i < length ns) × (j < get_or ns i 0) × (pointer ≡ m.base + 16 * ((back e held + total (take i ns) + j) % 127))
item-found m e left held ns pointer i j s h =
    let n = length-split m (back e held) ns in
    let long : length (get_or (split m (back e held) ns) i []) ≡ get_or ns i 0 =
    ap length (item-split m (back e held) ns i) ∙ length-kinds places m (back e held + total (take i ns)) (get_or ns i 0) in
    let place : place_of (line_in m e left held ns) i ≡ (back e held + total (take i ns)) % 254 = place-is m e left held ns i s.place s.left_fits s.held_fits s.counted in (
      omega (arith, h.item),
      omega (arith, h.trb),
      h.address ∙ ap (λ (q : ℕ). m.base + 16 * ((q + j) % 127)) place ∙ ap (λ (q : ℕ). m.base + 16 * q) (turned (back e held + total (take i ns))),
    )
  where
    turned : (q : ℕ) → (q % 254 + j) % 127 ≡ (q + j) % 127
    turned q = omega arith

-- the items have as many TRBs as places stand from the first item to enqueue
pub length-held : (m : Memory) (e held : ℕ) (ns : List ℕ) → total ns ≡ held → length (all_of (split m (back e held) ns)) ≡ held
length-held m e held ns t = ap length (all_of-split m (back e held) ns) ∙ length-kinds places m (back e held) (total ns) ∙ t

-- the address of the place so many behind the first item's first
pub address-behind : (m : Memory) (e left held n : ℕ) (ns : List ℕ) → IsSound m e left held ns → n < 127
    → address_of places m.base (place_behind (line_in m e left held ns) n) ≡ m.base + 16 * ((back e held + n) % 127)
address-behind m e left held n ns s few =
    ap (address_of places m.base) (behind-first m e left held n ns s.place s.left_fits s.held_fits (omega arith)) ∙ ap (λ (q : ℕ). m.base + 16 * q) (turned (back e held + n))
  where
    turned : (q : ℕ) → q % 254 % 127 ≡ q % 127
    turned q = omega arith

-- an item's TRB stands as far behind the first item as the items before it have TRBs, and on by its number
pub item-behind : (m : Memory) (e left held : ℕ) (ns : List ℕ) (pointer i j : ℕ) → IsSound m e left held ns → IsAt (line_in m e left held ns) pointer i j
    → (i < length ns) × (j < get_or ns i 0) × (total (take i ns) + j < 127)
    × (pointer ≡ address_of places m.base (place_behind (line_in m e left held ns) (total (take i ns) + j)))
item-behind m e left held ns pointer i j s h =
    let f = item-found m e left held ns pointer i j s h in
    let counted = s.counted in
    let few = s.held_fits in
    let near : total (take i ns) + j < 127 = omega (arith, item-part ns i, f.1) in
    let on : back e held + total (take i ns) + j ≡ back e held + (total (take i ns) + j) = omega arith in
    (f.0, f.1, near, f.2 ∙ ap (λ (q : ℕ). m.base + 16 * (q % 127)) on ∙ sym (address-behind m e left held (total (take i ns) + j) ns s near))

-- how far a place stands behind the first item, from its index
pub behind-is : (b n first at ahead : ℕ) → first ≡ b % 254 % 127 → at ≡ (b + n) % 127 → n < 127 → ahead ≡ (at + 127 - first) % 127 → ahead ≡ n
behind-is b n first at ahead e f h g = omega arith

-- the index again, from how far it stands behind the first item
pub index-back : (b first at ahead : ℕ) → first ≡ b % 254 % 127 → at < 127 → ahead ≡ (at + 127 - first) % 127 → at ≡ (b + ahead) % 127
index-back b first at ahead e h g = omega arith

-- a place so far behind the first item as an item's TRB is that TRB's
place-back : (b t j ahead : ℕ) → t + j ≡ ahead → (b + ahead) % 127 ≡ ((b + t) % 254 + j) % 127
place-back b t j ahead e = omega arith

-- a TRB that an item holds is there at its address
pub item-known : (m : Memory) (e left held : ℕ) (ns : List ℕ) (pointer i j ahead : ℕ) → IsSound m e left held ns → ahead < 127
    → pointer ≡ address_of places m.base (place_behind (line_in m e left held ns) ahead) → Holds ns ahead i j
    → IsAt (line_in m e left held ns) pointer i j
item-known m e left held ns pointer i j ahead s small p h =
    let n = length-split m (back e held) ns in
    let long : length (get_or (split m (back e held) ns) i []) ≡ get_or ns i 0 =
    ap length (item-split m (back e held) ns i) ∙ length-kinds places m (back e held + total (take i ns)) (get_or ns i 0) in
    let place : place_of (line_in m e left held ns) i ≡ (back e held + total (take i ns)) % 254 = place-is m e left held ns i s.place s.left_fits s.held_fits s.counted in
    record {
      item = omega (arith, h.0);
      trb = omega (arith, h.1);
      address = p ∙ address-behind m e left held ahead ns s small ∙ ap (λ (q : ℕ). m.base + 16 * q) (place-back (back e held) (total (take i ns)) j ahead h.2)
          ∙ ap (λ (q : ℕ). m.base + 16 * ((q + j) % 127)) (sym place);
    }
