-- Where a line's transfers stand in the ring.
use Rattle.std.proofs.Common.{◌≡◌, ℕ, zero, suc, ◌+◌, ◌-◌, ◌*◌, ◌%◌, ◌≤◌, nat_lt, refl, ap, sym, ◌∙◌, arith, List, [], ◌∷◌, length, take, drop, Some}
use Rattle.std.specs.Prelude.{get_or, slice_get}
use Rattle.std.proofs.lemmas.Option.{slice_get_within}
use Rattle.usb_trb.specs.declared.kind.TrbKind.{TrbKind}
use Rattle.usb_rings.specs.Places.{address_of, cycle_of}
use Rattle.usb_model.specs.Kept.{KeptEndpoint, KeptTransfer, first_place}
use Rattle.usb_model.specs.Events.{find_at}
use Rattle.usb_rings.specs.Line.{IsAt, Line, all_of, place_of, places}
use Rattle.usb_xhc.specs.Context.{Context}
use Rattle.refine_rings.specs.Line.{AllItems, in_ring}
use Rattle.refine_rings.specs.Endpoint.{IsContext}
use Rattle.refine_rings.specs.EndpointLaws.{FindsKept}
use Rattle.refine_rings.proofs.Changes.{first_drop, place_behind_is}
use Rattle.refine_rings.proofs.Contents.{in_use}
use Rattle.refine_rings.proofs.Lines.{Found, finds}

-- a place of the ring has the same address as without end
pub same_address : (base p : ℕ) → address_of places base (in_ring p) ≡ address_of places base p
same_address base p = let same : p % 254 % 127 ≡ p % 127 = omega arith in ap (λ n. base + 16 * n) same

-- and the same cycle
pub same_cycle : (p : ℕ) → cycle_of places (in_ring p) ≡ cycle_of places p
same_cycle p = let same : p % 254 % 254 ≡ p % 254 = omega arith in ap (λ n. nat_lt n 127) same

-- so many behind such a place
pub same_address_on : (base p q n : ℕ) → q ≡ in_ring p → address_of places base (q + n) ≡ address_of places base (p + n)
same_address_on base p q n e = let same : (q + n) % 127 ≡ (p + n) % 127 = omega (arith, e) in ap (λ m. base + 16 * m) same

get_is : {A : Type 0} (xs : List A) (i : ℕ) (x d : A) → slice_get xs i ≡ Some x → get_or xs i d ≡ x
get_is [] i x d h = absurd (omega (arith, slice_get_within [] i x h))
get_is (y ∷ ys) zero x d h = cc
get_is (y ∷ ys) (suc i) x d h = get_is ys i x d h

-- the item at a place, by the place's address
pub item : (c : Context) (b : KeptEndpoint) (p : ℕ) (y : KeptTransfer) → IsContext c b → find_at p b.line ≡ Some y
    → (i : ℕ) × (slice_get b.line i ≡ Some y) × IsAt c.ring.line (address_of places c.ring.line.base p) i (p - y.place)
item c b p y is h =
    let l : Line = c.ring.line in
    let f : Found c.size b.line l.items b.end p y = finds c.size b.line l.items b.end p y is.ring.items is.ring.row h in
    let ks_is : get_or l.items f.i [] ≡ f.ks = get_is l.items f.i f.ks [] f.item in
    let starts : place_of l f.i ≡ in_ring y.place =
    place_behind_is c.size l b.line b.end b.dequeue (length (all_of (take f.i l.items))) is.ring ∙ ap in_ring (sym f.first) in
    let whole : y.place + (p - y.place) ≡ p = omega (arith, f.low) in (
      f.i,
      f.line,
      record {
        item = slice_get_within l.items f.i f.ks f.item;
        trb = omega (arith, f.low, f.high, f.is_item.count, ap length ks_is);
        address = sym (same_address_on l.base y.place (place_of l f.i) (p - y.place) starts ∙ ap (address_of places l.base) whole);
      },
    )

-- the address of an item, or of enqueue
pub address : (c : Context) (b : KeptEndpoint) (i : ℕ) → IsContext c b → i ≤ length b.line
    → address_of places c.ring.line.base (place_of c.ring.line i) ≡ address_of places c.ring.line.base (first_place (drop i b.line) b.end)
address c b i is le =
    let l : Line = c.ring.line in
    ap (address_of places l.base) (place_behind_is c.size l b.line b.end b.dequeue (length (all_of (take i l.items))) is.ring)
    ∙ (same_address l.base (first_place b.line b.end + length (all_of (take i l.items)))
    ∙ ap (address_of places l.base) (sym (first_drop c.size b.line l.items b.end i is.ring.items is.ring.row)))

-- its cycle
pub cycle : (c : Context) (b : KeptEndpoint) (i : ℕ) → IsContext c b → i ≤ length b.line → cycle_of places (place_of c.ring.line i) ≡ cycle_of places (first_place (drop i b.line) b.end)
cycle c b i is le =
    let l : Line = c.ring.line in
    ap (cycle_of places) (place_behind_is c.size l b.line b.end b.dequeue (length (all_of (take i l.items))) is.ring)
    ∙ (same_cycle (first_place b.line b.end + length (all_of (take i l.items)))
    ∙ ap (cycle_of places) (sym (first_drop c.size b.line l.items b.end i is.ring.items is.ring.row)))

-- as many items as transfers
pub count : (size : ℕ) (ys : List KeptTransfer) (kss : List (List TrbKind)) → AllItems size ys kss → length kss ≡ length ys
count size [] [] items = refl
count size [] (ks ∷ kss) items = absurd items
count size (y ∷ ys) [] items = absurd items
count size (y ∷ ys) (ks ∷ kss) items = ap suc (count size ys kss items.1)

pub all : FindsKept
all = record {
  item = item;
  address = address;
  cycle = cycle;
  used = λ c b is. in_use c.size c.ring.line b.line b.end b.dequeue is.ring;
  items = λ c b is. count c.size b.line c.ring.line.items is.ring.items;
}
