-- A transfer ring as the line of its items.
use Rattle.std.specs.Prelude.{ℕ, suc, ◌+◌, ◌-◌, ◌<◌, ◌≡◌, List, [], ◌∷◌, ◌++◌, length, take, drop, replicate, slice_set, get_or, map, Option, option_map, Some, None, if◌then◌else◌}
use Rattle.usb_trb.specs.declared.kind.Normal.{Normal as NormalTrb}
use Rattle.usb_trb.specs.declared.kind.TrbKind.{TrbKind}
use Rattle.usb_trb.specs.declared.kind.TrbKind.TheVariants.{Normal, NoOp}
use Rattle.usb_trb.specs.declared.trb.Trb.{Trb}
use Rattle.usb_trb.specs.Read.{as_normal, is_no_op}
use Rattle.usb_rings.specs.Places.{after, cycle_of, address_of}

-- a transfer ring has 127 places, and a Link behind them (xHCI 1.2, 4.9.2)
abbrev pub places : ℕ
places = 127

-- one of them stays free, since a ring is empty where enqueue is dequeue (xHCI 1.2, 4.9.2)
abbrev pub capacity : ℕ
capacity = 126

-- base: the address of index 0. dequeue: the place of the TRB that the controller takes next. gone: the TRBs from there on that belong to
-- no item, since their item left the line. items: the TRBs of each item, first to last; they stand behind one another, the last before
-- enqueue. passed: how many of the items' TRBs stand before dequeue.
pub record Line : Type 0 where
  pub base : ℕ
  pub dequeue : ℕ
  pub gone : List TrbKind
  pub items : List (List TrbKind)
  pub passed : ℕ

-- the TRBs of items, one behind another
abbrev pub all_of : List (List TrbKind) → List TrbKind
all_of [] = []
all_of (x ∷ xs) = x ++ all_of xs

-- the TRBs that the controller has before it: those from dequeue to enqueue
abbrev pub contents : Line → List TrbKind
contents l = l.gone ++ drop l.passed (all_of l.items)

-- where the next TRB is put
abbrev pub enqueue_of : Line → ℕ
enqueue_of l = after places l.dequeue (length (contents l))

-- how many places are in use: those from the earlier of dequeue and the first item
abbrev pub used : Line → ℕ
used l = length l.gone + length (all_of l.items)

-- the place of the TRB so many behind the first item's first; enqueue for as many as there are
abbrev pub place_behind : Line → ℕ → ℕ
place_behind l n = after places l.dequeue (length l.gone + 254 + n - l.passed)

-- the place of the first TRB of the item of this number, or enqueue
abbrev pub place_of : Line → ℕ → ℕ
place_of l i = place_behind l (length (all_of (take i l.items)))

-- a ring as it is made
abbrev pub empty : ℕ → Line
empty base = record { base = base; dequeue = 0; gone = []; items = []; passed = 0 }

-- Normal TRBs as TRBs of any kind
abbrev pub normals : List NormalTrb → List TrbKind
normals trbs = map Normal trbs

-- TRBs are put behind all others, as one item
abbrev pub pushed : Line → List TrbKind → Line
pushed l ks = record l { items = l.items ++ ks ∷ [] }

-- each TRB of the item becomes a No Op
abbrev pub blanked : Line → ℕ → Line
blanked l i = record l { items = slice_set l.items i (replicate (length (get_or l.items i [])) NoOp) }

-- the first k items leave; what the controller hasn't passed of them stays before it
abbrev pub dropped : Line → ℕ → Line
dropped l k = record l {
  gone = l.gone ++ drop l.passed (all_of (take k l.items));
  items = drop k l.items;
  passed = l.passed - length (all_of (take k l.items));
}

-- how many No Ops stand in front
abbrev pub no_ops : List TrbKind → ℕ
no_ops [] = 0
no_ops (k ∷ ks) = if is_no_op k then suc (no_ops ks) else 0

-- dequeue goes on by n
abbrev pub moved : Line → ℕ → Line
moved l n = record l { dequeue = after places l.dequeue n; gone = drop n l.gone; passed = l.passed + (n - length l.gone) }

-- past the TRB at dequeue and the No Ops behind it
abbrev pub advanced : Line → Line
advanced l = moved l (suc (no_ops (drop 1 (contents l))))

-- dequeue goes to the TRB so many behind the first item's first, or to enqueue
abbrev pub moved_behind : Line → ℕ → Line
moved_behind l n = record l { dequeue = place_behind l n; gone = []; passed = n }

-- dequeue goes to the item of this number, or to enqueue
abbrev pub moved_to : Line → ℕ → Line
moved_to l i = moved_behind l (length (all_of (take i l.items)))

-- the first of TRBs, with the address and the cycle of its place
abbrev pub first_of : ℕ → ℕ → List TrbKind → Option (ℕ × Trb)
first_of base p [] = None
first_of base p (k ∷ ks) = Some (address_of places base p, record { kind = k; cycle = cycle_of places p })

-- the TRB at dequeue with its address; none where none is left
abbrev pub front_of : Line → Option (ℕ × Trb)
front_of l = first_of l.base l.dequeue (contents l)

-- the TRB so many behind dequeue with its address; none where there are no more
abbrev pub ahead_of : Line → ℕ → Option (ℕ × Trb)
ahead_of l n = first_of l.base (after places l.dequeue n) (drop n (contents l))

-- what a Normal TRB says, with its address; none where none was read, or another kind
abbrev pub normal_at : Option (ℕ × Trb) → Option (ℕ × NormalTrb)
normal_at None = None
normal_at (Some x) = option_map (λ n. (x.0, n)) (as_normal x.1.kind)

-- an item has at this address the TRB of this number
pub record IsAt (l : Line) (pointer i j : ℕ) : Type 0 where
  pub item : i < length l.items
  pub trb : j < length (get_or l.items i [])
  pub address : pointer ≡ address_of places l.base (place_of l i + j)
