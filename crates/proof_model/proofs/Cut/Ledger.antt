-- The account of an endpoint as it stands: what left its line, and the line.
use Rattle.std.proofs.Common.{Bool, List, None, Option, Some, [], ap, false, map, refl, subst, sym, true, ℕ, ◌++◌, ◌<◌, ◌==◌, ◌||◌, ◌∙◌, ◌∷◌, ◌≡◌, ◌≤◌}
use Rattle.std.proofs.lemmas.Grind.{flat_map-append}
use Rattle.std.specs.List.{AllByRecursion, flat_map, list_all}
use Rattle.usb_model.specs.declared.response.Response.{Response}
use Rattle.usb_model.specs.declared.endpoint.Endpoint.{Endpoint}
use Rattle.usb_model.specs.declared.item.Ask.{Ask}
use Rattle.usb_model.specs.declared.item.Item.{Item}
use Rattle.usb_model.specs.declared.item.ItemState.TheVariants.{Blank, Served, Waiting}
use Rattle.usb_model.specs.declared.item.ItemState.{ItemState}
use Rattle.usb_model.specs.Laws.Account.{Accepted, Account, Asked, Clearing, Transfer, new_account}
use Rattle.usb_model.specs.Laws.Cut.{AllFit, Cell, Cleared, Ended, Fate, Of, Part, Waits, Withdrawn, accepted_as, asks_of, endpoint_of, has_stall, made_of, numbers_of, packets_taken, parts_of, times, told}
use Rattle.usb_model.specs.Direction.{is_of_direction, IsBody}
use Rattle.proof_model.proofs.Lists.Times.{StandOnce}

-- an item of the line, and what came of it
pub record Row : Type 0 where
  pub item : Item
  pub fate : Fate

-- the item of a row
abbrev pub item_of : Row → Item
item_of r = r.item

-- the row as a transfer of the cut
abbrev pub part_of : Row → Part
part_of r = record { n = r.item.n; request = r.item.request; round = r.item.round; share = r.item.share; fate = r.fate }

-- and as a cell of it
abbrev pub cell_of : Row → Cell
cell_of r = Of (part_of r)

-- what left the line, and the line, as cells and as parts
abbrev pub all_cells : List Cell → List Row → List Cell
all_cells gone rows = gone ++ map cell_of rows

-- and their transfers
abbrev pub all_parts : List Cell → List Row → List Part
all_parts gone rows = flat_map parts_of gone ++ map part_of rows

-- the numbers of transfers
abbrev pub numbers : List Part → List ℕ
numbers ps = map (λ x. x.n) ps

-- what came of an item, by its state
abbrev pub IsFate : ItemState → Fate → Type 0
IsFate Waiting f = f ≡ Waits
IsFate (Served code) f = (gone : Bool) × (f ≡ Ended code gone) × ((code == 26) ≡ false)
IsFate Blank f = (ask : Ask) × (f ≡ Withdrawn ask)

-- the asks that were accepted of an item
abbrev pub ask_list : ℕ → Option Ask → List Asked
ask_list n None = []
ask_list n (Some ask) = record { n = n; ask = ask } ∷ []

-- the one result of a transfer that was withdrawn, and its one ask
abbrev pub IsWithdrawnTold : ℕ → Account → Part → Ask → Type 0
IsWithdrawnTold size a x ask =
    (later : Bool) × (made_of x.n a.made ≡ record { result = told size false 26 (Some ask) x; gone = later } ∷ []) × (asks_of x.n a.asked ≡ record { n = x.n; ask = ask } ∷ [])

-- the one result of a transfer that ended
abbrev pub IsEndTold : ℕ → Account → Part → ℕ → Bool → Type 0
IsEndTold size a x code gone = (later : Bool) × (gone ≡ true → later ≡ true) × (made_of x.n a.made ≡ record { result = told size later code None x; gone = later } ∷ [])

-- what is told of what left the line
abbrev pub GoneToldBy : ℕ → Account → Part → Fate → Type 0
GoneToldBy size a x Waits = ⊥
GoneToldBy size a x (Ended code gone) = IsEndTold size a x code gone
GoneToldBy size a x (Withdrawn ask) = IsWithdrawnTold size a x ask

-- what is told of a transfer that left the line
abbrev pub GoneTold : ℕ → Account → Part → Type 0
GoneTold size a x = GoneToldBy size a x x.fate

-- and of an item of the line
abbrev pub RowToldBy : ℕ → Account → Row → Fate → Type 0
RowToldBy size a r Waits = (made_of r.item.n a.made ≡ []) × (asks_of r.item.n a.asked ≡ ask_list r.item.n r.item.ask)
RowToldBy size a r (Ended code gone) = made_of r.item.n a.made ≡ []
RowToldBy size a r (Withdrawn ask) = IsWithdrawnTold size a (part_of r) ask

-- a row: its fate is its item's, and the account tells it
pub record IsRow (size : ℕ) (inward : Bool) (a : Account) (r : Row) : Type 0 where
  pub fate : IsFate r.item.state r.fate
  pub body : IsBody inward r.item.request.body
  pub told : RowToldBy size a r r.fate

-- what ended at a gone device: that is gone still
abbrev pub KnowsGone : Bool → Account → Type 0
KnowsGone gone a = AllByRecursion (λ x. x.gone ≡ true → gone ≡ true) a.ended

-- nothing was taken, and nothing ended, behind an item that waits
abbrev pub IsUntouched : Row → Type 0
IsUntouched r = (r.item.share ≡ []) × (endpoint_of r.item.n r.fate ≡ [])

-- behind an item of this state: nothing was taken, if it waits
abbrev pub quiet_by : ItemState → List Row → Type 0 → Type 0
quiet_by Waiting rows rest = AllByRecursion IsUntouched rows
quiet_by (Served code) rows rest = rest
quiet_by Blank rows rest = rest

-- nothing was taken behind any item that waits
abbrev pub IsQuiet : List Row → Type 0
IsQuiet [] = Unit {0}
IsQuiet (r ∷ rows) = quiet_by r.item.state rows (IsQuiet rows)

-- whether a stall stands before, and no clearing since
abbrev pub stalled : Bool → List Cell → Bool
stalled behind [] = behind
stalled behind (Of x ∷ cells) = stalled (behind || has_stall x.share) cells
stalled behind (Cleared ∷ cells) = stalled false cells

-- the number is nowhere in the account
pub record IsFresh (n : ℕ) (a : Account) (ps : List Part) : Type 0 where
  pub no_part : times n (numbers ps) ≡ 0
  pub no_result : made_of n a.made ≡ []
  pub no_ask : asks_of n a.asked ≡ []

-- the cut law, with the line; each number is below this one
pub record Holds (size : ℕ) (inward : Bool) (next : ℕ) (script : List Response) (a : Account) (line : List Item) (left : List Response) (halted : Bool) (taken : List (List ℕ)) : Type 0 where
  pub gone : List Cell
  pub rows : List Row
  pub is_line : map item_of rows ≡ line
  pub all : map accepted_as (all_cells gone rows) ≡ a.accepted
  pub distinct : StandOnce (numbers (all_parts gone rows))
  pub fresh : (n : ℕ) → next ≤ n → IsFresh n a (all_parts gone rows)
  pub shares : flat_map (λ x. x.share) (all_parts gone rows) ++ left ≡ script
  pub fits : AllFit size false (all_cells gone rows)
  pub halt : halted ≡ stalled false (all_cells gone rows)
  pub ended : flat_map (λ x. endpoint_of x.n x.fate) (all_parts gone rows) ≡ a.ended
  pub packets : flat_map (packets_taken size) (all_parts gone rows) ≡ taken
  pub gone_told : AllByRecursion (GoneTold size a) (flat_map parts_of gone)
  pub each_row : AllByRecursion (IsRow size inward a) rows
  pub quiet : IsQuiet rows
  pub kinds : list_all (is_of_direction inward) left ≡ true

-- the ledger of an endpoint
abbrev pub HoldsAt : ℕ → Bool → ℕ → List Response → Account → Endpoint → Type 0
HoldsAt size inward next script a e = Holds size inward next script a e.line e.script_left e.device_halted e.packets_received

-- of an endpoint made new
pub holds_new : (size : ℕ) (inward : Bool) (next : ℕ) (script : List Response) → list_all (is_of_direction inward) script ≡ true → Holds size inward next script new_account [] script false []
holds_new size inward next script k = record {
  gone = [];
  rows = [];
  is_line = refl;
  all = refl;
  distinct = tt;
  fresh = λ n le. record { no_part = refl; no_result = refl; no_ask = refl };
  shares = refl;
  fits = tt;
  halt = refl;
  ended = refl;
  packets = refl;
  gone_told = tt;
  each_row = tt;
  quiet = tt;
  kinds = k;
}

-- the parts of all cells
pub parts_of_cells : (gone : List Cell) (rows : List Row) → flat_map parts_of (all_cells gone rows) ≡ all_parts gone rows
parts_of_cells gone rows = flat_map-append parts_of gone (map cell_of rows) ∙ ap (λ l. flat_map parts_of gone ++ l) (parts_of_rows rows)
  where
    parts_of_rows : (rs : List Row) → flat_map parts_of (map cell_of rs) ≡ map part_of rs
    parts_of_rows [] = refl
    parts_of_rows (r ∷ rs) = ap (λ l. part_of r ∷ l) (parts_of_rows rs)

-- the numbers of the transfers that were accepted
abbrev pub accepted_number : Accepted → List ℕ
accepted_number (Transfer n request round) = n ∷ []
accepted_number Clearing = []

-- in order
abbrev pub accepted_numbers : List Accepted → List ℕ
accepted_numbers xs = flat_map accepted_number xs

-- a transfer of this number was accepted
abbrev pub IsAccepted : Account → ℕ → Type 0
IsAccepted a n = 0 < times n (accepted_numbers a.accepted)

-- the numbers of the cells are those accepted
pub cell_numbers : (cells : List Cell) → accepted_numbers (map accepted_as cells) ≡ numbers_of cells
cell_numbers [] = refl
cell_numbers (Of x ∷ cells) = ap (λ l. x.n ∷ l) (cell_numbers cells)
cell_numbers (Cleared ∷ cells) = cell_numbers cells

-- so what was accepted is among them
pub accepted_cell : (a : Account) (cells : List Cell) (n : ℕ) → map accepted_as cells ≡ a.accepted → IsAccepted a n → 0 < times n (numbers_of cells)
accepted_cell a cells n all lt = subst (λ l. 0 < times n l) (ap accepted_numbers (sym all) ∙ cell_numbers cells) lt
