-- What contracts see of a log's tokens.
use Rattle.std.specs.Prelude.{◌≡◌, ℕ, suc, List, [], ◌∷◌, ◌++◌, true}
use Rattle.atomic_table.specs.Table.{Me}
use Rattle.atomic_table.specs.Seated.{TableId}
use Rattle.usb_receipts.specs.declared.rule.Known.{Known}
use Rattle.usb_receipts.specs.Rule.{HasSlot, Slot, moved}

module _ (E : Type 0) where
  -- a keeper: its log, the list, the number that the next bearer is given, and the claims and positions that it took in
  pub record Keeps : Type 0 where
    pub log : TableId
    pub entries : List E
    pub next : ℕ
    pub taken : List (ℕ × E)
    pub back : List (ℕ × List E)

  -- a claim: its log, and its place with the entry there, as a list of one
  pub record Claims : Type 0 where
    pub log : TableId
    pub claims : List (ℕ × E)

  -- a position: its log, and its bearer's number with the beginning of the list that was seen for it last, as a list of one
  pub record Positions : Type 0 where
    pub log : TableId
    pub positions : List (ℕ × List E)

  -- what was seen once: its log, and beginnings of the list
  pub record Pasts : Type 0 where
    pub log : TableId
    pub pasts : List (List E)

module _ {E : Type 0} where
  abbrev pub new_keeper : TableId → Keeps E
  new_keeper log = record { log = log; entries = []; next = 0; taken = []; back = [] }

  -- one more entry behind the list
  abbrev pub with_entry : Keeps E → E → Keeps E
  with_entry k entry = record { log = k.log; entries = k.entries ++ entry ∷ []; next = k.next; taken = k.taken; back = k.back }

  -- one more number given
  abbrev pub with_number : Keeps E → Keeps E
  with_number k = record { log = k.log; entries = k.entries; next = suc k.next; taken = k.taken; back = k.back }

  -- more claims taken in
  abbrev pub with_taken : Keeps E → List (ℕ × E) → Keeps E
  with_taken k claims = record { log = k.log; entries = k.entries; next = k.next; taken = k.taken ++ claims; back = k.back }

  -- more positions taken in
  abbrev pub with_back : Keeps E → List (ℕ × List E) → Keeps E
  with_back k positions = record { log = k.log; entries = k.entries; next = k.next; taken = k.taken; back = k.back ++ positions }

  -- those that were taken in, at the end
  abbrev pub all_moved : Keeps E → Keeps E
  all_moved k = record { log = k.log; entries = k.entries; next = k.next; taken = k.taken; back = moved k.entries k.back }

  abbrev pub claim_to : TableId → ℕ → E → Claims E
  claim_to log place entry = record { log = log; claims = (place, entry) ∷ [] }

  abbrev pub position_at : TableId → ℕ → List E → Positions E
  position_at log number seen = record { log = log; positions = (number, seen) ∷ [] }

  -- a token that knows the list whole and has the slot
  pub record IsKeeper (me : Me (Slot E) (Known E)) : Type 0 where
    pub slots : HasSlot me.1
    pub keeps : me.0.keeps ≡ true

  -- a token that has claims alone
  pub record IsClaim (me : Me (Slot E) (Known E)) : Type 0 where
    pub slots : me.1 ≡ []
    pub positions : me.0.positions ≡ []

  -- a token that has positions alone
  pub record IsPosition (me : Me (Slot E) (Known E)) : Type 0 where
    pub slots : me.1 ≡ []
    pub claims : me.0.claims ≡ []

  -- a token that has beginnings of the list alone
  pub record IsPast (me : Me (Slot E) (Known E)) : Type 0 where
    pub slots : me.1 ≡ []
    pub claims : me.0.claims ≡ []
    pub positions : me.0.positions ≡ []
