-- The rule of a log: what its tokens know of the list, and what each step of them does.
use Rattle.std.specs.Prelude.{◌≡◌, ◌==◌, ℕ, suc, ◌+◌, ◌<◌, ◌≤◌, if◌then◌else◌, true, false, List, [], ◌∷◌, ◌++◌, length, map, Option, Some, None, slice_get}
use Rattle.std.specs.List.{filter}
use mathlib.Core.Option.{some, Option as Maybe}
use lib.ListN.{get_elem?}
use Rattle.atomic_table.specs.Table.{State, Me, Step}
use Rattle.usb_receipts.specs.declared.image.Image.{Image}
use Rattle.usb_receipts.specs.declared.rule.Known.{Known}

-- what the slot says: the entry that is appended next, or none
abbrev pub Slot : Type 0 → Type 0
Slot E = Image (Option E)

-- how many of these are of number p: claims by their place, positions by their bearer's number
abbrev pub claimed : {A : Type 0} → ℕ → List (ℕ × A) → ℕ
claimed p [] = 0
claimed p (c ∷ cs) = (if c.0 == p then 1 else 0) + claimed p cs

module _ {E : Type 0} where
  -- the token that knows the list whole, and which number is given next
  abbrev pub keeper : List E → ℕ → Known E
  keeper entries next = record { keeps = true; home = false; entries = entries; next = next; claims = []; positions = []; pasts = [] }

  -- the first token: it knows the empty list whole, and that the slot lies in the table
  abbrev pub opener : Known E
  opener = record { keeps = true; home = true; entries = []; next = 0; claims = []; positions = []; pasts = [] }

  -- a token that has claims and positions alone
  abbrev pub bearer : List (ℕ × E) → List (ℕ × List E) → Known E
  bearer claims positions = record { keeps = false; home = false; entries = []; next = 0; claims = claims; positions = positions; pasts = [] }

  -- a token that has beginnings of the list alone, which were seen once
  abbrev pub past_of : List (List E) → Known E
  past_of pasts = record { keeps = false; home = false; entries = []; next = 0; claims = []; positions = []; pasts = pasts }

  -- what was seen for these positions
  abbrev pub seen_for : List (ℕ × List E) → List (List E)
  seen_for ps = map (λ p. p.1) ps

  -- each claim's entry stands at its place
  abbrev pub Stand : List E → List (ℕ × E) → Type 0
  Stand entries [] = Unit {0}
  Stand entries (c ∷ cs) = (slice_get entries c.0 ≡ Some c.1) × Stand entries cs

  -- a list begins with another
  abbrev pub BeginsWith : List E → List E → Type 0
  BeginsWith seen entries = (rest : List E) × (entries ≡ seen ++ rest)

  -- a list begins with each of these
  abbrev pub AllBegin : List E → List (List E) → Type 0
  AllBegin entries [] = Unit {0}
  AllBegin entries (p ∷ ps) = BeginsWith p entries × AllBegin entries ps

  -- f of each, added up
  abbrev pub total : (Known E → ℕ) → List (Known E) → ℕ
  total f [] = 0
  total f (v ∷ vs) = f v + total f vs

  -- positions at the end of this list
  abbrev pub moved : List E → List (ℕ × List E) → List (ℕ × List E)
  moved entries ps = map (λ p. (p.0, entries)) ps

  -- one more entry behind the list, with a claim to its place, and positions behind it
  abbrev pub appended : Known E → E → Known E
  appended v x = record { keeps = v.keeps; home = v.home; entries = v.entries ++ x ∷ []; next = v.next; claims = v.claims ++ (length v.entries, x) ∷ []; positions = moved (v.entries ++ x ∷ []) v.positions; pasts = v.pasts }

  -- without its claims
  abbrev pub cut : Known E → Known E
  cut v = record { keeps = v.keeps; home = v.home; entries = v.entries; next = v.next; claims = []; positions = v.positions; pasts = v.pasts }

  -- without its positions
  abbrev pub bare : Known E → Known E
  bare v = record { keeps = v.keeps; home = v.home; entries = v.entries; next = v.next; claims = v.claims; positions = []; pasts = v.pasts }

  -- one more number was given
  abbrev pub numbered : Known E → Known E
  numbered v = record { keeps = v.keeps; home = v.home; entries = v.entries; next = suc v.next; claims = v.claims; positions = v.positions; pasts = v.pasts }

  -- its positions stand at the end
  abbrev pub settled : Known E → Known E
  settled v = record { keeps = v.keeps; home = v.home; entries = v.entries; next = v.next; claims = v.claims; positions = moved v.entries v.positions; pasts = v.pasts }

  -- with another's claims and positions
  abbrev pub taken_in : Known E → Known E → Known E
  taken_in v w = record { keeps = v.keeps; home = v.home; entries = v.entries; next = v.next; claims = v.claims ++ w.claims; positions = v.positions ++ w.positions; pasts = w.pasts ++ v.pasts }

  -- the same where an entry is said
  abbrev pub appended_if : Known E → Option E → Known E
  appended_if v None = v
  appended_if v (Some x) = appended v x

  -- what the slots say that a token holds: the first of them
  abbrev pub said_by : List (ℕ × Slot E) → Option E
  said_by [] = None
  said_by (x ∷ xs) = x.1.value

  -- a token holds the one slot
  abbrev pub HasSlot : List (ℕ × Slot E) → Type 0
  HasSlot held = (x : Slot E) × (held ≡ (0, x) ∷ [])

  -- the first token takes the slot, and has it from then on
  abbrev pub Slotted : Step (Slot E) → Me (Slot E) (Known E) → ℕ → Me (Slot E) (Known E) → Type 0
  Slotted s before found after = (after.0 ≡ keeper [] 0) × HasSlot after.1

-- of: the number of an entry's bearer
module _ {E : Type 0} (of : E → ℕ) where
  -- what was entered for a number, in order
  abbrev pub owned : ℕ → List E → List E
  owned n entries = filter (λ x. of x == n) entries

  -- of one position: its number was given, the list begins with what was seen for it, and nothing was entered for it since
  pub record StoodAt (entries : List E) (next : ℕ) (p : ℕ × List E) : Type 0 where
    pub given : p.0 < next
    pub begins : BeginsWith p.1 entries
    pub own : owned p.0 entries ≡ owned p.0 p.1

  -- so of each
  abbrev pub Stood : List E → ℕ → List (ℕ × List E) → Type 0
  Stood entries next [] = Unit {0}
  Stood entries next (p ∷ ps) = StoodAt entries next p × Stood entries next ps

  -- each entry's number was given
  abbrev pub AllGiven : ℕ → List E → Type 0
  AllGiven next [] = Unit {0}
  AllGiven next (x ∷ xs) = (of x < next) × AllGiven next xs

  -- what the rule says of one token
  pub record Fits (seat next : ℕ) (entries : List E) (homes : List (Maybe (Slot E))) (by : ℕ) (v : Known E) : Type 0 where
    pub whole : v.keeps ≡ true → (by ≡ seat) × (v.entries ≡ entries) × (v.next ≡ next)
    pub home : v.home ≡ true → (by ≡ seat) × (x : Slot E) × (get_elem? homes 0 ≡ some (some x))
    pub claims : Stand entries v.claims
    pub positions : Stood entries next v.positions
    pub pasts : AllBegin entries v.pasts

  -- the rule, of the tokens: there is one list, no two claims have one place, and no two positions one number
  pub record Rules (homes : List (Maybe (Slot E))) (views : List (Known E)) : Type 0 where
    pub seat : ℕ
    pub next : ℕ
    pub entries : List E
    pub fits : (by : ℕ) (v : Known E) → get_elem? views by ≡ some v → Fits seat next entries homes by v
    pub claims : (p : ℕ) → total (λ v. claimed p v.claims) views ≤ 1
    pub numbers : (n : ℕ) → total (λ v. claimed n v.positions) views ≤ 1
    pub given : AllGiven next entries

  abbrev pub Kept : State (Slot E) (Known E) → Type 0
  Kept s = Rules s.homes s.views

  -- what the keeper learns: its claims say what stands there, no two have one place; its positions stood where they say, no two have one number; and which entries are of numbers that were given
  pub record Checked (v : Known E) : Type 0 where
    pub claims : Stand v.entries v.claims
    pub apart : (p : ℕ) → claimed p v.claims ≤ 1
    pub positions : Stood v.entries v.next v.positions
    pub pasts : AllBegin v.entries v.pasts
    pub numbers : (n : ℕ) → claimed n v.positions ≤ 1
    pub given : AllGiven v.next v.entries

  -- a look, which leaves the positions at the end
  abbrev pub Seen : Step (Slot E) → Me (Slot E) (Known E) → ℕ → Me (Slot E) (Known E) → Type 0
  Seen s before found after = (after ≡ (settled before.0, before.1)) × Checked before.0

  -- the same, and then the keeper takes what its slot says
  abbrev pub Appended : Step (Slot E) → Me (Slot E) (Known E) → ℕ → Me (Slot E) (Known E) → Type 0
  Appended s before found after = (after ≡ (appended_if before.0 (said_by before.1), before.1)) × Checked before.0
