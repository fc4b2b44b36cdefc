-- What contracts see of receipts and positions.
use Rattle.std.specs.Prelude.{ℕ, ◌==◌, List, [], ◌∷◌, length, map, suc, None}
use Rattle.std.specs.List.{filter}
use Rattle.atomic_table.specs.Seated.{TableId}
use Rattle.usb_model.specs.declared.reply.Reply.TheVariants.{Idle}
use Rattle.usb_model.specs.declared.step.Step.TheVariants.{Command}
use Rattle.usb_recorder.specs.declared.place.Place.{Place}

-- the name of no log
abbrev pub no_table : TableId
no_table = record { words = 0; slots = 0; views_name = 0; atom = 0; block = 0; offset = 0; slot_names = [] }

-- for whom a place was made
abbrev pub caller_of : Place → ℕ
caller_of p = p.caller

-- the places of a journal that were made for the caller of this number, in order
abbrev pub places_of : ℕ → List Place → List Place
places_of n journal = filter (λ p. p.caller == n) journal

-- a position: the number of its bearer, what the journal began with when it was last moved, how many places that is, and which of them are its bearer's
pub record Positioned : Type 0 where
  pub number : ℕ
  pub seen : List Place
  pub position : ℕ
  pub own : List Place

-- the position of the bearer of this number where the journal began so
abbrev pub positioned : ℕ → List Place → Positioned
positioned n seen = record { number = n; seen = seen; position = length seen; own = places_of n seen }

-- what was seen by the first of these
abbrev pub seen_by : List (ℕ × List Place) → List Place
seen_by [] = []
seen_by (p ∷ ps) = p.1

-- the first of what was seen once
abbrev pub first_of : List (List Place) → List Place
first_of [] = []
first_of (p ∷ ps) = p

-- a log: its places, and the recorder that was told them
pub record Logged (J : Type 0) : Type 0 where
  pub journal : List Place
  pub recorder : J

-- a receipt: the place's number, and what stands there
pub record Receipted : Type 0 where
  pub place : ℕ
  pub entry : Place

-- what a claim of nothing says
abbrev pub nothing : Place
nothing = record { step = Command; caller = 0; entry = record { owner = None; reply = Idle }; moment = 0 }

-- what stands at the place of the first claim
abbrev pub told : List (ℕ × Place) → Place
told [] = nothing
told (c ∷ cs) = c.1

-- the claims of these receipts
abbrev pub claims_of : List Receipted → List (ℕ × Place)
claims_of rs = map (λ r. (r.place, r.entry)) rs

-- receipts for these entries, at consecutive places from this one on
abbrev pub receipts_from : ℕ → List Place → List Receipted
receipts_from n [] = []
receipts_from n (p ∷ ps) = record { place = n; entry = p } ∷ receipts_from (suc n) ps
