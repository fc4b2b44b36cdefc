-- What is kept of one name's transfers.
use Rattle.std.specs.Prelude.{◌≡◌, ℕ, ◌==◌, ◌<◌, nat_eq, Bool, false, List, [], Option, Some, None, count_by, slice_index_or}
use Rattle.std.specs.Map.{lookup, values_of}
use Rattle.usb_model.specs.declared.result.InCallback.{InCallback}
use Rattle.usb_model.specs.Setup.{endpoint_id}

-- the number of the next transfer; by endpoint id how many results wait, and how many transfers are in callbacks; those
-- transfers by number; and for how many more of them there is room
pub record Kept : Type 0 where
  pub next_number : ℕ
  pub results : List ℕ
  pub callbacks : List ℕ
  pub running : List (ℕ × InCallback)
  pub room : ℕ

-- a name of which nothing is kept
abbrev pub nothing : Kept
nothing = record { next_number = 0; results = []; callbacks = []; running = []; room = 0 }

-- the transfer of this number that is in its callback
abbrev pub callback_in : Kept → ℕ → Option InCallback
callback_in c n = lookup (nat_eq n) c.running

-- how many results of this endpoint id wait
abbrev pub results_in : Kept → ℕ → ℕ
results_in c id = slice_index_or c.results id 0

-- how many transfers of this endpoint id are in callbacks
abbrev pub callbacks_in : Kept → ℕ → ℕ
callbacks_in c id = slice_index_or c.callbacks id 0

-- whether it is of the endpoint of this id
abbrev pub is_of : ℕ → InCallback → Bool
is_of id x = endpoint_id x.request.ep == id

-- the same, where there is one
abbrev pub is_one_of : ℕ → Option InCallback → Bool
is_one_of id None = false
is_one_of id (Some x) = is_of id x

-- how many of these are of the endpoint of this id
abbrev pub running_of : ℕ → List (ℕ × InCallback) → ℕ
running_of id entries = count_by (is_of id) (values_of entries)

-- each count is the number of transfers that are counted
pub record AreCounted (counts : List ℕ) (entries : List (ℕ × InCallback)) : Type 0 where
  pub counted : (id : ℕ) → id < 32 → slice_index_or counts id 0 ≡ running_of id entries
