-- What is kept by name.
use Rattle.std.specs.Prelude.{◌≡◌, ℕ, ◌<◌, ◌==◌, ◌&&◌, Bool, List, Option, Some, slice_index_or}
use Rattle.usb_model.specs.declared.result.InCallback.{InCallback}
use Rattle.usb_tables.specs.HandleState.{Kept, nothing, callback_in, results_in, callbacks_in}

-- what is kept of a name; nothing from 64 on
abbrev pub kept_of : List Kept → ℕ → Kept
kept_of v h = slice_index_or v h nothing

-- the number of a name's next transfer
abbrev pub number_of : List Kept → ℕ → ℕ
number_of v h = (kept_of v h).next_number

-- the name's transfer of this number that is in its callback
abbrev pub callback_at : List Kept → ℕ → ℕ → Option InCallback
callback_at v h n = callback_in (kept_of v h) n

-- how many of the name's results wait at this endpoint id
abbrev pub results_at : List Kept → ℕ → ℕ → ℕ
results_at v h id = results_in (kept_of v h) id

-- how many of the name's transfers are in callbacks at this endpoint id
abbrev pub callbacks_at : List Kept → ℕ → ℕ → ℕ
callbacks_at v h id = callbacks_in (kept_of v h) id

-- for how many more of the name's callbacks there is room
abbrev pub room_of : List Kept → ℕ → ℕ
room_of v h = (kept_of v h).room

-- there is room for one more
abbrev pub has_room : List Kept → ℕ → Type 0
has_room v h = 0 < room_of v h

-- some name's transfer is in its callback
abbrev pub IsOut : List Kept → Type 0
IsOut v = (h : ℕ) × (n : ℕ) × (x : InCallback) × (callback_at v h n ≡ Some x)

-- whether two pairs are the same: a name, with a number or an endpoint id
abbrev pub is_there : ℕ → ℕ → ℕ → ℕ → Bool
is_there h n g k = (h == g) && (n == k)

-- each name's next number is as before
abbrev pub SameNumbers : List Kept → List Kept → Type 0
SameNumbers v w = (g : ℕ) → number_of w g ≡ number_of v g

-- the transfers in callbacks are as before
abbrev pub SameCallbacks : List Kept → List Kept → Type 0
SameCallbacks v w = (g k : ℕ) → callback_at w g k ≡ callback_at v g k

-- the counts of results are as before
abbrev pub SameResults : List Kept → List Kept → Type 0
SameResults v w = (g id : ℕ) → results_at w g id ≡ results_at v g id

-- the counts of callbacks are as before
abbrev pub SameCounts : List Kept → List Kept → Type 0
SameCounts v w = (g id : ℕ) → callbacks_at w g id ≡ callbacks_at v g id

-- the rooms are as before
abbrev pub SameRooms : List Kept → List Kept → Type 0
SameRooms v w = (g : ℕ) → room_of w g ≡ room_of v g
