-- What callers keep with their transfers (payloads): it stays with each from its submission on, until it goes out to its callback.
use Rattle.std.specs.Prelude.{◌≡◌, ℕ, ◌<◌, ◌==◌, ◌&&◌, List, Option, Some, slice_get, if◌then◌else◌}
use Rattle.usb_tables.specs.HandleState.{Kept as HandleState}
use Rattle.usb_tables.specs.HandleStates.{number_of}
use Rattle.usb_tables.specs.declared.transfer.Transfer.{Transfer as InFlight}
use Rattle.usb_tables.specs.TransfersInFlight.{EndedOf, TransfersInFlight, item_at}
use Rattle.refine_core.specs.State.{State}

-- what is kept under a name and a number
abbrev pub Kept : Type 0 → Type 0
Kept P = ℕ → ℕ → Option P

module _ {P : Type 0} where
  -- with this under a name and a number
  abbrev pub kept_with : Kept P → (h n : ℕ) → P → Kept P
  kept_with kept h n payload g m = if (h == g) && (n == m) then Some payload else kept g m

  -- of the name, the number and the payload of each transfer in flight this holds, in a line or ended
  pub record EachHas (R : ℕ → ℕ → P → Type 0) (f : TransfersInFlight (InFlight P)) : Type 0 where
    pub in_line : (d e item : ℕ) (t : InFlight P) → item_at f d e item ≡ Some t → R t.name t.n t.payload
    pub ended : (i : ℕ) (x : EndedOf (InFlight P)) → slice_get f.ended i ≡ Some x → R x.transfer.name x.transfer.n x.transfer.payload

  -- it is what is kept under a name and a number, and the number was given
  pub record IsKept (kept : Kept P) (callers : List HandleState) (h n : ℕ) (payload : P) : Type 0 where
    pub its : kept h n ≡ Some payload
    pub given : n < number_of callers h

  -- each transfer in flight has with it what is kept under its name and number
  abbrev pub Carries : Kept P → State P → Type 0
  Carries kept s = EachHas (IsKept kept s.callers) s.flights

  -- whatever is kept with the transfers in flight is kept with them after it
  abbrev pub StillCarries : State P → State P → Type 0
  StillCarries old new = (kept : Kept P) → Carries kept old → Carries kept new

  -- and this under a name and a number
  abbrev pub CarriesMore : (h n : ℕ) → P → State P → State P → Type 0
  CarriesMore h n payload old new = (kept : Kept P) → Carries kept old → Carries (kept_with kept h n payload) new
