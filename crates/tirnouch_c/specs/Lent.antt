-- Memory that C lends, on its way into a transfer and back.
use Rattle.std.specs.Prelude.{◌≡◌, ℕ, ℤ, pos, Bool, true, false, Option, Some, None}
use Rattle.usb_core.specs.declared.results.Taken.{Taken}
use Rattle.tirnouch_c.specs.declared.lent_memory.LentMemory.{LentMemory}
use Rattle.usb_model.specs.Buffer.{Buffer}

-- what C lent goes back to it; what is the library's doesn't
abbrev pub GoesIf : Bool → Buffer → (old new : LentMemory) → Type 0
GoesIf true buffer old new = (new.bytes ≡ buffer.items) × (new.len ≡ buffer.capacity)
GoesIf false buffer old new = new ≡ old

abbrev pub GoesInto : Buffer → (old new : LentMemory) → Type 0
GoesInto buffer old new = GoesIf buffer.lent buffer old new

-- where the bytes of a result are: in the memory that C lent, which it has back; or they are still to be fetched
abbrev pub BytesGo : Taken ℕ → Option (Taken ℕ) → (old new : LentMemory) → Type 0
BytesGo x None old new = new.bytes ≡ x.returned.bytes
BytesGo x (Some y) old new = (y ≡ x) × (new ≡ old)

-- of memory that was lent with a submission: accepted, the library has it; refused, C has as much as before
abbrev pub Lends : ℤ → (old new : LentMemory) → Type 0
Lends answer old new = (answer ≡ pos 0 → new.len ≡ 0) × ((answer ≡ pos 0 → ⊥) → new.len ≡ old.len)
