-- What is kept with a transfer suits the name whose it is.
use Rattle.std.specs.Prelude.{◌≡◌, ℕ, Some}
use Rattle.usb_core.specs.Public.{Carries, Kept, State}
use Rattle.usb_journal.specs.Booked.{Booked}

-- what the lock guards: the book, and how many callers were made
pub record Guarding (P : Type 0) : Type 0 where
  pub book : Booked P
  pub callers : ℕ

-- with each transfer in flight goes what is kept under its name and number, and whatever is kept suits its name
pub record AllSuit {P : Type 0} (Suits : P → ℕ → Type 0) (core : State P) : Type 0 where
  pub kept : Kept P
  pub carries : Carries kept core
  pub suits : (h n : ℕ) (payload : P) → kept h n ≡ Some payload → Suits payload h
