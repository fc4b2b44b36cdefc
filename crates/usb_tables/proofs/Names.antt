-- Names of which nothing is kept.
use Rattle.std.proofs.Common.{◌≡◌, ℕ, List, [], ◌∷◌, ◌++◌, None, zero, suc}
use Rattle.usb_tables.specs.HandleState.{Kept, callback_in, results_in, callbacks_in}
use Rattle.usb_tables.specs.HandleStates.{kept_of}

-- nothing is kept of a name that can be looked up
pub record IsBlank (c : Kept) : Type 0 where
  pub number : c.next_number ≡ 0
  pub callbacks : (n : ℕ) → callback_in c n ≡ None
  pub results : (id : ℕ) → results_in c id ≡ 0
  pub counts : (id : ℕ) → callbacks_in c id ≡ 0

-- where one more is blank, each is
pub blank_pushed : (v : List Kept) (c : Kept) → IsBlank c → ((h : ℕ) → IsBlank (kept_of v h)) → (h : ℕ) → IsBlank (kept_of (v ++ c ∷ []) h)
blank_pushed [] c blank all zero = blank
blank_pushed [] c blank all (suc h) = all 0
blank_pushed (x ∷ v) c blank all zero = all 0
blank_pushed (x ∷ v) c blank all (suc h) = blank_pushed v c blank (λ k. all (suc k)) h
