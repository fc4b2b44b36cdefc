-- Names of which no callback runs.
use Rattle.std.proofs.Common.{◌≡◌, ℕ, List, [], ◌∷◌, ◌++◌, None, zero, suc}
use Rattle.usb_plans.specs.PlanRuns.{NameRuns, running_at, running_in}

module _ {P : Type 0} where
  -- none runs of each of these
  abbrev pub NoneRuns : List (NameRuns P) → Type 0
  NoneRuns v = (h n : ℕ) → running_at v h n ≡ None

  -- nor with one more of which none does
  pub none_more : (v : List (NameRuns P)) (x : NameRuns P) → ((n : ℕ) → running_in x n ≡ None) → NoneRuns v → NoneRuns (v ++ x ∷ [])
  none_more [] x none all zero n = none n
  none_more [] x none all (suc h) n = all 0 n
  none_more (y ∷ v) x none all zero n = all 0 n
  none_more (y ∷ v) x none all (suc h) n = none_more v x none (λ k. all (suc k)) h n
