-- Whether a transfer is in its callback, by what is kept of each name.
use Rattle.std.proofs.Common.{◌≡◌, ℕ, zero, suc, ◌<◌, Bool, refl, ap, sym, ◌∙◌, arith, List, [], ◌∷◌, length, Some}
use Rattle.std.specs.Prelude.{nat_eq, slice_index_or, if◌then◌else◌}
use Rattle.std.specs.Map.{lookup}
use Rattle.std.proofs.lemmas.Bool.{eq-eqb}
use Rattle.usb_model.specs.declared.result.InCallback.{InCallback}
use Rattle.usb_tables.specs.HandleState.{Kept}
use Rattle.usb_tables.specs.HandleStates.{IsOut, kept_of}

-- what is kept of the name of a place
there : (v : List Kept) (i : ℕ) (c : Kept) → i < length v → c ≡ slice_index_or v i c → kept_of v i ≡ c
there [] i c below is = absurd (omega (arith, below))
there (x ∷ v) zero c below is = sym is
there (x ∷ v) (suc i) c below is = there v i c (omega (arith, below)) is

-- a name with one has one that can be looked up
pub some_out : (v : List Kept) (i : ℕ) (c : Kept) → i < length v → c ≡ slice_index_or v i c → (c.running ≡ [] → ⊥) → IsOut v
some_out v i c below is some = by_running c.running refl
  where
    by_running : (l : List (ℕ × InCallback)) → c.running ≡ l → IsOut v
    by_running [] none = absurd (some none)
    by_running (x ∷ xs) first = (
      i,
      x.0,
      x.1,
      ap (λ (k : Kept). lookup (nat_eq x.0) k.running) (there v i c below is)
          ∙ ap (lookup (nat_eq x.0)) first
          ∙ ap (λ (b : Bool). if b then Some x.1 else lookup (nat_eq x.0) xs) (eq-eqb x.0 x.0 refl),
    )
