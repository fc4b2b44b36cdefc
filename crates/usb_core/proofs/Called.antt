-- Whether a transfer of any name is in its callback.
use Rattle.std.proofs.Common.{◌≡◌, ℕ, Bool, true, false, refl, ap, sym, ◌∙◌, List, [], ◌∷◌, Option, Some, None}
use Rattle.std.specs.Prelude.{◌↔◌, if◌then◌else◌}
use Rattle.proof_model.proofs.Lists.Pieces.{same_name}
use Rattle.usb_model.specs.declared.handle.Handle.{Handle}
use Rattle.usb_model.specs.declared.result.InCallback.{InCallback}
use Rattle.usb_model.specs.Machine.Calls.{callback_of}
use Rattle.usb_model.specs.Setup.{Setup}
use Rattle.usb_model.specs.World.{World}
use Rattle.usb_tables.specs.HandleStates.{IsOut, callback_at}
use Rattle.refine_world.specs.Shows.{Core, Shows}
use Rattle.refine_core.specs.State.{Keeps, State}

-- a transfer is found by its number where there is one
some_there : (l : List InCallback) → (l ≡ [] → ⊥) → (n : ℕ) × (x : InCallback) × (callback_of n l ≡ Some x)
unfolding callback_of
some_there [] some = absurd (some refl)
some_there (x ∷ xs) some = (x.n, x, ap (λ (b : Bool). if b then Some x else callback_of x.n xs) (same_name x.n))

module _ {P : Type 0} (setup : Setup) (w : World) (s : State P) (c : Core) (keeps : Keeps setup s c) (shows : Shows setup w c) where
  -- what is kept of a name's callback
  called : (h n : ℕ) → callback_of n (w.names h).in_callbacks ≡ callback_at s.callers h n
  called h n = ap (λ (f : ℕ → Handle). callback_of n (f h).in_callbacks) (sym shows.names) ∙ (keeps.named h).callback n

  -- some are in their callbacks in the world where some are kept
  pub out_shown : (out : Bool) → (out ≡ true → IsOut s.callers) → (out ≡ false → (h n : ℕ) → callback_at s.callers h n ≡ None) → (out ≡ true) ↔ ((h : ℕ) × ((w.names h).in_callbacks ≡ [] → ⊥))
  unfolding callback_of
  out_shown out some none = (λ is. there (some is), λ is. by_test out refl is)
    where
      there : IsOut s.callers → (h : ℕ) × ((w.names h).in_callbacks ≡ [] → ⊥)
      there is = (
        is.0,
        λ empty.
            let both : ◌≡◌ {A = Option InCallback} None (Some is.2) = ap (callback_of is.1) (sym empty) ∙ called is.0 is.1 ∙ is.3 in
            absurd cc,
      )

      by_test : (b : Bool) → out ≡ b → (h : ℕ) × ((w.names h).in_callbacks ≡ [] → ⊥) → out ≡ true
      by_test true is names = is
      by_test false is names =
          let found = some_there (w.names names.0).in_callbacks names.1 in
          let both : ◌≡◌ {A = Option InCallback} (Some found.1) None = sym found.2 ∙ called names.0 found.0 ∙ none is names.0 found.0 in
          absurd cc
