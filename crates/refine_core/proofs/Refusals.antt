-- A call is refused for the first of its tests that holds, or does its work.
use Rattle.std.proofs.Common.{◌≡◌, ℕ, Bool, true, false, refl, ap, sym, subst, List, [], ◌∷◌, Option, Some, None}
use Rattle.std.specs.Prelude.{if◌then◌else◌}
use Rattle.usb_model.specs.declared.entry.Entry.{Entry}
use Rattle.usb_model.specs.declared.refused.Refused.{Refused as Why}
use Rattle.usb_model.specs.declared.reply.Reply.TheVariants.{Refused}
use Rattle.usb_model.specs.Setup.{Setup}
use Rattle.refine_world.specs.Shows.{Core}
use Rattle.refine_world.specs.Steps.{Stepped}
use Rattle.refine_world.specs.Calls.{refuses, unless}
use Rattle.refine_core.specs.Handles.{first_why, says}
use Rattle.refine_core.specs.State.{Keeps, State}
use Rattle.refine_core.specs.Steps.{Is}

-- for this
unless_some : (c : Core) (h : ℕ) (xs : List (Bool × Why)) (rest : Stepped) (why : Why) → first_why xs ≡ Some why → unless c h xs rest ≡ refuses c h why
unless_some c h [] rest why is = absurd cc
unless_some c h (x ∷ xs) rest why is = by_test x.0 is (λ later. unless_some c h xs rest why later)
  where
    by_test : (b : Bool) → (if b then Some x.1 else first_why xs) ≡ Some why → (first_why xs ≡ Some why → unless c h xs rest ≡ refuses c h why) → (if b then refuses c h x.1 else unless c h xs rest) ≡ refuses c h why
    by_test true is later =
        let same : x.1 ≡ why = cc in
        ap (refuses c h) same
    by_test false is later = later is

-- for nothing
unless_none : (c : Core) (h : ℕ) (xs : List (Bool × Why)) (rest : Stepped) → first_why xs ≡ None → unless c h xs rest ≡ rest
unless_none c h [] rest is = refl
unless_none c h (x ∷ xs) rest is = by_test x.0 is (λ later. unless_none c h xs rest later)
  where
    by_test : (b : Bool) → ◌≡◌ {A = Option Why} (if b then Some x.1 else first_why xs) None → (first_why xs ≡ None → unless c h xs rest ≡ rest) → (if b then refuses c h x.1 else unless c h xs rest) ≡ rest
    by_test true is later = absurd cc
    by_test false is later = later is

module _ {P : Type 0} where
  -- a call that is refused
  pub refused_is : (setup : Setup) (s : State P) (c : Core) (h : ℕ) (xs : List (Bool × Why)) (rest : Stepped) (why : Why) → Keeps setup s c → first_why xs ≡ Some why → Is setup (unless c h xs rest) (says h (Refused why)) s
  refused_is setup s c h xs rest why keeps is = subst (λ (t : Stepped). Is setup t (says h (Refused why)) s) (sym (unless_some c h xs rest why is)) (refl, keeps)

  -- one that isn't
  pub accepted_is : (setup : Setup) (s : State P) (c : Core) (h : ℕ) (xs : List (Bool × Why)) (rest : Stepped) (entry : Entry) → first_why xs ≡ None → Is setup rest entry s → Is setup (unless c h xs rest) entry s
  accepted_is setup s c h xs rest entry none is = subst (λ (t : Stepped). Is setup t entry s) (sym (unless_none c h xs rest none)) is
