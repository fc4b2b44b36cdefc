-- A name's device changes, and interfaces are given back: what a core then keeps.
use Rattle.std.proofs.Common.{◌≡◌, ℕ, Bool, true, false, refl, ap, sym, subst, ◌∙◌, Option, Some, None, ◌⊎◌, inl, inr}
use Rattle.std.specs.Prelude.{◌==◌, ◌&&◌, if◌then◌else◌}
use Rattle.std.specs.Option.{option_and_then}
use Rattle.std.proofs.lemmas.Bool.{eqb-true}
use Rattle.usb_model.specs.declared.handle.Handle.{Handle}
use Rattle.usb_model.specs.Setup.{Setup, interface_of}
use Rattle.usb_model.specs.World.{Claims, World, holder, is_its}
use Rattle.usb_model.specs.Kept.{KeptEndpoint}
use Rattle.usb_tables.specs.Holders.{Holding, device_of}
use Rattle.refine_world.specs.Shows.{Core, Shows}
use Rattle.refine_world.proofs.Links.{known}
use Rattle.refine_core.specs.Handles.{IsLeft, NameRests, StaysHeld, StaysLeft}
use Rattle.refine_core.specs.State.{Keeps, State}

-- whose it is
pub its_is : (h : ℕ) (o : Option ℕ) → is_its h o ≡ true → o ≡ Some h
its_is h None its = absurd cc
its_is h (Some g) its = ap (λ (n : ℕ). Some n) (eqb-true g h its)

-- the names, where one has another device
pub named_after : (v : Holding) (names : ℕ → Handle) (before : ℕ → Option ℕ) (h : ℕ) (o : Option ℕ) → ((g : ℕ) → (names g).device ≡ before g) → ((g : ℕ) → device_of v g ≡ (if h == g then o else before g))
    → (g : ℕ) → NameRests v g (names g) (if h == g then record (names h) { device = o } else names g)
named_after v names before h o was devices g = by_test (h == g) refl (devices g)
  where
    by_test : (b : Bool) → (h == g) ≡ b → device_of v g ≡ (if b then o else before g) → NameRests v g (names g) (if b then record (names h) { device = o } else names g)
    by_test true same is = record { device = sym is; number = ap (λ (n : ℕ). (names n).next_number) (eqb-true h g same); callbacks = ap (λ (n : ℕ). (names n).in_callbacks) (eqb-true h g same) }
    by_test false same is = record { device = was g ∙ sym is; number = refl; callbacks = refl }

-- the names, where none has another device
pub named_still : (v : Holding) (names : ℕ → Handle) (h : ℕ) → ((g : ℕ) → (names g).device ≡ device_of v g) → (g : ℕ) → NameRests v g (names g) (if h == g then names h else names g)
named_still v names h is g = by_test (h == g) refl
  where
    by_test : (b : Bool) → (h == g) ≡ b → NameRests v g (names g) (if b then names h else names g)
    by_test true same = subst (λ (n : ℕ). NameRests v g (names g) (names n)) (sym (eqb-true h g same)) (record { device = is g; number = refl; callbacks = refl })
    by_test false same = record { device = is g; number = refl; callbacks = refl }

-- an endpoint that is given back has nothing left
pub freed_end : (setup : Setup) (c after : Core) (h d e i : ℕ) → after.endpoints d e ≡ c.endpoints d e → (t : Bool) → after.claims d i ≡ (if t && is_its h (c.claims d i) then None else c.claims d i) → interface_of setup d e ≡ Some i
    → (t ≡ true → holder setup c.claims d e ≡ Some h → IsLeft (c.endpoints d e)) → StaysHeld setup c after d e ⊎ StaysLeft c after d e
freed_end setup c after h d e i same t claimed there quiet = by_test t refl (is_its h (c.claims d i)) refl
  where
    holder_by : (f : Claims) → holder setup f d e ≡ f d i
    holder_by f = ap (λ (o : Option ℕ). option_and_then (λ k. f d k) o) there

    stays : (a b : Bool) → t ≡ a → is_its h (c.claims d i) ≡ b → (if a && b then None else c.claims d i) ≡ c.claims d i → StaysHeld setup c after d e ⊎ StaysLeft c after d e
    stays a b is its kept = inl (record {
      endpoint = same;
      holder = holder_by after.claims ∙ claimed ∙ ap (λ (x : Bool). if x && is_its h (c.claims d i) then None else c.claims d i) is ∙ ap (λ (x : Bool). if a && x then None else c.claims d i) its ∙ kept ∙ sym (holder_by c.claims);
    })

    by_test : (a : Bool) → t ≡ a → (b : Bool) → is_its h (c.claims d i) ≡ b → StaysHeld setup c after d e ⊎ StaysLeft c after d e
    by_test true is true its =
        let left : IsLeft (c.endpoints d e) = quiet is (holder_by c.claims ∙ its_is h (c.claims d i) its) in
        inr (record { was = left; is = subst (λ (b : KeptEndpoint). IsLeft b) (sym same) left })
    by_test true is false its = stays true false is its refl
    by_test false is b its = stays false b is its refl

-- the device of a name that holds an endpoint
pub holder_device : {P : Type 0} (setup : Setup) (w : World) (s : State P) (c : Core) (h d e : ℕ) → Keeps setup s c → Shows setup w c → holder setup c.claims d e ≡ Some h → (c.names h).device ≡ Some d
holder_device setup w s c h d e keeps shows holds =
    ap (λ (f : ℕ → Handle). (f h).device) shows.names ∙ (known setup w c shows keeps.fine h d e (ap (λ (f : Claims). holder setup f d e) (sym shows.claims) ∙ holds)).device
