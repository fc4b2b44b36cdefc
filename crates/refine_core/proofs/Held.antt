-- Who holds an endpoint.
use Rattle.std.proofs.Common.{◌≡◌, ℕ, refl, sym, ◌∙◌, Option, Some, None}
use Rattle.std.specs.Option.{option_and_then}
use Rattle.usb_model.specs.Setup.{Setup, interface_of}
use Rattle.usb_model.specs.World.{Claims, holder}
use Rattle.usb_tables.specs.Holders.{owner_of}
use Rattle.refine_world.specs.Shows.{Core}
use Rattle.refine_core.specs.State.{Keeps, State}
use Rattle.refine_core.specs.Works.{IsAt, IsHolder}

-- claims that are the same, one by one, have the same holders
pub holder_same : (setup : Setup) (f g : Claims) (d e : ℕ) → ((dev i : ℕ) → f dev i ≡ g dev i) → holder setup f d e ≡ holder setup g d e
holder_same setup f g d e same = by_interface (interface_of setup d e)
  where
    by_interface : (o : Option ℕ) → option_and_then (λ i. f d i) o ≡ option_and_then (λ i. g d i) o
    by_interface None = refl
    by_interface (Some i) = same d i

-- an endpoint that is held is of an interface
pub held_interface : (setup : Setup) (f : Claims) (d e h : ℕ) → holder setup f d e ≡ Some h → (i : ℕ) × (interface_of setup d e ≡ Some i)
held_interface setup f d e h held = by_interface (interface_of setup d e) refl held
  where
    by_interface : (o : Option ℕ) → interface_of setup d e ≡ o → option_and_then (λ i. f d i) o ≡ Some h → (i : ℕ) × (interface_of setup d e ≡ Some i)
    by_interface None is other = absurd cc
    by_interface (Some i) is other = (i, is)

module _ {P : Type 0} where
  -- who holds an endpoint of the core that is kept
  pub holder_is : (setup : Setup) (s : State P) (c : Core) (d e : ℕ) (o : Option ℕ) → Keeps setup s c → IsHolder s d e o → holder setup c.claims d e ≡ o
  holder_is setup s c d e o keeps is = holder_same setup c.claims (λ dev i. owner_of s.claims dev i) d e keeps.claimed ∙ sym (is setup keeps.set)

  -- an endpoint that a name holds
  pub is_at : (setup : Setup) (s : State P) (c : Core) (h d e : ℕ) → Keeps setup s c → IsHolder s d e (Some h) → IsAt setup s c h d e
  is_at setup s c h d e keeps is =
      let held : holder setup c.claims d e ≡ Some h = holder_is setup s c d e (Some h) keeps is in
      let found = held_interface setup c.claims d e h held in
      record { keeps = keeps; interface = found.0; there = found.1; holds = held }
