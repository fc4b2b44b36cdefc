-- An endpoint's holder, found by the tables.
use Rattle.std.proofs.Common.{◌≡◌, ℕ, ◌+◌, ◌*◌, ◌%◌, ◌<◌, Bool, true, false, List, Option, Some, None, slice_index_or, refl, sym, ap, ◌∙◌}
use Rattle.std.specs.Prelude.{if◌then◌else◌}
use Rattle.std.specs.Option.{option_and_then}
use Rattle.usb_model.specs.Setup.{Setup, endpoint_id, interface_of}
use Rattle.usb_model.specs.World.{holder}
use Rattle.usb_tables.specs.Tables.{owner_at, is_plain, address_of_id, indexed, IsIndex}
use Rattle.usb_tables.specs.Holders.{Holding, IsSetup, owner_of}
use Rattle.usb_tables.proofs.Owners.{nobody_past}
use Rattle.usb_tables.proofs.Endpoints.{plain_parts, indexed_at}
use Rattle.usb_tables.proofs.Setups.{interface-setup}

-- the holder by the table of endpoints
pub holder_is : (v : Holding) (setup : Setup) (cells : List (Option ℕ)) → IsSetup v setup → IsIndex v.configs cells → (d e : ℕ) → d < 4
    → holder setup (λ x i. owner_of v x i) d e ≡ option_and_then (λ i. owner_at v.owners d i) (indexed cells d e)
holder_is v setup cells same index d e lt = ap (λ o. option_and_then (λ i. owner_at v.owners d i) o) (interface-setup v setup same d e ∙ index.each d e lt)

-- and of the endpoint of an id
pub holder_at : (v : Holding) (setup : Setup) (cells : List (Option ℕ)) → IsSetup v setup → IsIndex v.configs cells → (d id : ℕ) → d < 4 → id < 32
    → holder setup (λ x i. owner_of v x i) d (address_of_id id) ≡ option_and_then (λ i. owner_at v.owners d i) (slice_index_or cells (32 * d + id) None)
holder_at v setup cells same index d id lt below =
    holder_is v setup cells same index d (address_of_id id) lt ∙ ap (λ o. option_and_then (λ i. owner_at v.owners d i) o) (indexed_at cells d id below)

-- a held endpoint: its device is one of 4, its address is plain, its interface stands in the table, and that has the owner
pub record IsHeld (cells owners : List (Option ℕ)) (d e h : ℕ) : Type 0 where
  pub device : d < 4
  pub low : e % 128 < 16
  pub i : ℕ
  pub interface : slice_index_or cells (32 * d + endpoint_id e) None ≡ Some i
  pub owner : owner_at owners d i ≡ Some h

-- a holder's device is one of 4
held_below : (owners : List (Option ℕ)) (d h : ℕ) (o : Option ℕ) → option_and_then (λ i. owner_at owners d i) o ≡ Some h → d < 4
held_below owners d h None e = absurd cc
held_below owners d h (Some i) e = nobody_past owners d i h e

-- so is that of a held endpoint
pub held_device : (v : Holding) (setup : Setup) (d e h : ℕ) → holder setup (λ x i. owner_of v x i) d e ≡ Some h → d < 4
held_device v setup d e h held = held_below v.owners d h (interface_of setup d e) held

-- an endpoint that has a holder is held
pub held_by : (v : Holding) (setup : Setup) (cells : List (Option ℕ)) → IsSetup v setup → IsIndex v.configs cells → (d e h : ℕ)
    → holder setup (λ x i. owner_of v x i) d e ≡ Some h → IsHeld cells v.owners d e h
unfolding indexed
held_by v setup cells same index d e h held = by_plain (is_plain e) refl (sym (holder_is v setup cells same index d e below) ∙ held)
  where
    below : d < 4
    below = held_device v setup d e h held

    by_interface : is_plain e ≡ true → (o : Option ℕ) → slice_index_or cells (32 * d + endpoint_id e) None ≡ o → option_and_then (λ i. owner_at v.owners d i) o ≡ Some h → IsHeld cells v.owners d e h
    by_interface t None stands owned = absurd cc
    by_interface t (Some i) stands owned = record { device = below; low = (plain_parts e t).1; i = i; interface = stands; owner = owned }

    by_plain : (b : Bool) → is_plain e ≡ b → option_and_then (λ i. owner_at v.owners d i) (if b then slice_index_or cells (32 * d + endpoint_id e) None else None) ≡ Some h → IsHeld cells v.owners d e h
    by_plain true t owned = by_interface t (slice_index_or cells (32 * d + endpoint_id e) None) refl owned
    by_plain false t owned = absurd cc
