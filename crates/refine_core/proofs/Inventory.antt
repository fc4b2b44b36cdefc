-- Who holds what, and how much waits, in the world that the parts show.
use Rattle.std.proofs.Common.{List, Option, ap, length, sym, ℕ, ◌∙◌, ◌≡◌}
use Rattle.std.specs.Prelude.{slice_get}
use Rattle.std.specs.Option.{option_map}
use Rattle.std.proofs.lemmas.List.{length-map}
use Rattle.std.proofs.lemmas.Option.{slice_get-map}
use Rattle.usb_model.specs.declared.handle.Handle.{Handle}
use Rattle.usb_model.specs.declared.result.TransferResult.{TransferResult}
use Rattle.usb_model.specs.declared.setup.Configuration.{Configuration}
use Rattle.usb_model.specs.declared.setup.DeviceSetup.{DeviceSetup}
use Rattle.usb_model.specs.declared.shared.Tagged.{Tagged}
use Rattle.usb_model.specs.Machine.Calls.{callback_of}
use Rattle.usb_model.specs.Setup.{Setup}
use Rattle.usb_model.specs.World.{Claims, World, holder}
use Rattle.usb_tables.specs.Holders.{device_of, owner_of}
use Rattle.usb_tables.specs.HandleStates.{callback_at, number_of}
use Rattle.refine_world.specs.Shows.{news_of, order_of, ring_event, ring_order}
use Rattle.refine_rings.specs.Holds.{event_trb}
use Rattle.refine_core.specs.State.{ShowsWorld, State, result_of}
use Rattle.refine_core.specs.Works.{IsHolder}
use Rattle.refine_core.proofs.Held.{holder_same}
use Rattle.refine_core.proofs.Posts.{as_many_orders}

module _ {P : Type 0} (setup : Setup) (s : State P) (w : World) (shown : ShowsWorld setup s w) where
  -- the device that a name has open
  pub device_shown : (h : ℕ) → device_of s.claims h ≡ (w.names h).device
  device_shown h = sym (shown.1.named h).device ∙ ap (λ (f : ℕ → Handle). (f h).device) shown.2.names

  -- the name that holds an interface
  pub owner_shown : (d i : ℕ) → owner_of s.claims d i ≡ w.claims d i
  owner_shown d i = sym (shown.1.claimed d i) ∙ ap (λ (f : Claims). f d i) shown.2.claims

  -- and an endpoint
  pub holder_shown : (d e : ℕ) (o : Option ℕ) → IsHolder s d e o → o ≡ holder setup w.claims d e
  holder_shown d e o is = is setup shown.1.set ∙ holder_same setup (λ dev i. owner_of s.claims dev i) w.claims d e owner_shown

  -- a device's configuration
  pub config_shown : (d : ℕ) → slice_get s.claims.configs d ≡ option_map (λ (x : DeviceSetup). x.config) (slice_get setup d)
  config_shown d = ap (λ (l : List Configuration). slice_get l d) (sym shown.1.set) ∙ slice_get-map (λ (x : DeviceSetup). x.config) setup d

  -- the number of a name's next transfer
  pub number_shown : (h : ℕ) → number_of s.callers h ≡ (w.names h).next_number
  number_shown h = sym (shown.1.named h).number ∙ ap (λ (f : ℕ → Handle). (f h).next_number) shown.2.names

  -- a name's transfer in its callback
  pub callback_shown : (h n : ℕ) → callback_at s.callers h n ≡ callback_of n (w.names h).in_callbacks
  callback_shown h n = sym ((shown.1.named h).callback n) ∙ ap (λ (f : ℕ → Handle). callback_of n (f h).in_callbacks) shown.2.names

  -- a result that waits
  pub result_shown : (i : ℕ) → option_map result_of (slice_get s.flights.ended i) ≡ slice_get w.results i
  result_shown i = sym (slice_get-map result_of s.flights.ended i) ∙ ap (λ (l : List (Tagged TransferResult)). slice_get l i) (sym shown.1.ended ∙ shown.2.results)

  -- as many orders wait as the world has
  pub orders_shown : length s.controller.commands.waits ≡ length w.orders
  orders_shown =
      as_many_orders shown.0.endpoints shown.0.orders s.controller.commands.waits shown.1.held.ordered
      ∙ ap length shown.2.orders_kept ∙ length-map shown.2.orders ring_order ∙ sym (ap length shown.2.orders_shown ∙ length-map shown.2.orders order_of)

  -- and as many events
  pub events_shown : length s.controller.events.waits ≡ length w.news
  events_shown =
      ap length shown.1.held.told ∙ length-map shown.0.events (event_trb s.controller.commands.memory.base)
      ∙ ap length shown.2.news_kept ∙ length-map shown.2.news ring_event ∙ sym (ap length shown.2.news_shown ∙ length-map shown.2.news news_of)
