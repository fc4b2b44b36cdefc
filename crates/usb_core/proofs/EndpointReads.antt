-- How an endpoint stands is read off the parts.
use Rattle.std.proofs.Common.{List, None, Option, Some, [], ap, arith, length, refl, sym, true, false, zero, suc, Bool, ℕ, ◌∙◌, ◌∷◌, ◌≡◌}
use Rattle.std.specs.Prelude.{is_some, slice_get, slice_index_or}
use Rattle.std.specs.Option.{option_map, option_map_or}
use Rattle.usb_model.specs.declared.endpoint.EndpointState.TheVariants.{Running}
use Rattle.usb_model.specs.declared.item.Item.{Item}
use Rattle.usb_model.specs.Endpoint.{is_blank}
use Rattle.usb_model.specs.Setup.{Setup, is_device, packet_size_of}
use Rattle.usb_model.specs.World.{World, holder}
use Rattle.usb_model.specs.Kept.{KeptTransfer, SentErrand}
use Rattle.usb_device.specs.Pipe.{pipe_at}
use Rattle.usb_tables.specs.Outstanding.{sent_at}
use Rattle.usb_tables.specs.TransfersInFlight.{item_at, line_at}
use Rattle.usb_tables.specs.declared.outstanding.Sent.{Sent}
use Rattle.usb_tables.specs.declared.transfer.Transfer.{Transfer as InFlight}
use Rattle.usb_xhc.specs.Context.{Context}
use Rattle.usb_xhc.specs.Slots.{DeviceSlot}
use Rattle.usb_core.specs.Standing.{device_halted_in, in_flight, in_line, state_in}
use Rattle.refine_world.specs.ShownEndpoint.{AllKept, IsKept, IsLive}
use Rattle.refine_core.specs.Handles.{gone_in}
use Rattle.refine_core.specs.State.{AllItems, IsItem, ShowsWorld, State, in_ring}
use Rattle.refine_core.specs.Works.{context_in}
use Rattle.refine_core.proofs.HeldEnds.{bare_state, interface, items, ring_state, shows_end, slot}

module _ {P : Type 0} where
  -- an item
  transfer_kept : (size : ℕ) (name : Option ℕ) (e : ℕ) (x : Option (InFlight P)) (y : KeptTransfer) (z : Item) → IsItem name e x y → IsKept size z y → option_map in_flight x ≡ in_line size (Some z)
  transfer_kept size name e None y z is kept = rw (sym kept.blank ∙ is) refl
  transfer_kept size name e (Some t) y z is kept =
      let live : is_blank z ≡ false = sym kept.blank ∙ is.live in
      let same : IsLive size z y = kept.live live in
      rw live (rw (is.number ∙ same.n) (rw (is.asks_for ∙ same.request) (rw (is.asked ∙ same.ask) (rw (is.read ∙ same.bytes) refl))))

  -- and of each of a line
  transfers_kept : (size : ℕ) (name : Option ℕ) (e : ℕ) (xs : List (Option (InFlight P))) (ys : List KeptTransfer) (zs : List Item) (i : ℕ) → AllItems name e xs ys → AllKept size zs ys
      → option_map in_flight (slice_index_or xs i None) ≡ in_line size (slice_get zs i)
  transfers_kept size name e [] [] [] i all kept = refl
  transfers_kept size name e (x ∷ xs) (y ∷ ys) (z ∷ zs) zero all kept = transfer_kept size name e x y z all.0 kept.0
  transfers_kept size name e (x ∷ xs) (y ∷ ys) (z ∷ zs) (suc i) all kept = transfers_kept size name e xs ys zs i all.1 kept.1
  transfers_kept size name e [] (y ∷ ys) zs i all kept = absurd all
  transfers_kept size name e (x ∷ xs) [] zs i all kept = absurd all
  transfers_kept size name e [] [] (z ∷ zs) i all kept = absurd kept
  transfers_kept size name e (x ∷ xs) (y ∷ ys) [] i all kept = absurd kept

-- what is asked of an errand that is sent is what is asked of the errand
errand_kept : (o : Option SentErrand) → option_map (λ (x : Sent). x.errand) (option_map in_ring o) ≡ option_map (λ (x : SentErrand). x.errand) o
errand_kept None = refl
errand_kept (Some x) = refl

-- where one list has an item, one as long has one too
there_too : {A B : Type 0} (xs : List A) (ys : List B) (i : ℕ) → length ys ≡ length xs → is_some (slice_get xs i) ≡ true → (y : B) × (slice_get ys i ≡ Some y)
there_too [] ys i same some = absurd cc
there_too (x ∷ xs) [] i same some = absurd cc
there_too (x ∷ xs) (y ∷ ys) zero same some = (y, refl)
there_too (x ∷ xs) (y ∷ ys) (suc i) same some = there_too xs ys i (omega (arith, same)) some

module _ {P : Type 0} (setup : Setup) (s : State P) (w : World) (shown : ShowsWorld setup s w) where
  -- whether a device was unplugged
  pub gone_shown : (d : ℕ) → is_device setup d ≡ true → gone_in s.controller d ≡ w.gone d
  gone_shown d device =
      let found = there_too setup s.controller.slots d shown.1.held.slots device in
      ap (λ (o : Option DeviceSlot). option_map_or (λ v. v.gone) o false) found.1 ∙ (shown.1.held.each d found.0 found.1).is_gone ∙ ap (λ (f : ℕ → Bool). f d) shown.2.gone

  module _ (h d e : ℕ) (held : holder setup w.claims d e ≡ Some h) where
    -- the state at the controller
    pub state_shown : state_in s.controller d e ≡ (w.endpoints d e).state
    state_shown = by_context (context_in s.controller d e) refl
      where
        by_context : (o : Option Context) → context_in s.controller d e ≡ o → option_map_or (λ x. x.state) o Running ≡ (w.endpoints d e).state
        by_context None none = sym (bare_state setup s w shown h d e held none)
        by_context (Some x) there = ring_state setup s w shown h d e held x there

    -- the errand
    pub errand_shown : option_map (λ (x : Sent). x.errand) (sent_at s.outstanding d e) ≡ (w.endpoints d e).errand
    errand_shown =
        let its = interface setup s w shown h d e held in
        ap (option_map (λ (x : Sent). x.errand)) (shown.1.ends d e its.0 its.1).errand
        ∙ errand_kept (shown.0.endpoints d e).errand ∙ (shows_end setup s w shown h d e held).errand

    -- the halt at the device
    pub device_halted_shown : device_halted_in s.controller d e ≡ (w.endpoints d e).device_halted
    device_halted_shown =
        ap (λ (o : Option DeviceSlot). option_map_or (λ v. (pipe_at v.pipes e).halted) o false) (slot setup s w shown h d e held).there
        ∙ (slot setup s w shown h d e held).end.pipe.halted ∙ (shows_end setup s w shown h d e held).device_halted

    -- a transfer in its line
    pub transfers_shown : (i : ℕ) → option_map in_flight (item_at s.flights d e i) ≡ in_line (packet_size_of setup d e) (slice_get (w.endpoints d e).line i)
    transfers_shown i =
        transfers_kept (packet_size_of setup d e) (holder setup shown.0.claims d e) e (line_at s.flights d e) (shown.0.endpoints d e).line (w.endpoints d e).line i
        (items setup s w shown h d e held) (shows_end setup s w shown h d e held).kept
