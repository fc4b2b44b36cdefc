-- What handles haven't finished is read off the parts.
use Rattle.std.proofs.Common.{List, None, Option, Some, [], ap, ap₂, length, refl, sym, false, zero, suc, Bool, ℕ, ◌∙◌, ◌∷◌, ◌≡◌}
use Rattle.std.specs.Prelude.{slice_get, slice_index_or, ◌||◌, if◌then◌else◌}
use Rattle.std.specs.Option.{option_map, option_map_or}
use Rattle.usb_model.specs.declared.item.Item.{Item}
use Rattle.usb_model.specs.Endpoint.{is_blank}
use Rattle.usb_model.specs.Setup.{Setup, packet_size_of}
use Rattle.usb_model.specs.World.{World, holder}
use Rattle.usb_model.specs.Kept.{KeptTransfer}
use Rattle.usb_device.specs.Pipe.{pipe_at}
use Rattle.usb_tables.specs.TransfersInFlight.{EndedOf, item_at, line_at}
use Rattle.usb_tables.specs.declared.transfer.Transfer.{Transfer as InFlight}
use Rattle.usb_xhc.specs.Context.{Context}
use Rattle.usb_xhc.specs.Slots.{DeviceSlot}
use Rattle.usb_core.specs.StepInventory.{answers_in, halted_in, is_halted_state, stalled_in}
use Rattle.refine_world.specs.ShownEndpoint.{AllKept, IsKept}
use Rattle.refine_core.specs.State.{AllItems, IsItem, ShowsWorld, State, result_of}
use Rattle.refine_core.specs.Works.{context_in}
use Rattle.refine_core.proofs.HeldEnds.{bare_state, items, ring_state, shows_end, slot}
use Rattle.refine_core.proofs.Inventory.{result_shown}
use Rattle.usb_core.specs.Inventory.{halted, number_in, waiting_result}

module _ {P : Type 0} where
  -- the number of an item
  number_kept : (size : ℕ) (name : Option ℕ) (e : ℕ) (x : Option (InFlight P)) (y : KeptTransfer) (z : Item) → IsItem name e x y → IsKept size z y → option_map (λ t. t.n) x ≡ number_in (Some z)
  number_kept size name e None y z is kept = ap (λ (b : Bool). if b then None else Some z.n) (sym is ∙ kept.blank)
  number_kept size name e (Some t) y z is kept =
      let live : is_blank z ≡ false = sym kept.blank ∙ is.live in
      ap (λ n. Some n) (is.number ∙ (kept.live live).n) ∙ ap (λ (b : Bool). if b then None else Some z.n) (sym live)

  -- and of each of a line
  numbers_kept : (size : ℕ) (name : Option ℕ) (e : ℕ) (xs : List (Option (InFlight P))) (ys : List KeptTransfer) (zs : List Item) (i : ℕ) → AllItems name e xs ys → AllKept size zs ys
      → option_map (λ t. t.n) (slice_index_or xs i None) ≡ number_in (slice_get zs i)
  numbers_kept size name e [] [] [] i all kept = refl
  numbers_kept size name e (x ∷ xs) (y ∷ ys) (z ∷ zs) zero all kept = number_kept size name e x y z all.0 kept.0
  numbers_kept size name e (x ∷ xs) (y ∷ ys) (z ∷ zs) (suc i) all kept = numbers_kept size name e xs ys zs i all.1 kept.1
  numbers_kept size name e [] (y ∷ ys) zs i all kept = absurd all
  numbers_kept size name e (x ∷ xs) [] zs i all kept = absurd all
  numbers_kept size name e [] [] (z ∷ zs) i all kept = absurd kept
  numbers_kept size name e (x ∷ xs) (y ∷ ys) [] i all kept = absurd kept

module _ {P : Type 0} (setup : Setup) (s : State P) (w : World) (shown : ShowsWorld setup s w) where
  -- a result that waits
  pub waiting_shown : (i : ℕ) → option_map (λ x. waiting_result (result_of x)) (slice_get s.flights.ended i) ≡ option_map waiting_result (slice_get w.results i)
  waiting_shown i = by_ended (slice_get s.flights.ended i) ∙ ap (option_map waiting_result) (result_shown setup s w shown i)
    where
      by_ended : (o : Option (EndedOf (InFlight P))) → option_map (λ x. waiting_result (result_of x)) o ≡ option_map waiting_result (option_map result_of o)
      by_ended None = refl
      by_ended (Some x) = refl

  module _ (h d e : ℕ) (held : holder setup w.claims d e ≡ Some h) where
    -- the number of a transfer in a line
    pub numbers_shown : (i : ℕ) → option_map (λ t. t.n) (item_at s.flights d e i) ≡ number_in (slice_get (w.endpoints d e).line i)
    numbers_shown i =
        numbers_kept (packet_size_of setup d e) (holder setup shown.0.claims d e) e (line_at s.flights d e) (shown.0.endpoints d e).line (w.endpoints d e).line i
        (items setup s w shown h d e held) (shows_end setup s w shown h d e held).kept

    -- the halt at the controller
    stalled_shown : stalled_in s.controller d e ≡ is_halted_state (w.endpoints d e).state
    stalled_shown = by_context (context_in s.controller d e) refl
      where
        by_context : (o : Option Context) → context_in s.controller d e ≡ o → option_map_or (λ x. is_halted_state x.state) o false ≡ is_halted_state (w.endpoints d e).state
        by_context None none = sym (ap is_halted_state (bare_state setup s w shown h d e held none))
        by_context (Some x) there = ap is_halted_state (ring_state setup s w shown h d e held x there)

    -- a halt
    pub halted_shown : halted_in s.controller d e ≡ halted (w.endpoints d e)
    halted_shown =
        ap (λ (o : Option DeviceSlot). option_map_or (λ v. (pipe_at v.pipes e).halted || stalled_in s.controller d e) o false) (slot setup s w shown h d e held).there
        ∙ ap₂ (λ a b. a || b) ((slot setup s w shown h d e held).end.pipe.halted ∙ (shows_end setup s w shown h d e held).device_halted) stalled_shown

    -- how many answers a device has left
    pub answers_shown : answers_in s.controller d e ≡ length (w.endpoints d e).script_left
    answers_shown =
        ap (λ (o : Option DeviceSlot). option_map_or (λ v. length (pipe_at v.pipes e).left) o 0) (slot setup s w shown h d e held).there
        ∙ ap length ((slot setup s w shown h d e held).end.pipe.left ∙ (shows_end setup s w shown h d e held).script_left)
