-- Which transfer can be asked to end, and what the order of a Stop stands on then.
use Rattle.std.proofs.Common.{◌≡◌, ℕ, ◌<◌, Bool, true, false, not, refl, ap, ap₂, sym, ◌∙◌, arith, List, length, Option, Some, None}
use Rattle.std.specs.Prelude.{IsSome, is_some, ◌&&◌, ◌||◌, ◌==◌, slice_get, slice_set}
use Rattle.std.specs.Option.{option_map_or}
use Rattle.std.proofs.lemmas.Bool.{and_parts, eqb-true}
use Rattle.usb_model.specs.declared.item.Ask.{Ask}
use Rattle.usb_model.specs.declared.request.Request.{Request}
use Rattle.usb_model.specs.Requests.{is_unsupported}
use Rattle.usb_model.specs.Setup.{Setup, interface_of, kind_of}
use Rattle.usb_model.specs.World.{World}
use Rattle.usb_model.specs.Kept.{KeptTransfer}
use Rattle.usb_xhc.specs.Context.{Context}
use Rattle.usb_tables.specs.declared.transfer.Transfer.{Transfer as InFlight}
use Rattle.usb_tables.specs.TransfersInFlight.{item_at}
use Rattle.refine_world.specs.Calls.{is_kept_it}
use Rattle.refine_world.specs.Shows.{Core, Shows}
use Rattle.refine_world.proofs.Bounds.{few_everywhere}
use Rattle.refine_world.proofs.Numbers.{numbers_once}
use Rattle.refine_core.specs.State.{Keeps, State}
use Rattle.refine_core.specs.Steps.{CanAsk, CanPost, IsInLine}
use Rattle.refine_core.specs.Works.{Asks, context_in, with_kept}
use Rattle.refine_core.proofs.Held.{held_interface}
use Rattle.refine_core.proofs.Rings.{IsSlotOf, slot_of}
use Rattle.refine_core.proofs.Transfers.{live_at}

-- a transfer that is one of a number is in progress
pub its_live : (n : ℕ) (y : KeptTransfer) → is_kept_it n y ≡ true → y.blank ≡ false
its_live n y it = by_blank y.blank (and_parts (y.n == n) (not y.blank) it).1
  where
    by_blank : (b : Bool) → not b ≡ true → b ≡ false
    by_blank true is = absurd cc
    by_blank false is = refl

module _ {P : Type 0} where
  -- an endpoint with a transfer in its line is one where transfers can go
  pub line_supported : (setup : Setup) (s : State P) (c : Core) (d e i item : ℕ) (y : KeptTransfer) → Keeps setup s c → interface_of setup d e ≡ Some i → slice_get (c.endpoints d e).line item ≡ Some y → is_unsupported (kind_of setup d e) ≡ false
  line_supported setup s c d e i item y keeps at there = by_context (context_in s.controller d e) (slot_of setup s.controller c d e i keeps.held at)
    where
      by_context : (o : Option Context) → IsSlotOf setup s.controller c d e o → is_unsupported (kind_of setup d e) ≡ false
      by_context None slot =
          let none : slice_get (c.endpoints d e).line item ≡ None = ap (λ (l : List KeptTransfer). slice_get l item) slot.ring.line in
          let both : Some y ≡ None = sym there ∙ none in
          absurd cc
      by_context (Some x) slot = slot.ring.supported

  -- few orders wait
  pub few_orders : (setup : Setup) (w : World) (s : State P) (c : Core) → Keeps setup s c → Shows setup w c → length c.orders < 254
  few_orders setup w s c keeps shows = omega (arith, (few_everywhere setup w c shows keeps.fine).1, keeps.bounded)

  -- a name's transfer that is in progress can be asked
  pub can_ask : (setup : Setup) (w : World) (s : State P) (c : Core) (h n d e item : ℕ) → Keeps setup s c → Shows setup w c → IsInLine setup c h n d e item → CanAsk s d e item
  can_ask setup w s c h n d e item keeps shows is =
      let interface = held_interface setup c.claims d e h is.holds in
      record {
        can = record {
          setup = setup;
          core = c;
          name = h;
          at = record { keeps = keeps; interface = interface.0; there = interface.1; holds = is.holds };
          supported = line_supported setup s c d e interface.0 item is.kept keeps interface.1 is.there;
          room = few_orders setup w s c keeps shows;
        };
        kept = is.kept;
        there = is.there;
        live = its_live n is.kept is.its;
      }

  -- it is in flight
  pub can_ask_item : (s : State P) (d e item : ℕ) → CanAsk s d e item → IsSome (item_at s.flights d e item)
  can_ask_item s d e item can = ap is_some (live_at can.can.setup s can.can.core can.can.name d e item can.kept can.can.at can.there can.live).found

  -- when it was asked, an order can be posted
  pub can_post_asked : (old mid : State P) (d e item : ℕ) (why : Ask) (can : CanAsk old d e item) → Asks old mid can.can.name d e item why → CanPost mid d e
  can_post_asked old mid d e item why can asks = record {
    setup = can.can.setup;
    core = with_kept d e (record (can.can.core.endpoints d e) { line = slice_set (can.can.core.endpoints d e).line item (record can.kept { ask = Some why }) }) can.can.core;
    name = can.can.name;
    at = record { keeps = asks can.can.setup can.can.core can.kept can.can.at can.there can.live; interface = can.can.at.interface; there = can.can.at.there; holds = can.can.at.holds };
    supported = can.can.supported;
    room = can.can.room;
  }

  -- no other of the line has its number
  pub asked_once : (setup : Setup) (w : World) (s : State P) (c : Core) (h n d e item : ℕ) → Keeps setup s c → Shows setup w c → (is : IsInLine setup c h n d e item)
      → (j : ℕ) (z : KeptTransfer) → slice_get (c.endpoints d e).line j ≡ Some z → is_kept_it n z ≡ true → item ≡ j
  asked_once setup w s c h n d e item keeps shows is j z there its =
      let mine : is.kept.n ≡ n = eqb-true is.kept.n n (and_parts (is.kept.n == n) (not is.kept.blank) is.its).0 in
      let other : z.n ≡ n = eqb-true z.n n (and_parts (z.n == n) (not z.blank) its).0 in
      numbers_once setup keeps.fine w c shows h d e item j is.kept z is.holds is.there there (its_live n is.kept is.its) (its_live n z its) (mine ∙ sym other)

  -- whether it was asked before, or has no time, is told by the transfer in flight
  pub askable_is : (setup : Setup) (s : State P) (c : Core) (h n d e item : ℕ) (timed : Bool) → Keeps setup s c → (is : IsInLine setup c h n d e item)
      → option_map_or (λ t. not (is_some t.ask) && not (timed && (t.request.timeout == 0))) (item_at s.flights d e item) false ≡ not (is_some is.kept.ask || (timed && (is.kept.request.timeout == 0)))
  askable_is setup s c h n d e item timed keeps is =
      let interface = held_interface setup c.claims d e h is.holds in
      let flies = live_at setup s c h d e item is.kept (record { keeps = keeps; interface = interface.0; there = interface.1; holds = is.holds }) is.there (its_live n is.kept is.its) in
      ap (λ o. option_map_or (λ (t : InFlight P). not (is_some t.ask) && not (timed && (t.request.timeout == 0))) o false) flies.found
      ∙ ap₂ (λ (a : Option Ask) (r : Request). not (is_some a) && not (timed && (r.timeout == 0))) flies.same.asked flies.same.asks_for
      ∙ neither (is_some is.kept.ask) (timed && (is.kept.request.timeout == 0))
    where
      neither : (a b : Bool) → (not a && not b) ≡ not (a || b)
      neither true b = refl
      neither false b = refl
