-- The step that is to be made next is made.
use Rattle.std.proofs.Common.{◌≡◌, ℕ, Bool, true, false, Option, Some, None, sym, ap, ◌∙◌, subst, if◌then◌else◌}
use Rattle.usb_core.specs.Public.{ShowsWorld, State, StillCarries, TurnsWorld, does_something}
use Rattle.usb_model.specs.declared.entry.Entry.{Entry}
use Rattle.usb_model.specs.declared.step.Step.{Step}
use Rattle.usb_model.specs.declared.step.Step.TheVariants.{Command, Deliver}
use Rattle.usb_model.specs.Setup.{Setup}
use Rattle.usb_model.specs.World.{World}
use Rattle.tirnouch_c.specs.Settling.{Advances, AdvancesBy, ServesNext, behind_step, is_something, next_packet, next_step}

-- a step that was to be made next was made
pub by_turn : (next : Setup → World → Option Step) (s t : State ℕ) (step : Step) (entry : Entry) → ((setup : Setup) (w : World) → ShowsWorld setup s w → next setup w ≡ Some step) → TurnsWorld s step entry t → StillCarries s t → AdvancesBy next true s t
by_turn next s t step entry is turned carries = record {
  made_is = λ setup w shows. sym (ap is_something (is setup w shows));
  shows = λ setup w shows. subst (λ (o : Option Step). ShowsWorld setup t (behind_step setup w o)) (sym (is setup w shows)) (turned setup w shows).1;
  carries = carries;
}

-- an event is the next
pub event_next : (setup : Setup) (packets : Bool) (w : World) → does_something setup w Deliver ≡ true → next_step setup packets w ≡ Some Deliver
event_next setup packets w event = ap (λ (b : Bool). if b then Some Deliver else (if does_something setup w Command then Some Command else if packets then next_packet setup w else None)) event

-- without one an order is
pub order_next : (setup : Setup) (packets : Bool) (w : World) → does_something setup w Deliver ≡ false → does_something setup w Command ≡ true → next_step setup packets w ≡ Some Command
order_next setup packets w none order =
    ap (λ (b : Bool). if b then Some Deliver else (if does_something setup w Command then Some Command else if packets then next_packet setup w else None)) none
    ∙ ap (λ (b : Bool). if b then Some Command else if packets then next_packet setup w else None) order

-- without either a packet is
pub packet_next : (setup : Setup) (w : World) → does_something setup w Deliver ≡ false → does_something setup w Command ≡ false → next_step setup true w ≡ next_packet setup w
packet_next setup w none no_order =
    ap (λ (b : Bool). if b then Some Deliver else (if does_something setup w Command then Some Command else next_packet setup w)) none
    ∙ ap (λ (b : Bool). if b then Some Command else next_packet setup w) no_order

-- a packet that was to be served is
pub packet_made : (made : Bool) (s t : State ℕ) → ((setup : Setup) (w : World) → ShowsWorld setup s w → next_step setup true w ≡ next_packet setup w) → ServesNext made s t → Advances true made s t
packet_made made s t same serves = record {
  made_is = λ setup w shows. serves.made_is setup w shows ∙ ap is_something (sym (same setup w shows));
  shows = λ setup w shows. subst (λ (o : Option Step). ShowsWorld setup t (behind_step setup w o)) (sym (same setup w shows)) (serves.shows setup w shows);
  carries = serves.carries;
}
