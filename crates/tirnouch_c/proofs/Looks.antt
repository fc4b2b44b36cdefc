-- What is to be done at an endpoint.
use Rattle.std.proofs.Common.{◌≡◌, ℕ, length, Bool, Some, ap, ◌∙◌}
use Rattle.usb_core.specs.Inventory.{halted}
use Rattle.usb_core.specs.Public.{ShowsWorld, does_something, serves}
use Rattle.usb_model.specs.declared.step.Step.TheVariants.{Command, Deliver, Take}
use Rattle.usb_model.specs.Setup.{Setup}
use Rattle.usb_model.specs.World.{World, holder}
use Rattle.tirnouch_c.specs.declared.reads.EndpointView.{EndpointView}
use Rattle.tirnouch_c.specs.declared.session.Session.{Session}
use Rattle.tirnouch_c.specs.Reads.{TellsLook, view_numbers}

-- each part of it is what the core says
pub looked : (dev ep : ℕ) (s : Session) (view : EndpointView) (packet order event outcome is_halted : Bool) (left : ℕ) → view ≡ view_numbers packet order event outcome is_halted left
    → ((setup : Setup) (w : World) → ShowsWorld setup s.core w → packet ≡ serves setup w dev ep)
    → ((setup : Setup) (w : World) → ShowsWorld setup s.core w → order ≡ does_something setup w Command)
    → ((setup : Setup) (w : World) → ShowsWorld setup s.core w → event ≡ does_something setup w Deliver)
    → ((setup : Setup) (w : World) → ShowsWorld setup s.core w → outcome ≡ does_something setup w Take)
    → ((setup : Setup) (w : World) (h : ℕ) → ShowsWorld setup s.core w → holder setup w.claims dev ep ≡ Some h → is_halted ≡ halted (w.endpoints dev ep))
    → ((setup : Setup) (w : World) (h : ℕ) → ShowsWorld setup s.core w → holder setup w.claims dev ep ≡ Some h → left ≡ length (w.endpoints dev ep).script_left)
    → TellsLook dev ep s view
looked dev ep s view packet order event outcome is_halted left view_is packets orders events outcomes halts lefts = record {
  is_halted = is_halted;
  left = left;
  view_is = λ setup w shows.
      view_is ∙ ap (λ (b : Bool). view_numbers b order event outcome is_halted left) (packets setup w shows)
      ∙ ap (λ (b : Bool). view_numbers (serves setup w dev ep) b event outcome is_halted left) (orders setup w shows)
      ∙ ap (λ (b : Bool). view_numbers (serves setup w dev ep) (does_something setup w Command) b outcome is_halted left) (events setup w shows)
      ∙ ap (λ (b : Bool). view_numbers (serves setup w dev ep) (does_something setup w Command) (does_something setup w Deliver) b is_halted left) (outcomes setup w shows);
  held = λ setup w h shows holds. (lefts setup w h shows holds, halts setup w h shows holds);
}
