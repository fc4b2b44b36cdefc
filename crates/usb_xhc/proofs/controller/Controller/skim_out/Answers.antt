use Rattle.std.proofs.Common.{◌≡◌, Some, ◌∙◌}
use Rattle.std.specs.Prelude.{slice_get}
use Rattle.usb_xhc.specs.Slots.{sends}
use Rattle.usb_xhc.proofs.ControllerSkims.{left-at, slot-read, told-each}
use Rattle.usb_xhc.proofs.controller.Controller.skim_out.Given.{Over}
use Rattle.usb_xhc.proofs.controller.Controller.skim_out.Goals as goal

-- the device's slot
at : (g : Over) (c : goal.After-self-2-1 g) → slice_get c.self.inside.slots.items c.args.dev ≡ Some c.in-Some.slot.now
at g c = slot-read c.self.inside.slots.items c.from.result c.args.dev c.in-Some.slot.now (c.from.ensures ∙ c.number.ensures.value) c.in-Some.ensures.item.3.0 c.in-Some.ensures.value

pub returns-clause-whole : goal.returns-clause-whole
returns-clause-whole g c = told-each _ c.args.self.now c.args.dev c.args.ep (λ s. sends s c.args.ep c.args.bytes.now) c.skim_out.result c.in-Some.slot.now c.self.view_is (at g c) c.skim_out.ensures.whole

pub returns-clause-controller : goal.returns-clause-controller
returns-clause-controller g c =
    left-at _ c.args.self.now c.args.dev c.args.ep c.from.result (λ s. sends s c.args.ep c.args.bytes.now) c.skim_out.result c.in-Some.slot.now c.skim_out.new.self c.self.view_is (at g c) (c.from.ensures ∙ c.number.ensures.value) c.skim_out.ensures.whole
    c.skim_out.ensures.slot
