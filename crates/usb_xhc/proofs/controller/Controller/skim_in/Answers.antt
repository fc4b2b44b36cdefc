use Rattle.std.proofs.Common.{◌≡◌, Some, ◌∙◌}
use Rattle.std.specs.Prelude.{slice_get}
use Rattle.usb_xhc.proofs.SlotSkims.{none_sent}
use Rattle.usb_xhc.proofs.ControllerSkims.{left-at, read-each, slot-read, told-each}
use Rattle.usb_xhc.proofs.controller.Controller.skim_in.Given.{Over}
use Rattle.usb_xhc.proofs.controller.Controller.skim_in.Goals as goal

-- the device's slot
at : (g : Over) (c : goal.After-self-2-1 g) → slice_get c.self.inside.slots.items c.args.dev ≡ Some c.in-Some.slot.now
at g c = slot-read c.self.inside.slots.items c.from.result c.args.dev c.in-Some.slot.now (c.from.ensures ∙ c.number.ensures.value) c.in-Some.ensures.item.3.0 c.in-Some.ensures.value

pub returns-clause-whole : goal.returns-clause-whole
returns-clause-whole g c = told-each _ c.args.self.now c.args.dev c.args.ep none_sent c.skim_in.result c.in-Some.slot.now c.self.view_is (at g c) c.skim_in.ensures.whole

pub returns-clause-controller : goal.returns-clause-controller
returns-clause-controller g c =
    left-at _ c.args.self.now c.args.dev c.args.ep c.from.result none_sent c.skim_in.result c.in-Some.slot.now c.skim_in.new.self c.self.view_is (at g c) (c.from.ensures ∙ c.number.ensures.value) c.skim_in.ensures.whole
    c.skim_in.ensures.slot

pub returns-clause-bytes : goal.returns-clause-bytes
returns-clause-bytes g c =
    read-each _ c.args.self.now c.args.dev c.args.ep c.skim_in.result c.in-Some.slot.now c.args.bytes.now.items c.skim_in.new.bytes.items c.self.view_is (at g c) c.skim_in.ensures.whole c.skim_in.ensures.bytes
