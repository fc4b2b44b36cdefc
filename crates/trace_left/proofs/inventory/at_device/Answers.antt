-- Where a device is open.
use Rattle.std.proofs.Common.{◌≡◌, ◌∙◌, ap, subst, sym}
use Rattle.std.specs.Prelude.{IfOk}
use Rattle.trace_left.specs.Gathered.{device_read}
use Rattle.trace_left.proofs.inventory.at_device.Goals as goal

pub returns-in-None : goal.returns-in-None
returns-in-None g c = λ setup w shown. c.new.ensures ∙ ap (device_read setup w c.args.h) (sym c.in-None.is ∙ c.device_of.ensures setup w shown)

pub returns-in-Some : goal.returns-in-Some
returns-in-Some g c = λ setup w shown.
    subst (λ o. IfOk c.at_open_device.result (λ left. left ≡ device_read setup w c.args.h o)) (sym c.in-Some.is ∙ c.device_of.ensures setup w shown) (c.at_open_device.ensures setup w shown)
