-- Part by part.
use Rattle.std.proofs.Common.{ap₂}
use Rattle.trace_left.proofs.inventory.read_handle.Goals as goal

pub returns : goal.returns
returns g c = λ setup w shown. ap₂ (λ a b. record { h = c.args.h; at_device = a; callbacks = b }) (c.in_ok-at_device.ensures setup w shown) (c.in_ok-callbacks.ensures setup w shown)
