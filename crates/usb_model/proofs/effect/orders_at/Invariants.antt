-- The orders so far are those of the errands so far.
use Rattle.std.proofs.Common.{◌≡◌}
use Rattle.usb_model.specs.Machine.{orders_at}
use Rattle.usb_model.proofs.effect.orders_at.Given as goal

abbrev pub invariant-loop-errand : goal.invariant-loop-errand
invariant-loop-errand l = l.orders ≡ orders_at l.fn.ep l.yielded
