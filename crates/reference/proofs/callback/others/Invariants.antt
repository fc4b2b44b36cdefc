-- What is left so far is what is left of those so far.
use Rattle.std.proofs.Common.{◌≡◌}
use Rattle.usb_model.specs.Machine.Calls.{without}
use Rattle.reference.proofs.callback.others.Given as goal

abbrev pub invariant-loop-x : goal.invariant-loop-x
invariant-loop-x l = l.left ≡ without l.fn.n l.yielded
