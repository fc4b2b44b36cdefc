-- The list so far has the pieces so far behind what it was.
use Rattle.std.proofs.Common.{◌≡◌, ◌++◌}
use Rattle.usb_model.specs.World.Shared.{tagged}
use Rattle.usb_model.proofs.shared.Sequence+Tagged+T.join.Given as goal

abbrev pub invariant-loop-piece : goal.invariant-loop-piece
invariant-loop-piece g l = l.self ≡ l.initial.self ++ tagged l.fn.h l.yielded
