use Rattle.std.proofs.Common.{◌≡◌, ◌++◌}
use Rattle.usb_model.proofs.share.Share.append.Given as goal

abbrev pub invariant-loop-answer : goal.invariant-loop-answer
invariant-loop-answer l = l.self ≡ l.initial.self ++ l.yielded
