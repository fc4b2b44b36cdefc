-- The results so far.
use Rattle.std.proofs.Common.{◌≡◌, ◌++◌, map, take}
use Rattle.usb_model.specs.Setup.{Setup}
use Rattle.usb_model.specs.World.{World}
use Rattle.usb_core.specs.Public.{ShowsWorld}
use Rattle.trace_left.specs.Gathered.{result_of}
use Rattle.trace_left.proofs.gather.add_results.Given as goal

abbrev pub invariant-loop-i : goal.invariant-loop-i
invariant-loop-i g l = (setup : Setup) (w : World) → ShowsWorld setup l.fn.core w → l.left.items ≡ l.initial.left.items ++ map result_of (take l.i w.results)
