-- The endpoints of the ids so far.
use Rattle.std.proofs.Common.{◌≡◌, map}
use Rattle.std.specs.List.{range_with_len}
use Rattle.usb_xhc.specs.Made.{context_for}
use Rattle.usb_xhc.proofs.rings.make_contexts.Given as goal

abbrev pub invariant-loop-id : goal.invariant-loop-id
invariant-loop-id l = l.contexts.items ≡ map (context_for l.slot l.config) (range_with_len 0 l.id)
