-- Those of lower ids are made new.
use Rattle.std.proofs.Common.{◌≡◌}
use Rattle.std.specs.Prelude.{option_map}
use Rattle.usb_xhc.specs.Slots.{as_made}
use Rattle.usb_xhc.proofs.Renewed.{changed_to}
use Rattle.usb_xhc.proofs.renewal.renew_contexts.Given as goal

abbrev pub invariant-loop-context : goal.invariant-loop-context
invariant-loop-context l = l.contexts ≡ changed_to (option_map as_made) l.context-index l.fn.contexts
