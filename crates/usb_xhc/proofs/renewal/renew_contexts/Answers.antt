-- One endpoint more.
use Rattle.std.specs.Prelude.{option_map}
use Rattle.usb_xhc.specs.Slots.{as_made}
use Rattle.usb_xhc.proofs.Renewed.{change_at}
use Rattle.usb_xhc.proofs.renewal.renew_contexts.Goals as goal

pub loop-context-preserved : goal.loop-context-preserved
loop-context-preserved c = change_at (option_map as_made) c.args.contexts.now c.loop-context.contexts c.loop-context.context-index c.context-item.result c.renew_context.new.context c.loop-context-test.true c.loop-context.invariant c.renew_context.ensures
