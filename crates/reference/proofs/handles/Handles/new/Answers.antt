-- One more that was never used.
use Rattle.std.proofs.Common.{rules}
use Rattle.usb_model.specs.Machine.{unused}
use Rattle.reference.proofs.Tables.{one_more_same}
use Rattle.reference.proofs.handles.Handles.new.Goals as goal

pub loop-preserved : goal.loop-preserved
loop-preserved c = record {
  count = search rules;
  unused = λ h. rw (c.in_ok-push.ensures.items, c.unused.ensures) (one_more_same unused c.loop.handles.items c.loop.invariant.unused h);
}
