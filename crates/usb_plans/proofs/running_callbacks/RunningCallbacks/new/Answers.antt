-- One more name of which none runs.
use Rattle.std.proofs.Common.{◌+◌, ap, ◌∙◌}
use Rattle.std.proofs.lemmas.List.{length_push}
use Rattle.usb_plans.proofs.NoneRuns.{none_more}
use Rattle.usb_plans.proofs.running_callbacks.RunningCallbacks.new.Goals as goal

pub loop-preserved : goal.loop-preserved
loop-preserved g c = record {
  count = rw c.in_ok-push.ensures.items (length_push c.loop.names.items c.new.result ∙ ap (λ n. n + 1) c.loop.invariant.count);
  none = rw c.in_ok-push.ensures.items (none_more c.loop.names.items c.new.result c.new.ensures c.loop.invariant.none);
}
