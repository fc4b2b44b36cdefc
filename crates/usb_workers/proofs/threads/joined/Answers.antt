use Rattle.usb_workers.proofs.Homes.{each_none, each_push_mapped}
use Rattle.usb_workers.proofs.threads.joined.Goals as goal

pub loop-thread-init : goal.loop-thread-init
loop-thread-init g c = each_none _ c.args.homes.items c.requires

pub loop-thread-preserved : goal.loop-thread-preserved
loop-thread-preserved g c = rw c.in_ok-push.ensures.items (each_push_mapped _ _ c.loop-thread.yielded c.loop-thread.homes.items c.in-Some.thread c.join.result c.loop-thread.invariant c.join.ensures)
