-- The news so far are those of the events so far.
use Rattle.std.proofs.Common.{◌≡◌}
use Rattle.usb_model.specs.Machine.{news_at}
use Rattle.usb_model.proofs.effect.news_at.Given as goal

abbrev pub invariant-loop-event : goal.invariant-loop-event
invariant-loop-event l = l.news ≡ news_at l.fn.ep l.yielded
