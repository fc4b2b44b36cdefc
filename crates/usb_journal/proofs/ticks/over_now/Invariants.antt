use Rattle.std.proofs.Common.{◌≡◌, take}
use Rattle.std.specs.List.{filter}
use Rattle.usb_model.specs.Setup.{Setup}
use Rattle.usb_model.specs.World.{World}
use Rattle.usb_core.specs.Public.{ShowsWorld}
use Rattle.usb_journal.specs.Timers.{is_over}
use Rattle.usb_journal.proofs.ticks.over_now.Given as goal

abbrev pub invariant-loop-timer : goal.invariant-loop-timer
invariant-loop-timer g l = (setup : Setup) (w : World) → ShowsWorld setup l.fn.core w → l.over.items ≡ filter (is_over setup w l.fn.moment) (take l.timer-index l.fn.timers)
