use Rattle.std.proofs.Common.{◌∙◌, ap}
use Rattle.usb_journal.specs.Timers.{by_name}
use Rattle.usb_journal.proofs.Loops.{ok_more}
use Rattle.usb_journal.proofs.ticks.due_now.Goals as goal

pub returns : goal.returns
returns g c = ok_more c.sorted.result (λ x p setup w s. p ∙ ap by_name (c.deref.ensures.value ∙ c.in_ok-over.ensures setup w s)) c.sorted.ensures
