-- What is due to a callback.
use Rattle.std.specs.Prelude.{[]}
use Rattle.usb_model.specs.declared.reply.Reply.{Reply}
use Rattle.usb_model.specs.declared.reply.Reply.TheVariants.{Called}
use Rattle.usb_model.specs.declared.reply.Returned.{Returned}
use Rattle.usb_model.specs.declared.status.Status.TheVariants.{Completed}

-- what a reply tells a callback; of any other there is nothing to tell
abbrev pub told_by : Reply → Returned
told_by (Called r) = r
told_by reply = record { h = 0; n = 0; ep = 0; round = 0; status = Completed; actual = 0; bytes = [] }
