-- What `usb_workers` and `usb_library` say of replies, calls and rest, in the words of `trace_threads`.
use Rattle.std.proofs.Common.{◌≡◌, refl}
use Rattle.usb_model.specs.declared.reply.Reply.{Reply}
use Rattle.usb_model.specs.declared.reply.Reply.TheVariants.{Done, Number, Refused, Idle, Nak, Moved, Ended, Ran, Finished, Paused, Settled, Called}
use Rattle.usb_model.specs.Setup.{Setup}
use Rattle.usb_model.specs.World.{World}
use Rattle.usb_library.specs.Calls as library
use Rattle.usb_workers.specs.Rounds as workers
use Rattle.trace_threads.specs.AtRest.{IsAtRest}
use Rattle.trace_threads.specs.Callbacks.{is_called}
use Rattle.trace_threads.specs.Verdicts.{is_accepted}

pub called : (r : Reply) → is_called r ≡ workers.is_called r
called Done = refl
called (Number n) = refl
called (Refused why) = refl
called Idle = refl
called (Nak n) = refl
called (Moved n bytes) = refl
called (Ended n code) = refl
called (Ran ep errand ok) = refl
called (Finished n) = refl
called (Paused n) = refl
called (Settled ep errand ok) = refl
called (Called r) = refl

pub accepted : (r : Reply) → is_accepted r ≡ workers.is_accepted r
accepted Done = refl
accepted (Number n) = refl
accepted (Refused why) = refl
accepted Idle = refl
accepted (Nak n) = refl
accepted (Moved n bytes) = refl
accepted (Ended n code) = refl
accepted (Ran ep errand ok) = refl
accepted (Finished n) = refl
accepted (Paused n) = refl
accepted (Settled ep errand ok) = refl
accepted (Called r) = refl

pub at_rest : (setup : Setup) (w : World) → library.IsAtRest setup w → IsAtRest setup w
at_rest setup w rest = record { packets = rest.packets; orders = rest.orders; events = rest.events; results = rest.results; callbacks = rest.callbacks }
