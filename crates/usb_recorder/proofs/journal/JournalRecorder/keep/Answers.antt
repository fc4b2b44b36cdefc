use Rattle.std.proofs.Common.{arith}
use Rattle.usb_recorder.proofs.journal.JournalRecorder.keep.Goals as goal

pub returns-in-Some-of-clause-room : goal.returns-in-Some-of-clause-room
returns-in-Some-of-clause-room c = λ places bytes has. let after = c.keep_short.ensures.room places bytes has in (after.0, omega (arith, after.1))
