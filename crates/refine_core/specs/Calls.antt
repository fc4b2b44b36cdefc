-- What a step leaves where memory is refused, and what it says where a result goes out to its callback.
use Rattle.std.specs.Prelude.{Option, Some, None}
use Rattle.usb_model.specs.declared.entry.Entry.{Entry}
use Rattle.usb_model.specs.declared.reply.Reply.TheVariants.{Called, Idle}
use Rattle.usb_model.specs.declared.reply.Returned.{Returned}
use Rattle.usb_model.specs.declared.result.TransferResult.{TransferResult}
use Rattle.usb_model.specs.declared.shared.Tagged.{Tagged}
use Rattle.usb_model.specs.Setup.{Setup}
use Rattle.refine_world.specs.Shows.{Core}
use Rattle.refine_core.specs.State.{Keeps, State}

-- each core that the old parts keep the new ones keep: nothing changed that anybody sees
abbrev pub Stays : {P : Type 0} → State P → State P → Type 0
Stays {P} old new = (setup : Setup) (c : Core) → Keeps setup old c → Keeps setup new c

-- what the callback of a result is given
abbrev pub returned_of : Tagged TransferResult → Returned
returned_of t = record { h = t.name; n = t.piece.n; ep = t.piece.request.ep; round = t.piece.round; status = t.piece.status; actual = t.piece.actual; bytes = t.piece.bytes }

-- a callback is called with this, if a result waits: nobody's where none does
abbrev pub called_entry : Option Returned → Entry
called_entry None = record { owner = None; reply = Idle }
called_entry (Some r) = record { owner = Some r.h; reply = Called r }
