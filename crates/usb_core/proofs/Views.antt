-- The parts as contracts see them.
use Rattle.std.proofs.Common.{List, Option}
use Rattle.usb_tables.specs.Holders.{Holding}
use Rattle.usb_tables.specs.declared.transfer.Transfer.{Transfer as InFlight}
use Rattle.usb_tables.specs.declared.outstanding.Sent.{Sent}
use Rattle.usb_xhc.specs.Controller.{Controller}
use Rattle.usb_tables.specs.TransfersInFlight.{TransfersInFlight}
use Rattle.usb_tables.specs.HandleState.{Kept as HandleState}
use Rattle.refine_core.specs.State.{State}

-- the record of them
abbrev pub parts : {P : Type 0} → Holding → Controller → TransfersInFlight (InFlight P) → List HandleState → List (Option Sent) → State P
parts claims controller flights callers outstanding = record { claims = claims; controller = controller; flights = flights; callers = callers; outstanding = outstanding }
