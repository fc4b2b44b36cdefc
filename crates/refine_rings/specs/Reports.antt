-- What is told of an endpoint, as core and controller say it.
use Rattle.std.specs.Prelude.{ℕ}
use Rattle.usb_model.specs.declared.reply.Reply.{Reply}
use Rattle.usb_model.specs.declared.reply.Reply.TheVariants.{Nak, Moved, Ended}
use Rattle.usb_trb.specs.declared.kind.TrbKind.{TrbKind}
use Rattle.usb_trb.specs.declared.kind.TrbKind.TheVariants.{TransferEvent, CommandCompletion}
use Rattle.usb_rings.specs.Places.{address_of}
use Rattle.usb_model.specs.Kept.{Telling, Transfer, Completion}
use Rattle.usb_rings.specs.Line.{places}
use Rattle.usb_xhc.specs.declared.packet.PacketResult.{PacketResult}
use Rattle.usb_xhc.specs.declared.packet.PacketResult.TheVariants as packet
use Rattle.usb_xhc.specs.Context.{Context}

-- an event of the event ring; base, commands: where the endpoint's ring and the command ring begin (xHCI 1.2, 6.4.2.1, 6.4.2.2)
abbrev pub event_in : (slot id base commands : ℕ) → Telling → TrbKind
event_in slot id base commands (Transfer place residual code) = TransferEvent (address_of places base place) residual code slot id
event_in slot id base commands (Completion index code) = CommandCompletion (address_of 255 commands index) code slot

-- one of this endpoint
abbrev pub event_of : ℕ → Context → Telling → TrbKind
event_of commands c t = event_in c.slot c.id c.ring.line.base commands t

-- what a packet of the transfer of number n is replied with
abbrev pub reply_of : ℕ → PacketResult → Reply
reply_of n packet.Nak = Nak n
reply_of n (packet.Moved k) = Moved n k
reply_of n (packet.Ended code) = Ended n code
