-- An endpoint as the controller keeps it (Endpoint Context; xHCI 1.2, 4.8, 6.2.3).
use Rattle.std.specs.Prelude.{ℕ, ◌+◌, ◌-◌, nat_lt, Bool, false, ◌||◌, List}
use Rattle.usb_model.specs.declared.endpoint.EndpointState.{EndpointState}
use Rattle.usb_model.specs.declared.endpoint.EndpointState.TheVariants.{Running}
use Rattle.usb_trb.specs.declared.kind.Normal.{Normal as NormalTrb}
use Rattle.usb_trb.specs.declared.kind.TrbKind.{TrbKind}
use Rattle.usb_trb.specs.declared.kind.TrbKind.TheVariants.{TransferEvent}
use Rattle.usb_rings.specs.Places.{address_of}
use Rattle.usb_model.specs.Stands.{Stand, stand, length_at}
use Rattle.usb_rings.specs.Line.{places, empty, moved}
use Rattle.usb_rings.specs.View.{Ring, made}
use Rattle.usb_xhc.specs.Ahead.{trbs_ahead, lengths, past}

-- slot and id: its device's slot, and which of its endpoints. size: the bytes of a whole packet. within: the bytes that moved of the TRB at dequeue.
-- begun: whether any of its transfer moved
pub record Context : Type 0 where
  pub slot : ℕ
  pub id : ℕ
  pub size : ℕ
  pub state : EndpointState
  pub within : ℕ
  pub begun : Bool
  pub ring : Ring

-- as it is configured
abbrev pub configured : ℕ → ℕ → ℕ → ℕ → Context
configured slot id size base = record {
  slot = slot;
  id = id;
  size = size;
  state = Running;
  within = 0;
  begun = false;
  ring = record { line = empty base; memory = made base };
}

-- the transfer where it stands: its TRBs from there on
abbrev pub trbs : Context → List NormalTrb
trbs c = trbs_ahead c.ring.line

-- where it stands so many bytes on
abbrev pub stand_by : Context → ℕ → Stand
stand_by c k = stand (lengths (trbs c)) (c.within + k)

-- the event of the TRB there, with what of it didn't move, and this code (xHCI 1.2, 4.11.3.1)
abbrev pub event_by : Context → Stand → ℕ → TrbKind
event_by c s code =
    TransferEvent (address_of places c.ring.line.base (c.ring.line.dequeue + s.index)) (length_at (lengths (trbs c)) s.index - s.within) code c.slot c.id

-- so many bytes moved
abbrev pub gone_on : Context → ℕ → Context
gone_on c k = record c {
  within = (stand_by c k).within;
  begun = c.begun || nat_lt 0 k;
  ring = record c.ring { line = moved c.ring.line (stand_by c k).index };
}

-- the transfer ended, and it goes on to the next
abbrev pub gone_past : Context → Context
gone_past c = record c { within = 0; begun = false; ring = record c.ring { line = past c.ring.line } }
