-- One packet of a transfer in flight, at the controller.
use Rattle.std.specs.Prelude.{◌≡◌, ℕ, ◌+◌, ◌-◌, ◌≤◌, List, Option, Some, None, IfSome, length, slice_get}
use Rattle.std.specs.Option.{option_map_or}
use Rattle.usb_model.specs.declared.request.Body.{Body}
use Rattle.usb_model.specs.declared.request.Body.TheVariants.{In, Out}
use Rattle.usb_device.specs.Pipe.{pipe_at}
use Rattle.usb_xhc.specs.Ahead.{room}
use Rattle.usb_xhc.specs.Context.{trbs}
use Rattle.usb_xhc.specs.Skims.{controller_read}
use Rattle.usb_xhc.specs.Transaction.{offset_by, packet_room, working}
use Rattle.usb_xhc.specs.Controller.{Controller}
use Rattle.usb_xhc.specs.Slots.{DeviceSlot, context_of, read_after, sends}
use Rattle.usb_tables.specs.declared.transfer.Transfer.{Transfer}
use Rattle.usb_tables.specs.TransfersInFlight.{TransfersInFlight, with_item}

-- what is sent of a transfer's body
abbrev pub out_of : ℕ → Body → DeviceSlot → Option (List ℕ)
out_of e (In n) s = None
out_of e (Out bytes) s = sends s e bytes

-- the packets that the controller makes are no longer than the device takes
abbrev pub HasSize : Controller → ℕ → ℕ → Type 0
HasSize k d e = IfSome (slice_get k.slots d) (λ s. IfSome (context_of s e) (λ c. IfSome (working c) (λ _. c.size ≤ (pipe_at s.pipes e).size)))

-- so many bytes reach to the end of the next packet
abbrev pub HasBytes : Controller → ℕ → ℕ → ℕ → Type 0
HasBytes k d e n = IfSome (slice_get k.slots d) (λ s. IfSome (context_of s e) (λ c. IfSome (working c) (λ f. offset_by f.trb c.within + packet_room c ≤ n)))

-- behind so many bytes there is room for the next packet, where there is room for this many in all
abbrev pub HasRoom : Controller → ℕ → ℕ → ℕ → ℕ → Type 0
HasRoom k d e n capacity = IfSome (slice_get k.slots d) (λ s. IfSome (context_of s e) (λ c. IfSome (working c) (λ _. n + packet_room c ≤ capacity)))

-- the bytes read, behind a packet
abbrev pub bytes_for : Controller → ℕ → ℕ → Body → List ℕ → List ℕ
bytes_for k d e (In n) bytes = option_map_or (λ s. read_after s e bytes) (slice_get k.slots d) bytes
bytes_for k d e (Out sent) bytes = bytes

-- so many bytes reach to the end of the TRB at dequeue
abbrev pub HasTrbBytes : Controller → ℕ → ℕ → ℕ → Type 0
HasTrbBytes k d e n = IfSome (slice_get k.slots d) (λ s. IfSome (context_of s e) (λ c. IfSome (working c) (λ f. offset_by f.trb c.within + (f.trb.length - c.within) ≤ n)))

-- behind so many bytes there is room for the rest of the transfer, where there is room for this many in all
abbrev pub HasWholeRoom : Controller → ℕ → ℕ → ℕ → ℕ → Type 0
HasWholeRoom k d e n capacity = IfSome (slice_get k.slots d) (λ s. IfSome (context_of s e) (λ c. IfSome (working c) (λ _. n + room (trbs c) c.within ≤ capacity)))

-- the bytes read, behind so many whole packets in a row
abbrev pub bytes_skimmed : Controller → ℕ → ℕ → ℕ → Body → List ℕ → List ℕ
bytes_skimmed k d e count (In n) bytes = controller_read d e count k bytes
bytes_skimmed k d e count (Out sent) bytes = bytes

module _ {P : Type 0} where
  -- a transfer's bytes serve for the next packet: IN has room for it, OUT has it
  abbrev pub CanServe : Controller → ℕ → ℕ → Body → Transfer P → Type 0
  CanServe k d e (In n) t = HasRoom k d e (length t.bytes.items) t.bytes.capacity
  CanServe k d e (Out bytes) t = HasSize k d e × HasBytes k d e (length bytes)

  -- the same transfer, but for its bytes: those read, in memory that is whose it was, with at least the room that there was
  pub record IsServed (k : Controller) (d e : ℕ) (t served : Transfer P) : Type 0 where
    pub rest : served ≡ record t { bytes = served.bytes }
    pub items : served.bytes.items ≡ bytes_for k d e t.request.body t.bytes.items
    pub room : t.bytes.capacity ≤ served.bytes.capacity
    pub lent : served.bytes.lent ≡ t.bytes.lent

  -- that of this item alone is served
  pub record Serves (old new : TransfersInFlight (Transfer P)) (k : Controller) (d e i : ℕ) (t : Transfer P) : Type 0 where
    pub served : Transfer P
    pub behind : IsServed k d e t served
    pub put : new ≡ with_item old d e i (Some served)

  -- a transfer's bytes serve for whole packets in a row inside a TRB: IN has room for the rest, OUT has the TRB's
  abbrev pub CanSkim : Controller → ℕ → ℕ → Body → Transfer P → Type 0
  CanSkim k d e (In n) t = HasWholeRoom k d e (length t.bytes.items) t.bytes.capacity
  CanSkim k d e (Out bytes) t = HasSize k d e × HasTrbBytes k d e (length bytes)

  -- the same transfer, but for its bytes: those read in so many whole packets, in memory that is whose it was, with at least the room
  -- that there was
  pub record IsSkimmed (k : Controller) (d e count : ℕ) (t skimmed : Transfer P) : Type 0 where
    pub rest : skimmed ≡ record t { bytes = skimmed.bytes }
    pub items : skimmed.bytes.items ≡ bytes_skimmed k d e count t.request.body t.bytes.items
    pub room : t.bytes.capacity ≤ skimmed.bytes.capacity
    pub lent : skimmed.bytes.lent ≡ t.bytes.lent

  -- so many whole packets of this item alone are served
  pub record Skims (old new : TransfersInFlight (Transfer P)) (k : Controller) (d e i count : ℕ) (t : Transfer P) : Type 0 where
    pub skimmed : Transfer P
    pub behind : IsSkimmed k d e count t skimmed
    pub put : new ≡ with_item old d e i (Some skimmed)
