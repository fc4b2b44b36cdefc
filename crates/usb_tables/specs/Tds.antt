-- The transfer descriptors (TDs) that a request is sent as (xHCI 1.2, 4.9.1, 4.11.3).
use Rattle.std.specs.Prelude.{ℕ, ◌≤◌, ◌==◌, Bool, true, false, List, if◌then◌else◌}
use Rattle.usb_model.specs.Buffer.{Buffer, no_memory}
use Rattle.usb_model.specs.declared.request.Body.{Body}
use Rattle.usb_model.specs.declared.request.Body.TheVariants.{In, Out}
use Rattle.usb_model.specs.declared.request.Request.{Request}
use Rattle.usb_model.specs.Limits.{most_bytes}
use Rattle.usb_model.specs.Requests.{length_of}
use Rattle.usb_model.specs.Kept.{is_extra}
use Rattle.usb_model.specs.Stands.{lengths_of}

-- how many bytes; whether an empty packet comes behind whole ones, as a TD of its own; whether they come from the device
pub record Tds : Type 0 where
  pub length : ℕ
  pub extra : Bool
  pub inward : Bool

-- bytes for the host
abbrev pub is_inward : Body → Bool
is_inward (In n) = true
is_inward (Out bytes) = false

-- those of a request at an endpoint of this packet size
abbrev pub tds_of : ℕ → Request → Tds
tds_of size request = record { length = length_of request.body; extra = is_extra size request request.body; inward = is_inward request.body }

-- the lengths of their TRBs
abbrev pub lengths : Tds → List ℕ
lengths t = lengths_of t.extra t.length

-- no more bytes than a transfer may have
abbrev pub IsTds : Tds → Type 0
IsTds t = t.length ≤ most_bytes

-- the room for the bytes that a transfer reads
abbrev pub room_of : Body → ℕ
room_of (In n) = n
room_of (Out bytes) = 0

-- the caller's memory behind a submission: nothing, where it has room for just what is read, since the bytes go there; else as it was
abbrev pub memory_left : Body → Buffer → Buffer
memory_left body memory = if memory.capacity == room_of body then no_memory else memory
