-- The answers that a recorded transfer of a bulk or an interrupt endpoint stands for, one a packet.
use Rattle.std.specs.Prelude.{ℕ, suc, zero, ◌+◌, ◌-◌, ◌*◌, ◌/◌, ◌%◌, ◌^◌, ◌==◌, ◌||◌, min, nat_lt, Bool, false, List, [], ◌∷◌, ◌++◌, length, take, drop, map, replicate, Option, Some, None, if◌then◌else◌}
use Rattle.std.specs.Option.{option_to_list}
use Rattle.usb_model.specs.declared.response.Response.{Response}
use Rattle.usb_model.specs.declared.response.Response.TheVariants.{Data, Ack, Stall, Broken}
use Rattle.usb_model.specs.Endpoint.Packets.{full_packets}
use Rattle.usb_model.specs.Setup.{is_in}
use Rattle.trace_recorded.specs.declared.transfer.RecordedEnd.{RecordedEnd}
use Rattle.trace_recorded.specs.declared.transfer.RecordedEnd.TheVariants.{Done, Stalled, Failed, TooLong, Withdrawn, Cut}
use Rattle.trace_recorded.specs.declared.transfer.RecordedTransfer.{RecordedTransfer}

-- whether a number is among these
abbrev pub is_one_of : List ℕ → ℕ → Bool
is_one_of [] number = false
is_one_of (n ∷ ns) number = (number == n) || is_one_of ns number

-- how a transfer ended, by the number of an error, without its minus sign (Linux, include/uapi/asm-generic/errno.h, errno-base.h)
abbrev pub end_by : ℕ → RecordedEnd
end_by number =
    if is_one_of (0 ∷ 121 ∷ []) number then Done
    else if is_one_of (32 ∷ []) number then Stalled
    else if is_one_of (71 ∷ 84 ∷ 62 ∷ 70 ∷ 63 ∷ []) number then Failed
    else if is_one_of (75 ∷ []) number then TooLong
    else if is_one_of (2 ∷ 104 ∷ []) number then Withdrawn
    else Cut

-- by a status, 32 bits in two's complement
abbrev pub end_of : ℕ → RecordedEnd
end_of status = end_by ((2 ^ 32 - status) % 2 ^ 32)

-- the first so many packets of this size; behind the bytes they are empty
abbrev pub front_packets : ℕ → ℕ → List ℕ → List (List ℕ)
front_packets size zero bytes = []
front_packets size (suc k) bytes = take size bytes ∷ front_packets size k (drop size bytes)

-- the bytes that were read; those that weren't recorded are zeros
abbrev pub recorded_bytes : RecordedTransfer → List ℕ
recorded_bytes x = take x.moved x.bytes ++ replicate (x.moved - length x.bytes) 0

-- how many packets hold what moved: behind whole packets there is an empty one, where fewer bytes moved than were asked for; no bytes are one empty packet
abbrev pub packets_of : ℕ → ℕ → ℕ → ℕ
packets_of size asked moved = if nat_lt moved asked then suc (moved / size) else suc ((moved - 1) / size)

-- how many packets came; before a fault, or before it was made to end, whole ones
abbrev pub packets_by : RecordedEnd → ℕ → ℕ → ℕ → ℕ
packets_by Done size asked moved = packets_of size asked moved
packets_by _ size asked moved = moved / size

-- the same of a read
abbrev pub packets_read : ℕ → RecordedTransfer → ℕ
packets_read size x = packets_by x.end size x.asked x.moved

-- for how many bytes there was room behind whole packets
abbrev pub room_behind : ℕ → RecordedTransfer → ℕ
room_behind size x = x.asked - x.moved / size * size

-- what ended a read instead of its last packet: a stall, a failure, or a packet that is one byte too long
abbrev pub last_by : RecordedEnd → ℕ → ℕ → Option Response
last_by Stalled size room = Some Stall
last_by Failed size room = Some Broken
last_by TooLong size room = Some (Data (replicate (min room size + 1) 0))
last_by _ size room = None

-- the same of a read
abbrev pub last_read : ℕ → RecordedTransfer → Option Response
last_read size x = last_by x.end size (room_behind size x)

-- the answers of a read
abbrev pub answers_in : ℕ → RecordedTransfer → List Response
answers_in size x = map Data (front_packets size (packets_read size x) (recorded_bytes x)) ++ option_to_list (last_read size x)

-- how many packets of a write were acknowledged: all, or before a fault as many as moved, but not the last
abbrev pub acknowledged_by : RecordedEnd → ℕ → ℕ → ℕ
acknowledged_by Done before_last whole = before_last + 1
acknowledged_by _ before_last whole = min before_last whole

-- the same of a write, whose packets are those of what was asked for
abbrev pub packets_acknowledged : ℕ → RecordedTransfer → ℕ
packets_acknowledged size x = acknowledged_by x.end (full_packets x.zero_packet x.asked size) (x.moved / size)

-- what ended a write instead
abbrev pub last_written : RecordedEnd → Option Response
last_written Stalled = Some Stall
last_written Failed = Some Broken
last_written _ = None

-- the answers of a write
abbrev pub answers_out : ℕ → RecordedTransfer → List Response
answers_out size x = replicate (packets_acknowledged size x) Ack ++ option_to_list (last_written x.end)

-- how many answers stand behind the packets of a read, and of a write
abbrev pub last_reads : RecordedEnd → ℕ
last_reads end = length (option_to_list (last_by end 0 0))

abbrev pub last_writes : RecordedEnd → ℕ
last_writes end = length (option_to_list (last_written end))

-- the answers of a transfer, at an endpoint of this packet size
unfoldable pub answers_of : ℕ → RecordedTransfer → List Response
answers_of size x = if is_in x.ep then answers_in size x else answers_out size x
