-- Transactions in a row at one endpoint, none of which ends anything.
use Rattle.std.specs.Prelude.{ℕ, zero, suc, ◌*◌, ◌==◌, ◌&&◌, Bool, true, false, ◌++◌, List, [], length, take, drop, Some, None}
use Rattle.usb_model.specs.declared.response.Response.{Response}
use Rattle.usb_model.specs.declared.response.Response.TheVariants.{Data}
use Rattle.usb_device.specs.Pipe.{Pipe, answer_of, is_ack, packet_of, pipe_after}

-- the endpoint behind so many of them to which no packet is sent
unfoldable pub pipe_behind : ℕ → Pipe → Pipe
pipe_behind zero p = p
pipe_behind (suc k) p = pipe_after None (pipe_behind k p)

-- the bytes of their packets
unfoldable pub read_in : ℕ → Pipe → List ℕ
read_in zero p = []
read_in (suc k) p = read_in k p ++ packet_of (answer_of (pipe_behind k p))

-- whether an answer is a packet of just this size
abbrev pub is_whole : ℕ → Response → Bool
is_whole size (Data packet) = length packet == size
is_whole size answer = false

-- whether each of them is met by such a packet
unfoldable pub are_whole : (size : ℕ) → ℕ → Pipe → Bool
are_whole size zero p = true
are_whole size (suc k) p = are_whole size k p && is_whole size (answer_of (pipe_behind k p))

-- the packet of this number, where bytes are sent so many to a packet
abbrev pub packet_in : (size : ℕ) → List ℕ → ℕ → List ℕ
packet_in size bytes k = take size (drop (k * size) bytes)

-- the endpoint behind so many of them to which these packets are sent
unfoldable pub pipe_given : (size : ℕ) → List ℕ → ℕ → Pipe → Pipe
pipe_given size bytes zero p = p
pipe_given size bytes (suc k) p = pipe_after (Some (packet_in size bytes k)) (pipe_given size bytes k p)

-- whether each of them is taken
unfoldable pub are_taken : (size : ℕ) → List ℕ → ℕ → Pipe → Bool
are_taken size bytes zero p = true
are_taken size bytes (suc k) p = are_taken size bytes k p && is_ack (answer_of (pipe_given size bytes k p))
