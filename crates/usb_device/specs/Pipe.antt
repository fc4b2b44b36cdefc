-- One endpoint as its device keeps it (USB 2.0, 8.4.5).
use Rattle.std.specs.Prelude.{◌≡◌, ℕ, ◌||◌, nat_le, nat_lt, Bool, true, false, List, [], ◌∷◌, ◌++◌, length, drop, Option, slice_get, if◌then◌else◌}
use Rattle.std.specs.Option.{option_to_list, unwrap_or}
use Rattle.std.specs.List.{list_all}
use Rattle.usb_model.specs.declared.response.Response.{Response}
use Rattle.usb_model.specs.declared.response.Response.TheVariants as response
use Rattle.usb_model.specs.Direction.{is_of_direction}
use Rattle.usb_model.specs.Setup.{endpoint_id, is_in}
use Rattle.usb_device.specs.declared.device.Act.{Act}
use Rattle.usb_device.specs.declared.device.Act.TheVariants as act

-- the most bytes of a packet that it takes, its script, what is left of it, whether it is halted, and the packets that it took
pub record Pipe : Type 0 where
  pub size : ℕ
  pub script : List Response
  pub left : List Response
  pub halted : Bool
  pub taken : List (List ℕ)

-- an endpoint that isn't there
abbrev pub no_pipe : Pipe
no_pipe = record { size = 0; script = []; left = []; halted = false; taken = [] }

-- the endpoint of this address, among those by their ids
abbrev pub pipe_at : List Pipe → ℕ → Pipe
pipe_at pipes ep = unwrap_or (slice_get pipes (endpoint_id ep)) no_pipe

-- the first answer; behind the last a packet isn't ready
abbrev pub first_of : List Response → Response
first_of [] = response.Nak
first_of (x ∷ xs) = x

-- what it answers now
abbrev pub answer_of : Pipe → Response
answer_of p = if p.halted then response.Stall else first_of p.left

abbrev pub stalls : Response → Bool
stalls response.Stall = true
stalls _ = false

abbrev pub is_ack : Response → Bool
is_ack response.Ack = true
is_ack _ = false

-- the packets that are taken by this answer
abbrev pub taken_by : Response → Option (List ℕ) → List (List ℕ)
taken_by answer out = if is_ack answer then option_to_list out else []

-- the endpoint after it answered, where the packet `out` was sent to it
abbrev pub pipe_after : Option (List ℕ) → Pipe → Pipe
pipe_after out p =
    if p.halted then p
    else record p { left = drop 1 p.left; halted = stalls (first_of p.left); taken = p.taken ++ taken_by (first_of p.left) out }

-- how it met the transaction
abbrev pub act_of : Response → Act
act_of (response.Data packet) = act.Data (length packet)
act_of response.Ack = act.Ack
act_of response.Nak = act.Nak
act_of response.Stall = act.Stall
act_of response.Broken = act.Broken

-- the packet of an answer, where there is one
abbrev pub packet_of : Response → List ℕ
packet_of (response.Data packet) = packet
packet_of _ = []

-- a buffer after an answer: a packet that fits stands at its front
abbrev pub buffer_after : Response → List ℕ → List ℕ
buffer_after (response.Data packet) buf = if nat_lt (length buf) (length packet) then buf else packet ++ drop (length packet) buf
buffer_after response.Ack buf = buf
buffer_after response.Nak buf = buf
buffer_after response.Stall buf = buf
buffer_after response.Broken buf = buf

-- the bytes after an answer, where there is room for so many more: a packet that fits joins them
abbrev pub bytes_after : Response → ℕ → List ℕ → List ℕ
bytes_after (response.Data packet) room bytes = if nat_lt room (length packet) then bytes else bytes ++ packet
bytes_after response.Ack room bytes = bytes
bytes_after response.Nak room bytes = bytes
bytes_after response.Stall room bytes = bytes
bytes_after response.Broken room bytes = bytes

-- the bytes of the packet that was given, if they fit
abbrev pub count_within : Act → ℕ → ℕ
count_within (act.Data count) room = if nat_le count room then count else 0
count_within act.Ack room = 0
count_within act.Nak room = 0
count_within act.Stall room = 0
count_within act.Broken room = 0

-- at the beginning of its script
abbrev pub rewound : Pipe → Pipe
rewound p = record p { left = p.script; halted = false; taken = [] }

-- no longer halted
abbrev pub cleared : Pipe → Pipe
cleared p = record p { halted = false }

-- it won't answer that a packet isn't ready, or its script says so
abbrev pub is_ready : Pipe → Bool
is_ready p = p.halted || nat_lt 0 (length p.left)

-- a place for each endpoint id, and no answer that its direction doesn't have
pub record IsLawful (pipes : List Pipe) : Type 0 where
  pub all : length pipes ≡ 32
  pub fit : (ep : ℕ) → list_all (is_of_direction (is_in ep)) (pipe_at pipes ep).script ≡ true
