-- The scripts of a device, by endpoint id, beside its configuration.
use Rattle.std.specs.Prelude.{◌≡◌, ℕ, ◌≤◌, ◌+◌, ◌==◌, nat_le, Bool, true, false, ◌&&◌, List, [], ◌∷◌, length, count_by, map, Option, Some, None, slice_get}
use Rattle.std.specs.Option.{unwrap_or, option_map_or}
use Rattle.std.specs.List.{find, list_all, range_with_len}
use Rattle.usb_model.specs.declared.response.Response.{Response}
use Rattle.usb_model.specs.declared.setup.Configuration.{Configuration}
use Rattle.usb_model.specs.declared.setup.DeviceSetup.{DeviceSetup}
use Rattle.usb_model.specs.declared.setup.EndpointInfo.{EndpointInfo}
use Rattle.usb_model.specs.Direction.{is_of_direction}
use Rattle.usb_model.specs.Limits.{largest_packet, longest_script}
use Rattle.usb_model.specs.Requests.{is_unsupported}
use Rattle.usb_model.specs.Setup.{endpoint_id, is_in}
use Rattle.usb_descriptors.specs.Table.{IsTable, info_at}
use Rattle.usb_device.specs.Pipe.{Pipe, is_ack, packet_of, pipe_at}
use Rattle.usb_device.specs.Taken.{Taken}

-- what the configuration says of the endpoint of this id
abbrev pub info_by : Configuration → ℕ → Option EndpointInfo
info_by config id = find (λ x. endpoint_id x.address == id) config.endpoints

-- its packet size (USB 2.0, 9.6.6, wMaxPacketSize); 0 where there is no such endpoint
abbrev pub size_by : Configuration → ℕ → ℕ
size_by config id = option_map_or (λ x. x.packet_size) (info_by config id) 0

-- the script of this id; past the last they are empty
abbrev pub script_by : List (List Response) → ℕ → List Response
script_by scripts id = unwrap_or (slice_get scripts id) []

-- an answer whose packet isn't too long
abbrev pub is_short : Response → Bool
is_short answer = nat_le (length (packet_of answer)) largest_packet

-- an answer that an endpoint of this direction may give
abbrev pub is_answer : Bool → Response → Bool
is_answer inward answer = is_of_direction inward answer && is_short answer

-- a script that may stand where the configuration says this
abbrev pub is_script : Option EndpointInfo → List Response → Bool
is_script None script = length script == 0
is_script (Some x) script = nat_le (length script) longest_script && list_all (is_answer (is_in x.address)) script

-- so for each script, from this id on
unfoldable pub are_scripts_from : Configuration → ℕ → List (List Response) → Bool
are_scripts_from config id [] = true
are_scripts_from config id (script ∷ scripts) = is_script (info_by config id) script && are_scripts_from config (id + 1) scripts

-- scripts that the device of this configuration may have
abbrev pub are_scripts : Configuration → List (List Response) → Bool
are_scripts config scripts = are_scripts_from config 0 scripts

-- how many ids the endpoints of a device have
abbrev pub endpoint_ids : ℕ
endpoint_ids = 32

-- a device that can be made: a script for each id of an endpoint, none longer than scripts may be, of answers that the endpoint may give
pub record CanBeMade (d : DeviceSetup) : Type 0 where
  pub all : length d.scripts ≡ endpoint_ids
  pub fit : are_scripts d.config d.scripts ≡ true

-- an endpoint at the beginning of its script
abbrev pub pipe_of : ℕ → List Response → Pipe
pipe_of size script = record { size = size; script = script; left = script; halted = false; taken = [] }

-- the endpoint of this id
abbrev pub pipe_by : Configuration → List (List Response) → ℕ → Pipe
pipe_by config scripts id = pipe_of (size_by config id) (script_by scripts id)

-- the endpoints, by their ids
unfoldable pub pipes_of : Configuration → List (List Response) → List Pipe
pipes_of config scripts = map (pipe_by config scripts) (range_with_len 0 32)

-- room for the packets that the script of this id takes
abbrev pub room_of : Configuration → List (List Response) → ℕ → Taken
room_of config scripts id = record { packets = []; places = count_by is_ack (script_by scripts id); size = size_by config id }

unfoldable pub rooms_of : Configuration → List (List Response) → List Taken
rooms_of config scripts = map (room_of config scripts) (range_with_len 0 32)

-- a device takes packets as long as its configuration says, at each endpoint where transfers can go
abbrev pub Takes : Configuration → List Pipe → Type 0
Takes c pipes = IsTable c.endpoints → (e : ℕ) (z : EndpointInfo) → info_at c e ≡ Some z → is_unsupported z.kind ≡ false → z.packet_size ≤ (pipe_at pipes e).size
