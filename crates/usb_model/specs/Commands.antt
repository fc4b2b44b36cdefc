-- An order is carried out at an endpoint.
use Rattle.std.specs.Prelude.{ℕ, ◌==◌, Bool, true, false, List, [], ◌∷◌, ◌++◌, Option, Some, None, if◌then◌else◌}
use Rattle.usb_model.specs.declared.errand.Errand.{Errand}
use Rattle.usb_model.specs.declared.errand.Errand.TheVariants.{Stop, Reset, Move}
use Rattle.usb_model.specs.declared.endpoint.EndpointState.{EndpointState}
use Rattle.usb_model.specs.declared.endpoint.EndpointState.TheVariants.{Running, Stopped, Halted}
use Rattle.usb_model.specs.Completion.{stopped}
use Rattle.usb_model.specs.Kept.{KeptTransfer, Telling, Completion, KeptEndpoint, code_of, first_place}
use Rattle.usb_model.specs.Events.{find_at, past_kept_blanks}
use Rattle.usb_model.specs.Packets.{event_at, sent_before, walk}

-- what an order leaves: whether it was carried out, the endpoint, and what is told
pub record Carried : Type 0 where
  pub ok : Bool
  pub endpoint : KeptEndpoint
  pub told : List Telling

-- the pause of the transfer where the controller stands, if that moved anything
abbrev pub pause_at : KeptEndpoint → Option KeptTransfer → List Telling
pause_at b None = []
pause_at b (Some y) = if sent_before b y == 0 then [] else event_at b y (walk b y 0) stopped ∷ []

abbrev pub carried : Bool → ℕ → KeptEndpoint → List Telling → Carried
carried ok index b told = record { ok = ok; endpoint = b; told = told ++ Completion index (code_of ok) ∷ [] }

-- the order that stands at this index
unfoldable pub carry : ℕ → KeptEndpoint → Errand → EndpointState → Carried
carry index b Stop Running = carried true index (record b { state = Stopped }) (pause_at b (find_at b.dequeue b.line))
carry index b Reset Halted = carried true index (record b { state = Stopped }) []
carry index b Move Stopped = carried true index (record b { dequeue = first_place (past_kept_blanks b.line) b.end; within = 0 }) []
carry index b errand state = carried false index b []
