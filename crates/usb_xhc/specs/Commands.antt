-- An order is carried out at an endpoint (xHCI 1.2, 4.6.8 to 4.6.10).
use Rattle.std.specs.Prelude.{ℕ, zero, suc, ◌==◌, false, List, [], ◌∷◌, length, Option, Some, None, if◌then◌else◌}
use Rattle.usb_model.specs.declared.endpoint.EndpointState.{EndpointState}
use Rattle.usb_model.specs.declared.endpoint.EndpointState.TheVariants.{Running, Stopped, Halted}
use Rattle.usb_model.specs.Completion.{context_state_error, stopped, success}
use Rattle.usb_trb.specs.declared.kind.TrbKind.{TrbKind}
use Rattle.usb_trb.specs.declared.kind.TrbKind.TheVariants.{Normal, Link, NoOp, ResetEndpoint, StopEndpoint, SetDequeue, TransferEvent, CommandCompletion}
use Rattle.usb_rings.specs.Places.{address_of}
use Rattle.usb_rings.specs.Line.{Line, places, all_of, place_behind, moved_behind}
use Rattle.usb_xhc.specs.declared.trb_at.TrbAt.{TrbAt}
use Rattle.usb_xhc.specs.Context.{Context, stand_by, event_by}
use Rattle.usb_xhc.specs.Transaction.{trb_at}

-- a TRB's field is out of its range, or an order is none (xHCI 1.2, 6.4.5)
abbrev pub trb_error : ℕ
trb_error = 5

-- the slot has no such endpoint (xHCI 1.2, 6.4.5)
abbrev pub endpoint_not_enabled_error : ℕ
endpoint_not_enabled_error = 12

-- what an order leaves: its code, the endpoint, and the events before its completion
pub record Carried : Type 0 where
  pub code : ℕ
  pub context : Context
  pub events : List TrbKind

-- the pause of the transfer at dequeue, where it has moved anything (xHCI 1.2, 4.6.9)
abbrev pub pause_by : Context → Option TrbAt → List TrbKind
pause_by c None = []
pause_by c (Some first) = if c.begun then event_by c (stand_by c 0) stopped ∷ [] else []

abbrev pub stop_in : Context → EndpointState → Carried
stop_in c Running = record { code = success; context = record c { state = Stopped }; events = pause_by c (trb_at c 0) }
stop_in c Stopped = record { code = context_state_error; context = c; events = [] }
stop_in c Halted = record { code = context_state_error; context = c; events = [] }

abbrev pub reset_in : Context → EndpointState → Carried
reset_in c Halted = record { code = success; context = record c { state = Stopped }; events = [] }
reset_in c Running = record { code = context_state_error; context = c; events = [] }
reset_in c Stopped = record { code = context_state_error; context = c; events = [] }

-- how many TRBs of items stand before the one at this address, or before enqueue
abbrev pub before_by : Line → ℕ → ℕ → Option ℕ
before_by l pointer zero = if pointer == address_of places l.base (place_behind l 0) then Some 0 else None
before_by l pointer (suc n) = if pointer == address_of places l.base (place_behind l (suc n)) then Some (suc n) else before_by l pointer n

abbrev pub before : Line → ℕ → Option ℕ
before l pointer = before_by l pointer (length (all_of l.items))

-- dequeue goes to that TRB
abbrev pub moved_at : Context → Option ℕ → Carried
moved_at c None = record { code = trb_error; context = c; events = [] }
moved_at c (Some n) = record {
  code = success;
  context = record c { within = 0; begun = false; ring = record c.ring { line = moved_behind c.ring.line n } };
  events = [];
}

abbrev pub move_in : Context → ℕ → EndpointState → Carried
move_in c pointer Stopped = moved_at c (before c.ring.line pointer)
move_in c pointer Running = record { code = context_state_error; context = c; events = [] }
move_in c pointer Halted = record { code = context_state_error; context = c; events = [] }

-- the order that stands in the command ring; its endpoint is c
unfoldable pub carried : TrbKind → Context → Carried
carried (StopEndpoint slot id) c = stop_in c c.state
carried (ResetEndpoint slot id) c = reset_in c c.state
carried (SetDequeue pointer state slot id) c = move_in c pointer c.state
carried (Normal t) c = record { code = trb_error; context = c; events = [] }
carried (Link segment toggle chain) c = record { code = trb_error; context = c; events = [] }
carried NoOp c = record { code = trb_error; context = c; events = [] }
carried (TransferEvent pointer residual code slot id) c = record { code = trb_error; context = c; events = [] }
carried (CommandCompletion pointer code slot) c = record { code = trb_error; context = c; events = [] }
