-- What the core and the controller keep of one endpoint.
use Rattle.std.specs.Prelude.{◌≡◌, ℕ, ◌+◌, ◌%◌, ◌==◌, Bool, true, false, not, ◌&&◌, List, [], ◌∷◌, length, Option, Some, None}
use Rattle.usb_model.specs.declared.response.Response.{Response}
use Rattle.usb_model.specs.declared.errand.Errand.{Errand}
use Rattle.usb_model.specs.declared.request.Body.{Body}
use Rattle.usb_model.specs.declared.request.Body.TheVariants.{In, Out}
use Rattle.usb_model.specs.declared.request.Request.{Request}
use Rattle.usb_model.specs.declared.item.Ask.{Ask}
use Rattle.usb_model.specs.declared.endpoint.EndpointState.{EndpointState}
use Rattle.usb_model.specs.declared.endpoint.EndpointState.TheVariants.{Running}
use Rattle.usb_model.specs.Requests.{length_of, adds_zero_packet}
use Rattle.usb_model.specs.Completion.{context_state_error, success}
use Rattle.usb_model.specs.Stands.{lengths_of}

-- a transfer of a line as the core keeps it: its item of the ring, and its transfer of the store
pub record KeptTransfer : Type 0 where
  pub place : ℕ  -- of its first TRB, counted from the ring's making without end
  pub lengths : List ℕ  -- of its TRBs
  pub blank : Bool  -- withdrawn: nothing below is kept any more
  pub n : ℕ
  pub request : Request
  pub round : ℕ
  pub ask : Option Ask
  pub moved : ℕ  -- the bytes moved, as last told
  pub bytes : List ℕ  -- those read

-- what a TRB of the event ring tells of an endpoint: the place that a pointer names, the residual and the code; or the index of an order, and the code
pub data Telling : Type 0 where
  Transfer : (place residual code : ℕ) → Telling
  Completion : (index code : ℕ) → Telling

-- an errand with the index of its order in the command ring
pub record SentErrand : Type 0 where
  pub errand : Errand
  pub index : ℕ

-- an endpoint as core and controller keep it
pub record KeptEndpoint : Type 0 where
  pub line : List KeptTransfer
  pub end : ℕ  -- the enqueue place
  pub dequeue : ℕ  -- the place where the controller stands
  pub within : ℕ  -- the bytes of the TRB there that moved
  pub state : EndpointState
  pub errand : Option SentErrand
  pub script_left : List Response  -- the device
  pub device_halted : Bool
  pub packets_received : List (List ℕ)

-- whether the transfer has an empty packet behind whole ones
abbrev pub is_extra : ℕ → Request → Body → Bool
is_extra size request (In n) = false
is_extra size request (Out bytes) = adds_zero_packet request && (not (length bytes == 0) && (length bytes % size == 0))

-- its TRBs
abbrev pub trbs_of : ℕ → Request → List ℕ
trbs_of size request = lengths_of (is_extra size request request.body) (length_of request.body)

-- where a line begins in its ring
abbrev pub first_place : List KeptTransfer → ℕ → ℕ
first_place [] end = end
first_place (y ∷ ys) end = y.place

-- its transfers stand one behind another, up to the enqueue place
abbrev pub InRow : List KeptTransfer → ℕ → Type 0
InRow [] end = Unit {0}
InRow (y ∷ ys) end = (first_place ys end ≡ y.place + length y.lengths) × InRow ys end

-- the ring as after its making, the script from its beginning
abbrev pub new_kept_endpoint : List Response → KeptEndpoint
new_kept_endpoint script = record { line = []; end = 0; dequeue = 0; within = 0; state = Running; errand = None; script_left = script; device_halted = false; packets_received = [] }

-- the code of an order that was carried out, or failed
abbrev pub code_of : Bool → ℕ
code_of true = success
code_of false = context_state_error

-- the order's index, where there is an errand
abbrev pub index_of : Option SentErrand → ℕ
index_of None = 0
index_of (Some s) = s.index
