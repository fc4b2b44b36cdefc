-- What the sentence of a refusal says of a world, as it is to the handle that calls: of its devices, lines, results and callbacks, and of no test.
use Rattle.std.specs.Prelude.{◌≡◌, ◌≢◌, ℕ, ◌+◌, ◌-◌, min, ◌==◌, ◌<◌, ◌≤◌, ◌⊎◌, true, false, not, ◌&&◌, Option, Some, None, is_some, IfSome, List, [], ◌∷◌, ◌++◌, Bool, length}
use Rattle.std.specs.List.{AllByRecursion, count_by, list_any}
use Rattle.std.specs.Option.{option_map_or}
use Rattle.usb_model.specs.declared.endpoint.Endpoint.{Endpoint}
use Rattle.usb_model.specs.declared.item.Item.{Item}
use Rattle.usb_model.specs.declared.refusal.Misfit.{Misfit}
use Rattle.usb_model.specs.declared.refusal.Misfit.TheVariants as misfit
use Rattle.usb_model.specs.declared.refusal.Missing.{Missing}
use Rattle.usb_model.specs.declared.refusal.Missing.TheVariants as missing
use Rattle.usb_model.specs.declared.refusal.Obstacle.{Obstacle}
use Rattle.usb_model.specs.declared.refusal.Obstacle.TheVariants as obstacle
use Rattle.usb_model.specs.declared.refusal.Refusal.{Refusal}
use Rattle.usb_model.specs.declared.refusal.Refusal.TheVariants.{NotFound, NoDevice, Busy, HeldElsewhere, InvalidParam, NotSupported}
use Rattle.usb_model.specs.declared.request.Body.TheVariants.{Out}
use Rattle.usb_model.specs.declared.request.Kind.TheVariants.{Control, Isochronous}
use Rattle.usb_model.specs.declared.request.Request.{Request}
use Rattle.usb_model.specs.declared.result.InCallback.{InCallback}
use Rattle.usb_model.specs.declared.endpoint.EndpointState.{EndpointState}
use Rattle.usb_model.specs.declared.endpoint.EndpointState.TheVariants.{Running}
use Rattle.usb_model.specs.declared.order.Order.{Order}
use Rattle.usb_model.specs.declared.response.Response.{Response}
use Rattle.usb_model.specs.declared.response.Response.TheVariants as response
use Rattle.usb_model.specs.declared.result.TransferResult.{TransferResult}
use Rattle.usb_model.specs.declared.shared.Tagged.{Tagged}
use Rattle.usb_model.specs.declared.step.Step.{Step}
use Rattle.usb_model.specs.declared.step.Step.TheVariants.{Open, Close, Claim, Release, Reset, ClearHalt, Submit, Cancel, Expire, Serve, Answer, Unplug}
use Rattle.usb_model.specs.declared.verdict.Verdict.{Verdict}
use Rattle.usb_model.specs.declared.verdict.Verdict.TheVariants.{Stop, Again, AgainWith}
use Rattle.usb_model.specs.Endpoint.{first_waiting, in_progress, is_blank}
use Rattle.usb_model.specs.Endpoint.Packets.{count_of, outcome, without_naks}
use Rattle.usb_model.specs.Endpoint.Serve.{next_answer}
use Rattle.usb_model.specs.Machine.{Machine, device_of, endpoint_at, is_callback_at, is_result_at}
use Rattle.usb_model.specs.Machine.Calls.{callback_of}
use Rattle.usb_model.specs.Requests.{is_read, is_same_kind, is_short_not_ok, length_of}
use Rattle.usb_model.specs.Setup.{Setup, endpoints_of, has_interface, interface_of, is_device, is_in, kind_of, packet_size_of}
use Rattle.usb_model.specs.World.{Claims, World, holder, machine_of}
use Rattle.trace_explain.specs.declared.refusal.CallRefusal.{CallRefusal}
use Rattle.trace_explain.specs.declared.refusal.UnplugRefusal.{UnplugRefusal}
use Rattle.trace_explain.specs.declared.refusal.UnplugRefusal.TheVariants as unplug
use Rattle.trace_explain.specs.declared.sentence.CalledWith.{CalledWith}
use Rattle.trace_explain.specs.declared.sentence.TransferEnd.{TransferEnd}
use Rattle.trace_explain.specs.declared.sentence.TransferEnd.TheVariants as ending
use Rattle.trace_explain.specs.declared.sentence.Idleness.{Idleness}
use Rattle.trace_explain.specs.declared.sentence.Idleness.TheVariants as idleness
use Rattle.trace_explain.specs.declared.sentence.Reason.{Reason}
use Rattle.trace_explain.specs.declared.sentence.Reason.TheVariants as reason
use Rattle.trace_explain.specs.declared.sentence.Unready.{Unready}
use Rattle.trace_explain.specs.declared.sentence.Unready.TheVariants as unready
use Rattle.trace_explain.specs.Endpoints.{listed, listed_of}
use Rattle.trace_explain.specs.Own.{IsOwn}

-- a transfer of this number is in progress at an endpoint of the handle's
pub record InProgress (m : Machine) (n : ℕ) (Has : Item → Type 0) : Type 0 where
  pub ep : ℕ
  pub endpoint : Endpoint
  pub item : Item
  pub there : endpoint_at m ep ≡ Some endpoint
  pub waits : in_progress n endpoint.line ≡ Some item
  pub has : Has item

-- it is in progress at none
abbrev pub IsNowhere : Setup → Machine → ℕ → Type 0
IsNowhere setup m n = AllByRecursion (λ x. IfSome (endpoint_at m x.address) (λ e. in_progress n e.line ≡ None)) (endpoints_of setup (device_of m))

-- the handle has this device open
abbrev pub HasOpen : Machine → ℕ → Type 0
HasOpen m dev = m.handle.device ≡ Some dev

-- what isn't there, or isn't the handle's
abbrev pub MissingIs : Setup → Machine → Missing → Type 0
MissingIs setup m (missing.Device dev) = is_device setup dev ≡ false
MissingIs setup m missing.Open = m.handle.device ≡ None
MissingIs setup m (missing.Interface dev i) = HasOpen m dev × (has_interface setup dev i ≡ false)
MissingIs setup m (missing.Endpoint dev ep) = HasOpen m dev × (interface_of setup dev ep ≡ None)
MissingIs setup m (missing.Claim i) = (dev : ℕ) × HasOpen m dev × (has_interface setup dev i ≡ true) × (m.held dev i ≡ false)
MissingIs setup m (missing.ClaimFor i ep) = (dev : ℕ) × HasOpen m dev × (interface_of setup dev ep ≡ Some i) × (endpoint_at m ep ≡ None)
MissingIs setup m (missing.Number n) = m.handle.next_number ≤ n
MissingIs setup m (missing.Progress n) = (n < m.handle.next_number) × IsNowhere setup m n
MissingIs setup m (missing.Ask n) = InProgress m n (λ x. is_some x.ask ≡ true)
MissingIs setup m (missing.Timeout n) = InProgress m n (λ x. x.request.timeout ≡ 0)
MissingIs setup m (missing.Callback n) = AllByRecursion (λ x. x.n ≢ n) m.handle.in_callbacks

-- an endpoint of the handle's, of which this holds
pub record HasEndpoint (m : Machine) (ep : ℕ) (Has : Endpoint → Type 0) : Type 0 where
  pub endpoint : Endpoint
  pub there : endpoint_at m ep ≡ Some endpoint
  pub has : Has endpoint

-- so many are in progress at it, so many are withdrawn, so many results of it aren't taken; together they are all its places
pub record IsFull (m : Machine) (ep waiting blank untaken : ℕ) (e : Endpoint) : Type 0 where
  pub waits : waiting ≡ count_by (λ x. not (is_blank x)) e.line
  pub withdrawn : blank ≡ count_by is_blank e.line
  pub results : untaken ≡ count_by (is_result_at ep) m.results
  pub all : 16 ≤ waiting + blank + untaken

-- what of the handle's own is in the way
abbrev pub ObstacleIs : Machine → Obstacle → Type 0
ObstacleIs m (obstacle.Open dev) = HasOpen m dev
ObstacleIs m (obstacle.Waits n ep) = HasEndpoint m ep (λ e. is_some (in_progress n e.line) ≡ true)
ObstacleIs m (obstacle.Blank ep) = HasEndpoint m ep (λ e. list_any is_blank e.line ≡ true)
ObstacleIs m (obstacle.Order ep) = HasEndpoint m ep (λ e. is_some e.errand ≡ true)
ObstacleIs m (obstacle.Result n ep) = list_any (λ x. (x.n == n) && is_result_at ep x) m.results ≡ true
ObstacleIs m (obstacle.Callback n ep) = list_any (λ x. (x.n == n) && is_callback_at ep x) m.handle.in_callbacks ≡ true
ObstacleIs m (obstacle.Full ep by) = HasEndpoint m ep (IsFull m ep by.waiting by.blank by.untaken)
ObstacleIs m obstacle.Numbers = m.handle.next_number ≡ 18446744073709551615

-- the request that a step submits: its own, or that of a callback, with other bytes or the same
abbrev pub request_by : Verdict → InCallback → Option Request
request_by Stop x = None
request_by Again x = Some x.request
request_by (AgainWith bytes) x = Some (record x.request { body = Out bytes })

abbrev pub request_from : Verdict → Option InCallback → Option Request
request_from verdict None = None
request_from verdict (Some x) = request_by verdict x

abbrev pub request_in : Machine → Step → Option Request
request_in m (Submit h request) = Some request
request_in m (Answer h n verdict) = request_from verdict (callback_of n m.handle.in_callbacks)
request_in m step = None

-- what of a request is wrong for its endpoint
abbrev pub MisfitIs : Setup → Machine → Request → Misfit → Type 0
MisfitIs setup m x (misfit.Kind ep kind asked) = (x.ep ≡ ep) × (x.kind ≡ asked) × (kind_of setup (device_of m) ep ≡ kind) × (is_same_kind asked kind ≡ false)
MisfitIs setup m x (misfit.Reads ep) = (x.ep ≡ ep) × (is_in ep ≡ false) × (is_read x.body ≡ true)
MisfitIs setup m x (misfit.Writes ep) = (x.ep ≡ ep) × (is_in ep ≡ true) × (is_read x.body ≡ false)
MisfitIs setup m x (misfit.Bytes n) = (length_of x.body ≡ n) × (262144 < n)

-- what a refusal of handle h says; request: what the step submits
abbrev pub Says : Setup → ℕ → Machine → Claims → Option Request → Refusal → Type 0
Says setup h m claims request (NotFound x) = MissingIs setup m x
Says setup h m claims request (NoDevice dev) = m.gone dev ≡ true
Says setup h m claims request (Busy x) = ObstacleIs m x
Says setup h m claims request (HeldElsewhere holder i) = (dev : ℕ) × HasOpen m dev × (claims dev i ≡ Some holder) × (holder ≢ h)
Says setup h m claims request (InvalidParam x) = (y : Request) × (request ≡ Some y) × MisfitIs setup m y x
Says setup h m claims request (NotSupported ep kind) = (kind_of setup (device_of m) ep ≡ kind) × ((kind ≡ Control) ⊎ (kind ≡ Isochronous))

-- whose call a step is
abbrev pub caller_of : Step → Option ℕ
caller_of (Open h dev) = Some h
caller_of (Close h) = Some h
caller_of (Claim h i) = Some h
caller_of (Release h i) = Some h
caller_of (Reset h) = Some h
caller_of (ClearHalt h ep) = Some h
caller_of (Submit h request) = Some h
caller_of (Cancel h n) = Some h
caller_of (Expire h n) = Some h
caller_of (Answer h n verdict) = Some h
caller_of step = None

-- what is told of a refused call in a world is true: it is the caller's, the endpoints are those of the device that it has open, the
-- refusal is as the world has it, and what it names is the step's own
pub record IsTrue (setup : Setup) (w : World) (step : Step) (x : CallRefusal) : Type 0 where
  pub whose : caller_of step ≡ Some x.h
  pub endpoints : x.endpoints ≡ listed_of setup (w.names x.h).device
  pub refusal : Says setup x.h (machine_of setup x.h w) w.claims (request_in (machine_of setup x.h w) step) x.refusal
  pub own : IsOwn setup (machine_of setup x.h w) step (request_in (machine_of setup x.h w) step) x.refusal

-- why there was nothing to do
abbrev pub IdleIs : Setup → World → Step → Idleness → Type 0
IdleIs setup w step (idleness.NoDevice dev) = is_device setup dev ≡ false
IdleIs setup w step (idleness.NoEndpoint dev ep list) = (is_device setup dev ≡ true) × (interface_of setup dev ep ≡ None) × (list ≡ listed (endpoints_of setup dev))
IdleIs setup w step (idleness.NoHolder dev ep) = (is_some (interface_of setup dev ep) ≡ true) × (holder setup w.claims dev ep ≡ None)
IdleIs setup w step (idleness.Stands ep state) = (dev : ℕ) × (step ≡ Serve dev ep) × ((w.endpoints dev ep).state ≡ state) × (state ≢ Running)
IdleIs setup w step (idleness.NoTransfer ep) = (dev : ℕ) × (step ≡ Serve dev ep) × (first_waiting (w.endpoints dev ep).line ≡ None)
IdleIs setup w step idleness.NoOrder = w.orders ≡ []
IdleIs setup w step idleness.NoEvent = w.news ≡ []
IdleIs setup w step idleness.NoResult = w.results ≡ []
IdleIs setup w step (idleness.Lost h ep) = endpoint_at (machine_of setup h w) ep ≡ None

-- why a device gave no packet, at this endpoint
abbrev pub UnreadyAt : Endpoint → Unready → Type 0
UnreadyAt e (unready.Nak ep) = (rest : List Response) × (e.script_left ≡ response.Nak ∷ rest)
UnreadyAt e (unready.ScriptEnd ep) = (e.device_halted ≡ false) × (e.script_left ≡ [])
UnreadyAt e (unready.Halted ep) = e.device_halted ≡ true

abbrev pub unready_ep : Unready → ℕ
unready_ep (unready.Nak ep) = ep
unready_ep (unready.ScriptEnd ep) = ep
unready_ep (unready.Halted ep) = ep

-- of a step by which it was asked
abbrev pub UnreadyIs : World → Step → Unready → Type 0
UnreadyIs w step x = (dev : ℕ) × (step ≡ Serve dev (unready_ep x)) × UnreadyAt (w.endpoints dev (unready_ep x)) x

-- an order failed at an endpoint in this state
pub record FailedIs (setup : Setup) (w : World) (ep : ℕ) (state : EndpointState) : Type 0 where
  pub order : Tagged Order
  pub rest : List (Tagged Order)
  pub first : w.orders ≡ order ∷ rest
  pub its : order.piece.ep ≡ ep
  pub stands : IfSome (endpoint_at (machine_of setup order.name w) ep) (λ e. e.state ≡ state)

-- how many bytes a transfer moved by these answers; size: of its endpoint's packets, halted: whether its device has the endpoint halted
abbrev pub moved_by_answers : Request → ℕ → List Response → Bool → ℕ
moved_by_answers request size share halted = option_map_or count_of (outcome request size share halted) 0

-- the last of these answers, but for those that weren't ready
abbrev pub EndsWith : List Response → Response → Type 0
EndsWith share x = (front : List Response) × (without_naks share ≡ front ++ x ∷ [])

-- how a transfer ended by the answers that it took; packets of no bytes, which no endpoint has, leave a write's bytes behind
abbrev pub EndingBy : Request → ℕ → List Response → Bool → TransferEnd → Type 0
EndingBy request size share halted (ending.Whole bytes) = (length_of request.body ≡ bytes) × (size ≢ 0 → moved_by_answers request size share halted ≡ bytes)
EndingBy request size share halted (ending.Short moved bytes) = (length_of request.body ≡ bytes) × (moved_by_answers request size share halted ≡ moved) × (moved < bytes) × (is_read request.body ≡ true)
EndingBy request size share halted (ending.Stall ep) = (halted ≡ false) × EndsWith share response.Stall
EndingBy request size share halted (ending.Halted ep) = halted ≡ true
EndingBy request size share halted (ending.Broken ep) = EndsWith share response.Broken
EndingBy request size share halted (ending.Babble ep) = (b : List ℕ) × EndsWith share (response.Data b) × (min size (length_of request.body - moved_by_answers request size share halted) < length b)
EndingBy request size share halted (ending.Unplugged dev) = ⊥

-- the endpoint that is named, if one is
abbrev pub ending_ep : ℕ → TransferEnd → ℕ
ending_ep ep (ending.Stall k) = k
ending_ep ep (ending.Halted k) = k
ending_ep ep (ending.Broken k) = k
ending_ep ep (ending.Babble k) = k
ending_ep ep x = ep

-- the first transfer that waits at the endpoint that was served ended so, by the answers that it took and the one that came
pub record EndsThere (setup : Setup) (w : World) (step : Step) (x : TransferEnd) : Type 0 where
  pub dev : ℕ
  pub ep : ℕ
  pub served : step ≡ Serve dev ep
  pub named : ending_ep ep x ≡ ep
  pub item : Item
  pub first : first_waiting (w.endpoints dev ep).line ≡ Some item
  pub says : EndingBy item.request (packet_size_of setup dev ep) (item.share ++ next_answer (w.endpoints dev ep)) (w.endpoints dev ep).device_halted x

-- how a transfer ended
abbrev pub EndedIs : Setup → World → Step → TransferEnd → Type 0
EndedIs setup w step (ending.Unplugged dev) = (ep : ℕ) × (step ≡ Serve dev ep) × (w.gone dev ≡ true)
EndedIs setup w step x = EndsThere setup w step x

-- a callback is told what the first result has
pub record CalledIs (w : World) (x : CalledWith) : Type 0 where
  pub result : Tagged TransferResult
  pub rest : List (Tagged TransferResult)
  pub first : w.results ≡ result ∷ rest
  pub status : x.status ≡ result.piece.status
  pub moved : x.moved ≡ result.piece.actual
  pub bytes : x.bytes ≡ length_of result.piece.request.body
  pub short_not_ok : x.short_not_ok ≡ (is_read result.piece.request.body && is_short_not_ok result.piece.request)

-- why a device can't be unplugged
abbrev pub UnplugIs : Setup → World → Step → UnplugRefusal → Type 0
UnplugIs setup w step (unplug.NoSuchDevice dev) = (step ≡ Unplug dev) × (is_device setup dev ≡ false)
UnplugIs setup w step (unplug.Unplugged dev) = (step ≡ Unplug dev) × (w.gone dev ≡ true)

-- what a reason says, but for a refused call
abbrev pub ReasonIs : Setup → World → Step → Reason → Type 0
ReasonIs setup w step (reason.Refused x) = Unit {0}
ReasonIs setup w step (reason.UnplugRefused x) = UnplugIs setup w step x
ReasonIs setup w step (reason.Idle x) = IdleIs setup w step x
ReasonIs setup w step (reason.Nak x) = UnreadyIs w step x
ReasonIs setup w step (reason.Ended x) = EndedIs setup w step x
ReasonIs setup w step (reason.Failed ep state) = FailedIs setup w ep state
ReasonIs setup w step (reason.Called x) = CalledIs w x
