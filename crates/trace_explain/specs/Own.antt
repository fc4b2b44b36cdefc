-- What a refusal names is what its step names, or is of the device that the caller has open: a true thing of another endpoint, transfer or
-- interface is no reason.
use Rattle.std.specs.Prelude.{◌≡◌, ℕ, ◌==◌, Bool, true, ◌&&◌, Option, Some, None, IfSome}
use Rattle.std.specs.List.{list_any}
use Rattle.std.specs.Option.{option_map}
use Rattle.usb_model.specs.declared.refusal.Missing.{Missing}
use Rattle.usb_model.specs.declared.refusal.Missing.TheVariants as missing
use Rattle.usb_model.specs.declared.refusal.Obstacle.{Obstacle}
use Rattle.usb_model.specs.declared.refusal.Obstacle.TheVariants as obstacle
use Rattle.usb_model.specs.declared.refusal.Refusal.{Refusal}
use Rattle.usb_model.specs.declared.refusal.Refusal.TheVariants.{NotFound, NoDevice, Busy, HeldElsewhere, InvalidParam, NotSupported}
use Rattle.usb_model.specs.declared.request.Request.{Request}
use Rattle.usb_model.specs.declared.setup.EndpointInfo.{EndpointInfo}
use Rattle.usb_model.specs.declared.step.Step.{Step}
use Rattle.usb_model.specs.declared.step.Step.TheVariants.{Open, Close, Claim, Release, Reset, ClearHalt, Cancel, Expire, Answer}
use Rattle.usb_model.specs.Machine.{Machine, device_of}
use Rattle.usb_model.specs.Setup.{Setup, endpoints_of}

-- the device that a step is about: that which it opens, else that which its handle has open
abbrev pub device_named : Machine → Step → Option ℕ
device_named m (Open h dev) = Some dev
device_named m step = m.handle.device

-- the interface that it names
abbrev pub interface_named : Step → Option ℕ
interface_named (Claim h i) = Some i
interface_named (Release h i) = Some i
interface_named step = None

-- the transfer that it names, by its number
abbrev pub number_named : Step → Option ℕ
number_named (Cancel h n) = Some n
number_named (Expire h n) = Some n
number_named (Answer h n verdict) = Some n
number_named step = None

-- the endpoint that it names, or that of the request that it submits
abbrev pub endpoint_named : Step → Option Request → Option ℕ
endpoint_named (ClearHalt h ep) request = Some ep
endpoint_named step request = option_map (λ x. x.ep) request

-- whether a step wants an endpoint of its device to be quiet: each, or each of the interface that it names
abbrev pub is_meant : Step → EndpointInfo → Bool
is_meant (Release h i) x = x.interface == i
is_meant step x = true

-- one of those
abbrev pub IsMeant : Setup → Machine → Step → ℕ → Type 0
IsMeant setup m step ep = list_any (λ x. (x.address == ep) && is_meant step x) (endpoints_of setup (device_of m)) ≡ true

-- the endpoint where something is in the way, if a refusal names one: the step's, or one that it wants to be quiet
abbrev pub IsPlace : Setup → Machine → Step → Option Request → Option ℕ → Type 0
IsPlace setup m step request None = Unit {0}
IsPlace setup m (Close h) request (Some ep) = IsMeant setup m (Close h) ep
IsPlace setup m (Release h i) request (Some ep) = IsMeant setup m (Release h i) ep
IsPlace setup m (Reset h) request (Some ep) = IsMeant setup m (Reset h) ep
IsPlace setup m step request (Some ep) = endpoint_named step request ≡ Some ep

abbrev pub place_of : Obstacle → Option ℕ
place_of (obstacle.Open dev) = None
place_of (obstacle.Waits n ep) = Some ep
place_of (obstacle.Blank ep) = Some ep
place_of (obstacle.Order ep) = Some ep
place_of (obstacle.Result n ep) = Some ep
place_of (obstacle.Callback n ep) = Some ep
place_of (obstacle.Full ep by) = Some ep
place_of obstacle.Numbers = None

-- what isn't there is what the step names
abbrev pub IsMissed : Machine → Step → Option Request → Missing → Type 0
IsMissed m step request (missing.Device dev) = device_named m step ≡ Some dev
IsMissed m step request missing.Open = Unit {0}
IsMissed m step request (missing.Interface dev i) = interface_named step ≡ Some i
IsMissed m step request (missing.Endpoint dev ep) = endpoint_named step request ≡ Some ep
IsMissed m step request (missing.Claim i) = interface_named step ≡ Some i
IsMissed m step request (missing.ClaimFor i ep) = endpoint_named step request ≡ Some ep
IsMissed m step request (missing.Number n) = number_named step ≡ Some n
IsMissed m step request (missing.Progress n) = number_named step ≡ Some n
IsMissed m step request (missing.Ask n) = number_named step ≡ Some n
IsMissed m step request (missing.Timeout n) = number_named step ≡ Some n
IsMissed m step request (missing.Callback n) = number_named step ≡ Some n

-- what a refusal names is the step's own; that a request is wrong is said of the step's request itself (`MisfitIs`)
abbrev pub IsOwn : Setup → Machine → Step → Option Request → Refusal → Type 0
IsOwn setup m step request (NotFound x) = IsMissed m step request x
IsOwn setup m step request (NoDevice dev) = device_named m step ≡ Some dev
IsOwn setup m step request (Busy x) = IsPlace setup m step request (place_of x)
IsOwn setup m step request (HeldElsewhere holder i) = IfSome (interface_named step) (λ k. k ≡ i)
IsOwn setup m step request (InvalidParam x) = Unit {0}
IsOwn setup m step request (NotSupported ep kind) = endpoint_named step request ≡ Some ep
