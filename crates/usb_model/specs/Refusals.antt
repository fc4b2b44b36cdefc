-- What calls are refused for: the tests of each in their order, each with the reason that it finds. They look at facts alone,
-- which the machine of a handle, the core and the code each tell of themselves.
use Rattle.std.specs.Prelude.{ℕ, ◌+◌, ◌-◌, ◌==◌, nat_lt, nat_le, Bool, true, false, not, ◌&&◌, ◌||◌, is_some, List, [], ◌∷◌, Option, Some, None, if◌then◌else◌}
use Rattle.std.specs.Option.{unwrap_or}
use Rattle.usb_model.specs.declared.facts.RequestFacts.{RequestFacts}
use Rattle.usb_model.specs.declared.facts.CallerFacts.{CallerFacts}
use Rattle.usb_model.specs.declared.facts.EndpointFacts.{EndpointFacts}
use Rattle.usb_model.specs.declared.refused.Refused.{Refused}
use Rattle.usb_model.specs.declared.refused.Refused.TheVariants as refused
use Rattle.usb_model.specs.declared.refusal.Missing.{Missing}
use Rattle.usb_model.specs.declared.refusal.Missing.TheVariants as missing
use Rattle.usb_model.specs.declared.refusal.Misfit.{Misfit}
use Rattle.usb_model.specs.declared.refusal.Misfit.TheVariants as misfit
use Rattle.usb_model.specs.declared.refusal.Obstacle.{Obstacle}
use Rattle.usb_model.specs.declared.refusal.Obstacle.TheVariants as obstacle
use Rattle.usb_model.specs.declared.refusal.Places.{Places}
use Rattle.usb_model.specs.declared.refusal.Refusal.{Refusal}
use Rattle.usb_model.specs.declared.refusal.Refusal.TheVariants.{NotFound, NoDevice, Busy, HeldElsewhere, InvalidParam, NotSupported}
use Rattle.usb_model.specs.declared.request.Request.{Request}
use Rattle.usb_model.specs.Limits.{last_number, most_bytes, most_places}
use Rattle.usb_model.specs.Requests.{is_read, is_same_kind, is_unsupported, length_of}
use Rattle.usb_model.specs.Setup.{is_in}

-- what a call is refused with for a reason
abbrev pub refused_of : Refusal → Refused
refused_of (NotFound missing) = refused.NotFound
refused_of (NoDevice dev) = refused.NoDevice
refused_of (Busy obstacle) = refused.Busy
refused_of (HeldElsewhere holder i) = refused.HeldElsewhere
refused_of (InvalidParam misfit) = refused.InvalidParam
refused_of (NotSupported ep kind) = refused.NotSupported

-- the reason of the first test that holds
abbrev pub first_reason : List (Bool × Refusal) → Option Refusal
first_reason [] = None
first_reason (x ∷ xs) = if x.0 then Some x.1 else first_reason xs

-- what the tests refuse with
abbrev pub refusals : List (Bool × Refusal) → List (Bool × Refused)
refusals [] = []
refusals (x ∷ xs) = (x.0, refused_of x.1) ∷ refusals xs

abbrev pub dev_of : CallerFacts → ℕ
dev_of a = unwrap_or a.device 0

-- what of the caller's own is under way where a call wants quiet: whether all is quiet; else what isn't
pub record QuietFacts : Type 0 where
  pub quiet : Bool
  pub obstacle : Obstacle

abbrev pub unopened : CallerFacts → Bool × Refusal
unopened a = (not (is_some a.device), NotFound missing.Open)

abbrev pub unplugged : CallerFacts → Bool × Refusal
unplugged a = (a.gone, NoDevice (dev_of a))

abbrev pub unquiet : QuietFacts → Bool × Refusal
unquiet q = (not q.quiet, Busy q.obstacle)

-- 1. open of a device that exists or not, and is gone or not
abbrev pub open_tests : CallerFacts → ℕ → Bool → Bool → List (Bool × Refusal)
open_tests a dev exists gone = (not exists, NotFound (missing.Device dev)) ∷ (gone, NoDevice dev) ∷ (is_some a.device, Busy (obstacle.Open (dev_of a))) ∷ []

-- 2. close
abbrev pub close_tests : CallerFacts → QuietFacts → List (Bool × Refusal)
close_tests a q = unopened a ∷ unquiet q ∷ []

-- 3. claim of an interface that the device has or not; behind it: whoever else holds it
abbrev pub claim_tests : CallerFacts → ℕ → Bool → List (Bool × Refusal) → List (Bool × Refusal)
claim_tests a i exists behind = unopened a ∷ unplugged a ∷ (not exists, NotFound (missing.Interface (dev_of a) i)) ∷ behind

-- why it doesn't hold an interface that its device has or not
abbrev pub unheld : Option ℕ → ℕ → Bool → Missing
unheld None i exists = missing.Open
unheld (Some dev) i true = missing.Claim i
unheld (Some dev) i false = missing.Interface dev i

-- 4. release of an interface that the device has or not, and the caller holds or not
abbrev pub release_tests : CallerFacts → ℕ → (exists held : Bool) → QuietFacts → List (Bool × Refusal)
release_tests a i exists held q = (not (is_some a.device && held), NotFound (unheld a.device i exists)) ∷ unquiet q ∷ []

-- 5. reset; behind it: whoever else holds an interface
abbrev pub reset_tests : CallerFacts → QuietFacts → List (Bool × Refusal) → List (Bool × Refusal)
reset_tests a q behind = unopened a ∷ unplugged a ∷ unquiet q ∷ behind

-- another holds an interface
abbrev pub elsewhere : Bool → ℕ → ℕ → List (Bool × Refusal)
elsewhere others holder i = (others, HeldElsewhere holder i) ∷ []

-- why it has no endpoint of this address; the interface that it belongs to
abbrev pub unclaimed : ℕ → ℕ → Option ℕ → Missing
unclaimed dev ep None = missing.Endpoint dev ep
unclaimed dev ep (Some i) = missing.ClaimFor i ep

abbrev pub absent : Option ℕ → ℕ → Option ℕ → Missing
absent None ep interface = missing.Open
absent (Some dev) ep interface = unclaimed dev ep interface

abbrev pub absence : CallerFacts → ℕ → Option ℕ → Refusal
absence a ep interface = NotFound (absent a.device ep interface)

-- what is in the way in its line
abbrev pub in_way : ℕ → Option ℕ → Bool → Obstacle
in_way ep (Some n) errand = obstacle.Waits n ep
in_way ep None true = obstacle.Order ep
in_way ep None false = obstacle.Blank ep

-- 6. the end of a halt, at an endpoint of its own
abbrev pub clear_tests : CallerFacts → EndpointFacts → List (Bool × Refusal)
clear_tests a s = unplugged a ∷ (not (s.line == 0), Busy (in_way s.ep s.first s.errand)) ∷ []

abbrev pub request_facts : Request → RequestFacts
request_facts request = record { kind = request.kind; reads = is_read request.body; bytes = length_of request.body }

-- a wrong direction, or more than 262,144 bytes
abbrev pub is_bad : ℕ → Bool → ℕ → Bool
is_bad ep true n = not (is_in ep) || nat_lt most_bytes n
is_bad ep false n = is_in ep || nat_lt most_bytes n

abbrev pub direction_of : ℕ → Bool → ℕ → Misfit
direction_of ep true n = if is_in ep then misfit.Bytes n else misfit.Reads ep
direction_of ep false n = if is_in ep then misfit.Writes ep else misfit.Bytes n

abbrev pub misfit_of : EndpointFacts → RequestFacts → Misfit
misfit_of s x = if is_same_kind x.kind s.kind then direction_of s.ep x.reads x.bytes else misfit.Kind s.ep s.kind x.kind

-- who keeps its places
abbrev pub kept_by : EndpointFacts → Places
kept_by s = record { waiting = s.waiting; blank = s.line - s.waiting; untaken = s.untaken }

-- 7. a submission, at an endpoint of its own, under the next number
abbrev pub submit_tests : CallerFacts → EndpointFacts → RequestFacts → ℕ → List (Bool × Refusal)
submit_tests a s x next =
    unplugged a
    ∷ (is_unsupported s.kind, NotSupported s.ep s.kind)
    ∷ (not (is_same_kind x.kind s.kind) || is_bad s.ep x.reads x.bytes, InvalidParam (misfit_of s x))
    ∷ (nat_le most_places (s.line + s.untaken), Busy (obstacle.Full s.ep (kept_by s)))
    ∷ (next == last_number, Busy obstacle.Numbers)
    ∷ []

-- why a transfer isn't in progress, by the next number
abbrev pub no_progress : ℕ → ℕ → Refusal
no_progress n next = if nat_lt n next then NotFound (missing.Progress n) else NotFound (missing.Number n)

-- 8, 9. an ask that it end, which was made before or not; timed: for its time, which it has or not
abbrev pub ask_tests : ℕ → Bool → Bool → ℕ → List (Bool × Refusal)
ask_tests n asked timed timeout = (asked || (timed && (timeout == 0)), NotFound (if asked then missing.Ask n else missing.Timeout n)) ∷ []

-- 10. a return from a callback that it isn't in
abbrev pub no_callback : ℕ → Refusal
no_callback n = NotFound (missing.Callback n)
