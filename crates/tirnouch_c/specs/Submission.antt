-- What a submission says.
use Rattle.std.specs.Prelude.{◌≡◌, ℕ, ℤ, ◌==◌, nat_lt, List, [], Option, Some, None, if◌then◌else◌}
use Rattle.std.specs.Option.{option_map}
use Rattle.usb_core.specs.Public.{CarriesMore, State, Stays, StillCarries, TurnsWorld}
use Rattle.usb_model.specs.declared.refused.Refused.TheVariants.{NoMem}
use Rattle.usb_model.specs.declared.reply.Reply.{Reply}
use Rattle.usb_model.specs.declared.reply.Reply.TheVariants.{Number, Refused as IsRefused}
use Rattle.usb_model.specs.declared.request.Body.{Body}
use Rattle.usb_model.specs.declared.request.Body.TheVariants.{In, Out}
use Rattle.usb_model.specs.declared.request.Kind.{Kind}
use Rattle.usb_model.specs.declared.request.Kind.TheVariants.{Bulk, Control, Interrupt, Isochronous}
use Rattle.usb_model.specs.declared.request.Request.{Request}
use Rattle.usb_model.specs.declared.step.Step.TheVariants.{Submit}
use Rattle.usb_model.specs.Setup.{is_in}
use Rattle.tirnouch_c.specs.declared.replies.StepReply.{StepReply}
use Rattle.tirnouch_c.specs.declared.session.Session.{Session}
use Rattle.tirnouch_c.specs.Calls.{SameBeside, out_of_range}
use Rattle.tirnouch_c.specs.Replies.{code_of, entry_numbers}

-- the kind of libusb's number (libusb_transfer_type)
unfoldable pub kind_by : ℕ → Option Kind
kind_by number =
    if number == 0 then Some Control
    else if number == 1 then Some Isochronous
    else if number == 2 then Some Bulk
    else if number == 3 then Some Interrupt
    else None

-- room where an endpoint is for IN, else these bytes
abbrev pub body_by : (ep room : ℕ) → List ℕ → Body
body_by ep room bytes = if is_in ep then In room else Out bytes

-- the request of these numbers
abbrev pub request_by : (ep kind flags timeout room : ℕ) → List ℕ → Option Request
request_by ep kind flags timeout room bytes = option_map (λ k. record { ep = ep; kind = k; flags = record { 0 = flags }; timeout = timeout; body = body_by ep room bytes }) (kind_by kind)

-- the request to read as many bytes as there is room for, as far as a request can say; none of an endpoint for OUT
abbrev pub request_over : (ep kind flags timeout room : ℕ) → Option Request
request_over ep kind flags timeout room = if is_in ep then (if nat_lt room 4294967296 then request_by ep kind flags timeout room [] else None) else None

-- what a submission makes of the core: accepted, it is the world's turn, and this is kept under its number; refused, the world's turn; without memory nothing changed
abbrev pub SubmitsAs : ℕ → Request → ℕ → Reply → (s t : State ℕ) → Type 0
SubmitsAs h request payload (Number n) s t = TurnsWorld s (Submit h request) (record { owner = Some h; reply = Number n }) t × CarriesMore h n payload s t
SubmitsAs h request payload (IsRefused NoMem) s t = Stays s t × StillCarries s t
SubmitsAs h request payload (IsRefused why) s t = TurnsWorld s (Submit h request) (record { owner = Some h; reply = IsRefused why }) t × StillCarries s t
SubmitsAs h request payload reply s t = ⊥

-- and what is answered of it, and replied in numbers
pub record Submits (h : ℕ) (request : Request) (payload : ℕ) (answer : ℤ) (numbers : StepReply) (s t : Session) : Type 0 where
  pub reply : Reply
  pub answered : answer ≡ code_of reply
  pub numbers_is : numbers ≡ entry_numbers (record { owner = Some h; reply = reply })
  pub made : SubmitsAs h request payload reply s.core t.core
  pub same : SameBeside s t

-- the same of a request that may be none
abbrev pub SubmitsIf : ℕ → Option Request → ℕ → ℤ → StepReply → (s t : Session) → Type 0
SubmitsIf h None payload answer numbers s t = (answer ≡ out_of_range) × (t ≡ s)
SubmitsIf h (Some request) payload answer numbers s t = Submits h request payload answer numbers s t

-- and of a number that may be no handle's
abbrev pub SubmitsBy : (h ep kind flags timeout room : ℕ) → List ℕ → ℕ → ℤ → StepReply → (s t : Session) → Type 0
SubmitsBy h ep kind flags timeout room bytes payload answer numbers s t =
    SubmitsIf h (if nat_lt h 64 then request_by ep kind flags timeout room bytes else None) payload answer numbers s t

-- the same over memory with this room
abbrev pub SubmitsOver : (h ep kind flags timeout room payload : ℕ) → ℤ → StepReply → (s t : Session) → Type 0
SubmitsOver h ep kind flags timeout room payload answer numbers s t =
    SubmitsIf h (if nat_lt h 64 then request_over ep kind flags timeout room else None) payload answer numbers s t
