-- What a recorder is told of a step and its reply, and which bytes these have.
use Rattle.std.specs.Prelude.{ℕ, List, [], length}
use Rattle.usb_model.specs.declared.reply.Reply.{Reply}
use Rattle.usb_model.specs.declared.reply.Reply.TheVariants.{Called}
use Rattle.usb_model.specs.declared.request.Body.{Body}
use Rattle.usb_model.specs.declared.request.Body.TheVariants.{In, Out}
use Rattle.usb_model.specs.declared.step.Step.{Step}
use Rattle.usb_model.specs.declared.step.Step.TheVariants.{Answer, Submit}
use Rattle.usb_model.specs.declared.verdict.Verdict.TheVariants.{AgainWith}

-- the bytes that are to be sent
abbrev pub bytes_of : Body → List ℕ
bytes_of (In n) = []
bytes_of (Out bytes) = bytes

-- the bytes of a step
abbrev pub sent_by : Step → List ℕ
sent_by (Submit h request) = bytes_of request.body
sent_by (Answer h n (AgainWith bytes)) = bytes
sent_by step = []

-- the bytes of a reply
abbrev pub given_by : Reply → List ℕ
given_by (Called r) = r.bytes
given_by reply = []

-- how many bytes a reply has
abbrev pub bytes_in : Reply → ℕ
bytes_in (Called r) = length r.bytes
bytes_in reply = 0
