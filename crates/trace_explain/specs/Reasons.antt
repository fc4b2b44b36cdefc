-- Why a step's entry says what it says.
use Rattle.std.specs.Prelude.{ℕ, Bool, true, false, Option, Some, None}
use Rattle.std.specs.Option.{option_map}
use Rattle.usb_model.specs.declared.step.Step.{Step}
use Rattle.usb_model.specs.declared.step.Step.TheVariants.{Open, Close, Claim, Release, Reset, ClearHalt, Submit, Cancel, Expire, Serve, Command, Deliver, Take, Answer, Unplug}
use Rattle.usb_model.specs.declared.refusal.Refusal.{Refusal}
use Rattle.usb_model.specs.Machine.{Machine}
use Rattle.usb_model.specs.Refusals.{request_facts}
use Rattle.usb_model.specs.Setup.{Setup, is_device}
use Rattle.usb_model.specs.World.{World, machine_of}
use Rattle.trace_explain.specs.declared.refusal.UnplugRefusal.TheVariants.{NoSuchDevice, Unplugged}
use Rattle.trace_explain.specs.declared.sentence.Reason.{Reason}
use Rattle.trace_explain.specs.declared.sentence.Reason.TheVariants.{Refused, UnplugRefused}
use Rattle.trace_explain.specs.Endpoints.{listed_of}
use Rattle.trace_explain.specs.Refusals.{answer_refusal, ask_refusal, claim_refusal, clear_refusal, close_refusal, open_refusal, release_refusal, reset_refusal, submit_refusal}
use Rattle.trace_explain.specs.Turns.{command_reason, deliver_reason, serve_reason, take_reason}

-- a call of handle h is refused for this, if it is
abbrev pub refusal_told : Setup → ℕ → Machine → Option Refusal → Option Reason
refusal_told setup h m o = option_map (λ x. Refused (record { h = h; endpoints = listed_of setup m.handle.device; refusal = x })) o

-- why a device can't be unplugged: exists, gone: whether it exists, and was unplugged before
abbrev pub unplug_reason : (exists gone : Bool) → ℕ → Option Reason
unplug_reason false gone dev = Some (UnplugRefused (NoSuchDevice dev))
unplug_reason true true dev = Some (UnplugRefused (Unplugged dev))
unplug_reason true false dev = None

-- the reason of a step's entry in a world; None where there is nothing to say
unfoldable pub reason_of : Setup → World → Step → Option Reason
reason_of setup w (Open h dev) = let m = machine_of setup h w in refusal_told setup h m (open_refusal setup m dev)
reason_of setup w (Close h) = let m = machine_of setup h w in refusal_told setup h m (close_refusal setup m)
reason_of setup w (Claim h i) = let m = machine_of setup h w in refusal_told setup h m (claim_refusal setup h m w.claims i)
reason_of setup w (Release h i) = let m = machine_of setup h w in refusal_told setup h m (release_refusal setup m i)
reason_of setup w (Reset h) = let m = machine_of setup h w in refusal_told setup h m (reset_refusal setup h m w.claims)
reason_of setup w (ClearHalt h ep) = let m = machine_of setup h w in refusal_told setup h m (clear_refusal setup m ep)
reason_of setup w (Submit h request) = let m = machine_of setup h w in refusal_told setup h m (submit_refusal setup m request.ep (request_facts request))
reason_of setup w (Cancel h n) = let m = machine_of setup h w in refusal_told setup h m (ask_refusal setup m n false)
reason_of setup w (Expire h n) = let m = machine_of setup h w in refusal_told setup h m (ask_refusal setup m n true)
reason_of setup w (Serve dev ep) = serve_reason setup w dev ep
reason_of setup w Command = command_reason setup w w.orders
reason_of setup w Deliver = deliver_reason setup w w.news
reason_of setup w Take = take_reason w.results
reason_of setup w (Answer h n verdict) = let m = machine_of setup h w in refusal_told setup h m (answer_refusal setup m n verdict)
reason_of setup w (Unplug dev) = unplug_reason (is_device setup dev) (w.gone dev) dev
