-- Why a call is refused: the reason of the first test that holds, in the order of the model's list.
use Rattle.std.specs.Prelude.{ℕ, ◌==◌, Bool, true, List, [], Option, Some, None}
use Rattle.std.specs.List.{find}
use Rattle.std.specs.Option.{unwrap_or}
use Rattle.usb_model.specs.declared.endpoint.Endpoint.{Endpoint}
use Rattle.usb_model.specs.declared.item.Item.{Item}
use Rattle.usb_model.specs.declared.refusal.Refusal.{Refusal}
use Rattle.usb_model.specs.declared.request.Body.TheVariants.{Out}
use Rattle.usb_model.specs.declared.result.InCallback.{InCallback}
use Rattle.usb_model.specs.declared.verdict.Verdict.{Verdict}
use Rattle.usb_model.specs.declared.verdict.Verdict.TheVariants.{Stop, Again, AgainWith}
use Rattle.std.specs.Prelude.{is_some}
use Rattle.std.specs.Option.{option_map}
use Rattle.usb_model.specs.Machine.{Machine, device_of, endpoint_at}
use Rattle.usb_model.specs.Machine.Calls.{callback_of, caller_facts, endpoint_facts, home_of, quiet_facts}
use Rattle.usb_model.specs.Refusals.{absence, ask_tests, claim_tests, clear_tests, close_tests, elsewhere, first_reason, no_callback, no_progress, open_tests, release_tests, request_facts, reset_tests, submit_tests}
use Rattle.usb_model.specs.declared.facts.RequestFacts.{RequestFacts}
use Rattle.usb_model.specs.Setup.{Setup, endpoints_of, has_interface, interface_of, interfaces_of, is_device, kind_of}
use Rattle.usb_model.specs.World.{Claims, is_others}

-- an open of a device
unfoldable pub open_refusal : Setup → Machine → ℕ → Option Refusal
open_refusal setup m dev = first_reason (open_tests (caller_facts m) dev (is_device setup dev) (m.gone dev))

-- a close
unfoldable pub close_refusal : Setup → Machine → Option Refusal
close_refusal setup m = first_reason (close_tests (caller_facts m) (quiet_facts setup m (λ x. true)))

-- another than h holds an interface
abbrev pub held_elsewhere : ℕ → ℕ → Option ℕ → List (Bool × Refusal)
held_elsewhere h i holder = elsewhere (is_others h holder) (unwrap_or holder 0) i

-- a claim of an interface
unfoldable pub claim_refusal : Setup → ℕ → Machine → Claims → ℕ → Option Refusal
claim_refusal setup h m claims i = first_reason (claim_tests (caller_facts m) i (has_interface setup (device_of m) i) (held_elsewhere h i (claims (device_of m) i)))

-- a release of an interface
unfoldable pub release_refusal : Setup → Machine → ℕ → Option Refusal
release_refusal setup m i = first_reason (release_tests (caller_facts m) i (has_interface setup (device_of m) i) (m.held (device_of m) i) (quiet_facts setup m (λ x. x.interface == i)))

-- another than h holds this interface, if there is one that another holds
abbrev pub some_elsewhere : ℕ → (ℕ → Option ℕ) → Option ℕ → List (Bool × Refusal)
some_elsewhere h held None = []
some_elsewhere h held (Some i) = held_elsewhere h i (held i)

-- the first of these interfaces that another holds
abbrev pub first_elsewhere : ℕ → (ℕ → Option ℕ) → List ℕ → List (Bool × Refusal)
first_elsewhere h held interfaces = some_elsewhere h held (find (λ i. is_others h (held i)) interfaces)

-- a reset of the device
unfoldable pub reset_refusal : Setup → ℕ → Machine → Claims → Option Refusal
reset_refusal setup h m claims = first_reason (reset_tests (caller_facts m) (quiet_facts setup m (λ x. true)) (first_elsewhere h (λ i. claims (device_of m) i) (interfaces_of setup (device_of m))))

-- the end of a halt, at the endpoint that the handle has there
abbrev pub clear_refusal_at : Setup → Machine → ℕ → Option Endpoint → Option Refusal
clear_refusal_at setup m ep None = Some (absence (caller_facts m) ep (interface_of setup (device_of m) ep))
clear_refusal_at setup m ep (Some e) = first_reason (clear_tests (caller_facts m) (endpoint_facts ep (kind_of setup (device_of m) ep) m e))

unfoldable pub clear_refusal : Setup → Machine → ℕ → Option Refusal
clear_refusal setup m ep = clear_refusal_at setup m ep (endpoint_at m ep)

-- a submission, at the endpoint that the handle has there
abbrev pub submit_refusal_at : Setup → Machine → ℕ → RequestFacts → Option Endpoint → Option Refusal
submit_refusal_at setup m ep x None = Some (absence (caller_facts m) ep (interface_of setup (device_of m) ep))
submit_refusal_at setup m ep x (Some e) = first_reason (submit_tests (caller_facts m) (endpoint_facts ep (kind_of setup (device_of m) ep) m e) x m.handle.next_number)

unfoldable pub submit_refusal : Setup → Machine → ℕ → RequestFacts → Option Refusal
submit_refusal setup m ep x = submit_refusal_at setup m ep x (endpoint_at m ep)

-- by the transfer, where it is in progress; timed: its time is over
abbrev pub ask_refusal_at : Machine → ℕ → Bool → Option Item → Option Refusal
ask_refusal_at m n timed None = Some (no_progress n m.handle.next_number)
ask_refusal_at m n timed (Some x) = first_reason (ask_tests n (is_some x.ask) timed x.request.timeout)

-- an ask that a transfer end
unfoldable pub ask_refusal : Setup → Machine → ℕ → Bool → Option Refusal
ask_refusal setup m n timed = ask_refusal_at m n timed (option_map (λ home. home.item) (home_of m n (endpoints_of setup (device_of m))))

-- a callback's verdict: a submission from within it may be refused
abbrev pub verdict_refusal : Setup → Machine → ℕ → Verdict → Option InCallback → Option Refusal
verdict_refusal setup m n verdict None = Some (no_callback n)
verdict_refusal setup m n Stop (Some x) = None
verdict_refusal setup m n Again (Some x) = submit_refusal setup m x.request.ep (request_facts x.request)
verdict_refusal setup m n (AgainWith bytes) (Some x) = submit_refusal setup m x.request.ep (request_facts (record x.request { body = Out bytes }))

unfoldable pub answer_refusal : Setup → Machine → ℕ → Verdict → Option Refusal
answer_refusal setup m n verdict = verdict_refusal setup m n verdict (callback_of n m.handle.in_callbacks)
