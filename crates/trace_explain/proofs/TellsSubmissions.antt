-- The end of a halt, submissions and answers of callbacks: the reason told is of the reply's sort.
use Rattle.std.proofs.Common.{◌≡◌, ℕ, ◌+◌, Option, Some, None, refl}
use Rattle.usb_model.specs.declared.endpoint.Endpoint.{Endpoint}
use Rattle.usb_model.specs.declared.handle.Handle.{Handle}
use Rattle.usb_model.specs.declared.request.Body.TheVariants.{Out}
use Rattle.usb_model.specs.declared.request.Request.{Request}
use Rattle.usb_model.specs.declared.result.InCallback.{InCallback}
use Rattle.usb_model.specs.declared.verdict.Verdict.{Verdict}
use Rattle.usb_model.specs.declared.verdict.Verdict.TheVariants.{Stop, Again, AgainWith}
use Rattle.usb_model.specs.Machine.{Machine, at_endpoint, device_of, endpoint_at}
use Rattle.usb_model.specs.Machine.Calls.{answer_callback, answer_effect, callback_of, caller_facts, clear_halt_effect, endpoint_facts, submit_effect, submit_to}
use Rattle.usb_model.specs.Refusals.{clear_tests, request_facts, submit_tests}
use Rattle.usb_model.specs.Setup.{Setup, kind_of}
use Rattle.usb_model.specs.World.{World, is_blocked}
use Rattle.trace_explain.specs.Refusals.{answer_refusal, clear_refusal, clear_refusal_at, submit_refusal, submit_refusal_at, verdict_refusal}
use Rattle.trace_explain.specs.Sorts.{sort_of_reply}
use Rattle.trace_explain.proofs.Told.{all_tested, replied, sort_told}

pub clear_told : (setup : Setup) (h : ℕ) (w : World) (m : Machine) (ep : ℕ) → sort_told (clear_refusal setup m ep) ≡ sort_of_reply (replied setup h w (clear_halt_effect m ep (endpoint_at m ep)))
unfolding clear_refusal clear_halt_effect is_blocked
clear_told setup h w m ep = by_endpoint (endpoint_at m ep)
  where
    by_endpoint : (o : Option Endpoint) → sort_told (clear_refusal_at setup m ep o) ≡ sort_of_reply (replied setup h w (clear_halt_effect m ep o))
    by_endpoint None = refl
    by_endpoint (Some e) = all_tested setup h w m (clear_tests (caller_facts m) (endpoint_facts ep (kind_of setup (device_of m) ep) m e)) _ refl

-- a submission; after: what is left of the handle
pub submit_told : (setup : Setup) (h : ℕ) (w : World) (m : Machine) (after : Handle) (request : Request) (round : ℕ)
    → sort_told (submit_refusal setup m request.ep (request_facts request)) ≡ sort_of_reply (replied setup h w (submit_effect setup m after request round))
unfolding submit_refusal submit_effect submit_to at_endpoint is_blocked
submit_told setup h w m after request round = by_endpoint (endpoint_at m request.ep)
  where
    by_endpoint : (o : Option Endpoint) → sort_told (submit_refusal_at setup m request.ep (request_facts request) o) ≡ sort_of_reply (replied setup h w (submit_to setup m after request round o))
    by_endpoint None = refl
    by_endpoint (Some e) =
        all_tested setup h w m (submit_tests (caller_facts m) (endpoint_facts request.ep (kind_of setup (device_of m) request.ep) m e) (request_facts request) m.handle.next_number) _ refl

pub answer_told : (setup : Setup) (h : ℕ) (w : World) (m : Machine) (n : ℕ) (verdict : Verdict) → sort_told (answer_refusal setup m n verdict) ≡ sort_of_reply (replied setup h w (answer_effect setup m n verdict))
unfolding answer_refusal answer_effect answer_callback is_blocked
answer_told setup h w m n verdict = by_callback verdict (callback_of n m.handle.in_callbacks)
  where
    by_callback : (v : Verdict) (o : Option InCallback) → sort_told (verdict_refusal setup m n v o) ≡ sort_of_reply (replied setup h w (answer_callback setup m v o))
    by_callback v None = refl
    by_callback Stop (Some x) = refl
    by_callback Again (Some x) = submit_told setup h w m _ x.request (x.round + 1)
    by_callback (AgainWith bytes) (Some x) = submit_told setup h w m _ (record x.request { body = Out bytes }) (x.round + 1)
