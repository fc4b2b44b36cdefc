-- Each piece of work keeps the ledger of its endpoint, as the account has it.
use Rattle.std.proofs.Common.{List, Some, [], ap, arith, refl, subst, subst₂, sym, ℕ, ◌+◌, ◌∙◌, ◌∷◌, ◌≡◌, ◌≤◌}
use Rattle.usb_model.specs.declared.response.Response.{Response}
use Rattle.usb_model.specs.declared.errand.Errand.{Errand}
use Rattle.usb_model.specs.declared.endpoint.Endpoint.{Endpoint}
use Rattle.usb_model.specs.declared.handle.Handle.{Handle}
use Rattle.usb_model.specs.declared.item.Ask.{Ask}
use Rattle.usb_model.specs.declared.news.Event.TheVariants.{Finished, Paused, Settled}
use Rattle.usb_model.specs.declared.news.Event.{Event}
use Rattle.usb_model.specs.declared.reply.Reply.TheVariants as reply
use Rattle.usb_model.specs.declared.request.Request.{Request}
use Rattle.usb_model.specs.declared.step.Step.{Step}
use Rattle.usb_model.specs.declared.verdict.Verdict.TheVariants.{Again, AgainWith}
use Rattle.usb_model.specs.Laws.Account.{Accepted, Account, Asked, Transfer, accepted_again, accepted_by, asked_by}
use Rattle.usb_model.specs.Machine.Calls.{asks, submitted}
use Rattle.usb_model.specs.Laws.Cut.{HasSize}
use Rattle.usb_model.specs.declared.endpoint_effect.EndpointEffect.{EndpointEffect}
use Rattle.usb_model.specs.declared.effect.Effect.{Effect}
use Rattle.usb_model.specs.Machine.{Machine, device_of, endpoint_at, is_gone}
use Rattle.usb_model.specs.Setup.{Setup, is_in, packet_size_of}
use Rattle.usb_model.specs.Machine.Turns.{take_effect}
use Rattle.proof_model.proofs.Machines.Deeds.{IsAsk, IsRest, IsSubmission, IsWork, again, again_with, anew, asks_it, cancels, claims, claims_again, clears, closes, commands, delivers, expires, opens, releases, resets, serves, stays, stops, submits, takes}
use Rattle.usb_model.specs.Fitness.{IsWell, errands_of}
use Rattle.proof_model.proofs.Coherence.FirstEnd.{end_told}
use Rattle.proof_model.proofs.Cut.Ledger.{HoldsAt, KnowsGone}
use Rattle.proof_model.proofs.Cut.Asks.{holds_ask, holds_clear, holds_submit}
use Rattle.proof_model.proofs.Cut.Delivers.{IsTrueOf, holds_command, holds_deliver}
use Rattle.proof_model.proofs.Cut.Serves.{KeepsLedger, holds_serve}
use Rattle.proof_model.proofs.Machines.Well.{fit_at, first_news}
use Rattle.usb_model.specs.Coherence.{IsCoherent}
use Rattle.usb_model.specs.Direction.{IsBody}
use Rattle.proof_model.proofs.Work.Moves.{SetsNone}
use Rattle.proof_model.proofs.Shares.Next.{good_body}

-- and is accepted, under the next number
accepts : (handle : Handle) (n : ℕ) (step : Step) (left : Handle) (request : Request) (round : ℕ) → IsSubmission handle step left request round → accepted_by handle step (reply.Number n) ≡ Transfer n request round ∷ []
accepts handle n step left request round (anew g r) = refl
accepts handle n step left request round (again g k x in_call) = ap (accepted_again n Again) in_call
accepts handle n step left request round (again_with g k bytes x in_call) = ap (accepted_again n (AgainWith bytes)) in_call

-- a submission is no ask
pub no_ask_by : (handle : Handle) (n : ℕ) (step : Step) (left : Handle) (request : Request) (round : ℕ) → IsSubmission handle step left request round → asked_by step (reply.Number n) ≡ []
no_ask_by handle n step left request round (anew g r) = refl
no_ask_by handle n step left request round (again g k x in_call) = refl
no_ask_by handle n step left request round (again_with g k bytes x in_call) = refl

-- an ask is in the account
pub asks_by : (handle : Handle) (step : Step) (n : ℕ) (ask : Ask) → IsAsk step n ask → (accepted_by handle step reply.Done ≡ []) × (asked_by step reply.Done ≡ record { n = n; ask = ask } ∷ [])
asks_by handle step n ask (cancels g k) = (refl, refl)
asks_by handle step n ask (expires g k) = (refl, refl)

-- an ask that is accepted is answered Done
pub reply_of : (e : Endpoint) (n : ℕ) (ask : Ask) → (asks e n ask).reply ≡ reply.Done
unfolding asks
reply_of e n ask = refl

-- the account with what a piece of work did
abbrev pub AddsWork : Setup → Machine → ℕ → List Response → Account → Step → Handle → EndpointEffect → Type 0
AddsWork setup m ep script a step handle d =
    KeepsLedger (packet_size_of setup (device_of m) ep) (is_in ep) handle.next_number script a (is_gone m) (accepted_by m.handle step d.reply) (asked_by step d.reply) d

-- work that adds what the step is said to accept and to ask keeps the ledger of the account
same_lists : (setup : Setup) (m : Machine) (ep : ℕ) (script : List Response) (a : Account) (step : Step) (handle : Handle) (d : EndpointEffect) (accepted : List Accepted) (asked : List Asked) → accepted_by m.handle step d.reply ≡ accepted → asked_by step d.reply ≡ asked
    → KeepsLedger (packet_size_of setup (device_of m) ep) (is_in ep) handle.next_number script a (is_gone m) accepted asked d → AddsWork setup m ep script a step handle d
same_lists setup m ep script a step handle d accepted asked p q k =
    subst₂ (λ xs ys. KeepsLedger (packet_size_of setup (device_of m) ep) (is_in ep) handle.next_number script a (is_gone m) xs ys d) (sym p) (sym q) k

-- news is true of its endpoint
true_of : (e : Endpoint) (os : List Errand) (event : Event) (ns : List Event) → IsCoherent e os (event ∷ ns) → IsTrueOf e event
true_of e os (Finished k code) ns c = end_told e os ns k code c
true_of e os (Paused k) ns c = tt
true_of e os (Settled o ok) ns c = tt

-- each piece of work keeps the ledger of its endpoint
pub work_holds : (setup : Setup) (m : Machine) (ep : ℕ) (script : List Response) (a : Account) (e : Endpoint) (step : Step) (handle : Handle) (d : EndpointEffect) → HasSize (packet_size_of setup (device_of m) ep) script → IsWell setup m → endpoint_at m ep ≡ Some e → IsWork setup m ep e step handle d → KnowsGone (is_gone m) a
    → HoldsAt (packet_size_of setup (device_of m) ep) (is_in ep) m.handle.next_number script a e → AddsWork setup m ep script a step handle d
work_holds setup m ep script a e step handle d some well here (serves dev) known h = holds_serve (packet_size_of setup (device_of m) ep) (is_in ep) m.handle.next_number script a (is_gone m) e some h
work_holds setup m ep script a e step handle d some well here (commands o os is) known h = holds_command (packet_size_of setup (device_of m) ep) ep (is_in ep) m.handle.next_number script a (is_gone m) e o e.state h
work_holds setup m ep script a e step handle d some well here (delivers event ns is) known h =
    holds_deliver (packet_size_of setup (device_of m) ep) ep (is_in ep) m.handle.next_number script a (is_gone m) e event
    (true_of e _ event _ (subst (λ l. IsCoherent e (errands_of ep m.orders) l) (first_news ep event m.news ns is).0 (fit_at setup m ep e well here).coherent)) known h
work_holds setup m ep script a e step handle d some well here (asks_it {ask = ask} n i is at free) known h =
    let l = asks_by m.handle step n ask is in
    same_lists setup m ep script a step m.handle (asks e n ask) [] (record { n = n; ask = ask } ∷ []) (ap (accepted_by m.handle step) (reply_of e n ask) ∙ l.0) (ap (asked_by step) (reply_of e n ask) ∙ l.1)
    (holds_ask (packet_size_of setup (device_of m) ep) (is_in ep) m.handle.next_number script a (is_gone m) e n ask i at free h)
work_holds setup m ep script a e step handle d some well here (submits {handle = left} {request = request} {round = round} is at fine short) known h =
    same_lists setup m ep script a step (record left { next_number = m.handle.next_number + 1 }) (submitted m.handle.next_number request round e) (Transfer m.handle.next_number request round ∷ []) []
    (accepts m.handle m.handle.next_number step left request round is) (no_ask_by m.handle m.handle.next_number step left request round is)
    (holds_submit (packet_size_of setup (device_of m) ep) (is_in ep) m.handle.next_number script a (is_gone m) e request round (subst (λ k. IsBody (is_in k) request.body) at (good_body request.ep request.body fine)) h)
work_holds setup m ep script a e step handle d some well here (clears g empty) known h = holds_clear (packet_size_of setup (device_of m) ep) (is_in ep) m.handle.next_number script a (is_gone m) e empty h

-- what is rest sets none, and leaves the next number
pub rest_sets : (setup : Setup) (h : ℕ) (m : Machine) (step : Step) (done : Effect) → IsRest setup h m step done → SetsNone done.change × (done.handle.next_number ≡ m.handle.next_number)
unfolding take_effect
rest_sets setup h m step done (stays bare t) = (tt, refl)
rest_sets setup h m step done (claims_again g i) = (tt, refl)
rest_sets setup h m step done (stops g k x in_call) = (tt, refl)
rest_sets setup h m step done (opens g dev none) = (tt, refl)
rest_sets setup h m step done (closes g idle) = (tt, refl)
rest_sets setup h m step done (claims g i opened free) = (tt, refl)
rest_sets setup h m step done (releases g i idle) = (tt, refl)
rest_sets setup h m step done (resets g idle) = (tt, refl)
rest_sets setup h m step done (takes x xs is) = (tt, refl)

-- work goes on with the numbers
pub work_next : (setup : Setup) (m : Machine) (ep : ℕ) (e : Endpoint) (step : Step) (handle : Handle) (d : EndpointEffect) → IsWork setup m ep e step handle d → m.handle.next_number ≤ handle.next_number
work_next setup m ep e step handle d (submits is at fine short) = omega arith
work_next setup m ep e step handle d _ = omega arith
