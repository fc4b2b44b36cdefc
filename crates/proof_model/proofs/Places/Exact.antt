-- Work at an endpoint loses no transfer and doubles none: each that leaves the line is in one result.
use Rattle.std.proofs.Common.{Bool, List, None, Option, Some, [], ap, arith, false, length, map, refl, true, ℕ, ◌+◌, ◌∙◌, ◌∷◌, ◌≡◌}
use Rattle.std.specs.Prelude.{if◌then◌else◌}
use Rattle.usb_model.specs.declared.response.Response.{Response}
use Rattle.usb_model.specs.declared.errand.Errand.TheVariants as errand
use Rattle.usb_model.specs.declared.errand.Errand.{Errand}
use Rattle.usb_model.specs.declared.endpoint.Endpoint.{Endpoint}
use Rattle.usb_model.specs.declared.endpoint.EndpointState.TheVariants.{Halted, Running, Stopped}
use Rattle.usb_model.specs.declared.endpoint.EndpointState.{EndpointState}
use Rattle.usb_model.specs.declared.item.Ask.{Ask}
use Rattle.usb_model.specs.declared.item.Item.{Item}
use Rattle.usb_model.specs.declared.item.ItemState.TheVariants.{Served}
use Rattle.usb_model.specs.declared.item.ItemState.{ItemState}
use Rattle.usb_model.specs.declared.news.Event.TheVariants.{Finished, Paused, Settled}
use Rattle.usb_model.specs.declared.news.Event.{Event}
use Rattle.usb_model.specs.declared.reply.Reply.{Reply}
use Rattle.usb_model.specs.Machine.Calls.{asks}
use Rattle.usb_model.specs.Endpoint.Command.{command}
use Rattle.usb_model.specs.Laws.Cut.{times}
use Rattle.usb_model.specs.Endpoint.Deliver.{blanked, deliver, line_after, resume, withdrawn}
use Rattle.usb_model.specs.declared.endpoint_effect.EndpointEffect.{EndpointEffect}
use Rattle.usb_model.specs.Endpoint.{first_waiting, is_blank_state, live_numbers, past_blanks, past_number, with_first}
use Rattle.usb_model.specs.declared.outcome.Outcome.{Outcome}
use Rattle.usb_model.specs.Endpoint.Serve.{serve, serve_by, serve_first, serve_gone}
use Rattle.usb_model.specs.Endpoint.Status.{halts}
use Rattle.proof_model.proofs.Coherence.Doings.{line-finished, line-resume, results-finished, results-resume}
use Rattle.proof_model.proofs.Coherence.FirstEnd.{EndsFirst, end_told}
use Rattle.usb_model.specs.Coherence.{IsCoherent}
use Rattle.proof_model.proofs.Work.Lines.{lives-past_blanks, lives-with_ask, lives-with_first, result_numbers, withdrawn_count, withdrawn_times}
use Rattle.proof_model.proofs.Lists.Times.{times-cons}
use Rattle.proof_model.proofs.Work.Sound.{first_waits}

-- a piece of work, of which this holds
pub record IsExact (e : Endpoint) (d : EndpointEffect) : Type 0 where
  pub exact : (n : ℕ) → times n (result_numbers d.results) + times n (live_numbers d.endpoint.line) ≡ times n (live_numbers e.line)
  pub count : length d.results + length (live_numbers d.endpoint.line) ≡ length (live_numbers e.line)

-- work that makes no result, and leaves the numbers in progress
pub exact_if_same : (e : Endpoint) (d : EndpointEffect) → d.results ≡ [] → live_numbers d.endpoint.line ≡ live_numbers e.line → IsExact e d
exact_if_same e d none same = record { exact = λ n. rw (none, same) (omega arith); count = rw (none, same) (omega arith) }

-- the first waiting transfer replaced loses no number
exact_served : (e : Endpoint) (x : Item) (s : ItemState) (share : List Response) (d : EndpointEffect) → first_waiting e.line ≡ Some x → is_blank_state s ≡ false → d.results ≡ [] → d.endpoint.line ≡ with_first (record x { share = share; state = s }) e.line → IsExact e d
exact_served e x s share d first live none line = exact_if_same e d none (ap live_numbers line ∙ lives-with_first x (record x { share = share; state = s }) e.line first refl live)

-- a packet that a waiting transfer is served loses no number
exact_serve_by : (e : Endpoint) (x : Item) (a b : Outcome) (code : Option ℕ) → first_waiting e.line ≡ Some x → IsExact e (serve_by e x a b code)
unfolding serve_by
exact_serve_by e x a b None first = exact_served e x x.state _ _ first (ap is_blank_state (first_waits e.line x first)) refl refl
exact_serve_by e x a b (Some code) first = exact_served e x (Served code) _ _ first refl refl refl

-- a packet that the first transfer is served loses no number
exact_serve_first : (size : ℕ) (gone : Bool) (e : Endpoint) (s : EndpointState) (o : Option Item) → first_waiting e.line ≡ o → IsExact e (serve_first size gone e s o)
unfolding serve_first serve_gone
exact_serve_first size true e Running (Some x) first = exact_served e x (Served 4) x.share _ first refl refl refl
exact_serve_first size false e Running (Some x) first = exact_serve_by e x _ _ _ first
exact_serve_first size gone e _ _ first = exact_if_same e _ refl refl

-- the device answers a packet
pub exact_serve : (size : ℕ) (gone : Bool) (e : Endpoint) → IsExact e (serve size gone e)
unfolding serve
exact_serve size gone e = exact_serve_first size gone e e.state (first_waiting e.line) refl

-- the controller carries out an order
pub exact_command : (size ep : ℕ) (e : Endpoint) (o : Errand) (s : EndpointState) → IsExact e (command size ep e o s)
unfolding command
exact_command size ep e errand.Stop Running = exact_if_same e _ refl refl
exact_command size ep e errand.Reset Halted = exact_if_same e _ refl refl
exact_command size ep e errand.Move Stopped = exact_if_same e _ refl refl
exact_command size ep e _ _ = exact_if_same e _ refl refl

-- asked items are withdrawn from a line with the endpoint's numbers
exact_withdrawn : (size : ℕ) (e : Endpoint) (line : List Item) (d : EndpointEffect) → live_numbers line ≡ live_numbers e.line → d.endpoint.line ≡ map blanked line → d.results ≡ withdrawn size line → IsExact e d
exact_withdrawn size e line d same left made = record { exact = λ n. rw (left, made) (withdrawn_times size n line ∙ ap (times n) same); count = rw (left, made) (withdrawn_count size line ∙ ap length same) }

-- a halt that is over: each number is still in the line or in one result
exact_resume : (size : ℕ) (e : Endpoint) (r : Reply) (line : List Item) → live_numbers line ≡ live_numbers e.line → IsExact e (resume size e r line)
exact_resume size e r line same = exact_withdrawn size e line _ same (line-resume size e r line) (results-resume size e r line)

-- the numbers of the line that a result leaves
lives-line_after : (k code : ℕ) (line : List Item) → live_numbers (line_after k code line) ≡ live_numbers (past_number k line)
lives-line_after k code line = by_test (halts code)
  where
    by_test : (b : Bool) → live_numbers (if b then past_number k line else past_blanks (past_number k line)) ≡ live_numbers (past_number k line)
    by_test true = refl
    by_test false = lives-past_blanks (past_number k line)

-- the transfer whose end is told is the first in progress, and has one result
exact_finished : (size ep : ℕ) (gone : Bool) (e : Endpoint) (k code : ℕ) → EndsFirst e.line k code → IsExact e (deliver size ep gone e (Finished k code))
exact_finished size ep gone e k code f = record {
  exact = λ n.
      rw (line-finished size ep gone e k code, results-finished size ep gone e k code, f.found, lives-line_after k code e.line, f.number)
      (omega (arith, times-cons n k [], times-cons n k (live_numbers (past_number k e.line)), ap (times n) f.lives));
  count = rw (line-finished size ep gone e k code, results-finished size ep gone e k code, f.found, lives-line_after k code e.line) (omega (arith, ap length f.lives));
}

-- the first piece of news is handled
pub exact_deliver : (size ep : ℕ) (gone : Bool) (e : Endpoint) (event : Event) (os : List Errand) (ns : List Event) → IsCoherent e os (event ∷ ns) → IsExact e (deliver size ep gone e event)
unfolding deliver
exact_deliver size ep gone e (Finished k code) os ns c = exact_finished size ep gone e k code (end_told e os ns k code c)
exact_deliver size ep gone e (Paused k) os ns c = exact_if_same e _ refl refl
exact_deliver size ep gone e (Settled errand.Stop false) os ns c = exact_if_same e _ refl refl
exact_deliver size ep gone e (Settled errand.Stop true) os ns c = exact_resume size e _ e.line refl
exact_deliver size ep gone e (Settled errand.Reset ok) os ns c = exact_withdrawn size e e.line _ refl refl refl
exact_deliver size ep gone e (Settled errand.Move ok) os ns c = exact_resume size e _ (past_blanks e.line) (lives-past_blanks e.line)

-- a transfer is asked to end
pub exact_ask : (e : Endpoint) (n : ℕ) (ask : Ask) → IsExact e (asks e n ask)
unfolding asks
exact_ask e n ask = exact_if_same e _ refl (lives-with_ask n ask e.line)
