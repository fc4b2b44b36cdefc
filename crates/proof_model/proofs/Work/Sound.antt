-- Each kind of work at an endpoint is sound.
use Rattle.std.proofs.Common.{◌≡◌, ℕ, Bool, true, false, List, [], ◌∷◌, Option, Some, None, map, refl, ap, sym, ◌∙◌, arith}
use Rattle.std.specs.Prelude.{if◌then◌else◌}
use Rattle.usb_model.specs.declared.errand.Errand.{Errand}
use Rattle.usb_model.specs.declared.errand.Errand.TheVariants as errand
use Rattle.usb_model.specs.declared.reply.Reply.{Reply}
use Rattle.usb_model.specs.declared.endpoint.Endpoint.{Endpoint}
use Rattle.usb_model.specs.declared.endpoint.EndpointState.{EndpointState}
use Rattle.usb_model.specs.declared.endpoint.EndpointState.TheVariants.{Running, Stopped, Halted}
use Rattle.usb_model.specs.declared.item.Ask.{Ask}
use Rattle.usb_model.specs.declared.item.Item.{Item}
use Rattle.usb_model.specs.declared.item.ItemState.{ItemState}
use Rattle.usb_model.specs.declared.item.ItemState.TheVariants.{Waiting, Served, Blank}
use Rattle.usb_model.specs.declared.news.Event.{Event}
use Rattle.usb_model.specs.declared.news.Event.TheVariants as event
use Rattle.usb_model.specs.declared.outcome.Outcome.{Outcome}
use Rattle.usb_model.specs.Endpoint.Status.{halts}
use Rattle.usb_model.specs.Endpoint.{is_waiting, is_blank, first_waiting, past_blanks, in_progress, past_number}
use Rattle.usb_model.specs.declared.endpoint_effect.EndpointEffect.{EndpointEffect}
use Rattle.usb_model.specs.Endpoint.Serve.{serve_by, serve_gone, serve_first, serve}
use Rattle.usb_model.specs.Endpoint.Command.{command}
use Rattle.usb_model.specs.Endpoint.Deliver.{blanked, withdrawn, leads_blank, resume, needs_reset, finished_result, line_after, deliver}
use Rattle.usb_model.specs.Machine.Calls.{asks}
use Rattle.usb_model.specs.Laws.Cut.{times}
use Rattle.proof_model.proofs.Work.Lines.{keys, same_lives, keys-with_first, keys-with_ask, keys-past_blanks, withdrawn_times, withdrawn_part, withdrawn_cut, finished_times, finished_part, IsSound, no_result}

-- the first item that waits is in the state of waiting
pub first_waits : (line : List Item) (x : Item) → first_waiting line ≡ Some x → x.state ≡ Waiting
unfolding first_waiting
first_waits [] x f = absurd cc
first_waits (y ∷ ys) x f = by_state y.state refl f (first_waits ys x)
  where
    by_state : (s : ItemState) → y.state ≡ s → (if is_waiting (record y { state = s }) then Some y else first_waiting ys) ≡ Some x → (first_waiting ys ≡ Some x → x.state ≡ Waiting) → x.state ≡ Waiting
    by_state Waiting e f rest = let same : y ≡ x = cc in ap (λ i. i.state) (sym same) ∙ e
    by_state (Served code) e f rest = rest f
    by_state Blank e f rest = rest f

-- by the code with which the transfer ends, if it does
serve_by_sound : (e : Endpoint) (x : Item) (before after : Outcome) (code : Option ℕ) → first_waiting e.line ≡ Some x → IsSound e (serve_by e x before after code)
unfolding serve_by
serve_by_sound e x before after None first = no_result e _ refl (keys-with_first x _ e.line first refl (ap (λ s. is_blank (record x { state = s })) (first_waits e.line x first)))
serve_by_sound e x before after (Some code) first = no_result e _ refl (keys-with_first x _ e.line first refl refl)

-- by the state, and the first transfer that waits
serve_first_sound : (size : ℕ) (gone : Bool) (e : Endpoint) (s : EndpointState) (o : Option Item) → first_waiting e.line ≡ o → IsSound e (serve_first size gone e s o)
unfolding serve_first serve_gone
serve_first_sound size true e Running (Some x) first = no_result e _ refl (keys-with_first x _ e.line first refl refl)
serve_first_sound size false e Running (Some x) first = serve_by_sound e x _ _ _ first
serve_first_sound size gone e _ _ first = no_result e _ refl refl

-- the device answers a packet
pub serve_sound : (size : ℕ) (gone : Bool) (e : Endpoint) → IsSound e (serve size gone e)
unfolding serve
serve_sound size gone e = serve_first_sound size gone e e.state (first_waiting e.line) refl

-- by the code, no result is made
serve_by_makes_none : (e : Endpoint) (x : Item) (before after : Outcome) (code : Option ℕ) → (serve_by e x before after code).results ≡ []
unfolding serve_by
serve_by_makes_none e x before after None = refl
serve_by_makes_none e x before after (Some code) = refl

-- nor by the state
serve_first_makes_none : (size : ℕ) (gone : Bool) (e : Endpoint) (s : EndpointState) (o : Option Item) → (serve_first size gone e s o).results ≡ []
unfolding serve_first serve_gone
serve_first_makes_none size true e Running (Some x) = refl
serve_first_makes_none size false e Running (Some x) = serve_by_makes_none e x _ _ _
serve_first_makes_none size gone e _ _ = refl

-- that makes no result
pub serve_makes_none : (size : ℕ) (gone : Bool) (e : Endpoint) → (serve size gone e).results ≡ []
unfolding serve
serve_makes_none size gone e = serve_first_makes_none size gone e _ _

-- the controller carries out an order
pub command_sound : (size ep : ℕ) (e : Endpoint) (errand : Errand) (s : EndpointState) → IsSound e (command size ep e errand s)
unfolding command
command_sound size ep e errand.Stop Running = no_result e _ refl refl
command_sound size ep e errand.Reset Halted = no_result e _ refl refl
command_sound size ep e errand.Move Stopped = no_result e _ refl refl
command_sound size ep e _ _ = no_result e _ refl refl

-- a choice of two works
sound_either : (e : Endpoint) (b : Bool) (x y : EndpointEffect) → IsSound e x → IsSound e y → IsSound e (if b then x else y)
sound_either e true x y p q = p
sound_either e false x y p q = q

-- asked items are withdrawn from a line with the endpoint's transfers
withdrawn_sound : (size : ℕ) (e : Endpoint) (line : List Item) (d : EndpointEffect) → keys line ≡ keys e.line → d.endpoint.line ≡ map blanked line → d.results ≡ withdrawn size line → IsSound e d
withdrawn_sound size e line d same left made = record {
  once = λ n. rw (left, made) (omega (arith, withdrawn_times size n line, ap (times n) (same_lives line e.line same)));
  ordered_at = rw (left, made, withdrawn_cut size line) (rw same at (withdrawn_part line));
}

-- the endpoint goes on, or Move is ordered
resume_sound : (size : ℕ) (e : Endpoint) (r : Reply) (line : List Item) → keys line ≡ keys e.line → IsSound e (resume size e r line)
unfolding resume
resume_sound size e r line same = sound_either e (leads_blank (map blanked line)) _ _ (withdrawn_sound size e line _ same refl refl) (withdrawn_sound size e line _ same refl refl)

-- behind the transfer whose end is told no other is left out
keys-line_after : (n code : ℕ) (line : List Item) → keys (line_after n code line) ≡ keys (past_number n line)
keys-line_after n code line = by_test (halts code)
  where
    by_test : (b : Bool) → keys (if b then past_number n line else past_blanks (past_number n line)) ≡ keys (past_number n line)
    by_test true = refl
    by_test false = keys-past_blanks (past_number n line)

-- the transfer whose end is told leaves its line
finished_sound : (size : ℕ) (gone : Bool) (e : Endpoint) (n code : ℕ) (d : EndpointEffect) → d.endpoint.line ≡ line_after n code e.line → d.results ≡ finished_result size gone code (in_progress n e.line) → IsSound e d
finished_sound size gone e n code d left made = record {
  once = λ k. rw (left, made) (omega (arith, finished_times size gone code n k e.line, ap (times k) (same_lives (line_after n code e.line) (past_number n e.line) (keys-line_after n code e.line))));
  ordered_at = rw (left, made, keys-line_after n code e.line) (finished_part size gone code n e.line);
}

-- a piece of news is handled
pub deliver_sound : (size ep : ℕ) (gone : Bool) (e : Endpoint) (event : Event) → IsSound e (deliver size ep gone e event)
unfolding deliver
deliver_sound size ep gone e (event.Finished n code) =
    sound_either e (needs_reset code e.errand) _ _ (finished_sound size gone e n code _ refl refl) (finished_sound size gone e n code _ refl refl)
deliver_sound size ep gone e (event.Paused n) = no_result e _ refl refl
deliver_sound size ep gone e (event.Settled errand.Stop false) = no_result e _ refl refl
deliver_sound size ep gone e (event.Settled errand.Stop true) = resume_sound size e _ e.line refl
deliver_sound size ep gone e (event.Settled errand.Reset ok) = withdrawn_sound size e e.line _ refl refl refl
deliver_sound size ep gone e (event.Settled errand.Move ok) = resume_sound size e _ (past_blanks e.line) (keys-past_blanks e.line)

-- a transfer is asked to end
pub ask_sound : (e : Endpoint) (n : ℕ) (ask : Ask) → IsSound e (asks e n ask)
unfolding asks
ask_sound e n ask = no_result e _ refl (keys-with_ask n ask e.line)
