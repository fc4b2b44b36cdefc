-- A delivery of the endpoint uses one up, or the asked transfer has its result.
use Rattle.std.proofs.Common.{Bool, List, None, Option, Some, [], ap, append-nil, ap₂, arith, false, inl, inr, length, map, not, refl, subst, sym, true, ℕ, ◌&&◌, ◌++◌, ◌+◌, ◌-◌, ◌==◌, ◌∙◌, ◌∷◌, ◌≡◌, ◌≤◌, ◌⊎◌}
use Rattle.std.specs.Prelude.{if◌then◌else◌, is_some}
use Rattle.std.proofs.lemmas.Bool.{and_parts, and_right, eqb-true, false≢true}
use Rattle.usb_model.specs.declared.errand.Errand.TheVariants as errand
use Rattle.usb_model.specs.declared.errand.Errand.{Errand}
use Rattle.usb_model.specs.declared.endpoint.Endpoint.{Endpoint}
use Rattle.usb_model.specs.declared.endpoint.EndpointState.TheVariants.{Stopped}
use Rattle.usb_model.specs.declared.endpoint.EndpointState.{EndpointState}
use Rattle.usb_model.specs.declared.item.Item.{Item}
use Rattle.usb_model.specs.declared.item.ItemState.TheVariants.{Blank, Served, Waiting}
use Rattle.usb_model.specs.declared.item.ItemState.{ItemState}
use Rattle.usb_model.specs.declared.news.Event.TheVariants.{Finished, Paused, Settled}
use Rattle.usb_model.specs.declared.news.Event.{Event}
use Rattle.usb_model.specs.Laws.Cut.{times}
use Rattle.usb_model.specs.Endpoint.Deliver.{blanked, deliver, finished_result, is_withdrawn, line_after, needs_reset, withdrawn}
use Rattle.usb_model.specs.Endpoint.{in_progress, is_blank, is_blank_state, is_transfer, is_waiting, is_waiting_state, live_numbers, past_blanks, past_number, result_of}
use Rattle.usb_model.specs.Endpoint.Status.{halts}
use Rattle.proof_model.proofs.Coherence.Commands.{in_phase}
use Rattle.proof_model.proofs.Coherence.Delivers.{coherent_deliver, first_is_end}
use Rattle.proof_model.proofs.Lists.Parts.{heads_same}
use Rattle.proof_model.proofs.Coherence.Doings.{line-finished, line-resume}
use Rattle.proof_model.proofs.Bound.Due.{IsDue, IsLeft, LeavesDue, ahead_of, ahead_of-past_blanks, ahead_of-past_number, asked_waits, commands_left, delivers_left, failures}
use Rattle.proof_model.proofs.Work.Lines.{found_it, finished_times, lives-past_blanks, result_numbers, withdrawn_times, progress_times}
use Rattle.usb_model.specs.Coherence.{IsCoherent, IsPhase, event_by, move_ran, reset_ran, served_events, stop_failed, stop_ran, stop_ran_paused}
use Rattle.proof_model.proofs.Lists.Times.{times-cons, times_one}
use Rattle.proof_model.proofs.Work.Phases.{no_end, no_false, stop_or_none}

-- an asked item that waits is withdrawn
withdrawn_has : (size n : ℕ) (line : List Item) (i : Item) → in_progress n line ≡ Some i → is_waiting i ≡ true → is_some i.ask ≡ true → 1 ≤ times n (result_numbers (withdrawn size line))
unfolding in_progress withdrawn
withdrawn_has size n [] i e w a = absurd cc
withdrawn_has size n (x ∷ xs) i e w a = by_tests (is_transfer n x) (is_withdrawn x) refl refl e (withdrawn_has size n xs i)
  where
    number : is_transfer n x ≡ true → (x.n == n) ≡ true
    number q = (and_parts (x.n == n) (not (is_blank x)) q).0

    by_tests : (b c : Bool) → is_transfer n x ≡ b → is_withdrawn x ≡ c → (if b then Some x else in_progress n xs) ≡ Some i
        → (in_progress n xs ≡ Some i → is_waiting i ≡ true → is_some i.ask ≡ true → 1 ≤ times n (result_numbers (withdrawn size xs)))
        → 1 ≤ times n (result_numbers (if c then result_of size false 26 x ∷ withdrawn size xs else withdrawn size xs))
    by_tests true true q r e rest = omega (arith, rw (number q) at (times-cons n x.n (result_numbers (withdrawn size xs))))
    by_tests true false q r e rest = let same : x ≡ i = cc in absurd (cc (r, ap₂ (λ s t. s && t) (ap is_waiting same ∙ w) (ap (λ k. is_some k.ask) same ∙ a)))
    by_tests false true q r e rest = omega (arith, rest e w a, times-cons n x.n (result_numbers (withdrawn size xs)))
    by_tests false false q r e rest = rest e w a

-- an asked transfer that waits is no more in progress once the withdrawn are
gone_withdrawn : (size n : ℕ) (line : List Item) (i j : Item) → times n (live_numbers line) ≤ 1 → in_progress n line ≡ Some i → is_waiting i ≡ true → is_some i.ask ≡ true → in_progress n (map blanked line) ≡ Some j → ⊥
gone_withdrawn size n line i j single e w a still =
    omega (arith, single, withdrawn_times size n line, withdrawn_has size n line i e w a, progress_times n (map blanked line) j still)

-- what is in progress and does not wait is served
pub served_shows : (n : ℕ) (line : List Item) (i : Item) → in_progress n line ≡ Some i → is_waiting i ≡ false → served_events line ≡ [] → ⊥
unfolding in_progress served_events
served_shows n [] i e w s = cc
served_shows n (x ∷ xs) i e w s = by_state x.state refl e s (served_shows n xs i)
  where
    by_state : (t : ItemState) → x.state ≡ t → (if (x.n == n) && not (is_blank_state t) then Some x else in_progress n xs) ≡ Some i → event_by x.n t (served_events xs) ≡ []
        → (in_progress n xs ≡ Some i → is_waiting i ≡ false → served_events xs ≡ [] → ⊥) → ⊥
    by_state Waiting is e s rest = by_test (x.n == n) e
      where
        by_test : (b : Bool) → (if b && true then Some x else in_progress n xs) ≡ Some i → ⊥
        by_test true q = let same : x ≡ i = cc in let waits : is_waiting x ≡ true = ap is_waiting_state is in cc (ap is_waiting same)
        by_test false q = rest q w s
    by_state (Served code) is e s rest = cc
    by_state Blank is e s rest = by_test (x.n == n) e
      where
        by_test : (b : Bool) → (if b && false then Some x else in_progress n xs) ≡ Some i → ⊥
        by_test true q = rest q w s
        by_test false q = rest q w s

-- what a delivery leaves, where no end waits to be told
abbrev pub DeliverLeft : ℕ → ℕ → Bool → ℕ → Endpoint → Event → Item → List Errand → List Event → ℕ → ℕ → Type 0
DeliverLeft size ep gone n e event item os ns c d =
    (2 ≤ d) × (in_progress n (deliver size ep gone e event).endpoint.line ≡ Some item)
    × IsLeft item (deliver size ep gone e event).endpoint.errand (os ++ (deliver size ep gone e event).orders) (ns ++ (deliver size ep gone e event).news) (ahead_of n (deliver size ep gone e event).endpoint.line) c (d - 1)

-- news that is no transfer's result uses one delivery up, or ends the asked transfer
pub tail_left : (size ep : ℕ) (gone : Bool) (n : ℕ) (e : Endpoint) (s : EndpointState) (er : Option Errand) (os : List Errand) (fs tail : List Event) (event : Event) (ns : List Event) (item j : Item) (b c d : ℕ)
    → IsPhase s er os fs tail → tail ≡ event ∷ ns → in_progress n e.line ≡ Some item → is_waiting item ≡ true → is_some item.ask ≡ true → times n (live_numbers e.line) ≤ 1
    → commands_left er os (event ∷ ns) ≤ c → delivers_left er os (event ∷ ns) b ≤ d
    → in_progress n (deliver size ep gone (in_phase e s er) event).endpoint.line ≡ Some j
    → DeliverLeft size ep gone n (in_phase e s er) event item os ns c d
unfolding deliver
tail_left size ep gone n e s er os fs tail (Settled errand.Stop true) ns item j b c d (stop_ran g) told here w a single cs ds still =
    absurd (gone_withdrawn size n e.line item j single here w a (ap (in_progress n) (sym (line-resume size (in_phase e Stopped (Some errand.Stop)) _ e.line)) ∙ still))
tail_left size ep gone n e s er os fs tail (Paused k) ns item j b c d (stop_ran_paused g) told here w a single cs ds still =
    let rest : Settled errand.Stop true ∷ [] ≡ ns = cc in
    (omega (arith, ds, ap length rest), here, inr (w, omega (arith, cs, ap failures (append-nil ns)), omega (arith, ds, ap length rest, ap failures (append-nil ns), ap length (append-nil ns))))
tail_left size ep gone n e s er os fs tail (Settled errand.Stop false) ns item j b c d (stop_failed g) told here w a single cs ds still =
    (omega (arith, ds), here, inr (w, omega (arith, cs), omega (arith, ds)))
tail_left size ep gone n e s er os fs tail (Settled errand.Reset true) ns item j b c d reset_ran told here w a single cs ds still =
    absurd (gone_withdrawn size n e.line item j single here w a still)
tail_left size ep gone n e s er os fs tail (Settled errand.Move true) ns item j b c d move_ran told here w a single cs ds still =
    let p = ahead_of-past_blanks n e.line in
    absurd (gone_withdrawn size n (past_blanks e.line) item j (rw (lives-past_blanks e.line) single) (p.0 ∙ here) w a (ap (in_progress n) (sym (line-resume size (in_phase e Stopped (Some errand.Move)) _ (past_blanks e.line))) ∙ still))
tail_left size ep gone n e s er os fs tail (Finished k code) ns item j b c d p told here w a single cs ds still = absurd (no_end s er os fs tail k code ns p told)
tail_left size ep gone n e s er os fs tail (Settled errand.Reset false) ns item j b c d p told here w a single cs ds still = absurd (cc (no_false s er os fs tail errand.Reset ns p told))
tail_left size ep gone n e s er os fs tail (Settled errand.Move false) ns item j b c d p told here w a single cs ds still = absurd (cc (no_false s er os fs tail errand.Move ns p told))
tail_left size ep gone n e s er os fs tail _ ns item j b c d _ told here w a single cs ds still = absurd cc

-- blanks that leave behind the end that is told change nothing
past_same : (n k code : ℕ) (line : List Item) → (in_progress n (line_after k code line) ≡ in_progress n (past_number k line)) × (ahead_of n (line_after k code line) ≡ ahead_of n (past_number k line))
past_same n k code line = by_test (halts code)
  where
    by_test : (b : Bool) → (in_progress n (if b then past_number k line else past_blanks (past_number k line)) ≡ in_progress n (past_number k line))
        × (ahead_of n (if b then past_number k line else past_blanks (past_number k line)) ≡ ahead_of n (past_number k line))
    by_test true = (refl, refl)
    by_test false = ahead_of-past_blanks n (past_number k line)

-- while Stop is the errand, one fewer is left
stop_left : (os : List Errand) (k code : ℕ) (ns : List Event) (item : Item) (b c d : ℕ) → is_waiting item ≡ true
    → commands_left (Some errand.Stop) os (Finished k code ∷ ns) ≤ c → delivers_left (Some errand.Stop) os (Finished k code ∷ ns) (b + 1) ≤ d
    → (1 ≤ d) × IsLeft item (Some errand.Stop) os ns b c (d - 1)
stop_left [] k code ns item b c d w cs ds = (omega (arith, ds), inr (w, omega (arith, cs), omega (arith, ds)))
stop_left (o ∷ os) k code ns item b c d w cs ds = (omega (arith, ds), inr (w, cs, omega (arith, ds)))

-- its own end: it is gone
gone_finished : (size : ℕ) (gone : Bool) (code n : ℕ) (line : List Item) (i j : Item) → times n (live_numbers line) ≤ 1 → in_progress n line ≡ Some i → in_progress n (past_number n line) ≡ Some j → ⊥
gone_finished size gone code n line i j single here still =
    let number : i.n ≡ n = eqb-true i.n n (and_parts (i.n == n) (not (is_blank i)) (found_it n line i here)).0 in
    let one : times n (result_numbers (finished_result size gone code (in_progress n line))) ≡ 1 = ap (λ o. times n (result_numbers (finished_result size gone code o))) here ∙ times_one n i.n number in
    omega (arith, single, finished_times size gone code n n line, one, progress_times n (past_number n line) j still)

-- an end that is delivered gives no order while the endpoint is asked to stop
no_reset : (code : ℕ) (er : Option Errand) → er ≡ Some errand.Stop → needs_reset code er ≡ false
no_reset code er e = rw e (and_right (halts code) false refl)

-- what is left behind a delivery: one less
abbrev pub DueAfter : ℕ → ℕ → Bool → ℕ → ℕ → ℕ → Endpoint → List Errand → Event → List Event → Type 0
DueAfter size ep gone n c d e os event ns = (1 ≤ d) × LeavesDue n c (d - 1) (deliver size ep gone e event) os ns

-- while Stop is the errand, an end leaves errand and orders as they are
due_finished : (size ep : ℕ) (gone : Bool) (n c d k code : ℕ) (e : Endpoint) (os : List Errand) (ns : List Event) (item : Item) → IsCoherent e os (Finished k code ∷ ns) → is_some item.ask ≡ true → e.errand ≡ Some errand.Stop
    → in_progress n (past_number k e.line) ≡ Some item → (1 ≤ d) × IsLeft item (Some errand.Stop) os ns (ahead_of n (past_number k e.line)) c (d - 1) → DueAfter size ep gone n c d e os (Finished k code) ns
unfolding deliver
due_finished size ep gone n c d k code e os ns item co asked stop here r =
    let p = past_same n k code e.line in (
      r.0,
      record {
        coherent = coherent_deliver size ep gone e os (Finished k code) ns co;
        item = item;
        here = ap (in_progress n) (line-finished size ep gone e k code) ∙ (p.0 ∙ here);
        asked = asked;
        bound = rw (no_reset code e.errand stop, append-nil os, append-nil ns, p.1, stop) r.1;
      },
    )

-- a delivery uses one up, or ends the asked transfer
pub due_deliver : (size ep : ℕ) (gone : Bool) (n c d : ℕ) (e : Endpoint) (os : List Errand) (event : Event) (ns : List Event) (j : Item) → IsDue n c d e os (event ∷ ns) → times n (live_numbers e.line) ≤ 1
    → in_progress n (deliver size ep gone e event).endpoint.line ≡ Some j → DueAfter size ep gone n c d e os event ns
unfolding deliver
due_deliver size ep gone n c d e os event ns j due single still = by_events (served_events e.line) refl
  where
    co : IsCoherent e os (event ∷ ns)
    co = due.coherent

    by_tail : IsLeft due.item e.errand os (event ∷ ns) (ahead_of n e.line) c d → served_events e.line ≡ [] → DueAfter size ep gone n c d e os event ns
    by_tail (inl q) none = absurd (served_shows n e.line due.item due.here q.0 none)
    by_tail (inr q) none =
        let told : co.tail ≡ event ∷ ns = sym (co.news ∙ ap (λ l. l ++ co.tail) none) in
        let r = tail_left size ep gone n e e.state e.errand os (served_events e.line) co.tail event ns due.item j (ahead_of n e.line) c d co.phase told due.here q.0 due.asked single q.1 q.2 still in
        (omega (arith, r.0), record { coherent = coherent_deliver size ep gone e os event ns co; item = due.item; here = r.1; asked = due.asked; bound = r.2 })

    -- the end of number k is told
    at_end : (k code : ℕ) → IsCoherent e os (Finished k code ∷ ns) → (es : List Event) → served_events e.line ≡ Finished k code ∷ es
        → in_progress n (line_after k code e.line) ≡ Some j
        → IsLeft due.item e.errand os (Finished k code ∷ ns) (ahead_of n e.line) c d → DueAfter size ep gone n c d e os (Finished k code) ns
    at_end k code co' es is left (inl q) = by_number (k == n) refl
      where
        by_number : (b : Bool) → (k == n) ≡ b → DueAfter size ep gone n c d e os (Finished k code) ns
        by_number true same =
            absurd (gone_finished size gone code n e.line due.item j single due.here
            (subst (λ m. in_progress n (past_number m e.line) ≡ Some j) (eqb-true k n same) (sym (past_same n k code e.line).0 ∙ left)))
        by_number false differ =
            let r = ahead_of-past_number n k code e.line due.item es co'.in_order is due.here (λ own. absurd (false≢true (sym differ ∙ own))) in
            due_finished size ep gone n c d k code e os ns due.item co' due.asked q.1 r.0 (omega (arith, q.3), inl (q.0, refl, q.2, omega (arith, q.3, r.1)))
    at_end k code co' es is left (inr q) = by_errand (stop_or_none e.state e.errand os (served_events e.line) co'.tail k code es co'.phase is)
      where
        by_errand : (e.errand ≡ None) ⊎ (e.errand ≡ Some errand.Stop) → DueAfter size ep gone n c d e os (Finished k code) ns
        by_errand (inl idle) = absurd (asked_waits n e.line due.item due.here q.0 due.asked (co'.answered idle))
        by_errand (inr stop) =
            let r = ahead_of-past_number n k code e.line due.item es co'.in_order is due.here (λ own. q.0) in
            due_finished size ep gone n c d k code e os ns due.item co' due.asked stop r.0
            (stop_left os k code ns due.item (ahead_of n (past_number k e.line)) c d q.0
            (subst (λ o. commands_left o os (Finished k code ∷ ns) ≤ c) stop q.1)
            (subst (λ b. delivers_left (Some errand.Stop) os (Finished k code ∷ ns) b ≤ d) (sym r.1) (subst (λ o. delivers_left o os (Finished k code ∷ ns) (ahead_of n e.line) ≤ d) stop q.2)))

    by_events : (fs : List Event) → served_events e.line ≡ fs → DueAfter size ep gone n c d e os event ns
    by_events [] is = by_tail due.bound is
    by_events (x ∷ es) is =
        let f = first_is_end e.line x es is in
        let k : ℕ = f.0 in
        let code : ℕ = f.1 in
        let told : event ≡ Finished k code = (heads_same event x ns (es ++ co.tail) (co.news ∙ ap (λ l. l ++ co.tail) is)).0 ∙ f.2 in
        subst (λ y. DueAfter size ep gone n c d e os y ns) (sym told)
        (at_end k code (subst (λ y. IsCoherent e os (y ∷ ns)) told co) es (is ∙ ap (λ y. y ∷ es) f.2)
        (ap (in_progress n) (sym (line-finished size ep gone e k code)) ∙ subst (λ y. in_progress n (deliver size ep gone e y).endpoint.line ≡ Some j) told still)
        (subst (λ y. IsLeft due.item e.errand os (y ∷ ns) (ahead_of n e.line) c d) told due.bound))
