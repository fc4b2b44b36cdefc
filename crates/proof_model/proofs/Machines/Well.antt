-- What holds of every machine: each endpoint fits its pieces of the lists, is its device's, and of an interface that is held.
use Rattle.std.proofs.Common.{Bool, List, None, Option, Some, [], ap, append-nil, arith, false, inl, inr, length, length-append, not, option_map, refl, subst, subst₂, suc, sym, true, ℕ, ◌&&◌, ◌++◌, ◌==◌, ◌||◌, ◌∙◌, ◌∷◌, ◌≡◌, ◌≤◌}
use Rattle.std.specs.Prelude.{if◌then◌else◌, unwrap_or}
use Rattle.std.proofs.lemmas.Bool.{and_from, and_parts, eqb-true, or_left, or_right}
use Rattle.std.proofs.lemmas.List.{length-map}
use Rattle.std.specs.Option.{option_map_or}
use Rattle.usb_model.specs.declared.errand.Errand.TheVariants as errand
use Rattle.usb_model.specs.declared.errand.Errand.{Errand}
use Rattle.usb_model.specs.declared.endpoint.Endpoint.{Endpoint}
use Rattle.usb_model.specs.declared.endpoint.EndpointState.TheVariants.{Running}
use Rattle.usb_model.specs.declared.endpoint.EndpointState.{EndpointState}
use Rattle.usb_model.specs.declared.handle.Handle.{Handle}
use Rattle.usb_model.specs.declared.item.Ask.{Ask}
use Rattle.usb_model.specs.declared.item.Item.{Item}
use Rattle.usb_model.specs.declared.news.Event.TheVariants.{Finished, Paused, Settled}
use Rattle.usb_model.specs.declared.news.Event.{Event}
use Rattle.usb_model.specs.declared.news.News.{News}
use Rattle.usb_model.specs.declared.order.Order.{Order}
use Rattle.usb_model.specs.declared.reply.Reply.TheVariants as reply
use Rattle.usb_model.specs.declared.request.Request.{Request}
use Rattle.usb_model.specs.declared.step.Step.TheVariants.{Answer, Cancel, Expire, Submit}
use Rattle.usb_model.specs.declared.step.Step.{Step}
use Rattle.usb_model.specs.declared.verdict.Verdict.TheVariants.{Again, AgainWith}
use Rattle.usb_model.specs.Laws.Bound.{first_counts}
use Rattle.usb_model.specs.Machine.Calls.{asks, submitted, with_ask}
use Rattle.usb_model.specs.Endpoint.Deliver.{blanked, deliver, line_after}
use Rattle.usb_model.specs.declared.endpoint_effect.EndpointEffect.{EndpointEffect}
use Rattle.usb_model.specs.Endpoint.{first_waiting, fresh, is_blank, is_transfer, is_waiting, new_item, outcome_of, past_blanks, past_number, with_first}
use Rattle.usb_model.specs.declared.effect.Effect.{Effect}
use Rattle.usb_model.specs.Machine.{Machine, device_of, at_endpoint, endpoint_at, is_gone, new_machine}
use Rattle.usb_model.specs.declared.outcome.Outcome.{Outcome}
use Rattle.usb_model.specs.Endpoint.Packets.{open_with, outcome}
use Rattle.usb_model.specs.Endpoint.Serve.{next_answer, serve, serve_by, serve_first, serve_gone}
use Rattle.usb_model.specs.Setup.{Setup, interface_of, is_within, packet_size_of}
use Rattle.usb_model.specs.World.Shared.{past_first}
use Rattle.usb_model.specs.Endpoint.Status.{halts}
use Rattle.usb_model.specs.Machine.Turns.{effect, ends_after, held_after, machine_after, take_effect, takes_news, takes_order}
use Rattle.proof_model.proofs.Machines.Acts.{Acts, IsNewOrGone, acts, acts_at, same_device}
use Rattle.proof_model.proofs.Coherence.Commands.{LeavesCoherent, coherent_ask, coherent_command, coherent_submit}
use Rattle.proof_model.proofs.Coherence.Delivers.{coherent_deliver}
use Rattle.proof_model.proofs.Coherence.Serves.{coherent_serve}
use Rattle.proof_model.proofs.Machines.Deeds.{IsAsk, IsDone, IsSubmission, IsWork, TakesNone, again, again_with, anew, asks_it, cancels, claims, claims_again, clears, closes, commands, delivers, expires, only_rests, opens, releases, resets, serves, stays, stops, submits, takes, works}
use Rattle.usb_model.specs.Fitness.{Fits, IsFit, IsWell, errands_of, events_of}
use Rattle.proof_model.proofs.Machines.Done.{is_done, takes_none}
use Rattle.proof_model.proofs.Coherence.Doings.{line-command, line-finished, line-resume}
use Rattle.usb_model.specs.Coherence.{IsCoherent, runs, served_events}
use Rattle.proof_model.proofs.Lists.Pieces.{either_way, same_name}

-- what a step takes is the first of the endpoint's own
pub first_order : (ep : ℕ) (o : Errand) (xs os : List Order) → xs ≡ record { ep = ep; errand = o } ∷ os → (errands_of ep xs ≡ o ∷ errands_of ep (past_first true xs)) × (first_counts (λ x. x.ep == ep) xs ≡ 1)
first_order ep o xs os is = rw (is, same_name ep) (refl, refl)

-- the first news, taken, is its endpoint's
pub first_news : (ep : ℕ) (event : Event) (xs ns : List News) → xs ≡ record { ep = ep; event = event } ∷ ns → (events_of ep xs ≡ event ∷ events_of ep (past_first true xs)) × (first_counts (λ x. x.ep == ep) xs ≡ 1)
first_news ep event xs ns is = rw (is, same_name ep) (refl, refl)

-- an ask, and a submission, take nothing
pub ask_takes : (m : Machine) (step : Step) (n : ℕ) (ask : Ask) → IsAsk step n ask → TakesNone m step
ask_takes m step n ask (cancels g k) = takes_none m (Cancel g k) refl refl refl
ask_takes m step n ask (expires g k) = takes_none m (Expire g k) refl refl refl

-- a submission takes nothing from the lists
pub submission_takes : (m : Machine) (step : Step) (handle : Handle) (request : Request) (round : ℕ) → IsSubmission m.handle step handle request round → TakesNone m step
submission_takes m step handle request round (anew g r) = takes_none m (Submit g r) refl refl refl
submission_takes m step handle request round (again g k x in_call) = takes_none m (Answer g k Again) refl refl refl
submission_takes m step handle request round (again_with g k bytes x in_call) = takes_none m (Answer g k (AgainWith bytes)) refl refl refl

-- an endpoint's orders behind what a step takes
abbrev pub errands_behind : ℕ → Machine → Step → List Errand
errands_behind ep m step = errands_of ep (past_first (takes_order step) m.orders)

-- an endpoint's news behind what a step takes
abbrev pub events_behind : ℕ → Machine → Step → List Event
events_behind ep m step = events_of ep (past_first (takes_news step) m.news)

-- an endpoint is coherent with its part of the machine's lists
abbrev pub IsCoherentAt : ℕ → Machine → Endpoint → Type 0
IsCoherentAt ep m e = IsCoherent e (errands_of ep m.orders) (events_of ep m.news)

-- what has to be known of work that takes nothing is known before it
pub nothing_taken : (P : List Errand → List Event → Type 0) (ep : ℕ) (m : Machine) (step : Step) → TakesNone m step → P (errands_of ep m.orders) (events_of ep m.news) → P (errands_behind ep m step) (events_behind ep m step)
nothing_taken P ep m step t p = subst₂ P (ap (errands_of ep) (sym t.orders)) (ap (events_of ep) (sym t.news)) p

-- each piece of work keeps its endpoint coherent
pub coherent_work : (setup : Setup) (m : Machine) (ep : ℕ) (e : Endpoint) (step : Step) (handle : Handle) (d : EndpointEffect) → IsWork setup m ep e step handle d → IsCoherentAt ep m e → LeavesCoherent d (errands_behind ep m step) (events_behind ep m step)
coherent_work setup m ep e step handle d (serves dev) c = coherent_serve _ _ e _ _ c
coherent_work setup m ep e step handle d (commands o os is) c = coherent_command _ ep e o _ _ (subst (λ l. IsCoherent e l (events_of ep m.news)) (first_order ep o m.orders os is).0 c)
coherent_work setup m ep e step handle d (delivers event ns is) c = coherent_deliver _ ep _ e _ event _ (subst (λ l. IsCoherent e (errands_of ep m.orders) l) (first_news ep event m.news ns is).0 c)
coherent_work setup m ep e step handle d (asks_it {ask = ask} n i is here free) c = nothing_taken (λ os ns. LeavesCoherent (asks e n ask) os ns) ep m step (ask_takes m step n ask is) (coherent_ask e n ask _ _ c)
coherent_work setup m ep e step handle d (submits {handle = left} {request = request} {round = round} is at fine short) c =
    nothing_taken (λ os ns. LeavesCoherent (submitted m.handle.next_number request round e) os ns) ep m step (submission_takes m step left request round is)
    (rw (append-nil (errands_of ep m.orders), append-nil (events_of ep m.news)) (coherent_submit e m.handle.next_number request round _ _ c))
coherent_work setup m ep e step handle d (clears g empty) c = rw (append-nil (errands_of ep m.orders), append-nil (events_of ep m.news)) c

-- how long lines become
length-with_first : (y : Item) (line : List Item) → length (with_first y line) ≡ length line
unfolding with_first
length-with_first y [] = refl
length-with_first y (x ∷ xs) = by_test (is_waiting x) (length-with_first y xs)
  where
    by_test : (b : Bool) → length (with_first y xs) ≡ length xs → length (if b then y ∷ xs else x ∷ with_first y xs) ≡ suc (length xs)
    by_test true e = refl
    by_test false e = ap suc e

-- a line is no longer past a transfer that leaves
length-past_number : (n : ℕ) (line : List Item) → length (past_number n line) ≤ length line
unfolding past_number
length-past_number n [] = omega arith
length-past_number n (x ∷ xs) = by_test (is_transfer n x) (length-past_number n xs)
  where
    by_test : (b : Bool) → length (past_number n xs) ≤ length xs → length (if b then xs else past_number n xs) ≤ suc (length xs)
    by_test true e = omega arith
    by_test false e = omega (arith, e)

-- a line is no longer past the cancelled that leave
length-past_blanks : (line : List Item) → length (past_blanks line) ≤ length line
unfolding past_blanks
length-past_blanks [] = omega arith
length-past_blanks (x ∷ xs) = by_test (is_blank x) (length-past_blanks xs)
  where
    by_test : (b : Bool) → length (past_blanks xs) ≤ length xs → length (if b then past_blanks xs else x ∷ xs) ≤ suc (length xs)
    by_test true e = omega (arith, e)
    by_test false e = omega arith

-- a line is no longer behind a result
length-line_after : (n code : ℕ) (line : List Item) → length (line_after n code line) ≤ length line
length-line_after n code line = by_test (halts code)
  where
    by_test : (b : Bool) → length (if b then past_number n line else past_blanks (past_number n line)) ≤ length line
    by_test true = length-past_number n line
    by_test false = omega (arith, length-past_number n line, length-past_blanks (past_number n line))

-- a packet that the first transfer is served leaves a line as long as it was
short_serve_first : (size : ℕ) (gone : Bool) (e : Endpoint) (s : EndpointState) (o : Option Item) → length (serve_first size gone e s o).endpoint.line ≡ length e.line
unfolding serve_first serve_gone serve_by
short_serve_first size true e Running (Some x) = length-with_first _ e.line
short_serve_first size false e Running (Some x) = by_code (unwrap_or (outcome x.request size (x.share ++ next_answer e) e.device_halted) (open_with [])).code
  where
    after : Outcome
    after = unwrap_or (outcome x.request size (x.share ++ next_answer e) e.device_halted) (open_with [])

    by_code : (code : Option ℕ) → length (serve_by e x (outcome_of size x) after code).endpoint.line ≡ length e.line
    by_code None = length-with_first _ e.line
    by_code (Some code) = length-with_first _ e.line
short_serve_first size gone e _ _ = refl

-- a packet that is served leaves a line as long as it was
short_serve : (size : ℕ) (gone : Bool) (e : Endpoint) → length (serve size gone e).endpoint.line ≡ length e.line
unfolding serve
short_serve size gone e = short_serve_first size gone e e.state (first_waiting e.line)

-- a delivery leaves a line no longer
short_deliver : (size ep : ℕ) (gone : Bool) (e : Endpoint) (event : Event) → length (deliver size ep gone e event).endpoint.line ≤ length e.line
unfolding deliver
short_deliver size ep gone e (Finished n code) = omega (arith, length-line_after n code e.line, ap length (line-finished size ep gone e n code))
short_deliver size ep gone e (Paused n) = omega arith
short_deliver size ep gone e (Settled errand.Stop false) = omega arith
short_deliver size ep gone e (Settled errand.Stop true) = omega (arith, ap length (line-resume size e (reply.Settled ep errand.Stop true) e.line), length-map e.line blanked)
short_deliver size ep gone e (Settled errand.Reset ok) = omega (arith, length-map e.line blanked)
short_deliver size ep gone e (Settled errand.Move ok) = omega (arith, ap length (line-resume size e (reply.Settled ep errand.Move ok) (past_blanks e.line)), length-map (past_blanks e.line) blanked, length-past_blanks e.line)

-- no work makes a line longer than 16
short_work : (setup : Setup) (m : Machine) (ep : ℕ) (e : Endpoint) (step : Step) (handle : Handle) (d : EndpointEffect) → IsWork setup m ep e step handle d → length e.line ≤ 16 → length d.endpoint.line ≤ 16
unfolding asks
short_work setup m ep e step handle d (serves dev) l = omega (arith, short_serve (packet_size_of setup (device_of m) ep) (is_gone m) e, l)
short_work setup m ep e step handle d (commands o os is) l = omega (arith, ap length (line-command (packet_size_of setup (device_of m) ep) ep e o e.state), l)
short_work setup m ep e step handle d (delivers event ns is) l = omega (arith, short_deliver (packet_size_of setup (device_of m) ep) ep (is_gone m) e event, l)
short_work setup m ep e step handle d (asks_it {ask = ask} n i is here free) l = omega (arith, length-map e.line (with_ask n ask), l)
short_work setup m ep e step handle d (submits {request = request} {round = round} is at fine room) l = omega (arith, length-append e.line (new_item m.handle.next_number request round ∷ []), room)
short_work setup m ep e step handle d (clears g empty) l = l

-- the endpoints fit after each step
fit_fresh : (setup : Setup) (d ep : ℕ) → IsFit (fresh setup d ep) [] []
unfolding fresh served_events
fit_fresh setup d ep = record { coherent = record { tail = []; news = refl; in_order = tt; phase = runs tt; answered = λ q. refl }; short = omega arith }

-- a new endpoint fits empty lists
fits_new : (setup : Setup) (ep : ℕ) (o : Option Endpoint) → IsNewOrGone setup ep o → Fits o [] []
fits_new setup ep o (inl e) = rw e (refl, refl)
fits_new setup ep o (inr e) = rw e.1 (fit_fresh setup e.0 ep)

-- a step keeps each endpoint fitting its part of the lists
fits_kept : (setup : Setup) (ep : ℕ) (m m' : Machine) (step : Step) → Acts setup ep m m' step → Fits (endpoint_at m ep) (errands_of ep m.orders) (events_of ep m.news) → Fits (endpoint_at m' ep) (errands_of ep m'.orders) (events_of ep m'.news)
fits_kept setup ep m m' step (inl (inl s)) f = rw (s.end, s.lists.orders, s.lists.news) f
fits_kept setup ep m m' step (inr w) f =
    let fit : IsFit w.e (errands_of ep m.orders) (events_of ep m.news) = subst (λ o. Fits o (errands_of ep m.orders) (events_of ep m.news)) w.here f in
    rw (w.end, w.orders, w.news)
    (record { coherent = coherent_work setup m ep w.e step w.handle w.doing w.work fit.coherent; short = short_work setup m ep w.e step w.handle w.doing w.work fit.short })
fits_kept setup ep m m' step (inl (inr r)) f = rw (r.lists.orders ∙ r.idle.no_orders, r.lists.news ∙ r.idle.no_news) (fits_new setup ep (endpoint_at m' ep) r.end)

-- an endpoint is where its device and its interface are
abbrev IsPlacedIn : Setup → Handle → (ℕ → ℕ → Bool) → ℕ → ℕ → Type 0
IsPlacedIn setup handle held d ep = (handle.device ≡ Some d) × (i : ℕ) × (interface_of setup d ep ≡ Some i) × (held d i ≡ true)

-- an endpoint that is there after a change of those there was there
was_there : (b : Bool) (o : Option Endpoint) (new x : Endpoint) → (if b then option_map (λ old. new) o else o) ≡ Some x → (y : Endpoint) × (o ≡ Some y)
was_there true None new x e = absurd cc
was_there true (Some y) new x e = (y, refl)
was_there false o new x e = (x, e)

-- an endpoint that a machine has is its device's, of an interface it holds
placed_before : (setup : Setup) (m : Machine) (d ep : ℕ) (x : Endpoint) → IsWell setup m → m.endpoints d ep ≡ Some x → IsPlacedIn setup m.handle m.held d ep
placed_before setup m d ep x well is = let h = well.of_held d ep x is in (well.at_device d ep x is, h.0, h.1, h.2)

-- a gained interface's endpoints, and the others
placed_gained : (setup : Setup) (m : Machine) (i d ep : ℕ) (x : Endpoint) → IsWell setup m → m.handle.device ≡ Some (device_of m) → (if is_within setup (device_of m) i d ep then Some (fresh setup d ep) else m.endpoints d ep) ≡ Some x
    → IsPlacedIn setup m.handle (λ k j. ((device_of m == k) && (i == j)) || m.held k j) d ep
placed_gained setup m i d ep x well opened is = by_test (is_within setup (device_of m) i d ep) refl is
  where
    interface : (o : Option ℕ) → option_map_or (λ k. k == i) o false ≡ true → o ≡ Some i
    interface None e = absurd cc
    interface (Some k) e = ap (λ j. Some j) (eqb-true k i e)

    by_test : (b : Bool) → is_within setup (device_of m) i d ep ≡ b → (if b then Some (fresh setup d ep) else m.endpoints d ep) ≡ Some x → IsPlacedIn setup m.handle (λ k j. ((device_of m == k) && (i == j)) || m.held k j) d ep
    by_test true within q =
        let p = and_parts (device_of m == d) _ within in
        (opened ∙ ap (λ k. Some k) (eqb-true (device_of m) d p.0), i, interface (interface_of setup d ep) p.1, or_left _ (m.held d i) (and_from _ _ p.0 (same_name i)))
    by_test false within q =
        let b = placed_before setup m d ep x well q in
        (b.0, b.1, b.2, or_right _ (m.held d b.1) b.3)

-- those of other interfaces than the one that is dropped
placed_dropped : (setup : Setup) (m : Machine) (i d ep : ℕ) (x : Endpoint) → IsWell setup m → (if is_within setup (device_of m) i d ep then None else m.endpoints d ep) ≡ Some x
    → IsPlacedIn setup m.handle (λ k j. not ((device_of m == k) && (i == j)) && m.held k j) d ep
placed_dropped setup m i d ep x well is = by_test (is_within setup (device_of m) i d ep) refl is
  where
    by_test : (b : Bool) → is_within setup (device_of m) i d ep ≡ b → (if b then None else m.endpoints d ep) ≡ Some x → IsPlacedIn setup m.handle (λ k j. not ((device_of m == k) && (i == j)) && m.held k j) d ep
    by_test true within q = absurd cc
    by_test false within q =
        let b = placed_before setup m d ep x well q in
        let other : ((device_of m == d) && (i == b.1)) ≡ false = ap (λ t. (device_of m == d) && t) (either_way i b.1) ∙ (ap (λ o. (device_of m == d) && option_map_or (λ k. k == i) o false) (sym b.2) ∙ within) in
        (b.0, b.1, b.2, and_from _ _ (ap not other) b.3)

-- an endpoint that a machine has after a step is its device's, of an interface it holds
placed_after : (setup : Setup) (h : ℕ) (m : Machine) (step : Step) (done : Effect) (d ep : ℕ) (x : Endpoint) → IsWell setup m → IsDone setup h m step done → ends_after setup m.endpoints done.change d ep ≡ Some x
    → IsPlacedIn setup done.handle (λ k j. held_after m.held done.change k j) d ep
unfolding at_endpoint take_effect
placed_after setup h m step done d ep x well (only_rests (stays bare t)) is = placed_before setup m d ep x well is
placed_after setup h m step done d ep x well (only_rests (claims_again g i)) is = placed_before setup m d ep x well is
placed_after setup h m step done d ep x well (only_rests (stops g k y in_call)) is = placed_before setup m d ep x well is
placed_after setup h m step done d ep x well (only_rests (opens g dev none)) is = absurd cc
placed_after setup h m step done d ep x well (only_rests (closes g idle)) is = absurd cc
placed_after setup h m step done d ep x well (only_rests (claims g i opened free)) is = placed_gained setup m i d ep x well opened is
placed_after setup h m step done d ep x well (only_rests (releases g i idle)) is = placed_dropped setup m i d ep x well is
placed_after setup h m step done d ep x well (only_rests (resets g idle)) is = let w = was_there true (m.endpoints d ep) (fresh setup d ep) x is in placed_before setup m d ep w.0 well w.1
placed_after setup h m step done d ep x well (works {handle = handle} {d = doing} at e here work) is =
    let w = was_there ((device_of m == d) && (at == ep)) (m.endpoints d ep) doing.endpoint x is in
    let b = placed_before setup m d ep w.0 well w.1 in
    (same_device setup m at e step handle doing work ∙ b.0, b.1, b.2, b.3)
placed_after setup h m step done d ep x well (only_rests (takes r rs results)) is = placed_before setup m d ep x well is

-- it holds after each step
pub well_after : (setup : Setup) (h : ℕ) (m : Machine) (step : Step) (done : Effect) → IsWell setup m → IsDone setup h m step done → IsWell setup (machine_after setup m step done)
unfolding machine_after
well_after setup h m step done well is = record {
  at_device = λ d ep x there. (placed_after setup h m step done d ep x well is there).0;
  of_held = λ d ep x there. let p = placed_after setup h m step done d ep x well is there in (p.1, p.2, p.3);
  fits = λ ep. fits_kept setup ep m (machine_after setup m step done) step (acts_at setup m (machine_after setup m step done) step (acts setup h m step done well is) ep) (well.fits ep);
}

-- each step keeps a machine well
pub well_kept : (setup : Setup) (h : ℕ) (m : Machine) (step : Step) → IsWell setup m → IsWell setup (machine_after setup m step (effect setup h m step))
well_kept setup h m step well = well_after setup h m step (effect setup h m step) well (is_done setup h m step well)

-- and of a machine that was never opened
pub well_new : (setup : Setup) → IsWell setup new_machine
unfolding new_machine
well_new setup = record { at_device = λ d ep x e. absurd cc; of_held = λ d ep x e. absurd cc; fits = λ ep. (refl, refl) }

-- an endpoint of the machine fits its pieces
pub fit_at : (setup : Setup) (m : Machine) (ep : ℕ) (e : Endpoint) → IsWell setup m → endpoint_at m ep ≡ Some e → IsFit e (errands_of ep m.orders) (events_of ep m.news)
fit_at setup m ep e well here = subst (λ o. Fits o (errands_of ep m.orders) (events_of ep m.news)) here (well.fits ep)
