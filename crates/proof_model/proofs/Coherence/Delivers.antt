-- A delivery keeps an endpoint and its pieces of the lists coherent.
use Rattle.std.proofs.Common.{Bool, List, None, Option, Some, [], ap, append-nil, false, inl, inr, map, refl, subst, subst₂, sym, true, ℕ, ◌&&◌, ◌++◌, ◌∙◌, ◌∷◌, ◌≡◌}
use Rattle.std.specs.Prelude.{if◌then◌else◌}
use Rattle.std.proofs.lemmas.Bool.{and_right, or_parts}
use Rattle.usb_model.specs.declared.errand.Errand.TheVariants as errand
use Rattle.usb_model.specs.declared.errand.Errand.{Errand}
use Rattle.usb_model.specs.declared.endpoint.Endpoint.{Endpoint}
use Rattle.usb_model.specs.declared.endpoint.EndpointState.TheVariants.{Halted, Running, Stopped}
use Rattle.usb_model.specs.declared.endpoint.EndpointState.{EndpointState}
use Rattle.usb_model.specs.declared.item.Item.{Item}
use Rattle.usb_model.specs.declared.item.ItemState.TheVariants.{Blank, Served, Waiting}
use Rattle.usb_model.specs.declared.item.ItemState.{ItemState}
use Rattle.usb_model.specs.declared.news.Event.TheVariants.{Finished, Paused, Settled}
use Rattle.usb_model.specs.declared.news.Event.{Event}
use Rattle.usb_model.specs.declared.result.TransferResult.{TransferResult}
use Rattle.usb_model.specs.declared.reply.Reply.{Reply}
use Rattle.usb_model.specs.Laws.Cut.{told}
use Rattle.usb_model.specs.Endpoint.Deliver.{blanked, deliver, is_withdrawn, leads_blank, line_after, needs_reset, orders_errand, resume, withdrawn}
use Rattle.usb_model.specs.Endpoint.{is_blank, is_transfer, past_blanks, past_number}
use Rattle.usb_model.specs.Endpoint.Status.{halts}
use Rattle.proof_model.proofs.Work.Errands.{asked-blanked, events-blanked, events-past_blanks, events-past_number, first-blanked}
use Rattle.usb_model.specs.Coherence.{AllGo, Coheres, EndsStop, IsCoherent, IsPhase, MayStop, ServedFirst, ended, event_by, has_asked, move_ran, move_waits, reset_ran, reset_waits, runs, served_events, stop_failed, stop_ran, stop_ran_paused, stop_waits, stop_waits_halted}
use Rattle.proof_model.proofs.Coherence.Commands.{LeavesCoherent, coheres_free, coheres_in, in_phase, same_phase}
use Rattle.proof_model.proofs.Lists.Parts.{heads_same}

-- after a withdrawal an endpoint that stands runs, or Move is ordered
coherent_resume : (size : ℕ) (e : Endpoint) (r : Reply) (line : List Item) → e.state ≡ Stopped → served_events line ≡ [] → ServedFirst line → LeavesCoherent (resume size e r line) [] []
unfolding resume
coherent_resume size e r line stopped none order = by_test (leads_blank (map blanked line))
  where
    by_test : (b : Bool) → LeavesCoherent (if b then orders_errand (record e { line = map blanked line }) errand.Move r (withdrawn size line) else record { reply = r; endpoint = record e { line = map blanked line; errand = None; state = Running }; orders = []; news = []; results = withdrawn size line }) [] []
    by_test true = coheres_in (map blanked line) e.state errand.Move (errand.Move ∷ []) [] [] [] (events-blanked line ∙ none) refl (first-blanked line order) (same_phase (sym stopped) refl move_waits)
    by_test false = coheres_free (map blanked line) Running [] [] [] [] (events-blanked line ∙ none) refl (first-blanked line order) (asked-blanked line) (runs tt)

-- the line behind a transfer whose end is told
pub past_told : (line : List Item) (n code : ℕ) (es : List Event) → ServedFirst line → served_events line ≡ Finished n code ∷ es → (served_events (line_after n code line) ≡ es) × ServedFirst (line_after n code line)
past_told line n code es order is = by_test (halts code)
  where
    by_test : (b : Bool) → (served_events (if b then past_number n line else past_blanks (past_number n line)) ≡ es) × ServedFirst (if b then past_number n line else past_blanks (past_number n line))
    by_test true = events-past_number line n code es order is
    by_test false =
        let p = events-past_number line n code es order is in
        let q = events-past_blanks (past_number n line) p.1 in
        (q.0 ∙ p.0, q.1)

-- a line without an ask has none past a transfer that leaves
asked-past_number : (n : ℕ) (line : List Item) → has_asked line ≡ false → has_asked (past_number n line) ≡ false
unfolding past_number
asked-past_number n [] a = refl
asked-past_number n (x ∷ xs) a = by_test (is_transfer n x) (or_parts (is_withdrawn x) (has_asked xs) a) (asked-past_number n xs)
  where
    by_test : (b : Bool) → (is_withdrawn x ≡ false) × (has_asked xs ≡ false) → (has_asked xs ≡ false → has_asked (past_number n xs) ≡ false) → has_asked (if b then xs else past_number n xs) ≡ false
    by_test true p rest = p.1
    by_test false p rest = rest p.1

-- a line without an ask has none past the cancelled that leave
asked-past_blanks : (line : List Item) → has_asked line ≡ false → has_asked (past_blanks line) ≡ false
unfolding past_blanks
asked-past_blanks [] a = refl
asked-past_blanks (x ∷ xs) a = by_test (is_blank x) (or_parts (is_withdrawn x) (has_asked xs) a) (asked-past_blanks xs)
  where
    by_test : (b : Bool) → (is_withdrawn x ≡ false) × (has_asked xs ≡ false) → (has_asked xs ≡ false → has_asked (past_blanks xs) ≡ false) → has_asked (if b then past_blanks xs else x ∷ xs) ≡ false
    by_test true p rest = rest p.1
    by_test false p rest = rw (p.0, p.1)

-- it has no asked item that waits, where there was none
asked-line_after : (n code : ℕ) (line : List Item) → has_asked line ≡ false → has_asked (line_after n code line) ≡ false
asked-line_after n code line a = by_test (halts code)
  where
    by_test : (b : Bool) → has_asked (if b then past_number n line else past_blanks (past_number n line)) ≡ false
    by_test true = asked-past_number n line a
    by_test false = asked-past_blanks (past_number n line) (asked-past_number n line a)

-- what is left of a phase behind the first end that is told
stop_left : (n code : ℕ) (es : List Event) → MayStop (Finished n code ∷ es) → MayStop es
stop_left n code es (inl e) = absurd cc
stop_left n code es (inr (inl p)) = inl p.1
stop_left n code es (inr (inr p)) = inr p.1

-- what Finished leaves, before whether Reset is ordered is known
abbrev AfterFinished : List Item → EndpointState → Option Errand → List Errand → List Event → ℕ → ℕ → Type 0
AfterFinished line s er os ns n code =
    Coheres (line_after n code line) s (if needs_reset code er then Some errand.Reset else er) (os ++ (if needs_reset code er then errand.Reset ∷ [] else [])) ns

-- an errand goes on
finished_amid : (line : List Item) (s : EndpointState) (er : Errand) (os : List Errand) (ns es tail : List Event) (n code : ℕ)
    → (served_events (line_after n code line) ≡ es) × ServedFirst (line_after n code line) → ns ≡ es ++ tail → IsPhase s (Some er) os es tail → AfterFinished line s (Some er) os ns n code
finished_amid line s er os ns es tail n code behind told p = rw (and_right (halts code) false refl, append-nil os) (coheres_in (line_after n code line) s er os ns es tail behind.0 told behind.1 p)

-- the endpoint goes on
finished_free : (line : List Item) (s : EndpointState) (ns es : List Event) (n code : ℕ)
    → (served_events (line_after n code line) ≡ es) × ServedFirst (line_after n code line) → ns ≡ es ++ [] → has_asked line ≡ false → halts code ≡ false → IsPhase s None [] es [] → AfterFinished line s None [] ns n code
finished_free line s ns es n code behind told none goes p =
    let free : Coheres (line_after n code line) s None [] ns = coheres_free (line_after n code line) s [] ns es [] behind.0 told behind.1 (asked-line_after n code line none) p in
    rw (ap (λ b. b && true) goes) free

-- it halted
finished_halted : (line : List Item) (ns es : List Event) (n code : ℕ)
    → (served_events (line_after n code line) ≡ es) × ServedFirst (line_after n code line) → ns ≡ es ++ [] → has_asked line ≡ false → EndsStop (Finished n code ∷ es) → AfterFinished line Halted None [] ns n code
finished_halted line ns es n code behind told none (inl q) =
    let halted : Coheres (line_after n code line) Halted (Some errand.Reset) (errand.Reset ∷ []) ns =
    coheres_in (line_after n code line) Halted errand.Reset (errand.Reset ∷ []) ns [] [] (behind.0 ∙ q.1) (told ∙ ap (λ l. l ++ []) q.1) behind.1 reset_waits in
    rw (ap (λ b. b && true) q.0) halted
finished_halted line ns es n code behind told none (inr q) = finished_free line Halted ns es n code behind told none q.0 (ended q.1)

-- the end of a transfer is told
coheres_finished : (line : List Item) (s : EndpointState) (er : Option Errand) (os : List Errand) (ns fs tail : List Event) (n code : ℕ)
    → served_events line ≡ fs → (es : List Event) → fs ≡ Finished n code ∷ es → ns ≡ es ++ tail → ServedFirst line → (er ≡ None → has_asked line ≡ false) → IsPhase s er os fs tail
    → AfterFinished line s er os ns n code
coheres_finished line s er os ns fs tail n code is es split news order idle (runs g) =
    let go : AllGo (Finished n code ∷ es) = subst AllGo split g in
    finished_free line Running ns es n code (past_told line n code es order (is ∙ split)) news (idle refl) go.0 (runs go.1)
coheres_finished line s er os ns fs tail n code is es split news order idle (ended g) =
    finished_halted line ns es n code (past_told line n code es order (is ∙ split)) news (idle refl) (subst EndsStop split g)
coheres_finished line s er os ns fs tail n code is es split news order idle (stop_waits g) =
    let go : AllGo (Finished n code ∷ es) = subst AllGo split g in
    finished_amid line Running errand.Stop os ns es [] n code (past_told line n code es order (is ∙ split)) news (stop_waits go.1)
coheres_finished line s er os ns fs tail n code is es split news order idle (stop_waits_halted g) =
    finished_amid line Halted errand.Stop os ns es [] n code (past_told line n code es order (is ∙ split)) news (stop_waits_halted (stop_left n code es (subst MayStop split g)))
coheres_finished line s er os ns fs tail n code is es split news order idle (stop_ran g) =
    let go : AllGo (Finished n code ∷ es) = subst AllGo split g in
    finished_amid line Stopped errand.Stop [] ns es tail n code (past_told line n code es order (is ∙ split)) news (stop_ran go.1)
coheres_finished line s er os ns fs tail n code is es split news order idle (stop_ran_paused g) =
    let go : AllGo (Finished n code ∷ es) = subst AllGo split g in
    finished_amid line Stopped errand.Stop [] ns es tail n code (past_told line n code es order (is ∙ split)) news (stop_ran_paused go.1)
coheres_finished line s er os ns fs tail n code is es split news order idle (stop_failed g) =
    finished_amid line Halted errand.Stop [] ns es tail n code (past_told line n code es order (is ∙ split)) news (stop_failed (stop_left n code es (subst MayStop split g)))
coheres_finished line s er os ns fs tail n code is es split news order idle reset_waits = absurd cc
coheres_finished line s er os ns fs tail n code is es split news order idle reset_ran = absurd cc
coheres_finished line s er os ns fs tail n code is es split news order idle move_waits = absurd cc
coheres_finished line s er os ns fs tail n code is es split news order idle move_ran = absurd cc

-- what is told when no end waits: the tail
same_event : (size ep : ℕ) (gone : Bool) (e : Endpoint) (os : List Errand) (x event : Event) (rest ns : List Event) → x ∷ rest ≡ event ∷ ns → LeavesCoherent (deliver size ep gone e x) os rest → LeavesCoherent (deliver size ep gone e event) os ns
same_event size ep gone e os x event rest ns told c = let p = heads_same x event rest ns told in subst₂ (λ y l. LeavesCoherent (deliver size ep gone e y) os l) p.0 p.1 c

-- news that is no transfer's result, delivered, keeps the endpoint coherent
coherent_tail : (size ep : ℕ) (gone : Bool) (e : Endpoint) (s : EndpointState) (er : Option Errand) (os : List Errand) (fs tail : List Event) (event : Event) (ns : List Event)
    → served_events e.line ≡ fs → fs ≡ [] → tail ≡ event ∷ ns → ServedFirst e.line → IsPhase s er os fs tail → LeavesCoherent (deliver size ep gone (in_phase e s er) event) os ns
unfolding deliver
coherent_tail size ep gone e s er os fs tail event ns is none news order (stop_ran g) =
    same_event size ep gone (in_phase e Stopped (Some errand.Stop)) [] _ event _ ns news (coherent_resume size (in_phase e Stopped (Some errand.Stop)) _ e.line refl (is ∙ none) order)
coherent_tail size ep gone e s er os fs tail event ns is none news order (stop_ran_paused {n = k} g) =
    same_event size ep gone (in_phase e Stopped (Some errand.Stop)) [] (Paused k) event _ ns news (coheres_in e.line Stopped errand.Stop [] (Settled errand.Stop true ∷ []) [] (Settled errand.Stop true ∷ []) (is ∙ none) refl order (stop_ran tt))
coherent_tail size ep gone e s er os fs tail event ns is none news order (stop_failed g) =
    same_event size ep gone (in_phase e Halted (Some errand.Stop)) [] _ event _ ns news (coheres_in e.line Halted errand.Reset (errand.Reset ∷ []) [] [] [] (is ∙ none) refl order reset_waits)
coherent_tail size ep gone e s er os fs tail event ns is none news order reset_ran =
    same_event size ep gone (in_phase e Stopped (Some errand.Reset)) [] _ event _ ns news
    (coheres_in (map blanked e.line) Stopped errand.Move (errand.Move ∷ []) [] [] [] (events-blanked e.line ∙ is) refl (first-blanked e.line order) move_waits)
coherent_tail size ep gone e s er os fs tail event ns is none news order move_ran =
    let q = events-past_blanks e.line order in
    same_event size ep gone (in_phase e Stopped (Some errand.Move)) [] _ event _ ns news (coherent_resume size (in_phase e Stopped (Some errand.Move)) _ (past_blanks e.line) refl (q.0 ∙ is) q.1)
coherent_tail size ep gone e s er os fs tail event ns is none news order _ = absurd cc

-- only ends are told of served items
pub first_is_end : (line : List Item) (x : Event) (es : List Event) → served_events line ≡ x ∷ es → (n : ℕ) × (code : ℕ) × (x ≡ Finished n code)
unfolding served_events
first_is_end [] x es e = absurd cc
first_is_end (i ∷ is) x es e = by_state i.state e (first_is_end is x es)
  where
    by_state : (s : ItemState) → event_by i.n s (served_events is) ≡ x ∷ es → (served_events is ≡ x ∷ es → (n : ℕ) × (code : ℕ) × (x ≡ Finished n code)) → (n : ℕ) × (code : ℕ) × (x ≡ Finished n code)
    by_state Waiting e rest = rest e
    by_state (Served code) e rest = (i.n, code, cc)
    by_state Blank e rest = rest e

-- a result delivered keeps the endpoint coherent, be a reset due or not
finished_leaves : (size : ℕ) (gone : Bool) (e : Endpoint) (n code : ℕ) (os : List Errand) (ns : List Event) (r : Reply) (results : List TransferResult) → AfterFinished e.line e.state e.errand os ns n code
    → LeavesCoherent (if needs_reset code e.errand then orders_errand (record e { line = line_after n code e.line }) errand.Reset r results else record { reply = r; endpoint = record e { line = line_after n code e.line }; orders = []; news = []; results = results }) os ns
finished_leaves size gone e n code os ns r results c = by_test (needs_reset code e.errand) c
  where
    by_test : (b : Bool) → Coheres (line_after n code e.line) e.state (if b then Some errand.Reset else e.errand) (os ++ (if b then errand.Reset ∷ [] else [])) ns
        → LeavesCoherent (if b then orders_errand (record e { line = line_after n code e.line }) errand.Reset r results else record { reply = r; endpoint = record e { line = line_after n code e.line }; orders = []; news = []; results = results }) os ns
    by_test true c = rw (append-nil ns) c
    by_test false c = rw (append-nil ns) c

-- the first piece of news is handled
pub coherent_deliver : (size ep : ℕ) (gone : Bool) (e : Endpoint) (os : List Errand) (event : Event) (ns : List Event) → IsCoherent e os (event ∷ ns) → LeavesCoherent (deliver size ep gone e event) os ns
unfolding deliver
coherent_deliver size ep gone e os event ns c = by_events (served_events e.line) refl
  where
    by_events : (fs : List Event) → served_events e.line ≡ fs → LeavesCoherent (deliver size ep gone e event) os ns
    by_events [] is =
        coherent_tail size ep gone e e.state e.errand os (served_events e.line) c.tail event ns refl is (sym (c.news ∙ ap (λ l. l ++ c.tail) is)) c.in_order c.phase
    by_events (x ∷ es) is =
        let f = first_is_end e.line x es is in
        let p = heads_same event x ns (es ++ c.tail) (c.news ∙ ap (λ l. l ++ c.tail) is) in
        subst (λ y. LeavesCoherent (deliver size ep gone e y) os ns) (sym (p.0 ∙ f.2))
        (finished_leaves size gone e f.0 f.1 os ns _ _ (coheres_finished e.line e.state e.errand os ns (served_events e.line) c.tail f.0 f.1 refl es (is ∙ ap (λ y. y ∷ es) f.2) p.1 c.in_order c.answered c.phase))
