-- A packet that is served keeps an endpoint and its pieces of the lists coherent.
use Rattle.std.proofs.Common.{Bool, List, None, Option, Some, [], ap, append-nil, ap₂, false, inl, inr, refl, sym, true, ℕ, ◌&&◌, ◌++◌, ◌∙◌, ◌∷◌, ◌≡◌}
use Rattle.std.specs.Prelude.{if◌then◌else◌, is_some}
use Rattle.usb_model.specs.declared.errand.Errand.{Errand}
use Rattle.usb_model.specs.declared.endpoint.Endpoint.{Endpoint}
use Rattle.usb_model.specs.declared.endpoint.EndpointState.TheVariants.{Halted, Running}
use Rattle.usb_model.specs.declared.endpoint.EndpointState.{EndpointState}
use Rattle.usb_model.specs.declared.item.Item.{Item}
use Rattle.usb_model.specs.declared.item.ItemState.TheVariants.{Served, Waiting}
use Rattle.usb_model.specs.declared.news.Event.TheVariants.{Finished}
use Rattle.usb_model.specs.declared.news.Event.{Event}
use Rattle.usb_model.specs.Endpoint.Deliver.{is_withdrawn}
use Rattle.usb_model.specs.Endpoint.{first_waiting, is_blank_state, is_waiting_state, with_first}
use Rattle.usb_model.specs.declared.outcome.Outcome.{Outcome}
use Rattle.usb_model.specs.Endpoint.Serve.{next_answer, serve, serve_by, serve_first, serve_gone}
use Rattle.usb_model.specs.Endpoint.Status.{halts}
use Rattle.proof_model.proofs.Work.Errands.{asked-with_first, events-with_first}
use Rattle.usb_model.specs.Coherence.{AllGo, Coheres, EndsStop, IsCoherent, IsPhase, ended, event_by, runs, served_events, stop_waits, stop_waits_halted}
use Rattle.proof_model.proofs.Work.Sound.{first_waits}
use Rattle.proof_model.proofs.Coherence.Commands.{LeavesCoherent, coherent_same, same_phase}

-- one more result that does not halt
go_more : (es : List Event) (n code : ℕ) → AllGo es → halts code ≡ false → AllGo (es ++ Finished n code ∷ [])
go_more [] n code g s = (s, tt)
go_more (Finished k c ∷ es) n code g s = (g.0, go_more es n code g.1 s)
go_more (_ ∷ es) n code g s = absurd g

-- one more result, and it halts
stop_more : (es : List Event) (n code : ℕ) → AllGo es → halts code ≡ true → EndsStop (es ++ Finished n code ∷ [])
stop_more [] n code g s = inl (s, refl)
stop_more (Finished k c ∷ es) n code g s = inr (g.0, stop_more es n code g.1 s)
stop_more (_ ∷ es) n code g s = absurd g

-- a served item, at a running endpoint: that goes on, or halts
goes_on : (er : Option Errand) (os : List Errand) (es tail : List Event) (n code : ℕ) → IsPhase Running er os es tail → halts code ≡ false
    → (tail ≡ []) × IsPhase Running er os (es ++ Finished n code ∷ []) []
goes_on er os es tail n code (runs g) s = (refl, runs (go_more es n code g s))
goes_on er os es tail n code (stop_waits g) s = (refl, stop_waits (go_more es n code g s))

-- a running endpoint that a result halts is a halted one
comes_to_halt : (er : Option Errand) (os : List Errand) (es tail : List Event) (n code : ℕ) → IsPhase Running er os es tail → halts code ≡ true
    → (tail ≡ []) × IsPhase Halted er os (es ++ Finished n code ∷ []) []
comes_to_halt er os es tail n code (runs g) s = (refl, ended (stop_more es n code g s))
comes_to_halt er os es tail n code (stop_waits g) s = (refl, stop_waits_halted (inr (stop_more es n code g s)))

-- a running endpoint behind one more result runs on or is halted, as the code says
after_served : (er : Option Errand) (os : List Errand) (es tail : List Event) (n code : ℕ) → IsPhase Running er os es tail
    → (tail ≡ []) × IsPhase (if halts code then Halted else Running) er os (es ++ Finished n code ∷ []) []
after_served er os es tail n code p = by_test (halts code) refl
  where
    by_test : (b : Bool) → halts code ≡ b → (tail ≡ []) × IsPhase (if b then Halted else Running) er os (es ++ Finished n code ∷ []) []
    by_test true s = comes_to_halt er os es tail n code p s
    by_test false s = goes_on er os es tail n code p s

-- the first item that waits, x, took an answer and is y
coherent_answered : (e : Endpoint) (x y : Item) (os : List Errand) (ns : List Event) → first_waiting e.line ≡ Some x → y.state ≡ Waiting → (is_withdrawn x ≡ false → is_withdrawn y ≡ false) → IsCoherent e os ns
    → Coheres (with_first y e.line) e.state e.errand (os ++ []) (ns ++ [])
coherent_answered e x y os ns first waits stays c =
    let r = events-with_first x y e.line first c.in_order (ap is_blank_state waits) in
    let same : served_events (with_first y e.line) ≡ served_events e.line = r.0 ∙ (ap (λ s. served_events e.line ++ event_by y.n s []) waits ∙ append-nil (served_events e.line)) in
    rw (append-nil os, append-nil ns)
    (record {
      tail = c.tail;
      news = c.news ∙ ap (λ l. l ++ c.tail) (sym same);
      in_order = r.1;
      phase = same_phase refl (sym same) c.phase;
      answered = λ q. asked-with_first x y e.line first stays (c.answered q);
    })

-- it ended with this code
coherent_served : (e : Endpoint) (x y : Item) (code : ℕ) (os : List Errand) (ns : List Event) → e.state ≡ Running → first_waiting e.line ≡ Some x → y.n ≡ x.n → y.state ≡ Served code → IsCoherent e os ns
    → Coheres (with_first y e.line) (if halts code then Halted else e.state) e.errand (os ++ []) (ns ++ Finished x.n code ∷ [])
coherent_served e x y code os ns running first same_number served c =
    let r = events-with_first x y e.line first c.in_order (ap is_blank_state served) in
    let h = after_served e.errand os (served_events e.line) c.tail x.n code (same_phase running refl c.phase) in
    let told : served_events (with_first y e.line) ≡ served_events e.line ++ Finished x.n code ∷ [] = r.0 ∙ ap₂ (λ n s. served_events e.line ++ event_by n s []) same_number served in
    record {
      tail = [];
      news = ap (λ l. l ++ Finished x.n code ∷ []) (c.news ∙ (ap (λ l. served_events e.line ++ l) h.0 ∙ append-nil (served_events e.line))) ∙ (sym told ∙ sym (append-nil (served_events (with_first y e.line))));
      in_order = r.1;
      phase = rw (append-nil os, running) (same_phase refl (sym told) h.1);
      answered = λ q. asked-with_first x y e.line first (λ w. ap (λ s. is_waiting_state s && is_some y.ask) served) (c.answered q);
    }

-- a packet that a waiting transfer is served keeps the endpoint coherent
coherent_serve_by : (e : Endpoint) (x : Item) (a b : Outcome) (code : Option ℕ) (os : List Errand) (ns : List Event) → e.state ≡ Running → first_waiting e.line ≡ Some x → x.state ≡ Waiting → IsCoherent e os ns
    → LeavesCoherent (serve_by e x a b code) os ns
unfolding serve_by
coherent_serve_by e x a b None os ns running first waits c = coherent_answered e x (record x { share = x.share ++ next_answer e }) os ns first waits (λ w. w) c
coherent_serve_by e x a b (Some code) os ns running first waits c = coherent_served e x (record x { share = x.share ++ next_answer e; state = Served code }) code os ns running first refl refl c

-- a packet that the first transfer is served keeps the endpoint coherent
coherent_serve_first : (size : ℕ) (gone : Bool) (e : Endpoint) (s : EndpointState) (o : Option Item) (os : List Errand) (ns : List Event) → e.state ≡ s → first_waiting e.line ≡ o → IsCoherent e os ns
    → LeavesCoherent (serve_first size gone e s o) os ns
unfolding serve_first serve_gone
coherent_serve_first size true e Running (Some x) os ns m f c = coherent_served e x (record x { state = Served 4 }) 4 os ns m f refl refl c
coherent_serve_first size false e Running (Some x) os ns m f c = coherent_serve_by e x _ _ _ os ns m f (first_waits e.line x f) c
coherent_serve_first size gone e _ _ os ns m f c = coherent_same e os ns c

-- the device answers a packet
pub coherent_serve : (size : ℕ) (gone : Bool) (e : Endpoint) (os : List Errand) (ns : List Event) → IsCoherent e os ns → LeavesCoherent (serve size gone e) os ns
unfolding serve
coherent_serve size gone e os ns c = coherent_serve_first size gone e e.state (first_waiting e.line) os ns refl refl c
