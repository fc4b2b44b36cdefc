-- A packet keeps what more holds of an endpoint of a world that can be reached.
use Rattle.std.proofs.Common.{Bool, List, None, Option, Some, [], ap, append-nil, ap₂, drop, take, false, length, refl, subst, sym, true, ℕ, ◌++◌, ◌<◌, ◌==◌, ◌∙◌, ◌∷◌, ◌≡◌}
use Rattle.std.specs.Prelude.{if◌then◌else◌, unwrap_or, ◌||◌}
use Rattle.usb_model.specs.declared.errand.Errand.{Errand}
use Rattle.usb_model.specs.declared.endpoint.Endpoint.{Endpoint}
use Rattle.usb_model.specs.declared.endpoint.EndpointState.TheVariants.{Halted, Running, Stopped}
use Rattle.usb_model.specs.declared.endpoint.EndpointState.{EndpointState}
use Rattle.usb_model.specs.declared.item.Item.{Item}
use Rattle.usb_model.specs.declared.item.ItemState.TheVariants.{Served, Waiting}
use Rattle.usb_model.specs.declared.news.Event.{Event}
use Rattle.usb_model.specs.Endpoint.Deliver.{leads_blank}
use Rattle.usb_model.specs.Endpoint.Status.{halts}
use Rattle.std.proofs.lemmas.Bool.{and_parts}
use Rattle.usb_model.specs.Endpoint.{first_waiting, is_blank, is_blank_state, is_waiting, outcome_of, with_first}
use Rattle.usb_model.specs.Endpoint.Packets.{IsOpenAt, outcome, ended_with, open_with}
use Rattle.std.specs.List.{list_all}
use Rattle.usb_model.specs.declared.response.Response.{Response}
use Rattle.usb_model.specs.declared.outcome.Outcome.{Outcome}
use Rattle.usb_model.specs.Direction.{is_of_direction, IsBody}
use Rattle.usb_model.specs.Endpoint.Serve.{acknowledged, is_stall, next_answer, serve, serve_by, serve_first, serve_gone}
use Rattle.proof_model.proofs.Shares.Next.{next_there}
use Rattle.proof_model.proofs.Work.Sound.{first_waits}
use Rattle.refine_world.specs.Kept.{grown, outcome_now}
use Rattle.refine_world.proofs.PauseEvents.{first_new, first_open}
use Rattle.proof_model.proofs.Shares.OpenShares.{halted_outcome, open_at, open_if}
use Rattle.usb_model.specs.Coherence.{IsCoherent, IsPhase, ended, move_ran, move_waits, reset_ran, reset_waits, runs, served_events, stop_failed, stop_ran, stop_ran_paused, stop_waits, stop_waits_halted}
use Rattle.std.proofs.lemmas.Option.{same_Some}
use Rattle.refine_world.specs.ShownEndpoint.{IsOrderly, is_past, known_by, uncut_by}
use Rattle.refine_world.proofs.Orderly.Lines.{behind_new, new_served, behind_answered, each_first, OpenItem, UncutItem, opens_from, uncut_from, Fine, fine_of}

-- a running endpoint's errand is no way out
running_not_past : (s : EndpointState) (er : Option Errand) (os : List Errand) (es tail : List Event) → s ≡ Running → IsPhase s er os es tail → is_past s er ≡ false
running_not_past s er os es tail e (runs g) = refl
running_not_past s er os es tail e (ended g) = absurd cc
running_not_past s er os es tail e (stop_waits g) = refl
running_not_past s er os es tail e (stop_waits_halted g) = absurd cc
running_not_past s er os es tail e (stop_ran g) = absurd cc
running_not_past s er os es tail e (stop_ran_paused g) = absurd cc
running_not_past s er os es tail e (stop_failed g) = absurd cc
running_not_past s er os es tail e reset_waits = absurd cc
running_not_past s er os es tail e reset_ran = absurd cc
running_not_past s er os es tail e move_waits = absurd cc
running_not_past s er os es tail e move_ran = absurd cc

-- whether a blank leads doesn't change where the first that waits is answered
leads_answered : (xs : List Item) (y : Item) → is_blank y ≡ false → leads_blank xs ≡ false → leads_blank (with_first y xs) ≡ false
unfolding with_first
leads_answered [] y live q = refl
leads_answered (x ∷ xs) y live q = by_test (is_waiting x)
  where
    by_test : (t : Bool) → leads_blank (if t then y ∷ xs else x ∷ with_first y xs) ≡ false
    by_test true = live
    by_test false = q

-- what an answer makes of the first waiting transfer: open still, and at a device that isn't halted; or ended, with no code of a stop
abbrev pub AnswerGoes : ℕ → Endpoint → Item → Type 0
AnswerGoes size e x =
    ((outcome_now size e x).code ≡ None → (e.device_halted ≡ false) × IsOpenAt (outcome x.request size (x.share ++ next_answer e) false))
    × ((code : ℕ) → (outcome_now size e x).code ≡ Some code → (code == 26) ≡ false)

-- a packet
pub orderly_serve : (size : ℕ) (gone : Bool) (e : Endpoint) (os : List Errand) (ns : List Event) → IsCoherent e os ns → IsOrderly size e → ((x : Item) → first_waiting e.line ≡ Some x → AnswerGoes size e x) → IsOrderly size (serve size gone e).endpoint
unfolding serve serve_first serve_gone serve_by
orderly_serve size gone e os ns c w goes = by_state gone e.state refl (first_waiting e.line) refl
  where
    f : Fine size e.line
    f = fine_of size e w

    -- it ended
    over : (x y : Item) (state : EndpointState) (left : List Response) (taken : List (List ℕ)) (halted : Bool) → first_waiting e.line ≡ Some x → is_waiting y ≡ false → is_blank y ≡ false → OpenItem size y → UncutItem y → (is_past state e.errand ≡ false → leads_blank e.line ≡ false)
        → IsOrderly size (record e { line = with_first y e.line; script_left = left; packets_received = taken; device_halted = halted; state = state })
    over x y state left taken halted first waits live o u leads =
        let new = new_served e.line x y first waits w.behind in
        record {
          behind = behind_new (with_first y e.line) new;
          past = λ q. new;
          leads = λ q. leads_answered e.line y live (leads q);
          stalls = λ q. new;
          opens = opens_from size (with_first y e.line) (each_first (OpenItem size) e.line y o f.opens);
          uncut = uncut_from (with_first y e.line) (each_first UncutItem e.line y u f.uncut);
        }

    not_past : e.state ≡ Running → is_past e.state e.errand ≡ false
    not_past run = running_not_past e.state e.errand os (served_events e.line) c.tail run c.phase

    by_code : (x : Item) → e.state ≡ Running → first_waiting e.line ≡ Some x → x.state ≡ Waiting → (o : Option ℕ) → (outcome_now size e x).code ≡ o → IsOrderly size (serve_by e x (outcome_of size x) (outcome_now size e x) o).endpoint
    by_code x run first st None code =
        let y : Item = grown e x in
        let go = (goes x first).0 code in
        record {
          behind = behind_answered e.line x y first st w.behind;
          past = λ q. absurd (cc (q, not_past run));
          leads = λ q. leads_answered e.line y (ap is_blank_state st) (w.leads q);
          stalls = λ q. absurd (cc (q, go.0));
          opens = opens_from size (with_first y e.line) (each_first (OpenItem size) e.line y (subst (λ s. known_by s (IsOpenAt (outcome x.request size (x.share ++ next_answer e) false)) (Unit {0})) (sym st) go.1) f.opens);
          uncut = uncut_from (with_first y e.line) (each_first UncutItem e.line y (subst uncut_by (sym st) tt) f.uncut);
        }
    by_code x run first st (Some k) code =
        over x (record (grown e x) { state = Served k }) (if halts k then Halted else e.state) (drop (length (next_answer e)) e.script_left) (e.packets_received ++ acknowledged x.request.body (outcome_of size x) (outcome_now size e x)) (e.device_halted || is_stall (next_answer e)) first refl refl tt ((goes x first).1 k code) (λ q. w.leads (not_past run))

    by_state : (g : Bool) (s : EndpointState) → e.state ≡ s → (o : Option Item) → first_waiting e.line ≡ o → IsOrderly size (serve_first size g e s o).endpoint
    by_state true Running run (Some x) first = over x (record x { state = Served 4 }) Halted e.script_left e.packets_received e.device_halted first refl refl tt refl (λ q. absurd cc)
    by_state false Running run (Some x) first = by_code x run first (first_waits e.line x first) (outcome_now size e x).code refl
    by_state true Running run None first = w
    by_state false Running run None first = w
    by_state true Stopped st o first = w
    by_state false Stopped st o first = w
    by_state true Halted st o first = w
    by_state false Halted st o first = w

-- what an answer of the endpoint's direction makes of it
pub answer_goes : (size : ℕ) (inward : Bool) (e : Endpoint) (x : Item) → 0 < size → IsOrderly size e → first_waiting e.line ≡ Some x → IsBody inward x.request.body → list_all (is_of_direction inward) e.script_left ≡ true → AnswerGoes size e x
answer_goes size inward e x some w first body kinds = by_halted e.device_halted refl e.script_left refl
  where
    o : (p : Outcome) × (outcome x.request size x.share false ≡ Some p) × (p.code ≡ None)
    o = open_at (outcome x.request size x.share false) (first_open size e.line x first w.opens)

    goes : (next : List Response) (h : Bool) (p : Outcome) → next_answer e ≡ next → e.device_halted ≡ h → outcome x.request size (x.share ++ next) h ≡ Some p → (p.code ≡ None → (h ≡ false) × IsOpenAt (outcome x.request size (x.share ++ next) false)) → ((code : ℕ) → p.code ≡ Some code → (code == 26) ≡ false) → AnswerGoes size e x
    goes next h p is hs r on over =
        let now : outcome_now size e x ≡ p = ap (λ l. unwrap_or (outcome x.request size (x.share ++ l) e.device_halted) (open_with [])) is ∙ (ap (λ t. unwrap_or (outcome x.request size (x.share ++ next) t) (open_with [])) hs ∙ ap (λ z. unwrap_or z (open_with [])) r) in
        (λ q. let g = on (sym (ap (λ r. r.code) now) ∙ q) in (hs ∙ g.0, subst (λ l. IsOpenAt (outcome x.request size (x.share ++ l) false)) (sym is) g.1), λ code q. over code (sym (ap (λ r. r.code) now) ∙ q))

    answers : (h : Bool) (l : List Response) → e.device_halted ≡ h → e.script_left ≡ l → next_answer e ≡ (if h then [] else take 1 l)
    answers h l is left = ap₂ (λ t m. if t then [] else take 1 m) is left

    by_halted : (h : Bool) → e.device_halted ≡ h → (l : List Response) → e.script_left ≡ l → AnswerGoes size e x
    by_halted true is l left =
        let empty : x.share ++ [] ≡ [] = append-nil x.share ∙ first_new e.line x first (w.stalls is) in
        goes [] true (ended_with [] 6) (answers true l is left) is (ap (λ m. outcome x.request size m true) empty ∙ halted_outcome x.request size) (λ q. absurd cc) (λ code q. ap (λ k. k == 26) (sym (same_Some 6 code q)))
    by_halted false is [] left =
        let same : outcome x.request size (x.share ++ []) false ≡ Some o.0 = ap (λ m. outcome x.request size m false) (append-nil x.share) ∙ o.1 in
        goes [] false o.0 (answers false [] is left) is same (λ q. (refl, open_if (outcome x.request size (x.share ++ []) false) o.0 same q)) (λ code q. absurd (cc (q, o.2)))
    by_halted false is (z ∷ zs) left =
        let fits : is_of_direction inward z ≡ true = (and_parts (is_of_direction inward z) (list_all (is_of_direction inward) zs) (ap (list_all (is_of_direction inward)) (sym left) ∙ kinds)).0 in
        let r = next_there inward x.request size x.share z o.0 some body fits o.1 o.2 in
        goes (z ∷ []) false r.0 (answers false (z ∷ zs) is left) is r.1 (λ q. (refl, open_if (outcome x.request size (x.share ++ z ∷ []) false) r.0 r.1 q)) (λ code q. r.2.finishes code q)
