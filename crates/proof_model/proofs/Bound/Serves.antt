-- A packet that is served leaves an asked transfer what is left to it.
use Rattle.std.proofs.Common.{Bool, List, None, Option, Some, [], ap, append-nil, arith, false, inl, inr, refl, subst, suc, sym, true, ℕ, ◌&&◌, ◌++◌, ◌==◌, ◌∙◌, ◌∷◌, ◌≡◌, ◌⊎◌}
use Rattle.std.specs.Prelude.{if◌then◌else◌, is_some}
use Rattle.usb_model.specs.declared.errand.Errand.TheVariants as errand
use Rattle.usb_model.specs.declared.errand.Errand.{Errand}
use Rattle.usb_model.specs.declared.endpoint.Endpoint.{Endpoint}
use Rattle.usb_model.specs.declared.endpoint.EndpointState.TheVariants.{Running}
use Rattle.usb_model.specs.declared.endpoint.EndpointState.{EndpointState}
use Rattle.usb_model.specs.declared.item.Item.{Item}
use Rattle.usb_model.specs.declared.item.ItemState.TheVariants.{Served}
use Rattle.usb_model.specs.declared.news.Event.{Event}
use Rattle.usb_model.specs.Endpoint.{first_waiting, in_progress, is_blank, is_transfer, is_waiting, is_waiting_state, with_first}
use Rattle.usb_model.specs.declared.outcome.Outcome.{Outcome}
use Rattle.usb_model.specs.Endpoint.Serve.{next_answer, serve, serve_by, serve_first, serve_gone}
use Rattle.proof_model.proofs.Coherence.Commands.{LeavesCoherent}
use Rattle.proof_model.proofs.Coherence.Serves.{coherent_serve}
use Rattle.proof_model.proofs.Bound.Due.{IsDue, IsLeft, LeavesDue, ahead_of, asked_waits}
use Rattle.usb_model.specs.Coherence.{IsCoherent, IsPhase, runs, served_events, stop_waits}
use Rattle.proof_model.proofs.Work.Lines.{waits_not_blank}
use Rattle.proof_model.proofs.Work.Sound.{first_waits}

-- a number is found at the head of a line
progress_here : (n : ℕ) (z : Item) (zs : List Item) → is_transfer n z ≡ true → in_progress n (z ∷ zs) ≡ Some z
unfolding in_progress
progress_here n z zs e = rw e

-- a number is found past the head
progress_past : (n : ℕ) (z : Item) (zs : List Item) → is_transfer n z ≡ false → in_progress n (z ∷ zs) ≡ in_progress n zs
unfolding in_progress
progress_past n z zs e = rw e

-- nothing is ahead of the head
before_here : (n : ℕ) (z : Item) (zs : List Item) → is_transfer n z ≡ true → ahead_of n (z ∷ zs) ≡ 0
unfolding ahead_of
before_here n z zs e = rw e

-- the head counts ahead of those behind it, unless it is a blank
before_past : (n : ℕ) (z : Item) (zs : List Item) → is_transfer n z ≡ false → ahead_of n (z ∷ zs) ≡ (if is_blank z then ahead_of n zs else suc (ahead_of n zs))
unfolding ahead_of
before_past n z zs e = rw e

-- a head that waits is the first that waits
waiting_here : (y z : Item) (zs : List Item) → is_waiting z ≡ true → (first_waiting (z ∷ zs) ≡ Some z) × (with_first y (z ∷ zs) ≡ y ∷ zs)
unfolding first_waiting with_first
waiting_here y z zs e = rw e (refl, refl)

-- behind a head that does not wait is the first that waits
waiting_past : (y z : Item) (zs : List Item) → is_waiting z ≡ false → (first_waiting (z ∷ zs) ≡ first_waiting zs) × (with_first y (z ∷ zs) ≡ z ∷ with_first y zs)
unfolding first_waiting with_first
waiting_past y z zs e = rw e (refl, refl)

-- equal options have equal items
same_item : (x y : Item) → ◌≡◌ {A = Option Item} (Some x) (Some y) → x ≡ y
same_item x y e = cc

-- the transfer is where it was, or it is the one that is served
abbrev StaysDue : ℕ → Item → Item → List Item → Item → Type 0
StaysDue n x y line i =
    ((in_progress n (with_first y line) ≡ Some i) ⊎ ((i ≡ x) × (in_progress n (with_first y line) ≡ Some y)))
    × (ahead_of n (with_first y line) ≡ ahead_of n line)

-- the first waiting transfer replaced: an asked one is still found, with as many ahead
due-with_first : (n : ℕ) (x y : Item) (line : List Item) (i : Item) → first_waiting line ≡ Some x → y.n ≡ x.n → is_blank y ≡ false → in_progress n line ≡ Some i → StaysDue n x y line i
unfolding first_waiting
due-with_first n x y [] i f same live here = absurd cc
due-with_first n x y (z ∷ zs) i f same live here = by_tests (is_waiting z) refl (is_transfer n z) refl (λ g h. due-with_first n x y zs i g same live h)
  where
    Rest : Type 0
    Rest = first_waiting zs ≡ Some x → in_progress n zs ≡ Some i → StaysDue n x y zs i

    is_first : is_waiting z ≡ true → z ≡ x
    is_first e = same_item z x (sym (waiting_here y z zs e).0 ∙ f)

    as_first : is_waiting z ≡ true → is_transfer n y ≡ is_transfer n z
    as_first e = rw (live, waits_not_blank z e) (ap (λ k. (k == n) && true) (same ∙ ap (λ j. j.n) (sym (is_first e))))

    more : (b : Bool) → ahead_of n (with_first y zs) ≡ ahead_of n zs → (if b then ahead_of n (with_first y zs) else suc (ahead_of n (with_first y zs))) ≡ (if b then ahead_of n zs else suc (ahead_of n zs))
    more true e = e
    more false e = ap suc e

    by_tests : (w : Bool) → is_waiting z ≡ w → (b : Bool) → is_transfer n z ≡ b → Rest → StaysDue n x y (z ∷ zs) i
    by_tests true e true g rest =
        let wf : with_first y (z ∷ zs) ≡ y ∷ zs = (waiting_here y z zs e).1 in
        let gy : is_transfer n y ≡ true = as_first e ∙ g in (
          inr (same_item i z (sym here ∙ progress_here n z zs g) ∙ is_first e, ap (in_progress n) wf ∙ progress_here n y zs gy),
          ap (ahead_of n) wf ∙ (before_here n y zs gy ∙ sym (before_here n z zs g)),
        )
    by_tests true e false g rest =
        let wf : with_first y (z ∷ zs) ≡ y ∷ zs = (waiting_here y z zs e).1 in
        let gy : is_transfer n y ≡ false = as_first e ∙ g in (
          inl (ap (in_progress n) wf ∙ (progress_past n y zs gy ∙ (sym (progress_past n z zs g) ∙ here))),
          ap (ahead_of n) wf ∙ (before_past n y zs gy ∙ (ap (λ b. if b then ahead_of n zs else suc (ahead_of n zs)) (live ∙ sym (waits_not_blank z e)) ∙ sym (before_past n z zs g))),
        )
    by_tests false e true g rest =
        let wf : with_first y (z ∷ zs) ≡ z ∷ with_first y zs = (waiting_past y z zs e).1 in (
          inl (ap (in_progress n) wf ∙ (progress_here n z (with_first y zs) g ∙ (sym (progress_here n z zs g) ∙ here))),
          ap (ahead_of n) wf ∙ (before_here n z (with_first y zs) g ∙ sym (before_here n z zs g)),
        )
    by_tests false e false g rest =
        let wf : with_first y (z ∷ zs) ≡ z ∷ with_first y zs = (waiting_past y z zs e).1 in
        let r : StaysDue n x y zs i = rest (sym (waiting_past y z zs e).0 ∙ f) (sym (progress_past n z zs g) ∙ here) in (
          by_place wf r.0,
          ap (ahead_of n) wf ∙ (before_past n z (with_first y zs) g ∙ (more (is_blank z) r.1 ∙ sym (before_past n z zs g))),
        )
      where
        by_place : with_first y (z ∷ zs) ≡ z ∷ with_first y zs → (in_progress n (with_first y zs) ≡ Some i) ⊎ ((i ≡ x) × (in_progress n (with_first y zs) ≡ Some y))
            → (in_progress n (with_first y (z ∷ zs)) ≡ Some i) ⊎ ((i ≡ x) × (in_progress n (with_first y (z ∷ zs)) ≡ Some y))
        by_place wf (inl p) = inl (ap (in_progress n) wf ∙ (progress_past n z (with_first y zs) g ∙ p))
        by_place wf (inr p) = inr (p.0, ap (in_progress n) wf ∙ (progress_past n z (with_first y zs) g ∙ p.1))

-- what is left, while a Stop waits and the endpoint runs
stop_is_due : (er : Option Errand) (os : List Errand) (es tail : List Event) → IsPhase Running er os es tail → (er ≡ None) ⊎ ((er ≡ Some errand.Stop) × (os ≡ errand.Stop ∷ []))
stop_is_due er os es tail (runs g) = inl refl
stop_is_due er os es tail (stop_waits g) = inr (refl, refl)

-- to a transfer that waited what is left is left behind a halt too
still_left : (i y : Item) (ns ms : List Event) (b c d : ℕ) → IsLeft i (Some errand.Stop) (errand.Stop ∷ []) ns b c d → is_waiting i ≡ true → IsLeft y (Some errand.Stop) (errand.Stop ∷ []) ms b c d
still_left i y ns ms b c d (inl q) w = absurd cc
still_left i y ns ms b c d (inr q) w = by_test (is_waiting y) refl
  where
    by_test : (t : Bool) → is_waiting y ≡ t → IsLeft y (Some errand.Stop) (errand.Stop ∷ []) ms b c d
    by_test true e = inr (e, q.1, q.2)
    by_test false e = inl (e, refl, omega (arith, q.1), omega (arith, q.2))

-- behind the order to stop the news alone does not change what is left
same_left : (i : Item) (ns ms : List Event) (b c d : ℕ) → IsLeft i (Some errand.Stop) (errand.Stop ∷ []) ns b c d → IsLeft i (Some errand.Stop) (errand.Stop ∷ []) ms b c d
same_left i ns ms b c d (inl q) = inl q
same_left i ns ms b c d (inr q) = inr q

-- the endpoint after the first waiting item x became y
record IsServed (e e' : Endpoint) (x y : Item) : Type 0 where
  line : e'.line ≡ with_first y e.line
  errand : e'.errand ≡ e.errand
  n : y.n ≡ x.n
  live : is_blank y ≡ false
  ask : y.ask ≡ x.ask

-- a transfer served leaves an asked one what is left to it
due_served : (n c d : ℕ) (e e' : Endpoint) (x y : Item) (os : List Errand) (ns ms : List Event) → e.state ≡ Running → first_waiting e.line ≡ Some x → IsServed e e' x y → IsCoherent e' (os ++ []) ms
    → IsDue n c d e os ns → IsDue n c d e' (os ++ []) ms
due_served n c d e e' x y os ns ms running first served coherent due = by_errand (stop_is_due e.errand os (served_events e.line) due.coherent.tail (subst (λ s. IsPhase s e.errand os (served_events e.line) due.coherent.tail) running due.coherent.phase))
  where
    stays : StaysDue n x y e.line due.item
    stays = due-with_first n x y e.line due.item first served.n served.live due.here

    waits : is_waiting x ≡ true
    waits = ap is_waiting_state (first_waits e.line x first)

    by_bound : e.errand ≡ None → IsLeft due.item e.errand os ns (ahead_of n e.line) c d → IsDue n c d e' (os ++ []) ms
    by_bound none (inl q) = absurd (never (sym q.1 ∙ none))
      where
        never : ◌≡◌ {A = Option Errand} (Some errand.Stop) None → ⊥
        never f = cc
    by_bound none (inr q) = absurd (asked_waits n e.line due.item due.here q.0 due.asked (due.coherent.answered none))

    by_place : e.errand ≡ Some errand.Stop → os ≡ errand.Stop ∷ [] → IsLeft due.item (Some errand.Stop) (errand.Stop ∷ []) ns (ahead_of n e.line) c d
        → (in_progress n (with_first y e.line) ≡ Some due.item) ⊎ ((due.item ≡ x) × (in_progress n (with_first y e.line) ≡ Some y)) → IsDue n c d e' (os ++ []) ms
    by_place stop one left (inl p) = record {
      coherent = coherent;
      item = due.item;
      here = ap (in_progress n) served.line ∙ p;
      asked = due.asked;
      bound = rw (served.errand, stop, append-nil os, one, served.line, stays.1) (same_left due.item ns ms (ahead_of n e.line) c d left);
    }
    by_place stop one left (inr p) = record {
      coherent = coherent;
      item = y;
      here = ap (in_progress n) served.line ∙ p.1;
      asked = ap is_some (served.ask ∙ ap (λ j. j.ask) (sym p.0)) ∙ due.asked;
      bound = rw (served.errand, stop, append-nil os, one, served.line, stays.1) (still_left due.item y ns ms (ahead_of n e.line) c d left (ap is_waiting p.0 ∙ waits));
    }

    by_errand : (e.errand ≡ None) ⊎ ((e.errand ≡ Some errand.Stop) × (os ≡ errand.Stop ∷ [])) → IsDue n c d e' (os ++ []) ms
    by_errand (inl none) = by_bound none due.bound
    by_errand (inr q) = by_place q.0 q.1 (subst (λ o. IsLeft due.item o (errand.Stop ∷ []) ns (ahead_of n e.line) c d) q.0 (subst (λ l. IsLeft due.item e.errand l ns (ahead_of n e.line) c d) q.1 due.bound)) stays.0

-- a packet that a waiting transfer is served leaves an asked one what is left to it
due_serve_by : (n c d : ℕ) (e : Endpoint) (x : Item) (a b : Outcome) (code : Option ℕ) (os : List Errand) (ns : List Event) → e.state ≡ Running → first_waiting e.line ≡ Some x
    → LeavesCoherent (serve_by e x a b code) os ns → IsDue n c d e os ns
    → LeavesDue n c d (serve_by e x a b code) os ns
unfolding serve_by
due_serve_by n c d e x a b None os ns m f co due =
    due_served n c d e _ x (record x { share = x.share ++ next_answer e }) os ns _ m f (record { line = refl; errand = refl; n = refl; live = ap (λ s. is_blank (record x { state = s })) (first_waits e.line x f); ask = refl }) co due
due_serve_by n c d e x a b (Some code) os ns m f co due =
    due_served n c d e _ x (record x { share = x.share ++ next_answer e; state = Served code }) os ns _ m f (record { line = refl; errand = refl; n = refl; live = refl; ask = refl }) co due

-- a packet that the first transfer is served leaves an asked one what is left to it
due_serve_first : (size : ℕ) (gone : Bool) (n c d : ℕ) (e : Endpoint) (s : EndpointState) (o : Option Item) (os : List Errand) (ns : List Event) → e.state ≡ s → first_waiting e.line ≡ o
    → LeavesCoherent (serve_first size gone e s o) os ns → IsDue n c d e os ns
    → LeavesDue n c d (serve_first size gone e s o) os ns
unfolding serve_first serve_gone
due_serve_first size true n c d e Running (Some x) os ns m f co due =
    due_served n c d e _ x (record x { state = Served 4 }) os ns _ m f (record { line = refl; errand = refl; n = refl; live = refl; ask = refl }) co due
due_serve_first size false n c d e Running (Some x) os ns m f co due = due_serve_by n c d e x _ _ _ os ns m f co due
due_serve_first size gone n c d e _ _ os ns m f co due = rw (append-nil os, append-nil ns) due

-- a packet that is served leaves an asked transfer what is left to it
pub due_serve : (size : ℕ) (gone : Bool) (n c d : ℕ) (e : Endpoint) (os : List Errand) (ns : List Event) → IsDue n c d e os ns
    → LeavesDue n c d (serve size gone e) os ns
unfolding serve
due_serve size gone n c d e os ns due = due_serve_first size gone n c d e e.state (first_waiting e.line) os ns refl refl (coherent_serve size gone e os ns due.coherent) due
