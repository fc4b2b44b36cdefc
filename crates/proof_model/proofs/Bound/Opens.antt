-- What an accepted ask opens: 2 commands and 17 deliveries.
use Rattle.std.proofs.Common.{Bool, List, None, Option, Some, [], ap, append-nil, arith, false, inl, inr, length, length-append, not, refl, suc, true, ℕ, ◌&&◌, ◌++◌, ◌+◌, ◌==◌, ◌∙◌, ◌∷◌, ◌≡◌, ◌≤◌}
use Rattle.std.specs.Prelude.{if◌then◌else◌, is_some}
use Rattle.usb_model.specs.declared.errand.Errand.TheVariants as errand
use Rattle.usb_model.specs.declared.errand.Errand.{Errand}
use Rattle.usb_model.specs.declared.endpoint.Endpoint.{Endpoint}
use Rattle.usb_model.specs.declared.endpoint.EndpointState.{EndpointState}
use Rattle.usb_model.specs.declared.item.Ask.{Ask}
use Rattle.usb_model.specs.declared.item.Item.{Item}
use Rattle.usb_model.specs.declared.news.Event.{Event}
use Rattle.usb_model.specs.Machine.Calls.{asks, with_ask}
use Rattle.usb_model.specs.Endpoint.{in_progress, is_blank, is_transfer, is_waiting, is_waiting_state}
use Rattle.proof_model.proofs.Coherence.Commands.{coherent_ask}
use Rattle.proof_model.proofs.Bound.Due.{IsDue, IsLeft, LeavesDue, ahead_of, delivers_left, failures, failures-behind, no_failures, served_before}
use Rattle.proof_model.proofs.Bound.Keeps.{errand_stands, here-with_ask, with_ask_kept}
use Rattle.proof_model.proofs.Bound.Delivers.{served_shows}
use Rattle.usb_model.specs.Coherence.{IsCoherent, IsPhase, ended, move_ran, move_waits, reset_ran, reset_waits, runs, served_events, stop_failed, stop_ran, stop_ran_paused, stop_waits, stop_waits_halted}

-- fewer stand before it than the line has
before_in_line : (n : ℕ) (line : List Item) (i : Item) → in_progress n line ≡ Some i → ahead_of n line + 1 ≤ length line
unfolding in_progress ahead_of
before_in_line n [] i e = absurd cc
before_in_line n (x ∷ xs) i e = by_tests (is_transfer n x) (is_blank x) e (before_in_line n xs i)
  where
    by_tests : (b c : Bool) → (if b then Some x else in_progress n xs) ≡ Some i → (in_progress n xs ≡ Some i → ahead_of n xs + 1 ≤ length xs) → (if b then 0 else (if c then ahead_of n xs else suc (ahead_of n xs))) + 1 ≤ suc (length xs)
    by_tests true c q rest = omega arith
    by_tests false true q rest = omega (arith, rest q)
    by_tests false false q rest = omega (arith, rest q)

-- by its phase, with b before it and so many ends to be told
opens_at : (item : Item) (s : EndpointState) (er : Option Errand) (os : List Errand) (ns es tail : List Event) (b : ℕ) → IsPhase s er os es tail → ns ≡ es ++ tail → failures es ≡ 0 → b ≤ 15
    → (is_waiting item ≡ true → length es ≤ b) → (is_waiting item ≡ false → es ≡ [] → ⊥)
    → IsLeft item (if is_some er then er else Some errand.Stop) (os ++ (if is_some er then [] else errand.Stop ∷ [])) ns b 2 17
opens_at item s er os ns es tail b phase told fine low behind world_of = by_wait (is_waiting item) refl
  where
    tells : length ns ≡ length es + length tail
    tells = ap length told ∙ length-append es tail

    fails : failures ns ≡ failures tail
    fails = omega (arith, ap failures told, failures-behind es tail, fine)

    served : is_waiting item ≡ false → (s : EndpointState) (er : Option Errand) (os : List Errand) (es tail : List Event) → (es ≡ [] → ⊥) → IsPhase s er os es tail → IsLeft item (if is_some er then er else Some errand.Stop) (os ++ (if is_some er then [] else errand.Stop ∷ [])) ns b 2 17
    served w s er os es tail some (runs g) = inl (w, refl, omega arith, omega (arith, low))
    served w s er os es tail some (ended g) = inl (w, refl, omega arith, omega (arith, low))
    served w s er os es tail some (stop_waits g) = inl (w, refl, omega arith, omega (arith, low))
    served w s er os es tail some (stop_waits_halted g) = inl (w, refl, omega arith, omega (arith, low))
    served w s er os es tail some (stop_ran g) = inl (w, refl, omega arith, omega (arith, low))
    served w s er os es tail some (stop_ran_paused g) = inl (w, refl, omega arith, omega (arith, low))
    served w s er os es tail some (stop_failed g) = inl (w, refl, omega arith, omega (arith, low))
    served w s er os es tail some reset_waits = absurd (some refl)
    served w s er os es tail some reset_ran = absurd (some refl)
    served w s er os es tail some move_waits = absurd (some refl)
    served w s er os es tail some move_ran = absurd (some refl)

    waits : is_waiting item ≡ true → (s : EndpointState) (er : Option Errand) (os : List Errand) (es tail : List Event) → length es ≤ b → length ns ≡ length es + length tail → failures ns ≡ failures tail → IsPhase s er os es tail
        → IsLeft item (if is_some er then er else Some errand.Stop) (os ++ (if is_some er then [] else errand.Stop ∷ [])) ns b 2 17
    waits w s er os es tail k t f (runs g) = inr (w, omega arith, omega (arith, low))
    waits w s er os es tail k t f (ended g) = inr (w, omega arith, omega (arith, low))
    waits w s er os es tail k t f (stop_waits g) = inr (w, omega arith, omega (arith, low))
    waits w s er os es tail k t f (stop_waits_halted g) = inr (w, omega arith, omega (arith, low))
    waits w s er os es tail k t f (stop_ran g) = inr (w, omega (arith, f), omega (arith, t, f, low, k))
    waits w s er os es tail k t f (stop_ran_paused g) = inr (w, omega (arith, f), omega (arith, t, f, low, k))
    waits w s er os es tail k t f (stop_failed g) = inr (w, omega (arith, f), omega (arith, t, f, low, k))
    waits w s er os es tail k t f reset_waits = inr (w, omega arith, omega arith)
    waits w s er os es tail k t f reset_ran = inr (w, omega arith, omega arith)
    waits w s er os es tail k t f move_waits = inr (w, omega arith, omega arith)
    waits w s er os es tail k t f move_ran = inr (w, omega arith, omega arith)

    by_wait : (t : Bool) → is_waiting item ≡ t → IsLeft item (if is_some er then er else Some errand.Stop) (os ++ (if is_some er then [] else errand.Stop ∷ [])) ns b 2 17
    by_wait true w = waits w s er os es tail (behind w) tells fails phase
    by_wait false w = served w s er os es tail (world_of w) phase

-- what is left to an item depends on it only by its state
waits_same : (i j : Item) (er : Option Errand) (os : List Errand) (ns : List Event) (b c d : ℕ) → j.state ≡ i.state → IsLeft i er os ns b c d → IsLeft j er os ns b c d
waits_same i j er os ns b c d same (inl q) = inl (ap is_waiting_state same ∙ q.0, q.1, q.2, q.3)
waits_same i j er os ns b c d same (inr q) = inr (ap is_waiting_state same ∙ q.0, q.1, q.2)

-- a transfer that was asked has an ask
is_asked_after : (n : ℕ) (ask : Ask) (i : Item) → is_transfer n i ≡ true → is_some (with_ask n ask i).ask ≡ true
is_asked_after n ask i it = by_test (i.n == n) it
  where
    by_test : (b : Bool) → (b && not (is_blank i)) ≡ true → is_some (if b then record i { ask = Some ask } else i).ask ≡ true
    by_test true q = refl
    by_test false q = absurd cc

-- the ask itself
pub due_opens : (e : Endpoint) (n : ℕ) (ask : Ask) (os : List Errand) (ns : List Event) (i : Item) → IsCoherent e os ns → in_progress n e.line ≡ Some i → is_transfer n i ≡ true → length e.line ≤ 16
    → LeavesDue n 2 17 (asks e n ask) os ns
unfolding asks
due_opens e n ask os ns i co here it short =
    let p = here-with_ask n n ask e.line i here in
    let q = with_ask_kept n ask i in
    record {
      coherent = coherent_ask e n ask os ns co;
      item = with_ask n ask i;
      here = p.0;
      asked = is_asked_after n ask i it;
      bound = rw (append-nil ns, p.1) (waits_same i (with_ask n ask i) _ _ ns (ahead_of n e.line) 2 17 q.0
          (opens_at i e.state e.errand os ns (served_events e.line) co.tail (ahead_of n e.line) co.phase co.news (no_failures e.line)
          (omega (arith, before_in_line n e.line i here, short)) (λ w. served_before n e.line i co.in_order here w) (λ w none. served_shows n e.line i here w none)));
    }

-- while it is in progress a delivery is left to it
pub one_left : (n c d : ℕ) (e : Endpoint) (os : List Errand) (ns : List Event) → IsDue n c d e os ns → 1 ≤ d
one_left n c d e os ns due = by_bound due.bound
  where
    told : length ns ≡ length (served_events e.line) + length due.coherent.tail
    told = ap length due.coherent.news ∙ length-append (served_events e.line) due.coherent.tail

    by_phase : (s : EndpointState) (er : Option Errand) (os : List Errand) (es tail : List Event) → IsPhase s er os es tail → length ns ≡ length es + length tail → (er ≡ None → ⊥) → delivers_left er os ns (ahead_of n e.line) ≤ d → 1 ≤ d
    by_phase s er os es tail (runs g) t some l = absurd (some refl)
    by_phase s er os es tail (ended g) t some l = absurd (some refl)
    by_phase s er os es tail (stop_waits g) t some l = omega (arith, l)
    by_phase s er os es tail (stop_waits_halted g) t some l = omega (arith, l)
    by_phase s er os es tail (stop_ran g) t some l = omega (arith, l, t)
    by_phase s er os es tail (stop_ran_paused g) t some l = omega (arith, l, t)
    by_phase s er os es tail (stop_failed g) t some l = omega (arith, l, t)
    by_phase s er os es tail reset_waits t some l = omega (arith, l)
    by_phase s er os es tail reset_ran t some l = omega (arith, l)
    by_phase s er os es tail move_waits t some l = omega (arith, l)
    by_phase s er os es tail move_ran t some l = omega (arith, l)

    by_bound : IsLeft due.item e.errand os ns (ahead_of n e.line) c d → 1 ≤ d
    by_bound (inl q) = omega (arith, q.3)
    by_bound (inr q) = by_phase e.state e.errand os (served_events e.line) due.coherent.tail due.coherent.phase told (errand_stands n c d e os ns due) q.2
