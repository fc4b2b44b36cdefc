-- At most one order and 17 pieces of news wait for an endpoint.
use Rattle.std.proofs.Common.{◌≡◌, List, inl, inr, true, ◌+◌, ◌||◌, ◌∙◌, ◌⊎◌, refl, None, Option, Some, [], ap, arith, length, length-append, suc, ◌∷◌, ◌≤◌}
use Rattle.usb_model.specs.declared.errand.Errand.{Errand}
use Rattle.usb_model.specs.declared.endpoint.Endpoint.{Endpoint}
use Rattle.usb_model.specs.declared.endpoint.EndpointState.{EndpointState}
use Rattle.usb_model.specs.declared.item.Item.{Item}
use Rattle.usb_model.specs.declared.item.ItemState.TheVariants.{Blank, Served, Waiting}
use Rattle.usb_model.specs.declared.item.ItemState.{ItemState}
use Rattle.usb_model.specs.declared.news.Event.{Event}
use Rattle.usb_model.specs.Coherence.{IsPhase, ended, event_by, move_ran, move_waits, reset_ran, reset_waits, runs, served_events, stop_failed, stop_ran, stop_ran_paused, stop_waits, stop_waits_halted}
use Rattle.usb_model.specs.Fitness.{Fits}
use Rattle.usb_model.specs.Laws.Bounds.{line_at}
use Rattle.usb_model.specs.Endpoint.{is_waiting_state}
use Rattle.std.proofs.lemmas.Bool.{or_right}
use Rattle.std.proofs.lemmas.List.Folds.{list_any-append}
use Rattle.proof_model.proofs.Bounds.Paused.{PausesWait, has_pause, has_waiting, is_pause}

-- one order at most, and two events behind the ends
pub few_behind : (s : EndpointState) (er : Option Errand) (os : List Errand) (es tail : List Event) → IsPhase s er os es tail → (length os ≤ 1) × (length tail ≤ 2)
few_behind s er os es tail (runs g) = (omega arith, omega arith)
few_behind s er os es tail (ended g) = (omega arith, omega arith)
few_behind s er os es tail (stop_waits g) = (omega arith, omega arith)
few_behind s er os es tail (stop_waits_halted g) = (omega arith, omega arith)
few_behind s er os es tail (stop_ran g) = (omega arith, omega arith)
few_behind s er os es tail (stop_ran_paused g) = (omega arith, omega arith)
few_behind s er os es tail (stop_failed g) = (omega arith, omega arith)
few_behind s er os es tail reset_waits = (omega arith, omega arith)
few_behind s er os es tail reset_ran = (omega arith, omega arith)
few_behind s er os es tail move_waits = (omega arith, omega arith)
few_behind s er os es tail move_ran = (omega arith, omega arith)

-- an end for each transfer at most
pub few_ends : (line : List Item) → length (served_events line) ≤ length line
unfolding served_events
few_ends [] = omega arith
few_ends (x ∷ xs) = by_state x.state (few_ends xs)
  where
    by_state : (s : ItemState) → length (served_events xs) ≤ length xs → length (event_by x.n s (served_events xs)) ≤ suc (length xs)
    by_state Waiting le = omega (arith, le)
    by_state (Served code) le = omega (arith, le)
    by_state Blank le = omega (arith, le)

-- and one fewer where a transfer waits
fewer_ends : (line : List Item) → has_waiting line ≡ true → length (served_events line) + 1 ≤ length line
unfolding served_events
fewer_ends [] w = absurd cc
fewer_ends (x ∷ xs) w = by_state x.state w (fewer_ends xs)
  where
    by_state : (s : ItemState) → (is_waiting_state s || has_waiting xs) ≡ true → (has_waiting xs ≡ true → length (served_events xs) + 1 ≤ length xs) → length (event_by x.n s (served_events xs)) + 1 ≤ suc (length xs)
    by_state Waiting w rest = omega (arith, few_ends xs)
    by_state (Served code) w rest = omega (arith, rest w)
    by_state Blank w rest = omega (arith, rest w)

-- two events stand behind the ends only where one is a pause
pause_or_few : (s : EndpointState) (er : Option Errand) (os : List Errand) (es tail : List Event) → IsPhase s er os es tail → (has_pause tail ≡ true) ⊎ (length tail ≤ 1)
pause_or_few s er os es tail (stop_ran_paused g) = inl refl
pause_or_few s er os es tail (runs g) = inr (omega arith)
pause_or_few s er os es tail (ended g) = inr (omega arith)
pause_or_few s er os es tail (stop_waits g) = inr (omega arith)
pause_or_few s er os es tail (stop_waits_halted g) = inr (omega arith)
pause_or_few s er os es tail (stop_ran g) = inr (omega arith)
pause_or_few s er os es tail (stop_failed g) = inr (omega arith)
pause_or_few s er os es tail reset_waits = inr (omega arith)
pause_or_few s er os es tail reset_ran = inr (omega arith)
pause_or_few s er os es tail move_waits = inr (omega arith)
pause_or_few s er os es tail move_ran = inr (omega arith)

-- of an endpoint that may not be there
pub few_waits : (o : Option Endpoint) (os : List Errand) (ns : List Event) → Fits o os ns → PausesWait ns (line_at o) → (length (line_at o) ≤ 16) × (length os ≤ 1) × (length ns ≤ 17)
few_waits None os ns f w = (omega arith, omega (arith, ap length f.0), omega (arith, ap length f.1))
few_waits (Some e) os ns f w = (f.short, behind.0, omega (arith, all, by_tail (pause_or_few e.state e.errand os (served_events e.line) f.coherent.tail f.coherent.phase)))
  where
    behind : (length os ≤ 1) × (length f.coherent.tail ≤ 2)
    behind = few_behind e.state e.errand os (served_events e.line) f.coherent.tail f.coherent.phase

    all : length ns ≡ length (served_events e.line) + length f.coherent.tail
    all = ap length f.coherent.news ∙ length-append (served_events e.line) f.coherent.tail

    by_tail : (has_pause f.coherent.tail ≡ true) ⊎ (length f.coherent.tail ≤ 1) → length (served_events e.line) + length f.coherent.tail ≤ 17
    by_tail (inl p) =
        let told : has_pause ns ≡ true = ap has_pause f.coherent.news ∙ (list_any-append is_pause (served_events e.line) f.coherent.tail ∙ or_right (has_pause (served_events e.line)) (has_pause f.coherent.tail) p) in
        omega (arith, fewer_ends e.line (w told), behind.1, f.short)
    by_tail (inr le) = omega (arith, few_ends e.line, le, f.short)
