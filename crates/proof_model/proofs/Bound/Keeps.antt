-- A submission, a further ask and a halt that is cleared leave an asked transfer what is left to it.
use Rattle.std.proofs.Common.{Bool, List, None, Option, Some, [], ap, append-nil, false, inl, inr, map, refl, suc, sym, true, ℕ, ◌++◌, ◌==◌, ◌∙◌, ◌∷◌, ◌≡◌}
use Rattle.std.specs.Prelude.{if◌then◌else◌, is_some}
use Rattle.usb_model.specs.declared.errand.Errand.{Errand}
use Rattle.usb_model.specs.declared.endpoint.Endpoint.{Endpoint}
use Rattle.usb_model.specs.declared.item.Ask.{Ask}
use Rattle.usb_model.specs.declared.item.Item.{Item}
use Rattle.usb_model.specs.declared.news.Event.{Event}
use Rattle.usb_model.specs.declared.request.Request.{Request}
use Rattle.usb_model.specs.Machine.Calls.{asks, with_ask}
use Rattle.usb_model.specs.Endpoint.{in_progress, is_blank, is_transfer, is_waiting, is_waiting_state, new_item}
use Rattle.proof_model.proofs.Coherence.Commands.{coherent_ask, coherent_submit}
use Rattle.proof_model.proofs.Bound.Due.{IsDue, IsLeft, LeavesDue, ahead_of, asked_waits}

-- an asked transfer in progress leaves no endpoint without an errand
pub errand_stands : (n c d : ℕ) (e : Endpoint) (os : List Errand) (ns : List Event) → IsDue n c d e os ns → e.errand ≡ None → ⊥
errand_stands n c d e os ns due idle = by_bound due.bound
  where
    by_bound : IsLeft due.item e.errand os ns (ahead_of n e.line) c d → ⊥
    by_bound (inl q) = absurd (cc (idle, q.1))
    by_bound (inr q) = asked_waits n e.line due.item due.here q.0 due.asked (due.coherent.answered idle)

-- a submission goes behind it
here-push : (n : ℕ) (line : List Item) (y i : Item) → in_progress n line ≡ Some i → (in_progress n (line ++ y ∷ []) ≡ Some i) × (ahead_of n (line ++ y ∷ []) ≡ ahead_of n line)
unfolding in_progress ahead_of
here-push n [] y i e = absurd cc
here-push n (x ∷ xs) y i e = by_it (is_transfer n x) e (here-push n xs y i)
  where
    by_it : (b : Bool) → (if b then Some x else in_progress n xs) ≡ Some i → (in_progress n xs ≡ Some i → (in_progress n (xs ++ y ∷ []) ≡ Some i) × (ahead_of n (xs ++ y ∷ []) ≡ ahead_of n xs))
        → ((if b then Some x else in_progress n (xs ++ y ∷ [])) ≡ Some i)
        × ((if b then 0 else (if is_blank x then ahead_of n (xs ++ y ∷ []) else suc (ahead_of n (xs ++ y ∷ [])))) ≡ (if b then 0 else (if is_blank x then ahead_of n xs else suc (ahead_of n xs))))
    by_it true q rest = (q, refl)
    by_it false q rest = let r = rest q in (r.0, ap (λ k. if is_blank x then k else suc k) r.1)

-- a submission leaves an asked transfer what is left to it
pub due_submit : (n c d : ℕ) (e : Endpoint) (k : ℕ) (request : Request) (round : ℕ) (os : List Errand) (ns : List Event) → IsDue n c d e os ns → IsDue n c d (record e { line = e.line ++ new_item k request round ∷ [] }) os ns
due_submit n c d e k request round os ns due =
    let p = here-push n e.line (new_item k request round) due.item due.here in
    record { coherent = coherent_submit e k request round os ns due.coherent; item = due.item; here = p.0; asked = due.asked; bound = rw p.1 due.bound }

-- a halt that is cleared is nothing to it
pub due_clear : (n c d : ℕ) (e : Endpoint) (os : List Errand) (ns : List Event) → IsDue n c d e os ns → IsDue n c d (record e { device_halted = false }) os ns
due_clear n c d e os ns due = record { coherent = due.coherent; item = due.item; here = due.here; asked = due.asked; bound = due.bound }

-- an ask leaves each item where it is
pub here-with_ask : (n k : ℕ) (ask : Ask) (line : List Item) (i : Item) → in_progress n line ≡ Some i
    → (in_progress n (map (with_ask k ask) line) ≡ Some (with_ask k ask i)) × (ahead_of n (map (with_ask k ask) line) ≡ ahead_of n line)
unfolding in_progress ahead_of
here-with_ask n k ask [] i e = absurd cc
here-with_ask n k ask (x ∷ xs) i e = by_number (x.n == k) refl (here-with_ask n k ask xs i)
  where
    it : Bool
    it = is_transfer n x

    by_it : (z : Item) → with_ask k ask x ≡ z → (b : Bool) → (if b then Some x else in_progress n xs) ≡ Some i → (in_progress n xs ≡ Some i → (in_progress n (map (with_ask k ask) xs) ≡ Some (with_ask k ask i)) × (ahead_of n (map (with_ask k ask) xs) ≡ ahead_of n xs))
        → ((if b then Some z else in_progress n (map (with_ask k ask) xs)) ≡ Some (with_ask k ask i))
        × ((if b then 0 else (if is_blank x then ahead_of n (map (with_ask k ask) xs) else suc (ahead_of n (map (with_ask k ask) xs)))) ≡ (if b then 0 else (if is_blank x then ahead_of n xs else suc (ahead_of n xs))))
    by_it z is true q rest = let same : x ≡ i = cc in (ap (λ l. Some l) (sym is ∙ ap (with_ask k ask) same), refl)
    by_it z is false q rest = let r = rest q in (r.0, ap (λ l. if is_blank x then l else suc l) r.1)

    by_number : (b : Bool) → (x.n == k) ≡ b → (in_progress n xs ≡ Some i → (in_progress n (map (with_ask k ask) xs) ≡ Some (with_ask k ask i)) × (ahead_of n (map (with_ask k ask) xs) ≡ ahead_of n xs))
        → (in_progress n ((if b then record x { ask = Some ask } else x) ∷ map (with_ask k ask) xs) ≡ Some (with_ask k ask i)) × (ahead_of n ((if b then record x { ask = Some ask } else x) ∷ map (with_ask k ask) xs) ≡ ahead_of n (x ∷ xs))
    by_number true r rest = by_it (record x { ask = Some ask }) (ap (λ (b : Bool). if b then record x { ask = Some ask } else x) r) it e rest
    by_number false r rest = by_it x (ap (λ (b : Bool). if b then record x { ask = Some ask } else x) r) it e rest

-- the item after an ask
pub with_ask_kept : (k : ℕ) (ask : Ask) (i : Item) → ((with_ask k ask i).state ≡ i.state) × (is_some i.ask ≡ true → is_some (with_ask k ask i).ask ≡ true)
with_ask_kept k ask i = by_test (i.n == k)
  where
    by_test : (b : Bool) → ((if b then record i { ask = Some ask } else i).state ≡ i.state) × (is_some i.ask ≡ true → is_some (if b then record i { ask = Some ask } else i).ask ≡ true)
    by_test true = (refl, λ q. refl)
    by_test false = (refl, λ q. q)

-- what is left to an item depends on it only by whether it waits
left_same : (item heir : Item) (er : Option Errand) (os : List Errand) (ns : List Event) (b c d : ℕ) → is_waiting heir ≡ is_waiting item → IsLeft item er os ns b c d → IsLeft heir er os ns b c d
left_same item heir er os ns b c d same (inl q) = inl (same ∙ q.0, q.1, q.2, q.3)
left_same item heir er os ns b c d same (inr q) = inr (same ∙ q.0, q.1, q.2)

-- an option that is not None is there
stands_some : (er : Option Errand) → (er ≡ None → ⊥) → is_some er ≡ true
stands_some None some = absurd (some refl)
stands_some (Some o) some = refl

-- a further ask
pub due_ask : (n c d : ℕ) (e : Endpoint) (k : ℕ) (ask : Ask) (os : List Errand) (ns : List Event) → IsDue n c d e os ns
    → LeavesDue n c d (asks e k ask) os ns
unfolding asks
due_ask n c d e k ask os ns due =
    let p = here-with_ask n k ask e.line due.item due.here in
    let q = with_ask_kept k ask due.item in
    let some = stands_some e.errand (errand_stands n c d e os ns due) in
    record {
      coherent = coherent_ask e k ask os ns due.coherent;
      item = with_ask k ask due.item;
      here = p.0;
      asked = q.1 due.asked;
      bound = rw (some, append-nil os, append-nil ns, p.1) (left_same due.item (with_ask k ask due.item) e.errand os ns (ahead_of n e.line) c d (ap is_waiting_state q.0) due.bound);
    }
