-- The orders under way are the last places posted, whatever is posted, carried out or handled; so each completion names one errand.
use Rattle.std.proofs.Common.{List, [], ap, append_assoc, arith, length, map, subst, suc, sym, ℕ, ◌+◌, ◌++◌, ◌∙◌, ◌∷◌, ◌≡◌}
use Rattle.std.specs.List.{flat_map}
use Rattle.std.proofs.lemmas.List.{map-append}
use Rattle.std.proofs.lemmas.List.Concat.{flat_map-append}
use Rattle.refine_world.specs.Shows.{Completes, Transfers, InRun, RingEvent, RingOrder, completed, under_way}

-- one more is posted
run_and : (first next : ℕ) (is : List ℕ) → InRun first is next → InRun first (is ++ next ∷ []) (suc next)
run_and first next [] r = (sym r, ap suc r)
run_and first next (i ∷ is) r = (r.0, run_and (suc first) next is r.1)

pub run_posted : (first next : ℕ) (events : List RingEvent) (orders : List RingOrder) (o : RingOrder) → o.place ≡ next → InRun first (under_way events orders) next → InRun first (under_way events (orders ++ o ∷ [])) (suc next)
run_posted first next events orders o is r =
    let same : under_way events (orders ++ o ∷ []) ≡ under_way events orders ++ next ∷ [] =
    ap (λ l. flat_map completed events ++ l) (map-append (λ (x : RingOrder). x.place) orders (o ∷ []) ∙ ap (λ n. map (λ (x : RingOrder). x.place) orders ++ n ∷ []) is) ∙ sym (append_assoc (flat_map completed events) (map (λ (x : RingOrder). x.place) orders) (next ∷ [])) in
    subst (λ l. InRun first l (suc next)) (sym same) (run_and first next (under_way events orders) r)

-- how many are under way
pub run_length : (first next : ℕ) (is : List ℕ) → InRun first is next → first + length is ≡ next
run_length first next [] r = omega (arith, r)
run_length first next (i ∷ is) r = omega (arith, run_length (suc first) next is r.1)

-- the first order is carried out: its completion joins the events, behind a pause if there is one
pub run_carried : (first next dev code : ℕ) (events pause : List RingEvent) (o : RingOrder) (orders : List RingOrder) → flat_map completed pause ≡ [] → InRun first (under_way events (o ∷ orders)) next
    → InRun first (under_way (events ++ (pause ++ Completes dev o.place code ∷ [])) orders) next
run_carried first next dev code events pause o orders none r =
    let here : flat_map completed (pause ++ Completes dev o.place code ∷ []) ≡ o.place ∷ [] = flat_map-append completed pause (Completes dev o.place code ∷ []) ∙ ap (λ l. l ++ o.place ∷ []) none in
    let same : under_way (events ++ (pause ++ Completes dev o.place code ∷ [])) orders ≡ under_way events (o ∷ orders) =
    ap (λ l. l ++ map (λ (x : RingOrder). x.place) orders) (flat_map-append completed events (pause ++ Completes dev o.place code ∷ []) ∙ ap (λ l. flat_map completed events ++ l) here)
    ∙ append_assoc (flat_map completed events) (o.place ∷ []) (map (λ (x : RingOrder). x.place) orders) in
    subst (λ l. InRun first l next) (sym same) r

-- a completion is handled: it is the first that is under way
pub run_settled : (first next dev index code : ℕ) (events : List RingEvent) (orders : List RingOrder) → InRun first (under_way (Completes dev index code ∷ events) orders) next → (index ≡ first) × InRun (suc first) (under_way events orders) next
run_settled first next dev index code events orders r = r

-- a transfer's event leaves what is under way
pub run_stays : (first next dev ep place residual code : ℕ) (events : List RingEvent) (orders : List RingOrder) → InRun first (under_way (Transfers dev ep place residual code ∷ events) orders) next → InRun first (under_way events orders) next
run_stays first next dev ep place residual code events orders r = r

-- a place stands once
pub run_once : (first next i : ℕ) (xs ys : List ℕ) → InRun first (xs ++ i ∷ ys) next → i ≡ first + length xs
run_once first next i [] ys r = omega (arith, r.0)
run_once first next i (x ∷ xs) ys r = omega (arith, run_once (suc first) next i xs ys r.1)
