-- The orders and completions under way stand in a run of places; where there are at most 255 endpoints, the rest by 255 names one of them.
use Rattle.std.proofs.Common.{Bool, List, Some, [], ap, arith, false, inl, inr, length, map, refl, sym, true, suc, ℕ, ◌%◌, ◌+◌, ◌<◌, ◌≤◌, ◌==◌, ◌∙◌, ◌∷◌, ◌≡◌, ◌⊎◌}
use Rattle.std.specs.Prelude.{◌||◌}
use Rattle.std.specs.List.{flat_map, list_any}
use Rattle.std.proofs.lemmas.Bool.{cases_lt, eqb-true, or_left, or_right}
use Rattle.std.proofs.lemmas.List.Folds.{list_any-append}
use Rattle.usb_model.specs.Setup.{Setup}
use Rattle.usb_model.specs.World.{World, holder}
use Rattle.usb_model.specs.Kept.{SentErrand}
use Rattle.refine_world.specs.Lively.{IsFine, ends_of}
use Rattle.refine_world.specs.Shows.{Core, InRun, RingOrder, Shows, at, completed, tellings, under_way}
use Rattle.refine_world.proofs.Budget.{index_names}
use Rattle.refine_world.proofs.InRun.{run_length}
use Rattle.refine_world.proofs.Links.{known}
use Rattle.refine_world.proofs.Senders.{UnderWay, is_under_way, news_in, order_in, run_later}
use Rattle.refine_world.proofs.UnderWay.{few_under_way}

-- each place of a run is before the next one
run_before : (first next i : ℕ) (is : List ℕ) → InRun first is next → list_any (λ j. j == i) is ≡ true → i < next
run_before first next i [] r q = absurd cc
run_before first next i (j ∷ is) r q = by_head (j == i) refl q (run_before (suc first) next i is r.1)
  where
    by_head : (b : Bool) → (j == i) ≡ b → (b || list_any (λ j. j == i) is) ≡ true → (list_any (λ j. j == i) is ≡ true → i < next) → i < next
    by_head true is_i p more = omega (arith, r.0, eqb-true j i is_i, run_length (suc first) next is r.1)
    by_head false other p more = more p

-- the order of an endpoint's errand is under way
errand_under_way : (setup : Setup) (w : World) (c : Core) (s : Shows setup w c) → IsFine setup → (h d e : ℕ) (y : SentErrand) → holder setup w.claims d e ≡ Some h → (c.endpoints d e).errand ≡ Some y → list_any (λ j. j == y.index) (under_way c.events c.orders) ≡ true
errand_under_way setup w c s fine h d e y holds errand = split ∙ by_place (is_under_way _ (w.endpoints d e) _ _ (c.endpoints d e) _ _ y (known setup w c s fine h d e holds).fit.coherent (s.endpoints h d e holds) errand)
  where
    done : Bool
    done = list_any (λ j. j == y.index) (flat_map completed c.events)

    waits : Bool
    waits = list_any (λ j. j == y.index) (map (λ (o : RingOrder). o.place) c.orders)

    split : list_any (λ j. j == y.index) (under_way c.events c.orders) ≡ (done || waits)
    split = list_any-append (λ j. j == y.index) (flat_map completed c.events) (map (λ (o : RingOrder). o.place) c.orders)

    by_place : UnderWay y.index (at d e s.orders) (tellings (at d e s.news)) → (done || waits) ≡ true
    by_place (inl u) = or_right done waits (ap (λ l. list_any (λ j. j == y.index) (map (λ (o : RingOrder). o.place) l)) s.orders_kept ∙ order_in y.index d e s.orders u)
    by_place (inr u) = or_left done waits (ap (λ l. list_any (λ j. j == y.index) (flat_map completed l)) s.news_kept ∙ news_in y.index d e s.news u)

-- two places of a run of at most 255 that leave the same rest are the same
same_index : (first next i j : ℕ) (is : List ℕ) → InRun first is next → length is ≤ 255 → list_any (λ k. k == i) is ≡ true → list_any (λ k. k == j) is ≡ true → i % 255 ≡ j % 255 → i ≡ j
same_index first next i j is r few a b same = by_order (cases_lt i j)
  where
    count : first + length is ≡ next
    count = run_length first next is r

    by_order : (i < j) ⊎ (j ≤ i) → i ≡ j
    by_order (inl lt) = index_names 255 i j (omega arith) (omega (arith, lt)) (omega (arith, count, few, run_later first next i is r a, run_before first next j is r b)) same
    by_order (inr le) = sym (index_names 255 j i (omega arith) le (omega (arith, count, few, run_later first next j is r b, run_before first next i is r a)) (sym same))

-- so an index of the command ring's 255 names one errand of all
pub errands_apart : (setup : Setup) (w : World) (c : Core) (s : Shows setup w c) → IsFine setup → length (ends_of setup) ≤ 255 → (h d e g a p : ℕ) (x y : SentErrand)
    → holder setup w.claims d e ≡ Some h → (c.endpoints d e).errand ≡ Some x → holder setup w.claims a p ≡ Some g → (c.endpoints a p).errand ≡ Some y → x.index % 255 ≡ y.index % 255 → x.index ≡ y.index
errands_apart setup w c s fine few h d e g a p x y holds errand held other same =
    same_index s.first c.posted x.index y.index (under_way c.events c.orders) s.in_run (omega (arith, few, few_under_way setup w c s fine))
    (errand_under_way setup w c s fine h d e x holds errand) (errand_under_way setup w c s fine g a p y held other) same
