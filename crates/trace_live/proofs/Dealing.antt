-- One piece of a plan more, dealt to its handle.
use Rattle.std.proofs.Common.{◌≡◌, ◌<◌, ◌==◌, ℕ, zero, suc, Bool, true, false, List, [], ◌∷◌, ◌++◌, length, map, get_or, slice_set, replicate, cond, take, drop, Option, Some, None, Result, Ok, Err, IfOk, IfSome, refl, sym, ap, ◌∙◌, subst, append-nil, length-set, arith}
use Rattle.std.specs.Option.{option_map, option_map_or}
use Rattle.std.proofs.lemmas.Bool.{eqb-true, eqb-false}
use Rattle.std.proofs.lemmas.Grind.{get_or-set_at}
use Rattle.std.proofs.lemmas.List.{drop_all, get_or-replicate, get_or-set_other, length-replicate, map-append, take_all}
use Rattle.std.proofs.lemmas.List.Elements.{filter-append}
use Rattle.usb_model.specs.declared.plan.Plan.{Plan}
use Rattle.usb_model.specs.declared.plan.Plan.TheVariants.{Do, Return}
use Rattle.usb_model.specs.declared.step.Step.{Step}
use Rattle.trace_threads.specs.Calls.{calls_by, handle_of, is_call_of, steps_in}
use Rattle.trace_live.specs.declared.line.Line.{Line}
use Rattle.trace_live.specs.Lines.{AreDealt, call_in, dealt, said_by, said_by_all, said_by_each}

pub steps-append : (plan more : List Plan) → steps_in (plan ++ more) ≡ steps_in plan ++ steps_in more
steps-append [] more = refl
steps-append (Do step ∷ plan) more = ap (λ l. step ∷ l) (steps-append plan more)
steps-append (Return h n ∷ plan) more = steps-append plan more

-- nothing is dealt yet
pub none_dealt : AreDealt (replicate 64 []) []
none_dealt =
    let none : List Step = [] in
    record { all = length-replicate 64 none; each = λ h lt. get_or-replicate 64 h none none lt }

-- a handle's calls, with one piece more
more_calls : (h : ℕ) (plan : List Plan) (piece : Plan) → calls_by h (steps_in (plan ++ piece ∷ [])) ≡ calls_by h (steps_in plan) ++ calls_by h (steps_in (piece ∷ []))
more_calls h plan piece = ap (calls_by h) (steps-append plan (piece ∷ [])) ∙ filter-append (is_call_of h) (steps_in plan) (steps_in (piece ∷ []))

-- a step that is this handle's call, if it is one
abbrev called : Step → Option ℕ → Option (ℕ × Step)
called step call = option_map (λ h. (h, step)) call

by_step : (handles : List (List Step)) (plan : List Plan) (step : Step) (call : Option ℕ) → handle_of step ≡ call → AreDealt handles plan → IfSome (called step call) (λ c. c.0 < 64)
    → AreDealt (dealt handles (called step call)) (plan ++ Do step ∷ [])
by_step handles plan step None is are few = record {
  all = are.all;
  each = λ h lt.
      are.each h lt
      ∙ (sym (append-nil (calls_by h (steps_in plan)))
      ∙ (ap (λ l. calls_by h (steps_in plan) ++ l) (ap (λ o. cond (option_map_or (λ g. g == h) o false) (step ∷ []) []) (sym is)) ∙ sym (more_calls h plan (Do step))));
}
by_step handles plan step (Some g) is are few = record {
  all = length-set handles g (get_or handles g [] ++ step ∷ []) ∙ are.all;
  each = λ h lt. by_name h (g == h) refl lt ∙ sym (more_calls h plan (Do step));
}
  where
    of_call : (h : ℕ) → calls_by h (step ∷ []) ≡ cond (g == h) (step ∷ []) []
    of_call h = ap (λ o. cond (option_map_or (λ g. g == h) o false) (step ∷ []) []) is

    by_name : (h : ℕ) (b : Bool) → (g == h) ≡ b → h < 64 → get_or (slice_set handles g (get_or handles g [] ++ step ∷ [])) h [] ≡ calls_by h (steps_in plan) ++ calls_by h (step ∷ [])
    by_name h true e lt =
        let at = eqb-true g h e in
        get_or-set_at handles g h (get_or handles g [] ++ step ∷ []) [] (sym at) (subst (λ n. g < n) (sym are.all) few)
        ∙ (ap (λ n. get_or handles n [] ++ step ∷ []) at
        ∙ (ap (λ l. l ++ step ∷ []) (are.each h lt) ∙ ap (λ l. calls_by h (steps_in plan) ++ l) (sym (of_call h ∙ ap (λ b. cond b (step ∷ []) []) e))))
    by_name h false e lt =
        get_or-set_other handles g h (get_or handles g [] ++ step ∷ []) [] (λ same. eqb-false g h e (sym same))
        ∙ (are.each h lt ∙ (sym (append-nil (calls_by h (steps_in plan))) ∙ ap (λ l. calls_by h (steps_in plan) ++ l) (sym (of_call h ∙ ap (λ b. cond b (step ∷ []) []) e))))

-- one piece more is dealt
pub dealt_more : (handles : List (List Step)) (plan : List Plan) (piece : Plan) → AreDealt handles plan → IfSome (call_in piece) (λ c. c.0 < 64) → AreDealt (dealt handles (call_in piece)) (plan ++ piece ∷ [])
dealt_more handles plan (Do step) are few = by_step handles plan step (handle_of step) refl are few
dealt_more handles plan (Return g n) are few = record {
  all = are.all;
  each = λ h lt. are.each h lt ∙ (sym (append-nil (calls_by h (steps_in plan))) ∙ sym (more_calls h plan (Return g n)));
}

map-set : {A B : Type 0} (f : A → B) (xs : List A) (i : ℕ) (y : A) → map f (slice_set xs i y) ≡ slice_set (map f xs) i (f y)
map-set f [] i y = refl
map-set f (x ∷ xs) zero y = refl
map-set f (x ∷ xs) (suc i) y = ap (λ l. f x ∷ l) (map-set f xs i y)

map-at : {A B : Type 0} (f : A → B) (xs : List A) (i : ℕ) (d : A) (e : B) → i < length xs → get_or (map f xs) i e ≡ f (get_or xs i d)
map-at f [] i d e lt = absurd (omega (arith, lt))
map-at f (x ∷ xs) zero d e lt = refl
map-at f (x ∷ xs) (suc i) d e lt = map-at f xs i d e (omega (arith, lt))

-- what is pushed to a handle's lines is dealt to it
pub dealt_at : {Q : Type 0} (handles : List (List (Line Q))) (from h : ℕ) (d pushed : List (Line Q)) (line : Line Q) (call : Option (ℕ × Step)) → from ≡ h → h < length handles → pushed ≡ get_or handles from d ++ line ∷ []
    → call ≡ Some (h, said_by line) → said_by_each (slice_set handles from pushed) ≡ dealt (said_by_each handles) call
dealt_at handles from h d pushed line call at few push said =
    map-set said_by_all handles from pushed
    ∙ (ap (λ i. slice_set (said_by_each handles) i (said_by_all pushed)) at
    ∙ (ap (λ l. slice_set (said_by_each handles) h l)
    (ap said_by_all push
    ∙ (map-append said_by (get_or handles from d) (line ∷ [])
    ∙ ap (λ l. l ++ said_by line ∷ []) (ap (λ i. said_by_all (get_or handles i d)) at ∙ sym (map-at said_by_all handles h d [] few))))
    ∙ ap (dealt (said_by_each handles)) (sym said)))

-- where it succeeds
pub when_ok : {T E P Q : Type 0} (r : Result T E) → (P → Q) → IfOk r (λ _. P) → IfOk r (λ _. Q)
when_ok (Ok x) f p = f p
when_ok (Err e) f p = tt

-- a slice that is as long as the list is written back whole
pub written_back : {A : Type 0} (len : ℕ) (items new : List A) → len ≡ length items → length new ≡ length items → take len (new ++ drop (length new) items) ≡ new
written_back len items new all same =
    ap (λ n. take len (new ++ drop n items)) same
    ∙ (ap (λ l. take len (new ++ l)) (drop_all (length items) items (omega arith))
    ∙ (ap (take len) (append-nil new) ∙ take_all len new (omega (arith, all, same))))
