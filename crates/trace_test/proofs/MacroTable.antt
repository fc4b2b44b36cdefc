-- One more macro in a table.
use Rattle.std.proofs.Common.{◌≡◌, ◌<◌, ℕ, zero, suc, Bool, true, false, List, [], ◌∷◌, ◌++◌, length, Bor, Option, Some, None, cond, option_and_then, reverse, refl, sym, ap, ◌∙◌, arith}
use Rattle.std.specs.HashMap.{HashMap}
use Rattle.std.specs.List.{slice_get}
use Rattle.std.specs.Str.{bytes_eq}
use Rattle.std.proofs.lemmas.List.{length_push, reverse-append}
use Rattle.trace_test.specs.Macros.{Macro, named}
use Rattle.trace_test.specs.Table.{IsTable, place_of}

-- what stands among some items stands there among more
get_front : {X : Type 0} (xs ys : List X) (i : ℕ) → i < length xs → slice_get (xs ++ ys) i ≡ slice_get xs i
get_front [] ys i small = absurd (omega (arith, small))
get_front (x ∷ xs) ys zero small = refl
get_front (x ∷ xs) ys (suc i) small = get_front xs ys i (omega (arith, small))

-- and the one behind them stands last
get_last : {X : Type 0} (xs : List X) (y : X) → slice_get (xs ++ y ∷ []) (length xs) ≡ Some y
get_last [] y = refl
get_last (x ∷ xs) y = get_last xs y

-- one more macro, which is noted to be the last, and all others as before
pub put_stands : {S : Type 0} (closed : List Macro) (m : Macro) (n : ℕ) (old new : HashMap (Bor (List ℕ)) ℕ S) → IsTable closed old → n ≡ length closed
    → ((name : List ℕ) → place_of new name ≡ cond (bytes_eq m.name name) (Some n) (place_of old name)) → IsTable (closed ++ m ∷ []) new
put_stands closed m n old new t is updated = record {
  found = λ name.
      ap (λ ms. named ms name) (reverse-append closed (m ∷ []))
      ∙ (found_by name (bytes_eq m.name name) (place_of old name) (t.found name) (t.within name) ∙ ap (option_and_then (slice_get (closed ++ m ∷ []))) (sym (updated name)));
  within = λ name place at. within_by (bytes_eq m.name name) (place_of old name) place (t.within name) (sym (updated name) ∙ at);
}
  where
    found_by : (name : List ℕ) (b : Bool) (o : Option ℕ) → named (reverse closed) name ≡ option_and_then (slice_get closed) o → ((i : ℕ) → o ≡ Some i → i < length closed)
        → cond b (Some m) (named (reverse closed) name) ≡ option_and_then (slice_get (closed ++ m ∷ [])) (cond b (Some n) o)
    found_by name true o was within = sym (ap (slice_get (closed ++ m ∷ [])) is ∙ get_last closed m)
    found_by name false None was within = was
    found_by name false (Some i) was within = was ∙ sym (get_front closed (m ∷ []) i (within i refl))

    within_by : (b : Bool) (o : Option ℕ) (place : ℕ) → ((i : ℕ) → o ≡ Some i → i < length closed) → cond b (Some n) o ≡ Some place → place < length (closed ++ m ∷ [])
    within_by true o place within at = let same : n ≡ place = cc in omega (arith, length_push closed m, is, same)
    within_by false o place within at = omega (arith, length_push closed m, within place at)
