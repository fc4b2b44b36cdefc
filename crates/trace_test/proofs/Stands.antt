-- What a line of a test stands for, by its cases.
use Rattle.std.proofs.Common.{◌≡◌, ◌++◌, ℕ, true, false, Bool, Bor, List, [], ◌∷◌, Option, Some, None, is_some, map, refl, sym, ap, subst, ◌∙◌}
use Rattle.std.specs.Option.{option_copied}
use Rattle.std.proofs.lemmas.List.{append-nil}
use Rattle.trace_test.specs.Expanded.{AddsLine, AddsLines, Expansion, StandsBy, is_settle, repeated, says_of_device, settling_line, times_of}
use Rattle.trace_test.specs.Expected.{expected_of}
use Rattle.trace_test.specs.declared.settling.Settling.{Settling}

-- whether a line expects something, as it was asked
expects_by : (r : Option (Bor (List ℕ))) (line : List ℕ) (b : Bool) → option_copied r ≡ expected_of line → is_some r ≡ b → is_some (expected_of line) ≡ b
expects_by None line b is said = sym (ap is_some is) ∙ said
expects_by (Some x) line b is said = sym (ap is_some is) ∙ said

-- a line that expects something adds nothing
pub adds_nothing : (r : Option (Bor (List ℕ))) (at : ℕ) (line : List ℕ) (old : Expansion) → option_copied r ≡ expected_of line → is_some r ≡ true → AddsLine at line old old
adds_nothing r at line old is said =
    ([], subst (λ b. StandsBy b (is_settle line) (says_of_device line) line []) (sym (expects_by r line true is said)) refl, (sym (append-nil old.text), sym (append-nil old.origins)))

-- one that settles adds the lines of steps
pub adds_steps : (r : Option (Bor (List ℕ))) (at : ℕ) (line : List ℕ) (steps : List Settling) (old new : Expansion) → option_copied r ≡ expected_of line → is_some r ≡ false
    → is_settle line ≡ true → AddsLines at (map settling_line steps) old new → AddsLine at line old new
adds_steps r at line steps old new is said settles adds = (
  map settling_line steps,
  subst (λ b. StandsBy b (is_settle line) (says_of_device line) line (map settling_line steps)) (sym (expects_by r line false is said))
      (subst (λ b. StandsBy false b (says_of_device line) line (map settling_line steps)) (sym settles) (steps, refl)),
  adds,
)

-- what a line stands for that neither expects nor settles
stands_by : (r : Option (Bor (List ℕ))) (line : List ℕ) (b : Bool) (lines : List (List ℕ)) → option_copied r ≡ expected_of line → is_some r ≡ false → is_settle line ≡ false
    → says_of_device line ≡ b → StandsBy false false b line lines → StandsBy (is_some (expected_of line)) (is_settle line) (says_of_device line) line lines
stands_by r line b lines is said settles of_device stands =
    subst (λ c. StandsBy c (is_settle line) (says_of_device line) line lines) (sym (expects_by r line false is said))
    (subst (λ c. StandsBy false c (says_of_device line) line lines) (sym settles) (subst (λ c. StandsBy false false c line lines) (sym of_device) stands))

-- one that says something of a device which no run shows adds nothing
pub passes_over : (r : Option (Bor (List ℕ))) (at : ℕ) (line : List ℕ) (old : Expansion) → option_copied r ≡ expected_of line → is_some r ≡ false
    → is_settle line ≡ false → says_of_device line ≡ true → AddsLine at line old old
passes_over r at line old is said settles of_device =
    ([], stands_by r line true [] is said settles of_device refl, (sym (append-nil old.text), sym (append-nil old.origins)))

-- another adds itself, or so many times what stands in front of its star
pub adds_repeated : (r : Option (Bor (List ℕ))) (at : ℕ) (line : List ℕ) (old new : Expansion) → option_copied r ≡ expected_of line → is_some r ≡ false
    → is_settle line ≡ false → says_of_device line ≡ false → AddsLines at (repeated line (times_of line)) old new → AddsLine at line old new
adds_repeated r at line old new is said settles of_device adds =
    (repeated line (times_of line), stands_by r line false (repeated line (times_of line)) is said settles of_device refl, adds)
