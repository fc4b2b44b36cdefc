-- One turn more of the loops over the digits and the configurations of a file.
use Rattle.std.proofs.Common.{◌≡◌, ℕ, zero, suc, ◌+◌, ◌-◌, ◌<◌, ◌≤◌, ◌==◌, Bool, true, false, List, [], ◌∷◌, ◌++◌, length, take, drop, refl, ap, sym, ◌∙◌, append_assoc, append-nil, arith}
use Rattle.std.specs.Prelude.{nat_le, slice_index, ◌&&◌}
use Rattle.std.specs.List.{flat_map}
use Rattle.std.proofs.lemmas.Bool.{leb-true}
use Rattle.std.proofs.lemmas.List.{length-drop}
use Rattle.trace_capture.specs.Control.{total_length}
use Rattle.trace_recorded.specs.DescribedFiles.{begins_with_configuration, configurations_behind, digits_at}

-- with the configurations of the rest behind these, all are read
abbrev pub ConfigurationsAreLeft : List (List ℕ) → List (List ℕ) → List ℕ → Type 0
ConfigurationsAreLeft all found rest = (most : ℕ) × (length rest ≤ most) × (found ++ configurations_behind most rest ≡ all)

pub configurations_begin : (bytes : List ℕ) → ConfigurationsAreLeft (configurations_behind (length bytes) bytes) [] bytes
configurations_begin bytes = (length bytes, omega arith, refl)

-- a configuration has nine bytes at least, and no more than there are
long : (rest : List ℕ) → begins_with_configuration rest ≡ true → (9 ≤ length rest) × (9 ≤ total_length rest)
long rest begins = by_test (slice_index rest 1 == 2) (nat_le 9 (length rest)) (nat_le 9 (total_length rest)) (nat_le (total_length rest) (length rest)) refl refl begins
  where
    by_test : (a b c d : Bool) → nat_le 9 (length rest) ≡ b → nat_le 9 (total_length rest) ≡ c → (a && (b && (c && d))) ≡ true → (9 ≤ length rest) × (9 ≤ total_length rest)
    by_test true true true d first second whole = (leb-true 9 (length rest) first, leb-true 9 (total_length rest) second)
    by_test true true false d first second whole = cc
    by_test true false c d first second whole = cc
    by_test false b c d first second whole = cc

next_configuration : (most : ℕ) (rest : List ℕ) → begins_with_configuration rest ≡ true
    → configurations_behind (suc most) rest ≡ take (total_length rest) rest ∷ configurations_behind most (drop (total_length rest) rest)
unfolding configurations_behind
next_configuration most rest begins = rw begins refl

no_configuration : (most : ℕ) (rest : List ℕ) → begins_with_configuration rest ≡ false → configurations_behind most rest ≡ []
unfolding configurations_behind
no_configuration zero rest ends = refl
no_configuration (suc most) rest ends = rw ends refl

pub configuration_more : (all found : List (List ℕ)) (rest : List ℕ) → begins_with_configuration rest ≡ true → ConfigurationsAreLeft all found rest
    → ConfigurationsAreLeft all (found ++ take (total_length rest) rest ∷ []) (drop (total_length rest) rest)
configuration_more all found rest begins left = by_most left.0 left.1 left.2
  where
    by_most : (most : ℕ) → length rest ≤ most → found ++ configurations_behind most rest ≡ all
        → ConfigurationsAreLeft all (found ++ take (total_length rest) rest ∷ []) (drop (total_length rest) rest)
    by_most zero few same = absurd (omega (arith, (long rest begins).0))
    by_most (suc most) few same = (
      most,
      omega (arith, (long rest begins).0, (long rest begins).1, length-drop (total_length rest) rest),
      append_assoc found (take (total_length rest) rest ∷ []) (configurations_behind most (drop (total_length rest) rest)) ∙ (ap (λ l. found ++ l) (sym (next_configuration most rest begins)) ∙ same),
    )

-- as the loop has it
pub configuration_next : (all found more : List (List ℕ)) (rest behind : List ℕ) (size : ℕ) → begins_with_configuration rest ≡ true → size ≡ total_length rest → more ≡ found ++ take size rest ∷ [] → behind ≡ drop size rest
    → ConfigurationsAreLeft all found rest → ConfigurationsAreLeft all more behind
configuration_next all found more rest behind size begins is pushed past left =
    let next = configuration_more all found rest begins left in
    let same : more ≡ found ++ take (total_length rest) rest ∷ [] = pushed ∙ ap (λ n. found ++ take n rest ∷ []) is in
    let goes : behind ≡ drop (total_length rest) rest = past ∙ ap (λ n. drop n rest) is in
    rw (same, goes) next

pub configurations_end : (all found : List (List ℕ)) (rest : List ℕ) → begins_with_configuration rest ≡ false → ConfigurationsAreLeft all found rest → found ≡ all
configurations_end all found rest ends left = sym (append-nil found) ∙ (ap (λ l. found ++ l) (sym (no_configuration left.0 rest ends)) ∙ left.2)

-- the digits of a byte, and of those behind it
pub digit_next : (rest : List ℕ) → 0 < length rest → flat_map digits_at rest ≡ digits_at (slice_index rest 0) ++ flat_map digits_at (drop 1 rest)
digit_next [] some = absurd (omega arith)
digit_next (b ∷ bs) some = refl
