-- One turn more of the loop over a configuration's descriptors.
use Rattle.std.proofs.Common.{◌≡◌, ℕ, zero, suc, ◌+◌, ◌<◌, ◌≤◌, Bool, true, false, List, [], ◌∷◌, length, take, drop, Option, Some, None, refl, ap, sym, ◌∙◌, arith}
use Rattle.std.specs.Prelude.{nat_le, ◌&&◌}
use Rattle.std.specs.Option.{option_map_or}
use Rattle.std.proofs.lemmas.Bool.{leb-true}
use Rattle.std.proofs.lemmas.List.{length-drop}
use Rattle.usb_descriptors.specs.Pieces.{Piece, byte, begins_with_piece, pieces_from, pieces}
use Rattle.trace_recorded.specs.Devices.{found_with, is_hub_behind}

-- the descriptors of the rest lead to the answer, where this was found before
abbrev pub PiecesAreLeft : Bool → Bool → List ℕ → Type 0
PiecesAreLeft all found rest = (most : ℕ) × (at : ℕ) × (length rest ≤ most) × (is_hub_behind found (pieces_from most at rest) ≡ all)

pub pieces_begin : (found : Bool) (at : ℕ) (bytes : List ℕ) → PiecesAreLeft (is_hub_behind found (pieces at bytes)) found bytes
pieces_begin found at bytes = (length bytes, at, omega arith, refl)

-- the first of them
abbrev pub first_piece : ℕ → List ℕ → Piece
first_piece at rest = record { at = at; bytes = take (byte 0 rest) rest }

next_piece : (most at : ℕ) (found : Bool) (rest : List ℕ) → begins_with_piece rest ≡ true
    → is_hub_behind found (pieces_from (suc most) at rest) ≡ option_map_or (λ more. is_hub_behind more (pieces_from most (at + byte 0 rest) (drop (byte 0 rest) rest))) (found_with found (first_piece at rest)) false
unfolding is_hub_behind pieces_from
next_piece most at found rest begins = rw begins refl

-- a descriptor has two bytes at least
two : (rest : List ℕ) → begins_with_piece rest ≡ true → (2 ≤ length rest) × (2 ≤ byte 0 rest)
two rest begins = by_test (nat_le 2 (length rest)) (nat_le 2 (byte 0 rest)) refl refl
  where
    by_test : (a b : Bool) → nat_le 2 (length rest) ≡ a → nat_le 2 (byte 0 rest) ≡ b → (2 ≤ length rest) × (2 ≤ byte 0 rest)
    by_test true true p q = (leb-true 2 (length rest) p, leb-true 2 (byte 0 rest) q)
    by_test true false p q = let wrong : false ≡ true = rw (p, q) at begins in cc
    by_test false b p q = let wrong : false ≡ true = rw p at begins in cc

pub piece_next : (all found more : Bool) (rest behind : List ℕ) (size : ℕ) → begins_with_piece rest ≡ true → size ≡ byte 0 rest → ((at : ℕ) → Some more ≡ found_with found (record { at = at; bytes = take size rest }))
    → behind ≡ drop size rest → PiecesAreLeft all found rest → PiecesAreLeft all more behind
piece_next all found more rest behind size begins is finds past left = by_most left.0 left.2 left.3
  where
    here : Some more ≡ found_with found (first_piece left.1 rest)
    here = finds left.1 ∙ ap (λ n. found_with found (record { at = left.1; bytes = take n rest })) is

    goes : behind ≡ drop (byte 0 rest) rest
    goes = past ∙ ap (λ n. drop n rest) is

    by_most : (most : ℕ) → length rest ≤ most → is_hub_behind found (pieces_from most left.1 rest) ≡ all → PiecesAreLeft all more behind
    by_most zero few same = absurd (omega (arith, (two rest begins).0))
    by_most (suc most) few same =
        let shorter : length (drop (byte 0 rest) rest) ≤ most = omega (arith, two rest begins, length-drop (byte 0 rest) rest) in
        rw goes ((
          most,
          left.1 + byte 0 rest,
          shorter,
          ap (λ o. option_map_or (λ m. is_hub_behind m (pieces_from most (left.1 + byte 0 rest) (drop (byte 0 rest) rest))) o false) here ∙ (sym (next_piece most left.1 found rest begins) ∙ same),
        ))

pub piece_none : (all found : Bool) (rest : List ℕ) (size : ℕ) → begins_with_piece rest ≡ true → size ≡ byte 0 rest → ((at : ℕ) → None ≡ found_with found (record { at = at; bytes = take size rest }))
    → PiecesAreLeft all found rest → false ≡ all
piece_none all found rest size begins is finds left = by_most left.0 left.2 left.3
  where
    here : None ≡ found_with found (first_piece left.1 rest)
    here = finds left.1 ∙ ap (λ n. found_with found (record { at = left.1; bytes = take n rest })) is

    by_most : (most : ℕ) → length rest ≤ most → is_hub_behind found (pieces_from most left.1 rest) ≡ all → false ≡ all
    by_most zero few same = absurd (omega (arith, (two rest begins).0))
    by_most (suc most) few same =
        ap (λ o. option_map_or (λ m. is_hub_behind m (pieces_from most (left.1 + byte 0 rest) (drop (byte 0 rest) rest))) o false) here ∙ (sym (next_piece most left.1 found rest begins) ∙ same)

pub pieces_end : (all found : Bool) (rest : List ℕ) → begins_with_piece rest ≡ false → PiecesAreLeft all found rest → found ≡ all
unfolding is_hub_behind pieces_from
pieces_end all found rest ends left = by_most left.0 left.3
  where
    by_most : (most : ℕ) → is_hub_behind found (pieces_from most left.1 rest) ≡ all → found ≡ all
    by_most zero same = same
    by_most (suc most) same = rw ends at same
