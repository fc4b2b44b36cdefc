-- One turn more of the loop over a configuration's descriptors.
use Rattle.std.proofs.Common.{◌≡◌, ℕ, zero, suc, ◌+◌, ◌<◌, ◌≤◌, Bool, true, false, List, [], ◌++◌, length, take, drop, refl, ap, sym, ◌∙◌, arith, append_assoc, append-nil}
use Rattle.std.specs.Prelude.{nat_le}
use Rattle.std.specs.List.{flat_map}
use Rattle.std.proofs.lemmas.Bool.{leb-true}
use Rattle.std.proofs.lemmas.List.{length-drop}
use Rattle.usb_descriptors.specs.Pieces.{Piece, byte, begins_with_piece, pieces_from, pieces}
use Rattle.trace_descriptor.specs.declared.interface.InterfaceSetting.{InterfaceSetting}
use Rattle.trace_descriptor.specs.Interfaces.{settings_in}

-- what was found, and what the descriptors of the rest say, is all
abbrev pub PiecesAreLeft : List InterfaceSetting → List InterfaceSetting → List ℕ → Type 0
PiecesAreLeft all found rest = (most : ℕ) × (at : ℕ) × (length rest ≤ most) × (found ++ flat_map settings_in (pieces_from most at rest) ≡ all)

pub pieces_begin : (at : ℕ) (bytes : List ℕ) → PiecesAreLeft (flat_map settings_in (pieces at bytes)) [] bytes
pieces_begin at bytes = (length bytes, at, omega arith, refl)

-- the first of them
abbrev pub first_piece : ℕ → List ℕ → Piece
first_piece at rest = record { at = at; bytes = take (byte 0 rest) rest }

next_piece : (most at : ℕ) (rest : List ℕ) → begins_with_piece rest ≡ true
    → flat_map settings_in (pieces_from (suc most) at rest) ≡ settings_in (first_piece at rest) ++ flat_map settings_in (pieces_from most (at + byte 0 rest) (drop (byte 0 rest) rest))
unfolding pieces_from
next_piece most at rest begins = rw begins refl

-- a descriptor has two bytes at least
two : (rest : List ℕ) → begins_with_piece rest ≡ true → (2 ≤ length rest) × (2 ≤ byte 0 rest)
two rest begins = by_test (nat_le 2 (length rest)) (nat_le 2 (byte 0 rest)) refl refl
  where
    by_test : (a b : Bool) → nat_le 2 (length rest) ≡ a → nat_le 2 (byte 0 rest) ≡ b → (2 ≤ length rest) × (2 ≤ byte 0 rest)
    by_test true true p q = (leb-true 2 (length rest) p, leb-true 2 (byte 0 rest) q)
    by_test true false p q = let wrong : false ≡ true = rw (p, q) at begins in cc
    by_test false b p q = let wrong : false ≡ true = rw p at begins in cc

pub piece_shorter : (rest behind : List ℕ) (size : ℕ) → begins_with_piece rest ≡ true → size ≡ byte 0 rest → behind ≡ drop size rest → length behind < length rest
piece_shorter rest behind size begins is past = omega (arith, two rest begins, length-drop size rest, ap length past)

pub piece_next : (all found more : List InterfaceSetting) (rest behind : List ℕ) (size : ℕ) → begins_with_piece rest ≡ true → size ≡ byte 0 rest
    → ((at : ℕ) → more ≡ found ++ settings_in (record { at = at; bytes = take size rest }))
    → behind ≡ drop size rest → PiecesAreLeft all found rest → PiecesAreLeft all more behind
piece_next all found more rest behind size begins is finds past left = by_most left.0 left.2 left.3
  where
    here : more ≡ found ++ settings_in (first_piece left.1 rest)
    here = finds left.1 ∙ ap (λ n. found ++ settings_in (record { at = left.1; bytes = take n rest })) is

    goes : behind ≡ drop (byte 0 rest) rest
    goes = past ∙ ap (λ n. drop n rest) is

    by_most : (most : ℕ) → length rest ≤ most → found ++ flat_map settings_in (pieces_from most left.1 rest) ≡ all → PiecesAreLeft all more behind
    by_most zero few same = absurd (omega (arith, (two rest begins).0))
    by_most (suc most) few same =
        let shorter : length (drop (byte 0 rest) rest) ≤ most = omega (arith, two rest begins, length-drop (byte 0 rest) rest) in
        rw goes ((
          most,
          left.1 + byte 0 rest,
          shorter,
          ap (λ l. l ++ flat_map settings_in (pieces_from most (left.1 + byte 0 rest) (drop (byte 0 rest) rest))) here
              ∙ (append_assoc found (settings_in (first_piece left.1 rest)) (flat_map settings_in (pieces_from most (left.1 + byte 0 rest) (drop (byte 0 rest) rest)))
              ∙ (ap (λ l. found ++ l) (sym (next_piece most left.1 rest begins)) ∙ same)),
        ))

pub pieces_end : (all found : List InterfaceSetting) (rest : List ℕ) → begins_with_piece rest ≡ false → PiecesAreLeft all found rest → found ≡ all
unfolding pieces_from
pieces_end all found rest ends left = by_most left.0 left.3
  where
    by_most : (most : ℕ) → found ++ flat_map settings_in (pieces_from most left.1 rest) ≡ all → found ≡ all
    by_most zero same = sym (append-nil found) ∙ same
    by_most (suc most) same = sym (append-nil found) ∙ rw ends at same
