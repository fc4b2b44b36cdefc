-- How the cut goes: a piece in front and then the cut of what stands behind it, or no piece.
use Rattle.std.proofs.Common.{◌≡◌, ℕ, zero, suc, ◌+◌, ◌≤◌, Bool, true, false, cond, List, [], ◌∷◌, length, take, drop, refl, sym, ◌∙◌, ap, ap₂, arith, length-drop, length-take-le}
use Rattle.std.proofs.lemmas.Bool.{and_parts, leb-true, cond-true, cond-false, false_from_ne_true}
use Rattle.std.proofs.lemmas.List.{drop-drop}
use Rattle.std.proofs.lemmas.List.Sums.{sum_by-cons}
use Rattle.usb_descriptors.specs.Pieces.{Piece, byte, begins_with_piece, pieces_from, pieces, extent, rest}

-- what it means that the bytes begin with a piece
pub record HasFront (bytes : List ℕ) : Type 0 where
  pub two : 2 ≤ length bytes
  pub long : 2 ≤ byte 0 bytes
  pub fits : byte 0 bytes ≤ length bytes

-- what the test says
pub front : (bytes : List ℕ) → begins_with_piece bytes ≡ true → HasFront bytes
front bytes begins =
    let outer = and_parts _ _ begins in
    let inner = and_parts _ _ outer.1 in
    record { two = leb-true _ _ outer.0; long = leb-true _ _ inner.0; fits = leb-true _ _ inner.1 }

-- the first piece, and the bytes behind it
abbrev pub first : ℕ → List ℕ → Piece
first at bytes = record { at = at; bytes = take (byte 0 bytes) bytes }

abbrev pub behind : List ℕ → List ℕ
behind bytes = drop (byte 0 bytes) bytes

-- where no piece begins there is none, however many are asked for
pieces_from-stuck : (most at : ℕ) (bytes : List ℕ) → begins_with_piece bytes ≡ false → pieces_from most at bytes ≡ []
unfolding pieces_from
pieces_from-stuck zero at bytes stuck = refl
pieces_from-stuck (suc most) at bytes stuck = cond-false (begins_with_piece bytes) _ [] stuck

-- where one begins it is the first
pieces_from-front : (most at : ℕ) (bytes : List ℕ) → begins_with_piece bytes ≡ true
    → pieces_from (suc most) at bytes ≡ first at bytes ∷ pieces_from most (at + byte 0 bytes) (behind bytes)
unfolding pieces_from
pieces_from-front most at bytes begins = cond-true (begins_with_piece bytes) _ [] begins

-- no bytes begin no piece
pub short_is_stuck : (bytes : List ℕ) → length bytes ≤ 0 → begins_with_piece bytes ≡ false
short_is_stuck bytes short =
    false_from_ne_true _ (λ begins. let two = (front bytes begins).two in absurd (omega arith))

-- so there is none in no bytes, however many are asked for
pieces_from-short : (most at : ℕ) (bytes : List ℕ) → length bytes ≤ 0 → pieces_from most at bytes ≡ []
pieces_from-short most at bytes short = pieces_from-stuck most at bytes (short_is_stuck bytes short)

-- so many pieces at most, and so many, are the same pieces
abbrev IsEnough : ℕ → ℕ → ℕ → List ℕ → Type 0
IsEnough n m at bytes = pieces_from n at bytes ≡ pieces_from m at bytes

-- any number from the number of bytes on is enough
enough : (n m at : ℕ) (bytes : List ℕ) → length bytes ≤ n → length bytes ≤ m → IsEnough n m at bytes
enough zero m at bytes ln lm = pieces_from-short zero at bytes ln ∙ sym (pieces_from-short m at bytes ln)
enough (suc n) zero at bytes ln lm = pieces_from-short (suc n) at bytes lm ∙ sym (pieces_from-short zero at bytes lm)
enough (suc n) (suc m) at bytes ln lm = by_test (begins_with_piece bytes) refl (enough n m (at + byte 0 bytes) (behind bytes))
  where
    by_test : (b : Bool) → begins_with_piece bytes ≡ b
        → (length (behind bytes) ≤ n → length (behind bytes) ≤ m → IsEnough n m (at + byte 0 bytes) (behind bytes))
        → IsEnough (suc n) (suc m) at bytes
    by_test true begins further =
        let f = front bytes begins in
        let long = f.long in
        let shorter = length-drop (byte 0 bytes) bytes in
        pieces_from-front n at bytes begins
        ∙ ap (λ ps. first at bytes ∷ ps) (further (omega arith) (omega arith))
        ∙ sym (pieces_from-front m at bytes begins)
    by_test false stuck further = pieces_from-stuck (suc n) at bytes stuck ∙ sym (pieces_from-stuck (suc m) at bytes stuck)

-- where no piece begins there is none
pub pieces-stuck : (at : ℕ) (bytes : List ℕ) → begins_with_piece bytes ≡ false → pieces at bytes ≡ []
pieces-stuck at bytes stuck = pieces_from-stuck (length bytes) at bytes stuck

-- where one begins it is the first, and the others are those of the bytes behind it
pub pieces-front : (at : ℕ) (bytes : List ℕ) → begins_with_piece bytes ≡ true
    → pieces at bytes ≡ first at bytes ∷ pieces (at + byte 0 bytes) (behind bytes)
pieces-front at bytes begins =
    let shorter = length-drop (byte 0 bytes) bytes in
    enough (length bytes) (suc (length bytes)) at bytes (omega arith) (omega arith)
    ∙ pieces_from-front (length bytes) at bytes begins
    ∙ ap (λ ps. first at bytes ∷ ps)
    (enough (length bytes) (length (behind bytes)) (at + byte 0 bytes) (behind bytes) (omega arith) (omega arith))

-- a piece more reaches as many bytes further
pub extent-cons : (p : Piece) (ps : List Piece) → extent (p ∷ ps) ≡ length p.bytes + extent ps
extent-cons p ps = sum_by-cons (λ q. length q.bytes) p ps

-- whether or not a piece stands in front, what is as long reaches as far
extent-cond : (b : Bool) (p q : Piece) (ps qs : List Piece) → length p.bytes ≡ length q.bytes → extent ps ≡ extent qs
    → extent (cond b (p ∷ ps) []) ≡ extent (cond b (q ∷ qs) [])
extent-cond true p q ps qs long same = extent-cons p ps ∙ ap₂ ◌+◌ long same ∙ sym (extent-cons q qs)
extent-cond false p q ps qs long same = refl

-- how far the pieces reach doesn't depend on where they begin
pieces_from-extent : (most a b : ℕ) (bytes : List ℕ) → extent (pieces_from most a bytes) ≡ extent (pieces_from most b bytes)
unfolding pieces_from
pieces_from-extent zero a b bytes = refl
pieces_from-extent (suc most) a b bytes =
    let further = pieces_from-extent most (a + byte 0 bytes) (b + byte 0 bytes) (behind bytes) in
    extent-cond (begins_with_piece bytes) (first a bytes) (first b bytes) _ _ refl further

-- so it is for all the pieces
pub extent-at : (a b : ℕ) (bytes : List ℕ) → extent (pieces a bytes) ≡ extent (pieces b bytes)
extent-at a b bytes = pieces_from-extent (length bytes) a b bytes

-- the first piece reaches to what stands behind it
pub extent-front : (at : ℕ) (bytes : List ℕ) → begins_with_piece bytes ≡ true
    → extent (pieces at bytes) ≡ byte 0 bytes + extent (pieces (at + byte 0 bytes) (behind bytes))
extent-front at bytes begins =
    let further = pieces (at + byte 0 bytes) (behind bytes) in
    ap extent (pieces-front at bytes begins)
    ∙ extent-cons (first at bytes) further
    ∙ ap (λ n. n + extent further) (length-take-le (byte 0 bytes) bytes (front bytes begins).fits)

-- what no piece begins is all that is left there
pub rest-stuck : (bytes : List ℕ) → begins_with_piece bytes ≡ false → rest bytes ≡ bytes
rest-stuck bytes stuck = ap (λ ps. drop (extent ps) bytes) (pieces-stuck 0 bytes stuck)

-- else it is what is left behind the first piece
pub rest-front : (bytes : List ℕ) → begins_with_piece bytes ≡ true → rest bytes ≡ rest (behind bytes)
rest-front bytes begins =
    ap (λ n. drop n bytes) (extent-front 0 bytes begins)
    ∙ sym (drop-drop (extent (pieces (0 + byte 0 bytes) (behind bytes))) (byte 0 bytes) bytes)
    ∙ ap (λ n. drop n (behind bytes)) (extent-at (0 + byte 0 bytes) 0 (behind bytes))
