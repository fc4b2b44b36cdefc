-- The pieces are the cut of the bytes, and the only one.
use Rattle.std.proofs.Common.{◌≡◌, ℕ, zero, suc, ◌+◌, ◌≤◌, Bool, true, false, List, [], ◌∷◌, ◌++◌, length, take, drop, refl, sym, ◌∙◌, ap, ap₂, arith, add-zero, append_assoc, length-append, length-take-le, take-append-drop}
use Rattle.std.specs.List.{flat_map}
use Rattle.std.proofs.lemmas.Bool.{le-leb, and_from}
use Rattle.std.proofs.lemmas.List.{length-drop, take_at, drop_at, get_or_append_left, get_or-take}
use Rattle.std.proofs.lemmas.List.Elements.{All-nil, All-cons, All-head, All-tail}
use Rattle.usb_descriptors.specs.Pieces.{Piece, byte, begins_with_piece, pieces, extent, rest, IsCut}
use Rattle.usb_descriptors.proofs.Cut.{front as has_front, first, behind, pieces-front, pieces-stuck, rest-front, rest-stuck, extent-cons, short_is_stuck}

-- what each piece is: two bytes at least, and as long as the first of them says
abbrev IsLong : Piece → Type 0
IsLong p = (2 ≤ length p.bytes) × (byte 0 p.bytes ≡ length p.bytes)

-- the bytes of all
abbrev joined : List Piece → List ℕ
joined ps = flat_map (λ p. p.bytes) ps

-- what holds where no piece begins, and before a piece where it holds behind it, holds of all bytes
cut_induction : (P : ℕ → List ℕ → Type 0) → ((at : ℕ) (bytes : List ℕ) → begins_with_piece bytes ≡ false → P at bytes)
    → ((at : ℕ) (bytes : List ℕ) → begins_with_piece bytes ≡ true → P (at + byte 0 bytes) (behind bytes) → P at bytes)
    → (most at : ℕ) (bytes : List ℕ) → length bytes ≤ most → P at bytes
cut_induction P none more zero at bytes short = none at bytes (short_is_stuck bytes short)
cut_induction P none more (suc most) at bytes short =
    by_test (begins_with_piece bytes) refl (cut_induction P none more most (at + byte 0 bytes) (behind bytes))
  where
    by_test : (b : Bool) → begins_with_piece bytes ≡ b → (length (behind bytes) ≤ most → P (at + byte 0 bytes) (behind bytes)) → P at bytes
    by_test true begins further =
        let long = (has_front bytes begins).long in
        let shorter = length-drop (byte 0 bytes) bytes in
        more at bytes begins (further (omega arith))
    by_test false stuck further = none at bytes stuck

-- where pieces begin, when one more stands in front of them
offsets_behind : (at : ℕ) (q : Piece) (ps : List Piece) → q.at ≡ at
    → ((front back : List Piece) (p : Piece) → ps ≡ front ++ p ∷ back → p.at ≡ at + length q.bytes + extent front)
    → (front back : List Piece) (p : Piece) → q ∷ ps ≡ front ++ p ∷ back → p.at ≡ at + extent front
offsets_behind at q ps starts further [] back p is =
    let same : q ≡ p = cc in
    sym (ap (λ r. r.at) same) ∙ starts ∙ sym (add-zero at)
offsets_behind at q ps starts further (r ∷ front) back p is =
    let same : q ≡ r = cc in
    let others : ps ≡ front ++ p ∷ back = cc in
    let reach = extent-cons r front in
    let length_is = ap (λ s. length s.bytes) same in
    omega (arith, further front back p others)

-- no piece, and all is left
cut_stuck : (at : ℕ) (bytes : List ℕ) → begins_with_piece bytes ≡ false → IsCut at bytes [] bytes
cut_stuck at bytes stuck =
    record { joined = refl; sound = All-nil IsLong; offsets = none; stuck = stuck }
  where
    none : (front back : List Piece) (p : Piece) → [] ≡ front ++ p ∷ back → p.at ≡ at + extent front
    none [] back p is = cc
    none (q ∷ front) back p is = cc

-- a piece in front of a cut
cut_front : (at : ℕ) (bytes : List ℕ) (ps : List Piece) (left : List ℕ) → begins_with_piece bytes ≡ true
    → IsCut (at + byte 0 bytes) (behind bytes) ps left → IsCut at bytes (first at bytes ∷ ps) left
cut_front at bytes ps left begins cut =
    let front = has_front bytes begins in
    let long = front.long in
    let length_is = length-take-le (byte 0 bytes) bytes front.fits in
    let first_byte = get_or-take (byte 0 bytes) bytes 0 0 (omega arith) in
    record {
      joined =
          append_assoc (first at bytes).bytes (joined ps) left
          ∙ ap (λ xs. (first at bytes).bytes ++ xs) cut.joined
          ∙ take-append-drop (byte 0 bytes) bytes;
      sound = All-cons IsLong (first at bytes) ps (omega arith, first_byte ∙ sym length_is) cut.sound;
      offsets =
          offsets_behind at (first at bytes) ps refl
          (λ front back p is. cut.offsets front back p is ∙ ap (λ n. at + n + extent front) (sym length_is));
      stuck = cut.stuck;
    }

-- the pieces are a cut
pub is_cut : (at : ℕ) (bytes : List ℕ) → IsCut at bytes (pieces at bytes) (rest bytes)
is_cut at bytes = cut_induction (λ a bs. IsCut a bs (pieces a bs) (rest bs))
    (λ a bs stuck. rw (pieces-stuck a bs stuck, rest-stuck bs stuck) (cut_stuck a bs stuck))
    (λ a bs begins further. rw (pieces-front a bs begins, rest-front bs begins)
    (cut_front a bs (pieces (a + byte 0 bs) (behind bs)) (rest (behind bs)) begins further))
    (length bytes) at bytes (omega arith)

-- the first piece of a cut is the first of the bytes, and the others are a cut of what stands behind it
record HasFirst (at : ℕ) (bytes : List ℕ) (p : Piece) (ps : List Piece) (left : List ℕ) : Type 0 where
  begins : begins_with_piece bytes ≡ true
  is_first : p ≡ first at bytes
  others : IsCut (at + byte 0 bytes) (behind bytes) ps left

-- as is so of each cut that has a piece
first_of_cut : (at : ℕ) (bytes : List ℕ) (p : Piece) (ps : List Piece) (left : List ℕ) → IsCut at bytes (p ∷ ps) left
    → HasFirst at bytes p ps left
first_of_cut at bytes p ps left cut =
    let tail = joined ps ++ left in
    let whole : p.bytes ++ tail ≡ bytes = sym (append_assoc p.bytes (joined ps) left) ∙ cut.joined in
    let long = All-head IsLong p ps cut.sound in
    let first_byte : byte 0 bytes ≡ length p.bytes =
    ap (byte 0) (sym whole) ∙ get_or_append_left p.bytes tail 0 0 (omega (arith, long.0)) ∙ long.1 in
    let lengths : length p.bytes + length tail ≡ length bytes = sym (length-append p.bytes tail) ∙ ap length whole in
    let front : take (byte 0 bytes) bytes ≡ p.bytes = ap₂ take first_byte (sym whole) ∙ take_at p.bytes tail (length p.bytes) refl in
    let back : behind bytes ≡ tail = ap₂ drop first_byte (sym whole) ∙ drop_at p.bytes tail (length p.bytes) refl in
    let starts : p.at ≡ at = cut.offsets [] ps p refl ∙ add-zero at in
    record {
      begins =
          and_from _ _ (le-leb 2 (length bytes) (omega (arith, long.0)))
          (and_from _ _ (le-leb 2 (byte 0 bytes) (omega (arith, long.0))) (le-leb (byte 0 bytes) (length bytes) (omega arith)));
      is_first = ap₂ (λ a bs. record { at = a; bytes = bs }) starts (sym front);
      others = record {
        joined = sym back;
        sound = All-tail IsLong p ps cut.sound;
        offsets = λ front back q is. cut.offsets (p ∷ front) back q (ap (λ qs. p ∷ qs) is) ∙ omega (arith, extent-cons p front);
        stuck = cut.stuck;
      };
    }

-- there is no other cut
pub is_the_cut : (at : ℕ) (bytes : List ℕ) (ps : List Piece) (left : List ℕ) → IsCut at bytes ps left
    → (ps ≡ pieces at bytes) × (left ≡ rest bytes)
is_the_cut at bytes [] left cut =
    let stuck = ap begins_with_piece (sym cut.joined) ∙ cut.stuck in
    (sym (pieces-stuck at bytes stuck), cut.joined ∙ sym (rest-stuck bytes stuck))
is_the_cut at bytes (p ∷ ps) left cut =
    let front = first_of_cut at bytes p ps left cut in
    let further = is_the_cut (at + byte 0 bytes) (behind bytes) ps left front.others in
    (ap₂ ◌∷◌ front.is_first further.0 ∙ sym (pieces-front at bytes front.begins), further.1 ∙ sym (rest-front bytes front.begins))
