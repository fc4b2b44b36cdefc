-- What one more piece adds to what is read off a list of pieces.
use Rattle.std.proofs.Common.{◌≡◌, ℕ, ◌==◌, Bool, true, false, cond, ◌&&◌, ◌||◌, List, [], ◌∷◌, ◌++◌, Option, Some, None, refl, sym, ◌∙◌, ap, subst, append_assoc}
use Rattle.std.specs.List.{list_any}
use Rattle.std.proofs.lemmas.Bool.{cond-true, cond-false, eqb-true}
use Rattle.std.proofs.lemmas.List.{append-nil}
use Rattle.std.proofs.lemmas.List.Folds.{list_any-append}
use Rattle.std.proofs.Math.Bool.{or-false, or_assoc}
use Rattle.usb_descriptors.specs.Pieces.{Piece}
use Rattle.usb_descriptors.specs.Grammar.{is_interface, is_first_setting, interface_number, is_used, each_from, each, interfaces, last_of, nearest, endpoints, kept}

-- what a test gives along two lists of pieces, one behind the other
each_from-append : {A : Type 0} (f : List Piece → Piece → List A) (before ps qs : List Piece)
    → each_from f before (ps ++ qs) ≡ each_from f before ps ++ each_from f (before ++ ps) qs
each_from-append f before [] qs = ap (λ b. each_from f b qs) (sym (append-nil before))
each_from-append f before (p ∷ ps) qs =
    ap (λ xs. f before p ++ xs) (each_from-append f (before ++ p ∷ []) ps qs)
    ∙ sym (append_assoc (f before p) (each_from f (before ++ p ∷ []) ps) (each_from f ((before ++ p ∷ []) ++ ps) qs))
    ∙ ap (λ b. (f before p ++ each_from f (before ++ p ∷ []) ps) ++ each_from f b qs) (append_assoc before (p ∷ []) ps)

-- one more piece adds what the test gives of it
pub each-push : {A : Type 0} (f : List Piece → Piece → List A) (before : List Piece) (p : Piece)
    → each f (before ++ p ∷ []) ≡ each f before ++ f before p
each-push f before p =
    each_from-append f [] before (p ∷ []) ∙ ap (λ xs. each f before ++ xs) (append-nil (f before p))

-- the number that a piece adds to the interfaces
abbrev pub number_of : List Piece → Piece → List ℕ
number_of before p = cond (is_used before p) (interface_number p ∷ []) []

-- one more piece adds its number, where it is used
pub interfaces-push : (before : List Piece) (p : Piece) → interfaces (before ++ p ∷ []) ≡ interfaces before ++ number_of before p
interfaces-push before p = each-push number_of before p

-- one more piece adds what is kept of it
pub endpoints-push : (before : List Piece) (p : Piece) → endpoints (before ++ p ∷ []) ≡ endpoints before ++ kept before p
endpoints-push before p = each-push kept before p

-- the last of some and one more is that one
last_of-push : {A : Type 0} (xs : List A) (x : A) → last_of (xs ++ x ∷ []) ≡ Some x
last_of-push [] x = refl
last_of-push (y ∷ []) x = refl
last_of-push (y ∷ z ∷ xs) x = last_of-push (z ∷ xs) x

-- what an interface is for the endpoints behind it: its number, where it is used
abbrev section_of : List Piece → Piece → List (Option ℕ)
section_of before p = cond (is_interface p) (cond (is_used before p) (Some (interface_number p)) None ∷ []) []

-- an interface is the nearest to what follows it
pub nearest-interface : (before : List Piece) (p : Piece) → is_interface p ≡ true
    → nearest (before ++ p ∷ []) ≡ Some (cond (is_used before p) (Some (interface_number p)) None)
nearest-interface before p is =
    ap last_of (each-push section_of before p ∙ ap (λ xs. each section_of before ++ xs) (cond-true (is_interface p) _ [] is))
    ∙ last_of-push (each section_of before) (cond (is_used before p) (Some (interface_number p)) None)

-- any other piece leaves the nearest interface as it is
pub nearest-other : (before : List Piece) (p : Piece) → is_interface p ≡ false → nearest (before ++ p ∷ []) ≡ nearest before
nearest-other before p isnt =
    ap last_of (each-push section_of before p
    ∙ ap (λ xs. each section_of before ++ xs) (cond-false (is_interface p) _ [] isnt)
    ∙ append-nil (each section_of before))

-- whether a piece is a first setting with this number
abbrev has_number : ℕ → Piece → Bool
has_number n q = is_first_setting q && (interface_number q == n)

-- a piece that isn't used adds no number that none before it had
same_numbers : (before : List Piece) (p : Piece) (n : ℕ)
    → (list_any (has_number n) before || has_number n p) ≡ (list_any (has_number n) before || list_any (λ k. k == n) (number_of before p))
same_numbers before p n =
    by_test (is_first_setting p) (interface_number p == n) (list_any (has_number (interface_number p)) before) refl refl refl
  where
    by_test : (first same known : Bool) → is_first_setting p ≡ first → (interface_number p == n) ≡ same
        → list_any (has_number (interface_number p)) before ≡ known
        → (list_any (has_number n) before || has_number n p) ≡ (list_any (has_number n) before || list_any (λ k. k == n) (number_of before p))
    by_test false same known f s k = rw f refl
    by_test true false false f s k = rw (f, k, s) refl
    by_test true false true f s k = rw (f, k, s) refl
    by_test true true false f s k = rw (f, k, s) refl
    by_test true true true f s k =
        let earlier = subst (λ m. list_any (has_number m) before ≡ true) (eqb-true (interface_number p) n s) k in
        rw earlier refl

-- a first setting of this number stands among the pieces exactly where a used interface has it
pub numbers_used : (before : List Piece) (n : ℕ) → list_any (has_number n) before ≡ list_any (λ k. k == n) (interfaces before)
numbers_used before n = from [] before
  where
    from : (earlier ps : List Piece)
        → list_any (has_number n) (earlier ++ ps) ≡ (list_any (has_number n) earlier || list_any (λ k. k == n) (each_from number_of earlier ps))
    from earlier [] = ap (list_any (has_number n)) (append-nil earlier) ∙ sym (or-false (list_any (has_number n) earlier))
    from earlier (p ∷ ps) =
        let had = list_any (has_number n) earlier in
        let here = number_of earlier p in
        let further = each_from number_of (earlier ++ p ∷ []) ps in
        let one_more =
        list_any-append (has_number n) earlier (p ∷ [])
        ∙ ap (λ b. had || b) (or-false (has_number n p))
        ∙ same_numbers earlier p n in
        ap (list_any (has_number n)) (sym (append_assoc earlier (p ∷ []) ps))
        ∙ from (earlier ++ p ∷ []) ps
        ∙ ap (λ b. b || list_any (λ k. k == n) further) one_more
        ∙ or_assoc had (list_any (λ k. k == n) here) (list_any (λ k. k == n) further)
        ∙ ap (λ b. had || b) (sym (list_any-append (λ k. k == n) here further))
