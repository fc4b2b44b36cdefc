-- One name's pieces of a shared list, after the first is taken and others join behind.
use Rattle.std.proofs.Common.{append-nil, ◌≡◌, ℕ, ◌==◌, Bool, true, false, List, [], ◌∷◌, ◌++◌, Some, refl, sym}
use Rattle.std.specs.Prelude.{if◌then◌else◌}
use Rattle.std.proofs.lemmas.Bool.{eqb-true, eqb-false, eq-eqb, ne_eqb}
use Rattle.usb_model.specs.declared.shared.Tagged.{Tagged}
use Rattle.usb_model.specs.World.Shared.{pieces_of, tagged, first_name, past_first}

-- a name is the same as itself
pub same_name : (h : ℕ) → (h == h) ≡ true
same_name h = eq-eqb h h refl

-- two numbers may be compared either way
pub either_way : (a b : ℕ) → (a == b) ≡ (b == a)
either_way a b = by_test (a == b) refl
  where
    by_test : (t : Bool) → (a == b) ≡ t → t ≡ (b == a)
    by_test true e = sym (eq-eqb b a (sym (eqb-true a b e)))
    by_test false e = sym (ne_eqb b a (λ q. eqb-false a b e (sym q)))

-- a choice of lists, with more behind
append_if : {A : Type 0} (b : Bool) (x : A) (xs ys : List A) → (if b then x ∷ (xs ++ ys) else (xs ++ ys)) ≡ (if b then x ∷ xs else xs) ++ ys
append_if true x xs ys = refl
append_if false x xs ys = refl

-- the pieces in two lists are those of the first, and then those of the second
pub pieces_of-append : {A : Type 0} (h : ℕ) (xs ys : List (Tagged A)) → pieces_of h (xs ++ ys) ≡ pieces_of h xs ++ pieces_of h ys
pieces_of-append h [] ys = refl
pieces_of-append h (x ∷ xs) ys = rw (pieces_of-append h xs ys) (append_if (x.name == h) x.piece (pieces_of h xs) (pieces_of h ys))

-- all pieces of a name's own list are its
pub pieces_of-tagged : {A : Type 0} (h : ℕ) (xs : List A) → pieces_of h (tagged h xs) ≡ xs
pieces_of-tagged h [] = refl
pieces_of-tagged h (x ∷ xs) = rw (same_name h, pieces_of-tagged h xs)

-- and none is another's
pub pieces_of_other-tagged : {A : Type 0} (g h : ℕ) (xs : List A) → (h == g) ≡ false → pieces_of g (tagged h xs) ≡ []
pieces_of_other-tagged g h [] e = refl
pieces_of_other-tagged g h (x ∷ xs) e = rw (e, pieces_of_other-tagged g h xs e)

-- the first piece is taken from its name's pieces
pub past_its_first : {A : Type 0} (h : ℕ) (b : Bool) (xs : List (Tagged A)) → (b ≡ true → first_name xs ≡ Some h) → pieces_of h (past_first b xs) ≡ past_first b (pieces_of h xs)
past_its_first h false xs first = refl
past_its_first h true [] first = refl
past_its_first h true (x ∷ xs) first = let e : x.name ≡ h = cc (first refl) in rw (e, same_name h)

-- and from no other's
pub past_anothers_first : {A : Type 0} (g h : ℕ) (b : Bool) (xs : List (Tagged A)) → (h == g) ≡ false → (b ≡ true → first_name xs ≡ Some h) → pieces_of g (past_first b xs) ≡ pieces_of g xs
past_anothers_first g h false xs e first = refl
past_anothers_first g h true [] e first = refl
past_anothers_first g h true (x ∷ xs) e first = let n : x.name ≡ h = cc (first refl) in rw (n, e)

-- a name's step changes its own pieces as it would change them alone
pub pieces_kept : {A : Type 0} (h : ℕ) (b : Bool) (xs : List (Tagged A)) (ys : List A) → (b ≡ true → first_name xs ≡ Some h) → pieces_of h (past_first b xs ++ tagged h ys) ≡ past_first b (pieces_of h xs) ++ ys
pieces_kept h b xs ys first = rw (pieces_of-append h (past_first b xs) (tagged h ys), past_its_first h b xs first, pieces_of-tagged h ys)

-- and leaves another's as they are
pub pieces_untouched : {A : Type 0} (g h : ℕ) (b : Bool) (xs : List (Tagged A)) (ys : List A) → (h == g) ≡ false → (b ≡ true → first_name xs ≡ Some h) → pieces_of g (past_first b xs ++ tagged h ys) ≡ pieces_of g xs
pieces_untouched g h b xs ys e first = rw (pieces_of-append g (past_first b xs) (tagged h ys), past_anothers_first g h b xs e first, pieces_of_other-tagged g h ys e) (append-nil (pieces_of g xs))
