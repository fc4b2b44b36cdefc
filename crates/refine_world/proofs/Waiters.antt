-- What waits at one endpoint among all that waits.
use Rattle.std.proofs.Common.{Bool, List, Some, [], ap, ap₂, append-nil, false, map, refl, true, ℕ, ◌&&◌, ◌++◌, ◌==◌, ◌∙◌, ◌∷◌, ◌≡◌}
use Rattle.std.specs.List.{filter}
use Rattle.std.proofs.lemmas.Bool.{and_parts, eqb-true}
use Rattle.std.proofs.lemmas.List.{map-append}
use Rattle.std.proofs.lemmas.List.Elements.{filter-append}
use Rattle.usb_model.specs.Setup.{Setup}
use Rattle.usb_model.specs.World.Shared.{past_first}
use Rattle.usb_model.specs.World.{Claims, holder}
use Rattle.proof_model.proofs.Lists.Pieces.{same_name}
use Rattle.refine_world.specs.Shows.{AllHeld, At, at, here}

-- at an endpoint, for the name that holds it
abbrev pub put : {A : Type 0} → ℕ → ℕ → ℕ → A → At A
put h dev ep x = record { name = h; dev = dev; ep = ep; what = x }

-- whether the first is at this endpoint; if there is one
abbrev pub is_first_at : {A : Type 0} → ℕ → ℕ → List (At A) → Bool
is_first_at d e [] = true
is_first_at d e (x ∷ xs) = here d e x

pub at-append : {A : Type 0} (d e : ℕ) (xs ys : List (At A)) → at d e (xs ++ ys) ≡ at d e xs ++ at d e ys
at-append d e xs ys = ap (map (λ x. x.what)) (filter-append (here d e) xs ys) ∙ map-append (λ x. x.what) (filter (here d e) xs) (filter (here d e) ys)

-- those put there
at_put : {A : Type 0} (h d e : ℕ) (ys : List A) → at d e (map (put h d e) ys) ≡ ys
at_put h d e [] = refl
at_put h d e (y ∷ ys) = rw (same_name d, same_name e) (ap (λ l. y ∷ l) (at_put h d e ys))

-- those put elsewhere
at_elsewhere : {A : Type 0} (h dev ep d e : ℕ) (ys : List A) → ((dev == d) && (ep == e)) ≡ false → at d e (map (put h dev ep) ys) ≡ []
at_elsewhere h dev ep d e [] other = refl
at_elsewhere h dev ep d e (y ∷ ys) other = rw other (at_elsewhere h dev ep d e ys other)

pub at_here : {A : Type 0} (h d e : ℕ) (xs : List (At A)) (ys : List A) → at d e (xs ++ map (put h d e) ys) ≡ at d e xs ++ ys
at_here h d e xs ys = at-append d e xs (map (put h d e) ys) ∙ ap (λ l. at d e xs ++ l) (at_put h d e ys)

pub at_other : {A : Type 0} (h dev ep d e : ℕ) (xs : List (At A)) (ys : List A) → ((dev == d) && (ep == e)) ≡ false → at d e (xs ++ map (put h dev ep) ys) ≡ at d e xs
at_other h dev ep d e xs ys other = at-append d e xs (map (put h dev ep) ys) ∙ (ap (λ l. at d e xs ++ l) (at_elsewhere h dev ep d e ys other) ∙ append-nil (at d e xs))

-- what is there is at that endpoint
pub is_here : {A : Type 0} (d e : ℕ) (x : At A) → here d e x ≡ true → (x.dev ≡ d) × (x.ep ≡ e)
is_here d e x q = let p = and_parts (x.dev == d) (x.ep == e) q in (eqb-true x.dev d p.0, eqb-true x.ep e p.1)

-- without the first, which is at another endpoint
pub past_other : {A : Type 0} (b : Bool) (dev ep d e : ℕ) (xs : List (At A)) → (b ≡ true → is_first_at dev ep xs ≡ true) → ((dev == d) && (ep == e)) ≡ false → at d e (past_first b xs) ≡ at d e xs
past_other false dev ep d e xs first other = refl
past_other true dev ep d e [] first other = refl
past_other true dev ep d e (x ∷ xs) first other =
    let q = is_here dev ep x (first refl) in
    let not_here : here d e x ≡ false = ap₂ (λ a b. (a == d) && (b == e)) q.0 q.1 ∙ other in
    rw not_here refl

-- the first that is at an endpoint is the first of that
pub first_here : {A : Type 0} (d e : ℕ) (x : At A) (xs : List (At A)) → here d e x ≡ true → at d e (x ∷ xs) ≡ x.what ∷ at d e xs
first_here d e x xs q = rw q refl

pub past-map : {A B : Type 0} (f : A → B) (b : Bool) (xs : List A) → past_first b (map f xs) ≡ map f (past_first b xs)
past-map f false xs = refl
past-map f true [] = refl
past-map f true (x ∷ xs) = refl

pub held_past : {A : Type 0} (setup : Setup) (claims : Claims) (b : Bool) (xs : List (At A)) → AllHeld setup claims xs → AllHeld setup claims (past_first b xs)
held_past setup claims false xs a = a
held_past setup claims true [] a = a
held_past setup claims true (x ∷ xs) a = a.1

pub held_put : {A : Type 0} (setup : Setup) (claims : Claims) (h dev ep : ℕ) (xs : List (At A)) (ys : List A) → holder setup claims dev ep ≡ Some h → AllHeld setup claims xs → AllHeld setup claims (xs ++ map (put h dev ep) ys)
held_put setup claims h dev ep (x ∷ xs) ys is a = (a.0, held_put setup claims h dev ep xs ys is a.1)
held_put setup claims h dev ep [] [] is a = tt
held_put setup claims h dev ep [] (y ∷ ys) is a = (is, held_put setup claims h dev ep [] ys is tt)
