-- Where a Set TR Dequeue Pointer leads: the place of an address is found, or there is none.
use Rattle.std.proofs.Common.{◌≡◌, ℕ, zero, suc, ◌<◌, ◌≤◌, refl, ap, ◌∙◌, arith, length, Some, None, true, false, Bool, inl, inr, ◌⊎◌}
use Rattle.std.specs.Prelude.{Option, is_some, ◌==◌, if◌then◌else◌, ◌≢◌}
use Rattle.std.proofs.lemmas.Bool.{eqb-true, eq-eqb, cases_lt}
use Rattle.usb_rings.specs.Places.{address_of}
use Rattle.usb_rings.specs.Line.{Line, places, all_of, place_behind, moved_behind}
use Rattle.usb_rings.specs.Memory.{Memory}
use Rattle.usb_rings.specs.View.{Ring}
use Rattle.usb_xhc.specs.Context.{Context}
use Rattle.usb_xhc.specs.Commands.{before, before_by, moved_at}

-- the address of a place
abbrev pub at_place : Line → ℕ → ℕ
at_place l n = address_of places l.base (place_behind l n)

-- a place that is found has the address
pub found-there : (l : Line) (p k m : ℕ) → before_by l p k ≡ Some m → (m ≤ k) × (p ≡ at_place l m)
found-there l p zero m h = by_test (p == at_place l 0) refl h
  where
    by_test : (b : Bool) → (p == at_place l 0) ≡ b → ◌≡◌ {A = Option ℕ} (if b then Some 0 else None) (Some m) → (m ≤ 0) × (p ≡ at_place l m)
    by_test true e g =
        let same : 0 ≡ m = cc in
        (omega arith, eqb-true p (at_place l 0) e ∙ ap (at_place l) same)
    by_test false e g = absurd cc
found-there l p (suc k) m h = by_test (p == at_place l (suc k)) refl h (λ g. found-there l p k m g)
  where
    by_test : (b : Bool) → (p == at_place l (suc k)) ≡ b → (if b then Some (suc k) else before_by l p k) ≡ Some m
        → (before_by l p k ≡ Some m → (m ≤ k) × (p ≡ at_place l m)) → (m ≤ suc k) × (p ≡ at_place l m)
    by_test true e g rest =
        let same : suc k ≡ m = cc in
        (omega arith, eqb-true p (at_place l (suc k)) e ∙ ap (at_place l) same)
    by_test false e g rest =
        let r = rest g in
        (omega (arith, r.0), r.1)

-- where none is found, none has it
pub found-none : (l : Line) (p k n : ℕ) → before_by l p k ≡ None → n ≤ k → p ≢ at_place l n
found-none l p zero n h le = by_test (p == at_place l 0) refl h
  where
    by_test : (b : Bool) → (p == at_place l 0) ≡ b → ◌≡◌ {A = Option ℕ} (if b then Some 0 else None) None → p ≢ at_place l n
    by_test true e g = absurd cc
    by_test false e g = λ same.
        let zero_is : n ≡ 0 = omega arith in
        let yes = eq-eqb p (at_place l 0) (same ∙ ap (at_place l) zero_is) in
        absurd cc
found-none l p (suc k) n h le = by_test (p == at_place l (suc k)) refl h (λ g near. found-none l p k n g near)
  where
    by_test : (b : Bool) → (p == at_place l (suc k)) ≡ b → (if b then Some (suc k) else before_by l p k) ≡ None
        → (before_by l p k ≡ None → n ≤ k → p ≢ at_place l n) → p ≢ at_place l n
    by_test true e g rest = absurd cc
    by_test false e g rest = λ same. by_size same (cases_lt k n)
      where
        by_size : p ≡ at_place l n → (k < n) ⊎ (n ≤ k) → ⊥
        by_size same (inr near) = rest g near same
        by_size same (inl far) =
            let last : n ≡ suc k = omega (arith, le) in
            let yes = eq-eqb p (at_place l (suc k)) (same ∙ ap (at_place l) last) in
            absurd cc

-- what dequeue becomes
abbrev pub led : Line → Option ℕ → Line
led l None = l
led l (Some n) = moved_behind l n

-- a search that tells of each place is that for the first
pub leads : (l : Line) (p : ℕ) (found : Bool) (l' : Line)
    → ((n : ℕ) → n ≤ length (all_of l.items) → p ≡ at_place l n → (found ≡ true) × (l' ≡ moved_behind l n))
    → (found ≡ true → (n : ℕ) × (n ≤ length (all_of l.items)) × (p ≡ at_place l n))
    → (found ≡ false → l' ≡ l)
    → (found ≡ is_some (before l p)) × (l' ≡ led l (before l p))
leads l p found l' each known absent = by_place (before l p) refl
  where
    by_found : (b : Bool) → found ≡ b → before l p ≡ None → (found ≡ false) × (l' ≡ l)
    by_found true e none =
        let k = known e in
        absurd (found-none l p (length (all_of l.items)) k.0 none k.1 k.2)
    by_found false e none = (e, absent e)

    by_place : (o : Option ℕ) → before l p ≡ o → (found ≡ is_some o) × (l' ≡ led l o)
    by_place None e = by_found found refl e
    by_place (Some m) e =
        let r = found-there l p (length (all_of l.items)) m e in
        each m r.0 r.1

-- the endpoint where dequeue went
pub moved-there : (c : Context) (o : Option ℕ) (r : Ring) → r.line ≡ led c.ring.line o → r.memory ≡ c.ring.memory → is_some o ≡ true
    → record c { within = 0; begun = false; ring = r } ≡ (moved_at c o).context
moved-there c None r f g h = absurd cc
moved-there c (Some n) r f g h =
    ap (λ (l : Line). record c { within = 0; begun = false; ring = record { line = l; memory = r.memory } }) f
    ∙ ap (λ (m : Memory). record c { within = 0; begun = false; ring = record { line = moved_behind c.ring.line n; memory = m } }) g

-- and where it stayed
pub stayed-there : (c : Context) (o : Option ℕ) (r : Ring) → r.line ≡ led c.ring.line o → r.memory ≡ c.ring.memory → is_some o ≡ false
    → record c { ring = r } ≡ (moved_at c o).context
stayed-there c (Some n) r f g h = absurd cc
stayed-there c None r f g h =
    ap (λ (l : Line). record c { ring = record { line = l; memory = r.memory } }) f
    ∙ ap (λ (m : Memory). record c { ring = record { line = c.ring.line; memory = m } }) g
