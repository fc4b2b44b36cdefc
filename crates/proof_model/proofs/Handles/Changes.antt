-- What a change of one name does to the interfaces and endpoints as each name sees them.
use Rattle.std.proofs.Common.{◌≡◌, ℕ, ◌==◌, Bool, true, false, not, ◌&&◌, ◌||◌, Option, Some, None, option_map, refl, ap, ap₂, sym, ◌∙◌}
use Rattle.std.specs.Prelude.{if◌then◌else◌}
use Rattle.std.specs.Option.{option_and_then, option_map_or}
use Rattle.std.proofs.lemmas.Bool.{eqb-true, eqb-false, ne_eqb, and_parts, and_right, false_from_ne_true}
use Rattle.std.proofs.Math.Bool.{and-false}
use Rattle.usb_model.specs.declared.endpoint.Endpoint.{Endpoint}
use Rattle.usb_model.specs.Setup.{Setup, interface_of, is_within}
use Rattle.usb_model.specs.Endpoint.{fresh}
use Rattle.usb_model.specs.declared.effect.Change.{Change}
use Rattle.usb_model.specs.declared.effect.Change.TheVariants.{Keeps, Frees, Gains, Drops, Renews, Sets}
use Rattle.usb_model.specs.Machine.Turns.{held_after, ends_after}
use Rattle.usb_model.specs.World.{Claims, World, holder, is_its, is_others, claims_after, all_ends_after, is_blocked}
use Rattle.proof_model.proofs.Lists.Pieces.{same_name, either_way}

-- what was the name's own and is let go is nobody's
own_freed : (h : ℕ) (o : Option ℕ) → is_its h (if is_its h o then None else o) ≡ false
own_freed h None = refl
own_freed h (Some g) = by_test (g == h) refl
  where
    by_test : (b : Bool) → (g == h) ≡ b → is_its h (if b then None else Some g) ≡ false
    by_test true e = refl
    by_test false e = e

-- and what is another's is not let go
other_freed : (g h : ℕ) (o : Option ℕ) → (h == g) ≡ false → is_its g (if is_its h o then None else o) ≡ is_its g o
other_freed g h None differ = refl
other_freed g h (Some k) differ = by_test (k == h) refl
  where
    by_test : (b : Bool) → (k == h) ≡ b → is_its g (if b then None else Some k) ≡ (k == g)
    by_test true e = rw (eqb-true k h e) (sym differ)
    by_test false e = refl

-- what is given up is not held
own_dropped : (h : ℕ) (b : Bool) (o : Option ℕ) → is_its h (if b && is_its h o then None else o) ≡ (not b && is_its h o)
own_dropped h true o = own_freed h o
own_dropped h false o = refl

-- and is what it was to another
other_dropped : (g h : ℕ) (b : Bool) (o : Option ℕ) → (h == g) ≡ false → is_its g (if b && is_its h o then None else o) ≡ is_its g o
other_dropped g h true o differ = other_freed g h o differ
other_dropped g h false o differ = refl

-- what is gained is held
own_gained : (h : ℕ) (b : Bool) (o : Option ℕ) → is_its h (if b then Some h else o) ≡ (b || is_its h o)
own_gained h true o = same_name h
own_gained h false o = refl

-- what a change makes of the name's own interfaces is what its machine makes of them
pub held_same : (h : ℕ) (claims : Claims) (change : Change) (d i : ℕ) → is_its h (claims_after h claims change d i) ≡ held_after (λ d i. is_its h (claims d i)) change d i
held_same h claims Keeps d i = refl
held_same h claims Frees d i = own_freed h (claims d i)
held_same h claims (Gains dev k) d i = own_gained h ((dev == d) && (k == i)) (claims d i)
held_same h claims (Drops dev k) d i = own_dropped h ((dev == d) && (k == i)) (claims d i)
held_same h claims (Renews dev) d i = refl
held_same h claims (Sets dev ep x) d i = refl

-- an interface that nobody but one holds is not another's
its_or_free : (g h : ℕ) (o : Option ℕ) → (h == g) ≡ false → is_others h o ≡ false → is_its g o ≡ false
its_or_free g h None differ free = refl
its_or_free g h (Some k) differ free = by_test (k == h) refl free
  where
    by_test : (b : Bool) → (k == h) ≡ b → not b ≡ false → (k == g) ≡ false
    by_test true e free = rw (eqb-true k h e) differ
    by_test false e free = absurd cc

-- two places that pass the test are one
pub places_equal : (a b c d : ℕ) → ((a == c) && (b == d)) ≡ true → (a ≡ c) × (b ≡ d)
places_equal a b c d e = let p = and_parts (a == c) (b == d) e in (eqb-true a c p.0, eqb-true b d p.1)

-- what may be gained is not another's, before and after
other_gained : (g h : ℕ) (claims : Claims) (dev k d i : ℕ) → (h == g) ≡ false → is_others h (claims dev k) ≡ false
    → is_its g (if (dev == d) && (k == i) then Some h else claims d i) ≡ is_its g (claims d i)
other_gained g h claims dev k d i differ free = by_place ((dev == d) && (k == i)) refl
  where
    by_place : (b : Bool) → ((dev == d) && (k == i)) ≡ b → is_its g (if b then Some h else claims d i) ≡ is_its g (claims d i)
    by_place true e =
        let p = places_equal dev k d i e in
        let free' : is_others h (claims d i) ≡ false = ap₂ (λ a b. is_others h (claims a b)) (sym p.0) (sym p.1) ∙ free in
        differ ∙ sym (its_or_free g h (claims d i) differ free')
    by_place false e = refl

-- a change that is in nobody's way leaves another's interfaces
pub held_other : (setup : Setup) (g h : ℕ) (w : World) (change : Change) (d i : ℕ) → (h == g) ≡ false → is_blocked setup h w change ≡ false
    → is_its g (claims_after h w.claims change d i) ≡ is_its g (w.claims d i)
unfolding is_blocked
held_other setup g h w Keeps d i differ free = refl
held_other setup g h w Frees d i differ free = other_freed g h (w.claims d i) differ
held_other setup g h w (Gains dev k) d i differ free = other_gained g h w.claims dev k d i differ free
held_other setup g h w (Drops dev k) d i differ free = other_dropped g h ((dev == d) && (k == i)) (w.claims d i) differ
held_other setup g h w (Renews dev) d i differ free = refl
held_other setup g h w (Sets dev ep x) d i differ free = refl

-- an endpoint as the holder of its interface sees it
abbrev pub seen : Bool → Endpoint → Option Endpoint
seen b x = if b then Some x else None

-- an endpoint whose interface is gained is seen, and new
seen_gained : (b held : Bool) (x y : Endpoint) → seen (b || held) (if b then x else y) ≡ (if b then Some x else seen held y)
seen_gained true held x y = refl
seen_gained false held x y = refl

-- one whose interface is given up is not seen
seen_dropped : (b held : Bool) (y : Endpoint) → seen (not b && held) y ≡ (if b then None else seen held y)
seen_dropped true held y = refl
seen_dropped false held y = refl

-- one that is seen is made new
seen_renewed : (held : Bool) (x y : Endpoint) → seen held (if held then x else y) ≡ option_map (λ old. x) (seen held y)
seen_renewed true x y = refl
seen_renewed false x y = refl

-- one that is seen is set
seen_set : (b held : Bool) (x y : Endpoint) → seen held (if b && held then x else y) ≡ (if b then option_map (λ old. x) (seen held y) else seen held y)
seen_set true true x y = refl
seen_set true false x y = refl
seen_set false true x y = refl
seen_set false false x y = refl

-- the holder of an endpoint is that of its interface o
abbrev held_at : Claims → ℕ → Option ℕ → Option ℕ
held_at claims d o = option_and_then (λ i. claims d i) o

-- whether it is interface k of device dev
abbrev within_at : ℕ → ℕ → ℕ → Option ℕ → Bool
within_at dev k d o = (dev == d) && option_map_or (λ i. i == k) o false

-- each kind of change, seen at an endpoint by the name whose change it is: all interfaces are freed
freed_end : (h : ℕ) (claims : Claims) (d : ℕ) (o : Option ℕ) → is_its h (held_at (claims_after h claims Frees) d o) ≡ false
freed_end h claims d None = refl
freed_end h claims d (Some i) = own_freed h (claims d i)

-- its interface is gained
gained_end : (h : ℕ) (claims : Claims) (dev k d : ℕ) (o : Option ℕ)
    → is_its h (held_at (claims_after h claims (Gains dev k)) d o) ≡ (within_at dev k d o || is_its h (held_at claims d o))
gained_end h claims dev k d None = rw (and-false (dev == d))
gained_end h claims dev k d (Some i) = rw (either_way i k) (own_gained h ((dev == d) && (k == i)) (claims d i))

-- its interface is given up
dropped_end : (h : ℕ) (claims : Claims) (dev k d : ℕ) (o : Option ℕ)
    → is_its h (held_at (claims_after h claims (Drops dev k)) d o) ≡ (not (within_at dev k d o) && is_its h (held_at claims d o))
dropped_end h claims dev k d None = rw (and-false (dev == d))
dropped_end h claims dev k d (Some i) = rw (either_way i k) (own_dropped h ((dev == d) && (k == i)) (claims d i))

-- what a change makes of the name's own endpoints is what its machine makes of them
pub ends_same : (setup : Setup) (h : ℕ) (claims : Claims) (ends : ℕ → ℕ → Endpoint) (change : Change) (d e : ℕ)
    → seen (is_its h (holder setup (claims_after h claims change) d e)) (all_ends_after setup h claims ends change d e)
    ≡ ends_after setup (λ d e. seen (is_its h (holder setup claims d e)) (ends d e)) change d e
ends_same setup h claims ends Keeps d e = refl
ends_same setup h claims ends Frees d e = rw (freed_end h claims d (interface_of setup d e))
ends_same setup h claims ends (Gains dev k) d e =
    rw (gained_end h claims dev k d (interface_of setup d e))
    (seen_gained (is_within setup dev k d e) (is_its h (holder setup claims d e)) (fresh setup d e) (ends d e))
ends_same setup h claims ends (Drops dev k) d e =
    rw (dropped_end h claims dev k d (interface_of setup d e)) (seen_dropped (is_within setup dev k d e) (is_its h (holder setup claims d e)) (ends d e))
ends_same setup h claims ends (Renews dev) d e = seen_renewed (is_its h (holder setup claims d e)) (fresh setup d e) (ends d e)
ends_same setup h claims ends (Sets dev ep x) d e = seen_set ((dev == d) && (ep == e)) (is_its h (holder setup claims d e)) x (ends d e)

-- an endpoint that a name doesn't see, or that stays
unseen : (b : Bool) (x y : Endpoint) → (b ≡ true → x ≡ y) → seen b x ≡ seen b y
unseen true x y e = ap (λ z. Some z) (e refl)
unseen false x y e = refl

-- an interface has one holder
not_both : (g h : ℕ) (o : Option ℕ) → (h == g) ≡ false → is_its g o ≡ true → is_its h o ≡ false
not_both g h None differ e = absurd cc
not_both g h (Some k) differ e = rw (eqb-true k g e) (ne_eqb g h (λ q. eqb-false h g differ (sym q)))

-- an interface that may be gained is not another's
not_gained : (g h : ℕ) (claims : Claims) (dev k d : ℕ) (o : Option ℕ) → (h == g) ≡ false → is_others h (claims dev k) ≡ false
    → is_its g (held_at claims d o) ≡ true → within_at dev k d o ≡ false
not_gained g h claims dev k d None differ free its = absurd cc
not_gained g h claims dev k d (Some i) differ free its = false_from_ne_true ((dev == d) && (i == k)) (λ same.
    let p = places_equal dev i d k same in
    let free' : is_others h (claims d i) ≡ false = ap₂ (λ a b. is_others h (claims a b)) (sym p.0) p.1 ∙ free in
    let no : is_its g (claims d i) ≡ false = its_or_free g h (claims d i) differ free' in
    absurd cc)

-- an endpoint that another name sees stays
ends_other : (setup : Setup) (g h : ℕ) (w : World) (change : Change) (d e : ℕ) → (h == g) ≡ false → is_blocked setup h w change ≡ false
    → is_its g (holder setup w.claims d e) ≡ true → all_ends_after setup h w.claims w.endpoints change d e ≡ w.endpoints d e
unfolding is_blocked
ends_other setup g h w Keeps d e differ free its = refl
ends_other setup g h w Frees d e differ free its = refl
ends_other setup g h w (Gains dev k) d e differ free its = rw (not_gained g h w.claims dev k d (interface_of setup d e) differ free its)
ends_other setup g h w (Drops dev k) d e differ free its = refl
ends_other setup g h w (Renews dev) d e differ free its = rw (not_both g h (holder setup w.claims d e) differ its)
ends_other setup g h w (Sets dev ep x) d e differ free its =
    rw (and_right ((dev == d) && (ep == e)) (is_its h (holder setup w.claims d e)) (not_both g h (holder setup w.claims d e) differ its))

-- so does its holder, to another name
holder_other : (setup : Setup) (g h : ℕ) (w : World) (change : Change) (d : ℕ) (o : Option ℕ) → (h == g) ≡ false → is_blocked setup h w change ≡ false
    → is_its g (held_at (claims_after h w.claims change) d o) ≡ is_its g (held_at w.claims d o)
holder_other setup g h w change d None differ free = refl
holder_other setup g h w change d (Some i) differ free = held_other setup g h w change d i differ free

-- a change that is in nobody's way leaves another's endpoints
pub seen_other : (setup : Setup) (g h : ℕ) (w : World) (change : Change) (d e : ℕ) → (h == g) ≡ false → is_blocked setup h w change ≡ false
    → seen (is_its g (holder setup (claims_after h w.claims change) d e)) (all_ends_after setup h w.claims w.endpoints change d e)
    ≡ seen (is_its g (holder setup w.claims d e)) (w.endpoints d e)
seen_other setup g h w change d e differ free =
    rw (holder_other setup g h w change d (interface_of setup d e) differ free)
    (unseen (is_its g (holder setup w.claims d e)) (all_ends_after setup h w.claims w.endpoints change d e) (w.endpoints d e) (ends_other setup g h w change d e differ free))
