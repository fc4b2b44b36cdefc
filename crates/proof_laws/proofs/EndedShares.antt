-- A share that ended its transfer is at its end: with another answer than a nak it has no outcome.
use Rattle.std.proofs.Common.{◌≡◌, ◌≢◌, ℕ, ◌+◌, ◌-◌, ◌/◌, ◌<◌, ◌==◌, zero, suc, Bool, true, false, List, [], ◌∷◌, ◌++◌, length, take, drop, Option, Some, None, refl, sym, ap, ◌∙◌, arith}
use Rattle.std.specs.Prelude.{if◌then◌else◌, nat_lt, not}
use Rattle.std.proofs.lemmas.Bool.{le-ltb, ne_eqb, eqb-true}
use Rattle.std.proofs.lemmas.List.Elements.{filter-append}
use Rattle.usb_model.specs.declared.response.Response.{Response}
use Rattle.usb_model.specs.declared.response.Response.TheVariants.{Data, Ack, Nak, Stall, Broken}
use Rattle.usb_model.specs.declared.request.Body.{Body}
use Rattle.usb_model.specs.declared.request.Body.TheVariants.{In, Out}
use Rattle.usb_model.specs.declared.request.Request.{Request}
use Rattle.proof_model.proofs.Shares.Outcome.{outcome_is}
use Rattle.usb_model.specs.declared.outcome.Outcome.{Outcome}
use Rattle.usb_model.specs.Endpoint.Packets.{open_with, ended_with, moved_by, is_nak, without_naks, acks, sent_with, full_front, front_of, read_with, packets_by}
use Rattle.proof_laws.specs.Outcomes.{EndsForGood}

some_same : (o p : Outcome) → ◌≡◌ {A = Option Outcome} (Some o) (Some p) → o ≡ p
some_same o p e = cc

-- what ended a transfer stands behind the front of full packets, and stays there
front_stays : (size most : ℕ) (xs ys zs : List Response) (x : Response) → drop (length (full_front size most xs)) xs ≡ x ∷ zs
    → (full_front size most (xs ++ ys) ≡ full_front size most xs) × (drop (length (full_front size most (xs ++ ys))) (xs ++ ys) ≡ x ∷ (zs ++ ys))
front_stays size zero [] ys zs x e = absurd cc
front_stays size (suc most) [] ys zs x e = absurd cc
front_stays size zero (Data b ∷ xs) ys zs x e = (refl, ap (λ l. l ++ ys) e)
front_stays size (suc most) (Data b ∷ xs) ys zs x e = by_test (length b == size) e (front_stays size most xs ys zs x)
  where
    by_test : (t : Bool) → drop (length (if t then b ∷ full_front size most xs else [])) (Data b ∷ xs) ≡ x ∷ zs
        → (drop (length (full_front size most xs)) xs ≡ x ∷ zs
        → (full_front size most (xs ++ ys) ≡ full_front size most xs) × (drop (length (full_front size most (xs ++ ys))) (xs ++ ys) ≡ x ∷ (zs ++ ys)))
        → ((if t then b ∷ full_front size most (xs ++ ys) else []) ≡ (if t then b ∷ full_front size most xs else []))
        × (drop (length (if t then b ∷ full_front size most (xs ++ ys) else [])) (Data b ∷ (xs ++ ys)) ≡ x ∷ (zs ++ ys))
    by_test true e rest = let r = rest e in (ap (λ l. b ∷ l) r.0, r.1)
    by_test false e rest = (refl, ap (λ l. l ++ ys) e)
front_stays size zero (Nak ∷ xs) ys zs x e = (refl, ap (λ l. l ++ ys) e)
front_stays size zero (Ack ∷ xs) ys zs x e = (refl, ap (λ l. l ++ ys) e)
front_stays size zero (Stall ∷ xs) ys zs x e = (refl, ap (λ l. l ++ ys) e)
front_stays size zero (Broken ∷ xs) ys zs x e = (refl, ap (λ l. l ++ ys) e)
front_stays size (suc most) (Nak ∷ xs) ys zs x e = (refl, ap (λ l. l ++ ys) e)
front_stays size (suc most) (Ack ∷ xs) ys zs x e = (refl, ap (λ l. l ++ ys) e)
front_stays size (suc most) (Stall ∷ xs) ys zs x e = (refl, ap (λ l. l ++ ys) e)
front_stays size (suc most) (Broken ∷ xs) ys zs x e = (refl, ap (λ l. l ++ ys) e)

-- the same behind acknowledgements
acks_stay : (xs ys zs : List Response) (x : Response) → drop (acks xs) xs ≡ x ∷ zs → (acks (xs ++ ys) ≡ acks xs) × (drop (acks (xs ++ ys)) (xs ++ ys) ≡ x ∷ (zs ++ ys))
acks_stay [] ys zs x e = absurd cc
acks_stay (Ack ∷ xs) ys zs x e = let r = acks_stay xs ys zs x e in (ap suc r.0, r.1)
acks_stay (Nak ∷ xs) ys zs x e = (refl, ap (λ l. l ++ ys) e)
acks_stay (Data b ∷ xs) ys zs x e = (refl, ap (λ l. l ++ ys) e)
acks_stay (Stall ∷ xs) ys zs x e = (refl, ap (λ l. l ++ ys) e)
acks_stay (Broken ∷ xs) ys zs x e = (refl, ap (λ l. l ++ ys) e)

acks_add : (xs ys : List Response) → drop (acks xs) xs ≡ [] → (acks (xs ++ ys) ≡ acks xs + acks ys) × (drop (acks (xs ++ ys)) (xs ++ ys) ≡ drop (acks ys) ys)
acks_add [] ys e = (omega arith, refl)
acks_add (Ack ∷ xs) ys e = let r = acks_add xs ys e in (omega (arith, r.0), r.1)
acks_add (Nak ∷ xs) ys e = absurd cc
acks_add (Data b ∷ xs) ys e = absurd cc
acks_add (Stall ∷ xs) ys e = absurd cc
acks_add (Broken ∷ xs) ys e = absurd cc

-- two answers behind the front are no outcome
read_two : (n size : ℕ) (front : List (List ℕ)) (x y : Response) (zs : List Response) → read_with n size front (x ∷ y ∷ zs) ≡ None
read_two n size front Nak y zs = refl
read_two n size front Ack y zs = refl
read_two n size front (Data b) y zs = refl
read_two n size front Stall y zs = refl
read_two n size front Broken y zs = refl

sent_two : (all : List (List ℕ)) (j : ℕ) (x y : Response) (zs : List Response) → sent_with all j (x ∷ y ∷ zs) ≡ None
sent_two all j Nak y zs = refl
sent_two all j Ack y zs = refl
sent_two all j (Data b) y zs = refl
sent_two all j Stall y zs = refl
sent_two all j Broken y zs = refl

-- nor are answers behind the acknowledgement of all packets
sent_past : (all : List (List ℕ)) (j : ℕ) (x : Response) (xs : List Response) → j ≡ length all → sent_with all (j + acks (x ∷ xs)) (drop (acks (x ∷ xs)) (x ∷ xs)) ≡ None
sent_past all j Ack xs whole = beyond (drop (acks xs) xs)
  where
    past : length all < j + suc (acks xs)
    past = omega (arith, whole)

    not_below : nat_lt (j + suc (acks xs)) (length all) ≡ false
    not_below = le-ltb (j + suc (acks xs)) (length all) (omega (arith, past))

    not_equal : (j + suc (acks xs) == length all) ≡ false
    not_equal = ne_eqb (j + suc (acks xs)) (length all) (λ z. omega (arith, past, z))

    beyond : (rest : List Response) → sent_with all (j + suc (acks xs)) rest ≡ None
    beyond [] = rw (not_below, not_equal) refl
    beyond (Stall ∷ []) = rw not_below refl
    beyond (Broken ∷ []) = rw not_below refl
    beyond (Nak ∷ []) = refl
    beyond (Ack ∷ []) = refl
    beyond (Data b ∷ []) = refl
    beyond (y ∷ z ∷ zs) = sent_two all (j + suc (acks xs)) y z zs
sent_past all j Stall [] whole = let b : nat_lt (j + 0) (length all) ≡ false = le-ltb (j + 0) (length all) (omega (arith, whole)) in rw b refl
sent_past all j Broken [] whole = let b : nat_lt (j + 0) (length all) ≡ false = le-ltb (j + 0) (length all) (omega (arith, whole)) in rw b refl
sent_past all j Nak [] whole = refl
sent_past all j (Data b) [] whole = refl
sent_past all j Stall (y ∷ ys) whole = refl
sent_past all j Broken (y ∷ ys) whole = refl
sent_past all j Nak (y ∷ ys) whole = refl
sent_past all j (Data b) (y ∷ ys) whole = refl

no_code : (moved : List (List ℕ)) (o : Outcome) (code : ℕ) → ◌≡◌ {A = Option Outcome} (Some (open_with moved)) (Some o) → o.code ≡ Some code → ⊥
no_code moved o code e ended = none (ap (λ (p : Outcome). p.code) (some_same (open_with moved) o e) ∙ ended)
  where
    none : ◌≡◌ {A = Option ℕ} None (Some code) → ⊥
    none q = cc

none_some : (o : Outcome) → ◌≡◌ {A = Option Outcome} None (Some o) → ⊥
none_some o q = cc

abbrev read_by : ℕ → ℕ → List Response → Option Outcome
read_by n size xs = read_with n size (front_of n size xs) (drop (length (front_of n size xs)) xs)

-- a read that ended
read_ends : (n size : ℕ) (xs ys : List Response) (y : Response) (o : Outcome) (code : ℕ) → read_by n size xs ≡ Some o → o.code ≡ Some code → read_by n size (xs ++ y ∷ ys) ≡ None
read_ends n size xs ys y o code e ended = by_rest (drop (length (front_of n size xs)) xs) refl
  where
    by_rest : (r : List Response) → drop (length (front_of n size xs)) xs ≡ r → read_by n size (xs ++ y ∷ ys) ≡ None
    by_rest [] is = absurd (no_code (front_of n size xs) o code (sym (ap (read_with n size (front_of n size xs)) is) ∙ e) ended)
    by_rest (x ∷ []) is =
        let r = front_stays size ((n - 1) / size) xs (y ∷ ys) [] x is in
        ap (read_with n size (front_of n size (xs ++ y ∷ ys))) r.1 ∙ read_two n size (front_of n size (xs ++ y ∷ ys)) x y ys
    by_rest (x ∷ z ∷ zs) is =
        absurd (none_some o (sym (read_two n size (front_of n size xs) x z zs) ∙ (sym (ap (read_with n size (front_of n size xs)) is) ∙ e)))

abbrev sent_by : List (List ℕ) → List Response → Option Outcome
sent_by all xs = sent_with all (acks xs) (drop (acks xs) xs)

-- a transfer to the device that ended
sent_ends : (all : List (List ℕ)) (xs ys : List Response) (y : Response) (o : Outcome) (code : ℕ) → sent_by all xs ≡ Some o → o.code ≡ Some code → sent_by all (xs ++ y ∷ ys) ≡ None
sent_ends all xs ys y o code e ended = by_rest (drop (acks xs) xs) refl
  where
    whole : (t : Bool) → nat_lt (acks xs) (length all) ≡ t → (s : Bool) → (acks xs == length all) ≡ s
        → (if t then Some (open_with (take (acks xs) all)) else (if s then Some (ended_with all 1) else None)) ≡ Some o → acks xs ≡ length all
    whole true below s same f = absurd (no_code (take (acks xs) all) o code f ended)
    whole false below true same f = eqb-true (acks xs) (length all) same
    whole false below false same f = absurd (none_some o f)

    by_rest : (r : List Response) → drop (acks xs) xs ≡ r → sent_by all (xs ++ y ∷ ys) ≡ None
    by_rest [] is =
        let r = acks_add xs (y ∷ ys) is in
        let all_sent : acks xs ≡ length all = whole (nat_lt (acks xs) (length all)) refl (acks xs == length all) refl (sym (ap (sent_with all (acks xs)) is) ∙ e) in
        ap (sent_with all (acks (xs ++ y ∷ ys))) r.1 ∙ (ap (λ k. sent_with all k (drop (acks (y ∷ ys)) (y ∷ ys))) r.0 ∙ sent_past all (acks xs) y ys all_sent)
    by_rest (x ∷ []) is =
        let r = acks_stay xs (y ∷ ys) [] x is in
        ap (sent_with all (acks (xs ++ y ∷ ys))) r.1 ∙ sent_two all (acks (xs ++ y ∷ ys)) x y ys
    by_rest (x ∷ z ∷ zs) is = absurd (none_some o (sym (sent_two all (acks xs) x z zs) ∙ (sym (ap (sent_with all (acks xs)) is) ∙ e)))

moved_ends : (request : Request) (size : ℕ) (body : Body) (xs ys : List Response) (o : Outcome) (code : ℕ) → moved_by request size body xs ≡ Some o → o.code ≡ Some code → ys ≢ []
    → moved_by request size body (xs ++ ys) ≡ None
moved_ends request size body xs [] o code e ended some = absurd (some refl)
moved_ends request size (In n) xs (y ∷ ys) o code e ended some = read_ends n size xs ys y o code e ended
moved_ends request size (Out bytes) xs (y ∷ ys) o code e ended some = sent_ends (packets_by request size (Out bytes)) xs ys y o code e ended

pub ends_for_good : EndsForGood
ends_for_good request size share back o code e ended some =
    outcome_is request size (share ++ back)
    ∙ (ap (moved_by request size request.body) (filter-append (λ x. not (is_nak x)) share back)
    ∙ moved_ends request size request.body (without_naks share) (without_naks back) o code (sym (outcome_is request size share) ∙ e) ended some)
