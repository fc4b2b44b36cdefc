-- The pieces that an OUT transfer sends: how many bytes the first of them hold, and which the next one is.
use Rattle.std.proofs.Common.{Bool, List, [], ap, arith, drop, false, length, length-append, length-drop, length-take, min, refl, suc, take, true, zero, ℕ, ◌%◌, ◌*◌, ◌+◌, ◌-◌, ◌/◌, ◌<◌, ◌≤◌, ◌==◌, ◌∙◌, ◌∷◌, ◌≡◌}
use Rattle.std.specs.Prelude.{if◌then◌else◌, nat_lt, not, ◌&&◌, ◌||◌}
use Rattle.std.specs.List.{concat}
use Rattle.std.proofs.lemmas.Bool.{and_parts, eq-eqb, eqb-false, eqb-true, le-ltb, lt-ltb, ne_eqb}
use Rattle.std.proofs.lemmas.List.{drop-drop}
use Rattle.std.proofs.Math.Nat.{div-mul-le_self, mul-le-mul_right, mul_comm, suc-mul}
use Rattle.usb_model.specs.Endpoint.Packets.{cut, full_packets}
use Rattle.proof_model.proofs.Shares.More.{no_room_behind, room_behind}

-- the bytes of the first j pieces
pub first_pieces : (size k j : ℕ) (bytes : List ℕ) → j ≤ suc k → k * size ≤ length bytes → length (concat (take j (cut size k bytes))) ≡ min (j * size) (length bytes)
first_pieces size k zero bytes le enough = omega arith
first_pieces size zero (suc zero) bytes le enough = omega (arith, length-append (take size bytes) [], length-take size bytes, suc-mul 0 size)
first_pieces size zero (suc (suc j)) bytes le enough = absurd (omega (arith, le))
first_pieces size (suc k) (suc j) bytes le enough =
    let rest : k * size ≤ length (drop size bytes) = omega (arith, enough, suc-mul k size, length-drop size bytes) in
    omega (arith, length-append (take size bytes) (concat (take j (cut size k (drop size bytes)))), length-take size bytes, first_pieces size k j (drop size bytes) (omega (arith, le)) rest, length-drop size bytes, suc-mul j size, suc-mul k size, enough)

-- the piece behind j
pub next_piece : (size k j : ℕ) (bytes : List ℕ) → j ≤ k → drop j (take (suc j) (cut size k bytes)) ≡ take size (drop (j * size) bytes) ∷ []
next_piece size zero zero bytes le = ap (λ n. take size (drop n bytes) ∷ []) (let none : 0 ≡ 0 * size = omega arith in none)
next_piece size (suc k) zero bytes le = ap (λ n. take size (drop n bytes) ∷ []) (let none : 0 ≡ 0 * size = omega arith in none)
next_piece size zero (suc j) bytes le = absurd (omega (arith, le))
next_piece size (suc k) (suc j) bytes le =
    next_piece size k j (drop size bytes) (omega (arith, le))
    ∙ ap (λ l. take size l ∷ []) (drop-drop (j * size) size bytes ∙ ap (λ n. drop n bytes) (let more : size + j * size ≡ suc j * size = omega (arith, suc-mul j size) in more))

-- whether more comes behind the piece that is behind j: more than a packet is left, or an empty one comes
pub more_comes : (adds_zero : Bool) (n size j : ℕ) → 0 < size → j ≤ full_packets adds_zero n size
    → (j + 1 == suc (full_packets adds_zero n size)) ≡ not (nat_lt size (n - j * size) || ((adds_zero && (not (n == 0) && (n % size == 0))) && nat_lt 0 (n - j * size)))
more_comes adds_zero n size j some le = by_flag (adds_zero && (n % size == 0)) refl le
  where
    whole_flags : (a : Bool) → (a && (n % size == 0)) ≡ true → (a ≡ true) × ((n % size == 0) ≡ true)
    whole_flags a e = and_parts a (n % size == 0) e

    no_extra : (a b c : Bool) → (a && b) ≡ false → (a && (c && b)) ≡ false
    no_extra true true c e = absurd cc
    no_extra true false true e = refl
    no_extra true false false e = refl
    no_extra false b c e = refl

    last_whole : n % size ≡ 0 → j ≡ n / size → n - j * size ≡ 0
    last_whole whole e = let same : j * size ≡ n / size * size = ap (λ k. k * size) e in omega (arith, whole, same, mul_comm size (n / size), some)

    by_flag : (b : Bool) → (adds_zero && (n % size == 0)) ≡ b → j ≤ (if b then n / size else (n - 1) / size)
        → (j + 1 == suc (if b then n / size else (n - 1) / size)) ≡ not (nat_lt size (n - j * size) || ((adds_zero && (not (n == 0) && (n % size == 0))) && nat_lt 0 (n - j * size)))
    by_flag true flag le =
        let flags = whole_flags adds_zero flag in
        by_last (j == n / size) refl flags.0 flags.1
      where
        by_last : (t : Bool) → (j == n / size) ≡ t → adds_zero ≡ true → (n % size == 0) ≡ true → (j + 1 == suc (n / size)) ≡ not (nat_lt size (n - j * size) || ((adds_zero && (not (n == 0) && (n % size == 0))) && nat_lt 0 (n - j * size)))
        by_last true e adds whole =
            let is : j ≡ n / size = eqb-true j (n / size) e in
            let none : n - j * size ≡ 0 = last_whole (eqb-true (n % size) 0 whole) is in
            let here : (j + 1 == suc (n / size)) ≡ true = eq-eqb (j + 1) (suc (n / size)) (omega (arith, is)) in
            let small : nat_lt size 0 ≡ false = le-ltb size 0 (omega arith) in
            rw (here, none, small) (by_bool (adds_zero && (not (n == 0) && (n % size == 0))))
          where
            by_bool : (b : Bool) → true ≡ not (b && nat_lt 0 0)
            by_bool true = refl
            by_bool false = refl
        by_last false e adds whole =
            let differ : j ≡ n / size → ⊥ = eqb-false j (n / size) e in
            let less : suc j * size ≤ n / size * size = mul-le-mul_right size (omega (arith, le, differ)) in
            let room : 0 < n - j * size = omega (arith, less, suc-mul j size, div-mul-le_self n size, some) in
            let here : (j + 1 == suc (n / size)) ≡ false = ne_eqb (j + 1) (suc (n / size)) (λ z. differ (omega (arith, z))) in
            let there : (n == 0) ≡ false = ne_eqb n 0 (λ z. omega (arith, z, room)) in
            let left : nat_lt 0 (n - j * size) ≡ true = lt-ltb 0 (n - j * size) room in
            rw (here, adds, whole, there, left) (by_bool (nat_lt size (n - j * size)))
          where
            by_bool : (b : Bool) → false ≡ not (b || true)
            by_bool true = refl
            by_bool false = refl
    by_flag false flag le =
        let none : (adds_zero && (not (n == 0) && (n % size == 0))) ≡ false = no_extra adds_zero (n % size == 0) (not (n == 0)) flag in
        rw none (by_last (j == (n - 1) / size) refl)
      where
        by_last : (t : Bool) → (j == (n - 1) / size) ≡ t → (j + 1 == suc ((n - 1) / size)) ≡ not (nat_lt size (n - j * size) || false)
        by_last true e =
            let is : j ≡ (n - 1) / size = eqb-true j ((n - 1) / size) e in
            let small : nat_lt size (n - j * size) ≡ false = le-ltb size (n - j * size) (omega (arith, no_room_behind n size j some (omega (arith, is)))) in
            let here : (j + 1 == suc ((n - 1) / size)) ≡ true = eq-eqb (j + 1) (suc ((n - 1) / size)) (omega (arith, is)) in
            rw (here, small) refl
        by_last false e =
            let differ : j ≡ (n - 1) / size → ⊥ = eqb-false j ((n - 1) / size) e in
            let room : size < n - j * size = omega (arith, room_behind n size j (omega (arith, le, differ))) in
            let large : nat_lt size (n - j * size) ≡ true = lt-ltb size (n - j * size) room in
            let here : (j + 1 == suc ((n - 1) / size)) ≡ false = ne_eqb (j + 1) (suc ((n - 1) / size)) (λ z. differ (omega (arith, z))) in
            rw (here, large) refl
