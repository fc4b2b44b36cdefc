-- The packets of an OUT transfer: their join is its bytes, each but the last is full, and when the last is empty.
use Rattle.std.proofs.Common.{◌≡◌, ℕ, ◌+◌, ◌-◌, ◌*◌, ◌/◌, ◌%◌, ◌<◌, ◌≤◌, ◌==◌, zero, suc, Bool, true, false, ◌&&◌, List, ◌++◌, length, take, drop, refl, ap, ◌∙◌, append-nil, length-drop, length-take, arith}
use Rattle.std.specs.Prelude.{◌||◌, if◌then◌else◌}
use Rattle.std.specs.List.{concat}
use Rattle.std.proofs.lemmas.Bool.{ne_eqb, eqb-true}
use Rattle.std.proofs.lemmas.List.{take-append-drop, take_all}
use Rattle.std.proofs.Math.Bool.{or-true}
use Rattle.std.proofs.Math.Nat.{suc-mul, div-mul-le_self, lt-mul-div-succ, mul_comm}
use Rattle.usb_model.proofs.CutPackets.{no_more_packets}
use Rattle.usb_model.specs.Endpoint.Packets.{cut, full_packets, pieces}
use Rattle.proof_laws.specs.Packets.{AreFull, ends_empty, CutsIntoPackets}

-- k pieces and one more have all bytes, where these are no more than k + 1 pieces hold
cut_joined : (size k : ℕ) (bytes : List ℕ) → length bytes ≤ suc k * size → concat (cut size k bytes) ≡ bytes
cut_joined size zero bytes enough = append-nil (take size bytes) ∙ take_all size bytes (omega (arith, enough, suc-mul 0 size))
cut_joined size (suc k) bytes enough =
    let rest : length (drop size bytes) ≤ suc k * size = omega (arith, enough, suc-mul (suc k) size, length-drop size bytes) in
    ap (λ l. take size bytes ++ l) (cut_joined size k (drop size bytes) rest) ∙ take-append-drop size bytes

-- all but the last are full, where there are bytes for k of them
cut_full : (size k : ℕ) (bytes : List ℕ) → k * size ≤ length bytes → AreFull size (cut size k bytes)
cut_full size zero bytes enough = omega (arith, length-take size bytes)
cut_full size (suc zero) bytes enough = (omega (arith, length-take size bytes, enough, suc-mul 0 size), omega (arith, length-take size (drop size bytes)))
cut_full size (suc (suc k)) bytes enough = (
  omega (arith, length-take size bytes, enough, suc-mul (suc k) size),
  cut_full size (suc k) (drop size bytes) (omega (arith, enough, suc-mul (suc k) size, length-drop size bytes)),
)

-- the last is empty where k pieces hold all
cut_end : (size k : ℕ) (bytes : List ℕ) → 0 < size → ends_empty (cut size k bytes) ≡ (length bytes - k * size == 0)
cut_end size zero bytes some = by_length (length bytes) refl
  where
    by_length : (n : ℕ) → length bytes ≡ n → (length (take size bytes) == 0) ≡ (length bytes - 0 * size == 0)
    by_length zero e =
        let none : length (take size bytes) ≡ 0 = omega (arith, length-take size bytes, e) in
        let left : length bytes - 0 * size ≡ 0 = omega (arith, e) in
        rw (none, left) refl
    by_length (suc n) e =
        let here : (length (take size bytes) == 0) ≡ false = ne_eqb (length (take size bytes)) 0 (λ z. omega (arith, length-take size bytes, e, z, some)) in
        let there : (length bytes - 0 * size == 0) ≡ false = ne_eqb (length bytes - 0 * size) 0 (λ z. omega (arith, e, z)) in
        rw (here, there) refl
cut_end size (suc zero) bytes some = cut_end size zero (drop size bytes) some ∙ ap (λ n. n == 0) (omega (arith, length-drop size bytes, suc-mul 0 size))
cut_end size (suc (suc k)) bytes some = cut_end size (suc k) (drop size bytes) some ∙ ap (λ n. n == 0) (omega (arith, length-drop size bytes, suc-mul (suc k) size))

-- n / k full pieces and one more hold n
whole_fits : (n size : ℕ) → 0 < size → n < suc (n / size) * size
whole_fits n size some = omega (arith, lt-mul-div-succ n some, mul_comm size (n / size + 1), up (n / size))
  where
    up : (k : ℕ) → (k + 1) * size ≡ suc k * size
    up k = omega arith

enough_packets : (adds_zero : Bool) (n size : ℕ) → 0 < size → n ≤ suc (full_packets adds_zero n size) * size
enough_packets adds_zero n size some = by_test (adds_zero && (n % size == 0))
  where
    by_test : (b : Bool) → n ≤ suc (if b then n / size else (n - 1) / size) * size
    by_test true = omega (arith, whole_fits n size some)
    by_test false = omega (arith, whole_fits (n - 1) size some)

-- the full ones hold all just where there is none to hold, or where they are whole and an empty one is asked for
last_packet : (adds_zero : Bool) (n size : ℕ) → 0 < size → (n - full_packets adds_zero n size * size == 0) ≡ ((n == 0) || (adds_zero && (n % size == 0)))
last_packet adds_zero n size some = by_test (adds_zero && (n % size == 0)) refl
  where
    rest_of : (b : Bool) → adds_zero && b ≡ true → b ≡ true
    rest_of b e = by_flag adds_zero e
      where
        by_flag : (a : Bool) → (a && b) ≡ true → b ≡ true
        by_flag true e = e
        by_flag false e = absurd cc

    by_number : (m : ℕ) → n ≡ m → (n - (n - 1) / size * size == 0) ≡ ((n == 0) || false)
    by_number zero e =
        let here : n - (n - 1) / size * size ≡ 0 = omega (arith, e) in
        rw (here, e) refl
    by_number (suc m) e =
        let here : (n - (n - 1) / size * size == 0) ≡ false = ne_eqb (n - (n - 1) / size * size) 0 (λ z. omega (arith, e, z, div-mul-le_self (n - 1) size)) in
        let there : (n == 0) ≡ false = ne_eqb n 0 (λ z. omega (arith, e, z)) in
        rw (here, there) refl

    by_test : (b : Bool) → (adds_zero && (n % size == 0)) ≡ b → (n - (if b then n / size else (n - 1) / size) * size == 0) ≡ ((n == 0) || b)
    by_test true e =
        let whole : n % size ≡ 0 = eqb-true (n % size) 0 (rest_of (n % size == 0) e) in
        let here : n - n / size * size ≡ 0 = omega (arith, whole, mul_comm size (n / size), some) in
        rw (here, or-true (n == 0)) refl
    by_test false e = by_number n refl

pub cuts_into_packets : CutsIntoPackets
unfolding pieces
cuts_into_packets adds_zero size bytes some = record {
  joined = cut_joined size (full_packets adds_zero (length bytes) size) bytes (enough_packets adds_zero (length bytes) size some);
  full = cut_full size (full_packets adds_zero (length bytes) size) bytes (no_more_packets adds_zero (length bytes) size);
  last = cut_end size (full_packets adds_zero (length bytes) size) bytes some ∙ last_packet adds_zero (length bytes) size some;
}
