-- The first packets of bytes: how many they are, how long, and what they are joined.
use Rattle.std.proofs.Common.{◌≡◌, ℕ, zero, suc, ◌+◌, ◌-◌, ◌*◌, ◌/◌, ◌%◌, ◌<◌, ◌≤◌, ◌==◌, min, Bool, true, false, ◌&&◌, List, [], ◌∷◌, ◌++◌, length, take, drop, refl, ap, ◌∙◌, length-drop, length-take, length-append, arith}
use Rattle.std.specs.Prelude.{if◌then◌else◌, replicate}
use Rattle.std.specs.List.{concat}
use Rattle.std.proofs.lemmas.List.{take-append-drop, length-replicate}
use Rattle.std.proofs.lemmas.Nat.{le-div}
use Rattle.std.proofs.Math.Nat.{suc-mul, lt-mul-div-succ, mul_comm}
use Rattle.usb_model.specs.Endpoint.Packets.{cut, full_packets}
use Rattle.proof_model.proofs.Shares.OpenShares.{AllFull}
use Rattle.trace_recorded.specs.declared.transfer.RecordedTransfer.{RecordedTransfer}
use Rattle.trace_recorded.specs.Answers.{front_packets, recorded_bytes}

-- they are as many as were asked for
pub many : (size k : ℕ) (bytes : List ℕ) → length (front_packets size k bytes) ≡ k
many size zero bytes = refl
many size (suc k) bytes = ap suc (many size k (drop size bytes))

-- joined they are the bytes, where they hold them all
pub joined : (size k : ℕ) (bytes : List ℕ) → length bytes ≤ k * size → concat (front_packets size k bytes) ≡ bytes
joined size zero [] enough = refl
joined size zero (b ∷ bytes) enough = absurd (omega (arith, enough))
joined size (suc k) bytes enough =
    let rest : length (drop size bytes) ≤ k * size = omega (arith, enough, suc-mul k size, length-drop size bytes) in
    ap (λ l. take size bytes ++ l) (joined size k (drop size bytes) rest) ∙ take-append-drop size bytes

-- each is whole, where there are bytes for all
pub full : (size k : ℕ) (bytes : List ℕ) → k * size ≤ length bytes → AllFull size (front_packets size k bytes)
full size zero bytes enough = tt
full size (suc k) bytes enough = (
  omega (arith, enough, suc-mul k size, length-take size bytes),
  full size k (drop size bytes) (omega (arith, enough, suc-mul k size, length-drop size bytes)),
)

-- the last of k and one more has what is left, up to its size
pub last : (size k : ℕ) (bytes : List ℕ) → (b : List ℕ) × (front_packets size (suc k) bytes ≡ front_packets size k bytes ++ b ∷ []) × (length b ≡ min size (length bytes - k * size))
last size zero bytes = (take size bytes, refl, omega (arith, length-take size bytes))
last size (suc k) bytes =
    let r = last size k (drop size bytes) in
    (r.0, ap (λ l. take size bytes ∷ l) r.1, omega (arith, r.2, suc-mul k size, length-drop size bytes))

-- the first of the first
pub first : (size j k : ℕ) (bytes : List ℕ) → j ≤ k → take j (front_packets size k bytes) ≡ front_packets size j bytes
first size zero zero bytes few = refl
first size zero (suc k) bytes few = refl
first size (suc j) zero bytes few = absurd (omega (arith, few))
first size (suc j) (suc k) bytes few = ap (λ l. take size bytes ∷ l) (first size j k (drop size bytes) (omega (arith, few)))

-- the pieces of a write are its first packets
pub pieces_are : (size k : ℕ) (bytes : List ℕ) → cut size k bytes ≡ front_packets size (suc k) bytes
pieces_are size zero bytes = refl
pieces_are size (suc k) bytes = ap (λ l. take size bytes ∷ l) (pieces_are size k (drop size bytes))

-- as many bytes as moved
pub length_recorded : (x : RecordedTransfer) → length (recorded_bytes x) ≡ x.moved
length_recorded x =
    omega (arith, length-append {A = ℕ} (take x.moved x.bytes) (replicate (x.moved - length x.bytes) 0), length-take x.moved x.bytes, length-replicate {A = ℕ} (x.moved - length x.bytes) 0)

-- n / size whole packets, and one more, hold n
pub above : (n size : ℕ) → 0 < size → n < suc (n / size) * size
above n size some =
    let product : suc (n / size) * size ≡ n / size * size + size = suc-mul (n / size) size in
    let turned : size * (n / size + 1) ≡ (n / size + 1) * size = mul_comm size (n / size + 1) in
    let same : (n / size + 1) * size ≡ suc (n / size) * size = ap (λ k. k * size) (let e : n / size + 1 ≡ suc (n / size) = omega arith in e) in
    omega (arith, lt-mul-div-succ n some, turned, same)

-- whole packets hold what moved in whole packets
pub whole : (n size : ℕ) → 0 < size → n % size ≡ 0 → n / size * size ≡ n
whole n size some is = omega (arith, is, mul_comm size (n / size), some)

-- the packets of a write hold its bytes
pub enough : (adds_zero : Bool) (n size : ℕ) → 0 < size → n ≤ suc (full_packets adds_zero n size) * size
enough adds_zero n size some = by_test (adds_zero && (n % size == 0))
  where
    by_test : (b : Bool) → n ≤ suc (if b then n / size else (n - 1) / size) * size
    by_test true = omega (arith, above n size some)
    by_test false = omega (arith, above (n - 1) size some)

-- whole packets that hold fewer bytes stand before its last
pub before_last : (adds_zero : Bool) (n size k : ℕ) → 0 < size → k * size < n → k ≤ full_packets adds_zero n size
before_last adds_zero n size k some less = by_test (adds_zero && (n % size == 0))
  where
    by_test : (b : Bool) → k ≤ (if b then n / size else (n - 1) / size)
    by_test true = le-div k n size some (omega (arith, less))
    by_test false = le-div k (n - 1) size some (omega (arith, less))
