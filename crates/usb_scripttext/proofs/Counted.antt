-- The lines of a text, counted.
use Rattle.std.proofs.Common.{◌≡◌, ℕ, ◌+◌, ◌<◌, ◌^◌, ◌==◌, List, length, min, arith}
use Rattle.std.specs.List.{slice_split}
use Rattle.std.proofs.lemmas.List.Sums.{count_by-le-length}
use Rattle.std.proofs.lemmas.List.Splits.{length-slice_split}

-- the number of a line, counted in 64 bits
pub counted : (text : List ℕ) (i at next : ℕ) → length text < 2 ^ 63 → i < length (slice_split (λ b. b == 10) text)
    → at ≡ i → next ≡ min (at + 1) 18446744073709551615 → next ≡ i + 1
counted text i at next small low is sum =
    let long = length-slice_split (λ b. b == 10) text in
    let less = count_by-le-length (λ b. b == 10) text in
    omega arith
