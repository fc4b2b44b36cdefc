-- Sums of items' numbers of TRBs.
use Rattle.std.proofs.Common.{◌≡◌, ℕ, zero, suc, ◌+◌, ◌<◌, ◌≤◌, arith, List, [], ◌∷◌, ◌++◌, length, take, drop, get_or}
use Rattle.usb_rings.specs.View.{total, AllSome}

-- the sum of two lists, one behind the other
pub total-append : (ns ms : List ℕ) → total (ns ++ ms) ≡ total ns + total ms
total-append [] ms = omega arith
total-append (n ∷ ns) ms = omega (arith, total-append ns ms)

-- the first numbers and the others sum to all
pub total-split : (ns : List ℕ) (k : ℕ) → total (take k ns) + total (drop k ns) ≡ total ns
total-split ns zero = omega arith
total-split [] (suc k) = omega arith
total-split (n ∷ ns) (suc k) = omega (arith, total-split ns k)

-- the first numbers and one more
pub total-more : (ns : List ℕ) (k : ℕ) → k < length ns → total (take (k + 1) ns) ≡ total (take k ns) + get_or ns k 0
total-more [] k h = absurd (omega arith)
total-more (n ∷ ns) zero h = omega arith
total-more (n ∷ ns) (suc k) h =
    let at : suc k + 1 ≡ suc (k + 1) = omega arith in
    rw at (omega (arith, total-more ns k (omega arith)))

-- the first numbers sum to no more than all
pub total-part : (ns : List ℕ) (k : ℕ) → total (take k ns) ≤ total ns
total-part ns zero = omega arith
total-part [] (suc k) = omega arith
total-part (n ∷ ns) (suc k) = omega (arith, total-part ns k)

-- nor do the first numbers and the next
pub item-part : (ns : List ℕ) (i : ℕ) → total (take i ns) + get_or ns i 0 ≤ total ns
item-part [] zero = omega arith
item-part [] (suc i) = omega arith
item-part (n ∷ ns) zero = omega arith
item-part (n ∷ ns) (suc i) = omega (arith, item-part ns i)

-- a number that is some is put behind numbers that are
pub some-append : (ns : List ℕ) (n : ℕ) → AllSome ns → 0 < n → AllSome (ns ++ n ∷ [])
some-append [] n s h = (h, tt)
some-append (m ∷ ns) n s h = (s.0, some-append ns n s.1 h)

-- numbers of which each is some, without the first ones
pub some-drop : (ns : List ℕ) (k : ℕ) → AllSome ns → AllSome (drop k ns)
some-drop ns zero s = s
some-drop [] (suc k) s = tt
some-drop (n ∷ ns) (suc k) s = some-drop ns k s.1

-- numbers of which each is some are no more than their sum
pub some-few : (ns : List ℕ) → AllSome ns → length ns ≤ total ns
some-few [] s = omega arith
some-few (n ∷ ns) s = omega (arith, some-few ns s.1, s.0)
