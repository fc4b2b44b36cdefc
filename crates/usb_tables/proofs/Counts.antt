-- The counts of callbacks, and the transfers that are counted.
use Rattle.std.proofs.Common.{◌≡◌, ℕ, ◌+◌, ◌*◌, ◌-◌, ◌%◌, ◌<◌, ◌==◌, Bool, true, false, cond, List, [], length, replicate, zero, suc, Option, Some, None, slice_index_or, slice_set, refl, sym, ap, ◌∙◌, arith}
use Rattle.std.specs.Prelude.{if◌then◌else◌, nat_eq, Result, Ok, Err, IfOk, IsOk}
use Rattle.std.specs.Option.{option_map, unwrap_or}
use Rattle.std.specs.HashMap.{HashMap, PutsEntry}
use Rattle.std.specs.List.Sorted.{IsPermutation}
use Rattle.std.specs.Map.{lookup, remove_entry}
use Rattle.std.proofs.lemmas.Bool.{eq-eqb, eqb-true, eqb-false, false≢true}
use Rattle.std.proofs.lemmas.List.{get_or-set_same, get_or-set_other}
use Rattle.std.proofs.lemmas.Map.Entries.{sum_by_puts_entry, sum_by_values_permutation, sum_by-remove_entry}
use Rattle.usb_model.specs.declared.result.InCallback.{InCallback}
use Rattle.usb_model.specs.Setup.{endpoint_id, is_in}
use Rattle.usb_tables.specs.HandleState.{AreCounted, is_of, running_of}

-- how much a transfer counts at an endpoint id
abbrev pub weight : ℕ → InCallback → ℕ
weight id x = cond (is_of id x) 1 0

-- an id is below 32
pub id-lt : (e : ℕ) → endpoint_id e < 32
id-lt e = by_test (is_in e)
  where
    by_test : (b : Bool) → 2 * (e % 16) + (if b then 1 else 0) < 32
    by_test true = omega arith
    by_test false = omega arith

-- a count that is written is read there, and the others as before
pub count_set : (counts : List ℕ) (place v : ℕ) → place < length counts → (id : ℕ) → slice_index_or (slice_set counts place v) id 0 ≡ (if place == id then v else slice_index_or counts id 0)
count_set counts place v within id = by_test (place == id) refl
  where
    by_test : (b : Bool) → (place == id) ≡ b → slice_index_or (slice_set counts place v) id 0 ≡ (if b then v else slice_index_or counts id 0)
    by_test true e = ap (λ k. slice_index_or (slice_set counts place v) k 0) (sym (eqb-true place id e)) ∙ get_or-set_same counts place v 0 within
    by_test false e = get_or-set_other counts place id v 0 (λ x. eqb-false place id e (sym x))

-- one more at a place
pub count_more : (counts : List ℕ) (place : ℕ) → place < length counts → (id : ℕ)
    → slice_index_or (slice_set counts place (slice_index_or counts place 0 + 1)) id 0 ≡ (if place == id then slice_index_or counts id 0 + 1 else slice_index_or counts id 0)
count_more counts place within id = count_set counts place (slice_index_or counts place 0 + 1) within id ∙ by_test (place == id) refl
  where
    by_test : (b : Bool) → (place == id) ≡ b → (if b then slice_index_or counts place 0 + 1 else slice_index_or counts id 0) ≡ (if b then slice_index_or counts id 0 + 1 else slice_index_or counts id 0)
    by_test true e = ap (λ k. slice_index_or counts k 0 + 1) (eqb-true place id e)
    by_test false e = refl

-- one less at a place
pub count_less : (counts : List ℕ) (place : ℕ) → place < length counts → (id : ℕ)
    → slice_index_or (slice_set counts place (slice_index_or counts place 0 - 1)) id 0 ≡ (if place == id then slice_index_or counts id 0 - 1 else slice_index_or counts id 0)
count_less counts place within id = count_set counts place (slice_index_or counts place 0 - 1) within id ∙ by_test (place == id) refl
  where
    by_test : (b : Bool) → (place == id) ≡ b → (if b then slice_index_or counts place 0 - 1 else slice_index_or counts id 0) ≡ (if b then slice_index_or counts id 0 - 1 else slice_index_or counts id 0)
    by_test true e = ap (λ k. slice_index_or counts k 0 - 1) (eqb-true place id e)
    by_test false e = refl

-- where there is one, one less is made up by it
pub count_taken : (counts : List ℕ) (place : ℕ) → place < length counts → 0 < slice_index_or counts place 0 → (id : ℕ)
    → slice_index_or counts id 0 ≡ slice_index_or (slice_set counts place (slice_index_or counts place 0 - 1)) id 0 + (if place == id then 1 else 0)
count_taken counts place within some id = by_test (place == id) refl (count_less counts place within id)
  where
    by_test : (b : Bool) → (place == id) ≡ b
        → slice_index_or (slice_set counts place (slice_index_or counts place 0 - 1)) id 0 ≡ (if b then slice_index_or counts id 0 - 1 else slice_index_or counts id 0)
        → slice_index_or counts id 0 ≡ slice_index_or (slice_set counts place (slice_index_or counts place 0 - 1)) id 0 + (if b then 1 else 0)
    by_test true e less =
        let there : slice_index_or counts place 0 ≡ slice_index_or counts id 0 = ap (λ k. slice_index_or counts k 0) (eqb-true place id e) in
        omega (arith, less, there, some)
    by_test false e less = omega (arith, less)

-- the counts are right with one more transfer, and one more at its endpoint
pub counted_put : (counts : List ℕ) (es fs : List (ℕ × InCallback)) (x : InCallback) → length counts ≡ 32
    → ((id : ℕ) → running_of id fs ≡ running_of id es + weight id x) → AreCounted counts es
    → AreCounted (slice_set counts (endpoint_id x.request.ep) (slice_index_or counts (endpoint_id x.request.ep) 0 + 1)) fs
counted_put counts es fs x len more same = record { counted = λ id below. by_test id below (is_of id x) refl }
  where
    within : endpoint_id x.request.ep < length counts
    within = let p = id-lt x.request.ep in omega (arith, p, len)

    by_test : (id : ℕ) → id < 32 → (b : Bool) → is_of id x ≡ b → slice_index_or (slice_set counts (endpoint_id x.request.ep) (slice_index_or counts (endpoint_id x.request.ep) 0 + 1)) id 0 ≡ running_of id fs
    by_test id below true e =
        let sum : running_of id fs ≡ running_of id es + 1 = more id ∙ ap (λ b. running_of id es + cond b 1 0) e in
        count_more counts (endpoint_id x.request.ep) within id ∙ rw e (ap (λ n. n + 1) (same.counted id below) ∙ sym sum)
    by_test id below false e =
        let sum : running_of id fs ≡ running_of id es + 0 = more id ∙ ap (λ b. running_of id es + cond b 1 0) e in
        count_more counts (endpoint_id x.request.ep) within id ∙ rw e (omega (arith, same.counted id below, sum))

-- the counts are right without a transfer, and one less at its endpoint
pub counted_removed : (counts : List ℕ) (es fs : List (ℕ × InCallback)) (x : InCallback) → length counts ≡ 32
    → ((id : ℕ) → running_of id fs + weight id x ≡ running_of id es) → AreCounted counts es
    → AreCounted (slice_set counts (endpoint_id x.request.ep) (slice_index_or counts (endpoint_id x.request.ep) 0 - 1)) fs
counted_removed counts es fs x len less same = record { counted = λ id below. by_test id below (is_of id x) refl }
  where
    within : endpoint_id x.request.ep < length counts
    within = let p = id-lt x.request.ep in omega (arith, p, len)

    by_test : (id : ℕ) → id < 32 → (b : Bool) → is_of id x ≡ b → slice_index_or (slice_set counts (endpoint_id x.request.ep) (slice_index_or counts (endpoint_id x.request.ep) 0 - 1)) id 0 ≡ running_of id fs
    by_test id below true e =
        let sum : running_of id fs + 1 ≡ running_of id es = ap (λ b. running_of id fs + cond b 1 0) (sym e) ∙ less id in
        count_less counts (endpoint_id x.request.ep) within id ∙ rw e (omega (arith, same.counted id below, sum))
    by_test id below false e =
        let sum : running_of id fs + 0 ≡ running_of id es = ap (λ b. running_of id fs + cond b 1 0) (sym e) ∙ less id in
        count_less counts (endpoint_id x.request.ep) within id ∙ rw e (omega (arith, same.counted id below, sum))

-- the count at the endpoint of a transfer that is counted isn't 0
pub some_counted : (counts : List ℕ) (es fs : List (ℕ × InCallback)) (x : InCallback)
    → ((id : ℕ) → running_of id fs + weight id x ≡ running_of id es) → AreCounted counts es → 0 < slice_index_or counts (endpoint_id x.request.ep) 0
some_counted counts es fs x less same =
    let place = endpoint_id x.request.ep in
    let here : is_of place x ≡ true = eq-eqb place place refl in
    let sum : running_of place fs + 1 ≡ running_of place es = ap (λ b. running_of place fs + cond b 1 0) (sym here) ∙ less place in
    omega (arith, same.counted place (id-lt x.request.ep), sum)

-- the order of the transfers doesn't matter
pub counted_reordered : (counts : List ℕ) (es fs : List (ℕ × InCallback)) → IsPermutation es fs → AreCounted counts es → AreCounted counts fs
counted_reordered counts es fs same_ones same =
    record { counted = λ id below. same.counted id below ∙ sym (sum_by_values_permutation (λ x. weight id x) es fs same_ones) }

-- a list of zeros reads as 0
pub zeros : (n id : ℕ) → slice_index_or (replicate {A = ℕ} n 0) id 0 ≡ 0
zeros zero id = refl
zeros (suc n) zero = refl
zeros (suc n) (suc id) = zeros n id

-- no transfer is counted where there is none
pub none_counted : (counts : List ℕ) (es : List (ℕ × InCallback)) → es ≡ [] → ((id : ℕ) → slice_index_or counts id 0 ≡ 0) → AreCounted counts es
none_counted counts es none all = record { counted = λ id below. all id ∙ ap (running_of id) (sym none) }

-- each transfer is counted as before, and the one that was put
pub put_more : {S E : Type 0} (m n : HashMap ℕ InCallback S) (k : ℕ) (x : InCallback) (r : Result (Option InCallback) E) → IsOk r → IfOk r (λ old. old ≡ lookup (nat_eq k) m.entries)
    → IfOk r (PutsEntry nat_eq m n k x) → lookup (nat_eq k) m.entries ≡ None → (id : ℕ) → running_of id n.entries ≡ running_of id m.entries + weight id x
put_more m n k x (Ok old) fits was puts none id =
    let gone : unwrap_or (option_map (weight id) old) 0 ≡ 0 = ap (λ o. unwrap_or (option_map (weight id) o) 0) (was ∙ none) in
    let sum : running_of id n.entries + unwrap_or (option_map (weight id) old) 0 ≡ running_of id m.entries + weight id x = sum_by_puts_entry (weight id) nat_eq m n k x old was puts in
    omega (arith, gone, sum)
put_more m n k x (Err e) fits was puts none id = absurd (false≢true fits)

-- each transfer is counted as before, but the one that was taken out
pub taken_less : (es fs : List (ℕ × InCallback)) (k : ℕ) (x : InCallback) → Some x ≡ lookup (nat_eq k) es → IsPermutation (remove_entry (nat_eq k) es) fs
    → (id : ℕ) → running_of id fs + weight id x ≡ running_of id es
taken_less es fs k x found left id =
    let rest : running_of id fs ≡ running_of id (remove_entry (nat_eq k) es) = sum_by_values_permutation (weight id) (remove_entry (nat_eq k) es) fs left in
    let sum : running_of id (remove_entry (nat_eq k) es) + unwrap_or (option_map (weight id) (lookup (nat_eq k) es)) 0 ≡ running_of id es = sum_by-remove_entry (weight id) (nat_eq k) es in
    let gone : unwrap_or (option_map (weight id) (lookup (nat_eq k) es)) 0 ≡ weight id x = ap (λ o. unwrap_or (option_map (weight id) o) 0) (sym found) in
    omega (arith, rest, sum, gone)
