-- Each transfer goes on standing at one place, as items come, end and leave.
use Rattle.std.proofs.Common.{◌≡◌, ℕ, zero, suc, ◌+◌, ◌<◌, ◌≤◌, ◌==◌, Bool, true, false, List, [], ◌∷◌, ◌++◌, length, drop, replicate, Option, Some, None, is_some, count_by, cond, slice_index_or, slice_set, refl, sym, ap, ◌∙◌, arith}
use Rattle.std.specs.Prelude.{if◌then◌else◌, slice_get}
use Rattle.std.proofs.lemmas.Bool.{eqb-true, eqb-false}
use Rattle.std.proofs.lemmas.List.{get_or-set_same, get_or-set_other}
use Rattle.std.proofs.lemmas.List.Sums.{sum_by-cons}
use Rattle.usb_tables.specs.Store.{Slots, count, transfer_at, Updates, with_transfer}
use Rattle.usb_tables.specs.declared.ending.Waiting.{Waiting}
use Rattle.usb_tables.specs.ByEndpoint.{lane_at}
use Rattle.usb_tables.specs.TransfersInFlight.{keys_at, with_keys}
use Rattle.usb_tables.specs.Places.{Stands, lines_weight, ended_weight, one_at, one_each, seen, seen_ended}
use Rattle.usb_tables.proofs.Kept.{one-same}
use Rattle.usb_tables.proofs.Seen.{ended-at}
use Rattle.usb_tables.proofs.Weights.{all-pushed, all-blanked, all-left, ended-counted, ended-push, ended-first, ended-length, item-within, lines-none}

-- what a key that is there counts is no more than one
present : {T : Type 0} (o : Option T) → (if is_some o then 1 else 0) ≤ 1
present None = omega arith
present (Some t) = omega arith

-- a key that counts has a transfer
some-there : {T : Type 0} (o : Option T) → 1 ≤ (if is_some o then 1 else 0) → o ≡ None → ⊥
some-there None p e = omega arith
some-there (Some t) p e = absurd cc

-- no transfer is at any place at first
pub none-stand : {T : Type 0} (s : Slots T) (lanes : List (List (Option ℕ))) (waits : List Waiting) → s ≡ record { slots = []; vacant_key = 0 } → lanes ≡ replicate 128 [] → waits ≡ []
    → Stands s lanes waits
unfolding ended_weight
none-stand s lanes waits p q r = rw (p, q, r) (record { once = λ key. omega (arith, lines-none (one_at key) 128); all = omega (arith, lines-none one_each 128) })

module _ {T : Type 0} (s : Slots T) (lanes : List (List (Option ℕ))) (waits : List Waiting) (stands : Stands s lanes waits) where
  -- as many ended as transfers of the store, at most
  pub ended-few : length waits ≤ count s
  ended-few = let a = ended-length waits in let b = stands.all in omega arith

  -- each that ended has a transfer
  pub ended-live : (i : ℕ) (w : Waiting) → slice_get waits i ≡ Some w → transfer_at s w.key ≡ None → ⊥
  ended-live i w at none =
      let a = ended-counted (one_at w.key) waits i w at in
      let b = one-same w.key in
      let c = stands.once w.key in
      some-there (transfer_at s w.key) (omega arith) none

  -- and is seen at its place
  pub ended-shown : (i : ℕ) (w : Waiting) (t : T) → slice_get waits i ≡ Some w → transfer_at s w.key ≡ Some t → slice_get (seen_ended s waits) i ≡ Some (record { transfer = t; ending = w.ending })
  ended-shown i w t at there = ended-at s waits i w t ended-live at there

  module _ (d e : ℕ) (within : lane_at d e < length lanes) where
    -- a key of a line has a transfer
    pub key-live : (i key : ℕ) → slice_index_or (keys_at lanes d e) i None ≡ Some key → transfer_at s key ≡ None → ⊥
    key-live i key at none =
        let a = all-blanked (one_at key) lanes (lane_at d e) within i key at in
        let b = one-same key in
        let c = stands.once key in
        some-there (transfer_at s key) (omega arith) none

    -- an item that is seen as a blank is one
    pub blank-there : (i : ℕ) → seen s (slice_index_or (keys_at lanes d e) i None) ≡ None → slice_index_or (keys_at lanes d e) i None ≡ None
    blank-there i none = by_item (slice_index_or (keys_at lanes d e) i None) refl none
      where
        by_item : (x : Option ℕ) → slice_index_or (keys_at lanes d e) i None ≡ x → seen s x ≡ None → x ≡ None
        by_item None at none = refl
        by_item (Some key) at none = absurd (key-live i key at none)

    -- where a line has a transfer, fewer ended than the store has
    pub ended-fewer : (i key : ℕ) → slice_index_or (keys_at lanes d e) i None ≡ Some key → length waits < count s
    ended-fewer i key at =
        let a = ended-length waits in
        let b = all-blanked one_each lanes (lane_at d e) within i key at in
        let c = stands.all in
        omega arith

    -- no place counts a key, once it is a blank's
    pub blank-none : (i key : ℕ) → slice_index_or (keys_at lanes d e) i None ≡ Some key
        → lines_weight (one_at key) (with_keys lanes d e (slice_set (keys_at lanes d e) i None)) + ended_weight (one_at key) waits ≡ 0
    blank-none i key at =
        let a = all-blanked (one_at key) lanes (lane_at d e) within i key at in
        let b = one-same key in
        let c = stands.once key in
        let d = present (transfer_at s key) in
        omega arith

    -- a transfer that ended stands among those
    pub end-stands : (i : ℕ) (w : Waiting) → slice_index_or (keys_at lanes d e) i None ≡ Some w.key
        → Stands s (with_keys lanes d e (slice_set (keys_at lanes d e) i None)) (waits ++ w ∷ [])
    end-stands i w at = record {
      once = λ key.
          let a = all-blanked (one_at key) lanes (lane_at d e) within i w.key at in
          let b = ended-push (one_at key) waits w in
          let same : lines_weight (one_at key) (with_keys lanes d e (slice_set (keys_at lanes d e) i None)) + ended_weight (one_at key) (waits ++ w ∷ [])
          ≡ lines_weight (one_at key) lanes + ended_weight (one_at key) waits = omega arith in
          same ∙ stands.once key;
      all =
          let a = all-blanked one_each lanes (lane_at d e) within i w.key at in
          let b = ended-push one_each waits w in
          let c = stands.all in
          omega arith;
    }

    -- blanks leave
    pub leave-stands : (n : ℕ) → ((i : ℕ) → i < n → slice_index_or (keys_at lanes d e) i None ≡ None)
        → Stands s (with_keys lanes d e (drop n (keys_at lanes d e))) waits
    leave-stands n none = record {
      once = λ key. let a = all-left (one_at key) lanes (lane_at d e) within n none in rw a (stands.once key);
      all = let a = all-left one_each lanes (lane_at d e) within n none in rw a stands.all;
    }

    -- a transfer joins a line under a key of its own
    pub push-stands : (r : Slots T) (key : ℕ) (t : T) → transfer_at s key ≡ None → Updates s r key (Some t) → count r ≡ count s + 1
        → Stands r (with_keys lanes d e (keys_at lanes d e ++ Some key ∷ [])) waits
    push-stands r key t vacant updates more = record {
      once = λ k. by_test k (all-pushed (one_at k) lanes (lane_at d e) within key) (key == k) refl;
      all =
          let a = all-pushed one_each lanes (lane_at d e) within key in
          let b = stands.all in
          omega arith;
    }
      where
        by_test : (k : ℕ) → lines_weight (one_at k) (with_keys lanes d e (keys_at lanes d e ++ Some key ∷ [])) ≡ lines_weight (one_at k) lanes + one_at k key
            → (b : Bool) → (key == k) ≡ b
            → lines_weight (one_at k) (with_keys lanes d e (keys_at lanes d e ++ Some key ∷ [])) + ended_weight (one_at k) waits ≡ (if is_some (transfer_at r k) then 1 else 0)
        by_test k a true test =
            let same : key ≡ k = eqb-true key k test in
            let here : transfer_at r k ≡ Some t = rw (← same) updates.changed in
            let before : transfer_at s k ≡ None = rw (← same) vacant in
            let one : one_at k key ≡ 1 = rw test refl in
            let old : lines_weight (one_at k) lanes + ended_weight (one_at k) waits ≡ 0 = stands.once k ∙ rw before refl in
            rw here (omega arith)
        by_test k a false test =
            let other : transfer_at r k ≡ transfer_at s k = updates.others k (λ x. eqb-false key k test (sym x)) in
            let none : one_at k key ≡ 0 = rw test refl in
            let old = stands.once k in
            rw other (omega arith)

-- a transfer that is taken leaves its place
pub take-stands : {T : Type 0} (s r : Slots T) (lanes : List (List (Option ℕ))) (waits : List Waiting) (w : Waiting) → Stands s lanes (w ∷ waits)
    → Updates s r w.key None → count r + 1 ≡ count s → Stands r lanes waits
take-stands s r lanes waits w stands updates fewer = record {
  once = λ k. by_test k (ended-first (one_at k) waits w) (w.key == k) refl;
  all =
      let a = ended-first one_each waits w in
      let b = stands.all in
      omega arith;
}
  where
    by_test : (k : ℕ) → ended_weight (one_at k) (w ∷ waits) ≡ one_at k w.key + ended_weight (one_at k) waits → (b : Bool) → (w.key == k) ≡ b
        → lines_weight (one_at k) lanes + ended_weight (one_at k) waits ≡ (if is_some (transfer_at r k) then 1 else 0)
    by_test k a true test =
        let same : w.key ≡ k = eqb-true w.key k test in
        let here : transfer_at r k ≡ None = rw (← same) updates.changed in
        let one : one_at k w.key ≡ 1 = rw test refl in
        let old = stands.once k in
        let most = present (transfer_at s k) in
        rw here (omega arith)
    by_test k a false test =
        let other : transfer_at r k ≡ transfer_at s k = updates.others k (λ x. eqb-false w.key k test (sym x)) in
        let none : one_at k w.key ≡ 0 = rw test refl in
        let old = stands.once k in
        rw other (omega arith)

-- no other place counts the key of the first that ended, which has a transfer
pub first-none : {T : Type 0} (s : Slots T) (lanes : List (List (Option ℕ))) (waits : List Waiting) (w : Waiting) → Stands s lanes (w ∷ waits)
    → lines_weight (one_at w.key) lanes + ended_weight (one_at w.key) waits ≡ 0
first-none s lanes waits w stands =
    let a = ended-first (one_at w.key) waits w in
    let b = one-same w.key in
    let c = stands.once w.key in
    let d = present (transfer_at s w.key) in
    omega arith

-- the first that ended has a transfer
pub first-live : {T : Type 0} (s : Slots T) (lanes : List (List (Option ℕ))) (waits : List Waiting) (w : Waiting) → Stands s lanes (w ∷ waits)
    → transfer_at s w.key ≡ None → ⊥
first-live s lanes waits w stands none =
    let a = ended-first (one_at w.key) waits w in
    let b = one-same w.key in
    let c = stands.once w.key in
    some-there (transfer_at s w.key) (omega arith) none

-- and so it is where the list is known by its first
pub first-gone : {T : Type 0} (s : Slots T) (lanes : List (List (Option ℕ))) (all waits : List Waiting) (w : Waiting)
    → all ≡ w ∷ waits → Stands s lanes all → None ≡ transfer_at s w.key → ⊥
first-gone s lanes all waits w split stands none =
    let there : Stands s lanes (w ∷ waits) = rw (← split) stands in
    first-live s lanes waits w there (sym none)

-- a write to a transfer moves none
there-too : {T : Type 0} (s : Slots T) (key : ℕ) (was now : T) → transfer_at s key ≡ Some was → (k : ℕ) → is_some (transfer_at (with_transfer s key now) k) ≡ is_some (transfer_at s k)
there-too s key was now live k = by_test (k == key) refl
  where
    by_test : (b : Bool) → (k == key) ≡ b → is_some (transfer_at (with_transfer s key now) k) ≡ is_some (transfer_at s k)
    by_test true test =
        let same : k ≡ key = eqb-true k key test in
        let here : transfer_at (with_transfer s key now) key ≡ Some now = get_or-set_same s.slots key (Some now) None (item-within s.slots key was live) in
        rw (same, here, live) refl
    by_test false test = ap is_some (get_or-set_other s.slots key k (Some now) None (eqb-false k key test))

-- nor is there one more or fewer
same-count : {T : Type 0} (xs : List (Option T)) (key : ℕ) (was now : T) → slice_index_or xs key None ≡ Some was → count_by is_some (slice_set xs key (Some now)) ≡ count_by is_some xs
same-count [] key was now live = absurd cc
same-count (x ∷ xs) zero was now live = rw live refl
same-count (x ∷ xs) (suc key) was now live =
    let a = sum_by-cons (λ o. cond (is_some o) 1 0) x xs in
    let b = sum_by-cons (λ o. cond (is_some o) 1 0) x (slice_set xs key (Some now)) in
    let c = same-count xs key was now live in
    omega arith

pub written-stands : {T : Type 0} (s : Slots T) (lanes : List (List (Option ℕ))) (waits : List Waiting) → Stands s lanes waits → (key : ℕ) (was now : T) → transfer_at s key ≡ Some was
    → Stands (with_transfer s key now) lanes waits × (count (with_transfer s key now) ≡ count s)
written-stands s lanes waits stands key was now live = (
  record {
    once = λ k. stands.once k ∙ ap (λ b. if b then 1 else 0) (sym (there-too s key was now live k));
    all = stands.all ∙ sym (same-count s.slots key was now live);
  },
  same-count s.slots key was now live,
)

-- no place counts a key that has no transfer
pub vacant-none : {T : Type 0} (s : Slots T) (lanes : List (List (Option ℕ))) (waits : List Waiting) → Stands s lanes waits → (key : ℕ) → transfer_at s key ≡ None
    → lines_weight (one_at key) lanes + ended_weight (one_at key) waits ≡ 0
vacant-none s lanes waits stands key vacant = stands.once key ∙ rw vacant refl
