-- What a caller sees of lines and of those that ended, as they change and the store stays.
use Rattle.std.proofs.Common.{◌≡◌, ◌≤◌, ℕ, zero, suc, List, [], ◌∷◌, ◌++◌, length, drop, replicate, Option, Some, None, slice_index_or, slice_set, refl, ap, arith}
use Rattle.std.specs.Prelude.{slice_get}
use Rattle.usb_tables.specs.Store.{Slots, transfer_at}
use Rattle.usb_tables.specs.declared.ending.Waiting.{Waiting}
use Rattle.usb_tables.specs.Places.{seen, seen_line, seen_lines, joins, seen_ended}

module _ {T : Type 0} (s : Slots T) where
  -- a line is as long as it is seen
  pub line-length : (xs : List (Option ℕ)) → length (seen_line s xs) ≡ length xs
  unfolding seen_line
  line-length [] = refl
  line-length (x ∷ xs) = ap suc (line-length xs)

  -- an item is seen at its place
  pub line-at : (xs : List (Option ℕ)) (i : ℕ) → slice_index_or (seen_line s xs) i None ≡ seen s (slice_index_or xs i None)
  unfolding seen_line
  line-at [] i = refl
  line-at (x ∷ xs) zero = refl
  line-at (x ∷ xs) (suc i) = line-at xs i

  -- items behind others are seen behind them
  pub line-append : (xs ys : List (Option ℕ)) → seen_line s (xs ++ ys) ≡ seen_line s xs ++ seen_line s ys
  unfolding seen_line
  line-append [] ys = refl
  line-append (x ∷ xs) ys = ap (λ l. seen s x ∷ l) (line-append xs ys)

  -- an item that is put is seen at its place
  pub line-put : (xs : List (Option ℕ)) (i : ℕ) (x : Option ℕ) → seen_line s (slice_set xs i x) ≡ slice_set (seen_line s xs) i (seen s x)
  unfolding seen_line
  line-put [] i x = refl
  line-put (y ∷ ys) zero x = refl
  line-put (y ∷ ys) (suc i) x = ap (λ l. seen s y ∷ l) (line-put ys i x)

  -- a line without its first items
  pub line-rest : (xs : List (Option ℕ)) (n : ℕ) → seen_line s (drop n xs) ≡ drop n (seen_line s xs)
  unfolding seen_line
  line-rest xs zero = refl
  line-rest [] (suc n) = refl
  line-rest (x ∷ xs) (suc n) = line-rest xs n

  -- a line is seen at its lane
  pub lines-at : (ls : List (List (Option ℕ))) (d : ℕ) → slice_index_or (seen_lines s ls) d [] ≡ seen_line s (slice_index_or ls d [])
  unfolding seen_line seen_lines
  lines-at [] d = refl
  lines-at (l ∷ ls) zero = refl
  lines-at (l ∷ ls) (suc d) = lines-at ls d

  -- a line that is put is seen at its lane
  pub lines-put : (ls : List (List (Option ℕ))) (d : ℕ) (l : List (Option ℕ)) → seen_lines s (slice_set ls d l) ≡ slice_set (seen_lines s ls) d (seen_line s l)
  unfolding seen_lines
  lines-put [] d l = refl
  lines-put (y ∷ ys) zero l = refl
  lines-put (y ∷ ys) (suc d) l = ap (λ r. seen_line s y ∷ r) (lines-put ys d l)

  -- empty lines are seen empty
  pub lines-empty : (n : ℕ) → seen_lines s (replicate n []) ≡ replicate n []
  unfolding seen_line seen_lines
  lines-empty zero = refl
  lines-empty (suc n) = ap (λ r. [] ∷ r) (lines-empty n)

  -- one more that ended is seen behind the others
  pub ended-append : (ws : List Waiting) (w : Waiting) (t : T) → transfer_at s w.key ≡ Some t
      → seen_ended s (ws ++ w ∷ []) ≡ seen_ended s ws ++ record { transfer = t; ending = w.ending } ∷ []
  unfolding seen_ended
  ended-append [] w t e = rw e refl
  ended-append (x ∷ ws) w t e = by_case (transfer_at s x.key) (ended-append ws w t e)
    where
      by_case : (o : Option T) → seen_ended s (ws ++ w ∷ []) ≡ seen_ended s ws ++ record { transfer = t; ending = w.ending } ∷ []
          → joins o x (seen_ended s (ws ++ w ∷ [])) ≡ joins o x (seen_ended s ws) ++ record { transfer = t; ending = w.ending } ∷ []
      by_case None e = e
      by_case (Some u) e = ap (λ r. record { transfer = u; ending = x.ending } ∷ r) e

  -- the first that ended is seen first
  pub ended-head : (ws : List Waiting) (w : Waiting) (t : T) → transfer_at s w.key ≡ Some t
      → seen_ended s (w ∷ ws) ≡ record { transfer = t; ending = w.ending } ∷ seen_ended s ws
  unfolding seen_ended
  ended-head ws w t e = rw e refl

  -- each that ended is seen at its place, where each has a transfer
  pub ended-at : (ws : List Waiting) (i : ℕ) (w : Waiting) (t : T) → ((k : ℕ) (v : Waiting) → slice_get ws k ≡ Some v → transfer_at s v.key ≡ None → ⊥) → slice_get ws i ≡ Some w → transfer_at s w.key ≡ Some t
      → slice_get (seen_ended s ws) i ≡ Some (record { transfer = t; ending = w.ending })
  unfolding seen_ended
  ended-at [] i w t live at there = absurd cc
  ended-at (x ∷ ws) zero w t live at there =
      let here : transfer_at s x.key ≡ Some t = cc in
      rw here cc
  ended-at (x ∷ ws) (suc i) w t live at there = by_case (transfer_at s x.key) refl (ended-at ws i w t (λ k v e none. live (suc k) v e none) at there)
    where
      by_case : (o : Option T) → transfer_at s x.key ≡ o → slice_get (seen_ended s ws) i ≡ Some (record { transfer = t; ending = w.ending })
          → slice_get (joins o x (seen_ended s ws)) (suc i) ≡ Some (record { transfer = t; ending = w.ending })
      by_case None gone rest = absurd (live 0 x refl gone)
      by_case (Some u) is rest = rest

  -- no more are seen than ended
  pub ended-most : (ws : List Waiting) → length (seen_ended s ws) ≤ length ws
  unfolding seen_ended
  ended-most [] = omega arith
  ended-most (x ∷ ws) = by_case (transfer_at s x.key) (ended-most ws)
    where
      by_case : (o : Option T) → length (seen_ended s ws) ≤ length ws → length (joins o x (seen_ended s ws)) ≤ suc (length ws)
      by_case None few = omega arith
      by_case (Some u) few = omega arith

  -- nothing is seen where nothing ended
  pub ended-none : seen_ended s [] ≡ []
  unfolding seen_ended
  ended-none = refl

-- where there is no key no transfer is seen
pub none-seen : {T : Type 0} (s : Slots T) (x : Option ℕ) (t : T) → ((key : ℕ) → x ≡ Some key → ⊥) → seen s x ≡ Some t → ⊥
none-seen s None t no_key e = absurd cc
none-seen s (Some key) t no_key e = no_key key refl
