-- What lines and those that ended count, as items change.
use Rattle.std.proofs.Common.{◌≡◌, ℕ, zero, suc, ◌+◌, ◌<◌, ◌≤◌, List, [], ◌∷◌, ◌++◌, length, drop, replicate, Option, Some, None, slice_index_or, slice_set, refl, ap, arith}
use Rattle.std.specs.Prelude.{slice_get}
use Rattle.usb_tables.specs.declared.ending.Waiting.{Waiting}
use Rattle.usb_tables.specs.Places.{weight, line_weight, lines_weight, ended_weight, one_each}

-- an item that is there is within the line
pub item-within : {T : Type 0} (xs : List (Option T)) (i : ℕ) (t : T) → slice_index_or xs i None ≡ Some t → i < length xs
item-within [] i t e = absurd cc
item-within (x ∷ xs) zero t e = omega arith
item-within (x ∷ xs) (suc i) t e = omega (arith, item-within xs i t e)

-- a key behind a line counts beside it
pub line-push : (f : ℕ → ℕ) (xs : List (Option ℕ)) (key : ℕ) → line_weight f (xs ++ Some key ∷ []) ≡ line_weight f xs + f key
unfolding line_weight
line-push f [] key = omega arith
line-push f (x ∷ xs) key = omega (arith, line-push f xs key)

-- another item counts in place of what it counted
pub line-set : (f : ℕ → ℕ) (xs : List (Option ℕ)) (i : ℕ) (x : Option ℕ) → i < length xs
    → line_weight f (slice_set xs i x) + weight f (slice_index_or xs i None) ≡ line_weight f xs + weight f x
unfolding line_weight
line-set f [] i x p = absurd (omega arith)
line-set f (y ∷ ys) zero x p = omega arith
line-set f (y ∷ ys) (suc i) x p = omega (arith, line-set f ys i x (omega arith))

-- blanks at the front count nothing
pub line-drop : (f : ℕ → ℕ) (xs : List (Option ℕ)) (n : ℕ) → ((i : ℕ) → i < n → slice_index_or xs i None ≡ None) → line_weight f (drop n xs) ≡ line_weight f xs
unfolding line_weight
line-drop f xs zero none = refl
line-drop f [] (suc n) none = refl
line-drop f (x ∷ xs) (suc n) none =
    let first : x ≡ None = none 0 (omega arith) in
    let rest = line-drop f xs n (λ i lt. none (suc i) (omega arith)) in
    rw first (omega arith)

-- another line counts in place of what it counted
pub lines-set : (f : ℕ → ℕ) (ls : List (List (Option ℕ))) (d : ℕ) (l : List (Option ℕ)) → d < length ls
    → lines_weight f (slice_set ls d l) + line_weight f (slice_index_or ls d []) ≡ lines_weight f ls + line_weight f l
unfolding lines_weight
lines-set f [] d l p = absurd (omega arith)
lines-set f (y ∷ ys) zero l p = omega arith
lines-set f (y ∷ ys) (suc d) l p = omega (arith, lines-set f ys d l (omega arith))

-- empty lines count nothing
pub lines-none : (f : ℕ → ℕ) (n : ℕ) → lines_weight f (replicate n []) ≡ 0
unfolding lines_weight line_weight
lines-none f zero = refl
lines-none f (suc n) = omega (arith, lines-none f n)

-- one more that ended counts beside the others
pub ended-push : (f : ℕ → ℕ) (ws : List Waiting) (w : Waiting) → ended_weight f (ws ++ w ∷ []) ≡ ended_weight f ws + f w.key
unfolding ended_weight
ended-push f [] w = omega arith
ended-push f (x ∷ ws) w = omega (arith, ended-push f ws w)

-- the first counts beside the others
pub ended-first : (f : ℕ → ℕ) (ws : List Waiting) (w : Waiting) → ended_weight f (w ∷ ws) ≡ f w.key + ended_weight f ws
unfolding ended_weight
ended-first f ws w = refl

-- one that ended is counted
pub ended-counted : (f : ℕ → ℕ) (ws : List Waiting) (i : ℕ) (w : Waiting) → slice_get ws i ≡ Some w → f w.key ≤ ended_weight f ws
unfolding ended_weight
ended-counted f [] i w at = absurd cc
ended-counted f (x ∷ ws) zero w at =
    let same : f x.key ≡ f w.key = cc in
    omega arith
ended-counted f (x ∷ ws) (suc i) w at = omega (arith, ended-counted f ws i w at)

-- as many as ended
pub ended-length : (ws : List Waiting) → ended_weight one_each ws ≡ length ws
unfolding ended_weight
ended-length [] = refl
ended-length (w ∷ ws) = omega (arith, ended-length ws)

module _ (f : ℕ → ℕ) (ls : List (List (Option ℕ))) (d : ℕ) (within : d < length ls) where
  -- all lines, with a key behind one
  pub all-pushed : (key : ℕ) → lines_weight f (slice_set ls d (slice_index_or ls d [] ++ Some key ∷ [])) ≡ lines_weight f ls + f key
  all-pushed key =
      let a = lines-set f ls d (slice_index_or ls d [] ++ Some key ∷ []) within in
      let b = line-push f (slice_index_or ls d []) key in
      omega arith

  -- all lines, with a blank in place of a key
  pub all-blanked : (i key : ℕ) → slice_index_or (slice_index_or ls d []) i None ≡ Some key
      → lines_weight f (slice_set ls d (slice_set (slice_index_or ls d []) i None)) + f key ≡ lines_weight f ls
  all-blanked i key e =
      let a = lines-set f ls d (slice_set (slice_index_or ls d []) i None) within in
      let b = line-set f (slice_index_or ls d []) i None (item-within (slice_index_or ls d []) i key e) in
      let c : weight f (slice_index_or (slice_index_or ls d []) i None) ≡ f key = ap (weight f) e in
      omega arith

  -- all lines, one without the blanks at its front
  pub all-left : (n : ℕ) → ((i : ℕ) → i < n → slice_index_or (slice_index_or ls d []) i None ≡ None)
      → lines_weight f (slice_set ls d (drop n (slice_index_or ls d []))) ≡ lines_weight f ls
  all-left n none =
      let a = lines-set f ls d (drop n (slice_index_or ls d [])) within in
      let b = line-drop f (slice_index_or ls d []) n none in
      omega arith
