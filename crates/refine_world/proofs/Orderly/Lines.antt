-- What more holds of a line stays: what is new, open and uncut, after blanks left, transfers were withdrawn, answered or joined.
use Rattle.std.proofs.Common.{Bool, List, Some, [], false, map, refl, subst, sym, true, ℕ, ◌++◌, ◌∷◌, ◌≡◌}
use Rattle.std.specs.Prelude.{if◌then◌else◌, is_some, ◌&&◌}
use Rattle.usb_model.specs.declared.endpoint.Endpoint.{Endpoint}
use Rattle.usb_model.specs.declared.item.Item.{Item}
use Rattle.usb_model.specs.declared.item.ItemState.TheVariants.{Blank, Served, Waiting}
use Rattle.usb_model.specs.declared.item.ItemState.{ItemState}
use Rattle.usb_model.specs.Endpoint.Deliver.{blanked, is_withdrawn, leads_blank}
use Rattle.usb_model.specs.Endpoint.{first_waiting, is_blank, is_blank_state, is_transfer, is_waiting, is_waiting_state, past_blanks, past_number, with_first}
use Rattle.usb_model.specs.Endpoint.Packets.{IsOpenAt, outcome}
use Rattle.std.specs.List.{AllByRecursion}
use Rattle.refine_world.specs.ShownEndpoint.{AllNew, AllOpen, AllUncut, IsOrderly, NewBehind, known_by, new_by, uncut_by}

-- transfers that are new are so behind the first
pub behind_new : (xs : List Item) → AllNew xs → NewBehind xs
behind_new [] n = tt
behind_new (x ∷ xs) n = by_state x.state n (behind_new xs)
  where
    by_state : (s : ItemState) → new_by s x (AllNew xs) → (AllNew xs → NewBehind xs) → known_by s (AllNew xs) (NewBehind xs)
    by_state Waiting n rest = n.1
    by_state (Served c) n rest = rest n
    by_state Blank n rest = rest n

-- what leaves: blanks in front, and all up to a transfer
pub new_blanks : (xs : List Item) → AllNew xs → AllNew (past_blanks xs)
unfolding past_blanks
new_blanks [] n = tt
new_blanks (x ∷ xs) n = by_state x.state refl n (new_blanks xs)
  where
    by_state : (s : ItemState) → x.state ≡ s → new_by s x (AllNew xs) → (AllNew xs → AllNew (past_blanks xs)) → AllNew (if is_blank_state s then past_blanks xs else x ∷ xs)
    by_state Waiting st n rest = subst (λ s. new_by s x (AllNew xs)) (sym st) n
    by_state (Served c) st n rest = subst (λ s. new_by s x (AllNew xs)) (sym st) n
    by_state Blank st n rest = rest n

pub new_number : (k : ℕ) (xs : List Item) → AllNew xs → AllNew (past_number k xs)
unfolding past_number
new_number k [] n = tt
new_number k (x ∷ xs) n = by_test (is_transfer k x) (by_state x.state n) (new_number k xs)
  where
    by_state : (s : ItemState) → new_by s x (AllNew xs) → AllNew xs
    by_state Waiting n = n.1
    by_state (Served c) n = n
    by_state Blank n = n

    by_test : (t : Bool) → AllNew xs → (AllNew xs → AllNew (past_number k xs)) → AllNew (if t then xs else past_number k xs)
    by_test true n rest = n
    by_test false n rest = rest n

pub behind_number : (k : ℕ) (xs : List Item) → NewBehind xs → NewBehind (past_number k xs)
unfolding past_number
behind_number k [] n = tt
behind_number k (x ∷ xs) n = by_test (is_transfer k x) (by_state x.state n) (behind_number k xs)
  where
    by_state : (s : ItemState) → known_by s (AllNew xs) (NewBehind xs) → NewBehind xs
    by_state Waiting n = behind_new xs n
    by_state (Served c) n = n
    by_state Blank n = n

    by_test : (t : Bool) → NewBehind xs → (NewBehind xs → NewBehind (past_number k xs)) → NewBehind (if t then xs else past_number k xs)
    by_test true n rest = n
    by_test false n rest = rest n

-- withdrawn transfers become blanks
pub new_blanked : (xs : List Item) → AllNew xs → AllNew (map blanked xs)
new_blanked [] n = tt
new_blanked (x ∷ xs) n = by_state x.state refl (is_some x.ask) n (new_blanked xs)
  where
    by_state : (s : ItemState) → x.state ≡ s → (a : Bool) → new_by s x (AllNew xs) → (AllNew xs → AllNew (map blanked xs)) → AllNew ((if is_waiting_state s && a then record x { state = Blank } else x) ∷ map blanked xs)
    by_state Waiting st true n rest = rest n.1
    by_state Waiting st false n rest = subst (λ s. new_by s x (AllNew (map blanked xs))) (sym st) (n.0, rest n.1)
    by_state (Served c) st a n rest = subst (λ s. new_by s x (AllNew (map blanked xs))) (sym st) (rest n)
    by_state Blank st a n rest = subst (λ s. new_by s x (AllNew (map blanked xs))) (sym st) (rest n)

pub behind_blanked : (xs : List Item) → NewBehind xs → NewBehind (map blanked xs)
behind_blanked [] n = tt
behind_blanked (x ∷ xs) n = by_state x.state refl (is_some x.ask) n (behind_blanked xs)
  where
    by_state : (s : ItemState) → x.state ≡ s → (a : Bool) → known_by s (AllNew xs) (NewBehind xs) → (NewBehind xs → NewBehind (map blanked xs)) → NewBehind ((if is_waiting_state s && a then record x { state = Blank } else x) ∷ map blanked xs)
    by_state Waiting st true n rest = rest (behind_new xs n)
    by_state Waiting st false n rest = subst (λ s. known_by s (AllNew (map blanked xs)) (NewBehind (map blanked xs))) (sym st) (new_blanked xs n)
    by_state (Served c) st a n rest = subst (λ s. known_by s (AllNew (map blanked xs)) (NewBehind (map blanked xs))) (sym st) (rest n)
    by_state Blank st a n rest = subst (λ s. known_by s (AllNew (map blanked xs)) (NewBehind (map blanked xs))) (sym st) (rest n)

-- where a blank leads once the asked are withdrawn, and none led before, the first that waited was withdrawn: those behind it are new
pub led_by_withdrawn : (xs : List Item) → NewBehind xs → leads_blank xs ≡ false → leads_blank (map blanked xs) ≡ true → AllNew (map blanked xs)
led_by_withdrawn [] n before after = tt
led_by_withdrawn (x ∷ xs) n before after = by_state x.state refl (is_some x.ask) n before after
  where
    by_state : (s : ItemState) → x.state ≡ s → (a : Bool) → known_by s (AllNew xs) (NewBehind xs) → is_blank_state s ≡ false → is_blank (if is_waiting_state s && a then record x { state = Blank } else x) ≡ true
        → AllNew ((if is_waiting_state s && a then record x { state = Blank } else x) ∷ map blanked xs)
    by_state Waiting st true n before after = new_blanked xs n
    by_state Waiting st false n before after = absurd (cc (st, after))
    by_state (Served c) st a n before after = absurd (cc (st, after))
    by_state Blank st a n before after = absurd cc

-- one more that took nothing
pub new_push : (xs : List Item) (y : Item) → y.state ≡ Waiting → y.share ≡ [] → AllNew xs → AllNew (xs ++ y ∷ [])
new_push [] y st none n = subst (λ s. new_by s y (Unit {0})) (sym st) (none, tt)
new_push (x ∷ xs) y st none n = by_state x.state n (new_push xs y st none)
  where
    by_state : (s : ItemState) → new_by s x (AllNew xs) → (AllNew xs → AllNew (xs ++ y ∷ [])) → new_by s x (AllNew (xs ++ y ∷ []))
    by_state Waiting n rest = (n.0, rest n.1)
    by_state (Served c) n rest = rest n
    by_state Blank n rest = rest n

pub behind_push : (xs : List Item) (y : Item) → y.state ≡ Waiting → y.share ≡ [] → NewBehind xs → NewBehind (xs ++ y ∷ [])
behind_push [] y st none n = subst (λ s. known_by s (Unit {0}) (Unit {0})) (sym st) tt
behind_push (x ∷ xs) y st none n = by_state x.state n (behind_push xs y st none)
  where
    by_state : (s : ItemState) → known_by s (AllNew xs) (NewBehind xs) → (NewBehind xs → NewBehind (xs ++ y ∷ [])) → known_by s (AllNew (xs ++ y ∷ [])) (NewBehind (xs ++ y ∷ []))
    by_state Waiting n rest = new_push xs y st none n
    by_state (Served c) n rest = rest n
    by_state Blank n rest = rest n

-- the first that waits is replaced: by one that waits, or by one that ended
pub new_served : (xs : List Item) (x y : Item) → first_waiting xs ≡ Some x → is_waiting y ≡ false → NewBehind xs → AllNew (with_first y xs)
unfolding first_waiting with_first
new_served [] x y f over n = tt
new_served (z ∷ xs) x y f over n = by_state z.state refl f n (new_served xs x y)
  where
    done : (s : ItemState) → y.state ≡ s → is_waiting_state s ≡ false → AllNew xs → new_by s y (AllNew xs)
    done Waiting st e n = absurd cc
    done (Served c) st e n = n
    done Blank st e n = n

    by_state : (s : ItemState) → z.state ≡ s → (if is_waiting_state s then Some z else first_waiting xs) ≡ Some x → known_by s (AllNew xs) (NewBehind xs) → (first_waiting xs ≡ Some x → is_waiting y ≡ false → NewBehind xs → AllNew (with_first y xs))
        → AllNew (if is_waiting_state s then y ∷ xs else z ∷ with_first y xs)
    by_state Waiting st f n rest = done y.state refl over n
    by_state (Served c) st f n rest = subst (λ s. new_by s z (AllNew (with_first y xs))) (sym st) (rest f over n)
    by_state Blank st f n rest = subst (λ s. new_by s z (AllNew (with_first y xs))) (sym st) (rest f over n)

pub behind_answered : (xs : List Item) (x y : Item) → first_waiting xs ≡ Some x → y.state ≡ Waiting → NewBehind xs → NewBehind (with_first y xs)
unfolding first_waiting with_first
behind_answered [] x y f waits n = tt
behind_answered (z ∷ xs) x y f waits n = by_state z.state refl f n (behind_answered xs x y)
  where
    by_state : (s : ItemState) → z.state ≡ s → (if is_waiting_state s then Some z else first_waiting xs) ≡ Some x → known_by s (AllNew xs) (NewBehind xs) → (first_waiting xs ≡ Some x → y.state ≡ Waiting → NewBehind xs → NewBehind (with_first y xs))
        → NewBehind (if is_waiting_state s then y ∷ xs else z ∷ with_first y xs)
    by_state Waiting st f n rest = subst (λ s. known_by s (AllNew xs) (NewBehind xs)) (sym waits) n
    by_state (Served c) st f n rest = subst (λ s. known_by s (AllNew (with_first y xs)) (NewBehind (with_first y xs))) (sym st) (rest f waits n)
    by_state Blank st f n rest = subst (λ s. known_by s (AllNew (with_first y xs)) (NewBehind (with_first y xs))) (sym st) (rest f waits n)

pub each_blanks : (P : Item → Type 0) (xs : List Item) → AllByRecursion P xs → AllByRecursion P (past_blanks xs)
unfolding past_blanks
each_blanks P [] e = tt
each_blanks P (x ∷ xs) e = by_test (is_blank x) (each_blanks P xs e.1)
  where
    by_test : (t : Bool) → AllByRecursion P (past_blanks xs) → AllByRecursion P (if t then past_blanks xs else x ∷ xs)
    by_test true rest = rest
    by_test false rest = e

pub each_number : (P : Item → Type 0) (k : ℕ) (xs : List Item) → AllByRecursion P xs → AllByRecursion P (past_number k xs)
unfolding past_number
each_number P k [] e = tt
each_number P k (x ∷ xs) e = by_test (is_transfer k x) (each_number P k xs e.1)
  where
    by_test : (t : Bool) → AllByRecursion P (past_number k xs) → AllByRecursion P (if t then xs else past_number k xs)
    by_test true rest = e.1
    by_test false rest = rest

pub each_map : (P : Item → Type 0) (f : Item → Item) → ((x : Item) → P x → P (f x)) → (xs : List Item) → AllByRecursion P xs → AllByRecursion P (map f xs)
each_map P f keeps [] e = tt
each_map P f keeps (x ∷ xs) e = (keeps x e.0, each_map P f keeps xs e.1)

pub each_push : (P : Item → Type 0) (xs : List Item) (y : Item) → P y → AllByRecursion P xs → AllByRecursion P (xs ++ y ∷ [])
each_push P [] y p e = (p, tt)
each_push P (x ∷ xs) y p e = (e.0, each_push P xs y p e.1)

pub each_first : (P : Item → Type 0) (xs : List Item) (y : Item) → P y → AllByRecursion P xs → AllByRecursion P (with_first y xs)
unfolding with_first
each_first P [] y p e = tt
each_first P (x ∷ xs) y p e = by_test (is_waiting x) (each_first P xs y p e.1)
  where
    by_test : (t : Bool) → AllByRecursion P (with_first y xs) → AllByRecursion P (if t then y ∷ xs else x ∷ with_first y xs)
    by_test true rest = (p, e.1)
    by_test false rest = (e.0, rest)

abbrev pub OpenItem : ℕ → Item → Type 0
OpenItem size x = known_by x.state (IsOpenAt (outcome x.request size x.share false)) (Unit {0})

abbrev pub UncutItem : Item → Type 0
UncutItem x = uncut_by x.state

opens_to : (size : ℕ) (xs : List Item) → AllOpen size xs → AllByRecursion (OpenItem size) xs
opens_to size [] o = tt
opens_to size (x ∷ xs) o = (o.0, opens_to size xs o.1)

pub opens_from : (size : ℕ) (xs : List Item) → AllByRecursion (OpenItem size) xs → AllOpen size xs
opens_from size [] o = tt
opens_from size (x ∷ xs) o = (o.0, opens_from size xs o.1)

uncut_to : (xs : List Item) → AllUncut xs → AllByRecursion UncutItem xs
uncut_to [] o = tt
uncut_to (x ∷ xs) o = (o.0, uncut_to xs o.1)

pub uncut_from : (xs : List Item) → AllByRecursion UncutItem xs → AllUncut xs
uncut_from [] o = tt
uncut_from (x ∷ xs) o = (o.0, uncut_from xs o.1)

-- both, of a line made from another
pub record Fine (size : ℕ) (xs : List Item) : Type 0 where
  pub opens : AllByRecursion (OpenItem size) xs
  pub uncut : AllByRecursion UncutItem xs

pub fine_of : (size : ℕ) (e : Endpoint) → IsOrderly size e → Fine size e.line
fine_of size e w = record { opens = opens_to size e.line w.opens; uncut = uncut_to e.line w.uncut }

pub fine_blanked : (size : ℕ) (xs : List Item) → Fine size xs → Fine size (map blanked xs)
fine_blanked size xs f = record { opens = each_map (OpenItem size) blanked open_blanked xs f.opens; uncut = each_map UncutItem blanked uncut_blanked xs f.uncut }
  where
    open_blanked : (x : Item) → OpenItem size x → OpenItem size (blanked x)
    open_blanked x o = by_test (is_withdrawn x)
      where
        by_test : (t : Bool) → OpenItem size (if t then record x { state = Blank } else x)
        by_test true = tt
        by_test false = o

    uncut_blanked : (x : Item) → UncutItem x → UncutItem (blanked x)
    uncut_blanked x o = by_test (is_withdrawn x)
      where
        by_test : (t : Bool) → UncutItem (if t then record x { state = Blank } else x)
        by_test true = tt
        by_test false = o

pub fine_blanks : (size : ℕ) (xs : List Item) → Fine size xs → Fine size (past_blanks xs)
fine_blanks size xs f = record { opens = each_blanks (OpenItem size) xs f.opens; uncut = each_blanks UncutItem xs f.uncut }

pub fine_number : (size k : ℕ) (xs : List Item) → Fine size xs → Fine size (past_number k xs)
fine_number size k xs f = record { opens = each_number (OpenItem size) k xs f.opens; uncut = each_number UncutItem k xs f.uncut }

-- no blank leads a line behind its blanks
pub led_by_none : (xs : List Item) → leads_blank (past_blanks xs) ≡ false
unfolding past_blanks
led_by_none [] = refl
led_by_none (x ∷ xs) = by_test (is_blank x) refl (led_by_none xs)
  where
    by_test : (t : Bool) → is_blank x ≡ t → leads_blank (past_blanks xs) ≡ false → leads_blank (if t then past_blanks xs else x ∷ xs) ≡ false
    by_test true b rest = rest
    by_test false b rest = b
