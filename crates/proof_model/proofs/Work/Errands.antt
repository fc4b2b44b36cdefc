-- The errands of an endpoint: what waits for it in the two lists, by its phase.
use Rattle.std.proofs.Common.{Bool, List, Some, [], ap, false, map, not, refl, subst, sym, true, ℕ, ◌&&◌, ◌++◌, ◌==◌, ◌∙◌, ◌∷◌, ◌≡◌}
use Rattle.std.specs.Prelude.{if◌then◌else◌, is_some}
use Rattle.std.proofs.lemmas.Bool.{or_parts}
use Rattle.usb_model.specs.declared.item.Ask.{Ask}
use Rattle.usb_model.specs.declared.item.Item.{Item}
use Rattle.usb_model.specs.declared.item.ItemState.TheVariants.{Blank, Served, Waiting}
use Rattle.usb_model.specs.declared.item.ItemState.{ItemState}
use Rattle.usb_model.specs.declared.news.Event.TheVariants.{Finished}
use Rattle.usb_model.specs.declared.news.Event.{Event}
use Rattle.usb_model.specs.Machine.Calls.{with_ask}
use Rattle.usb_model.specs.Endpoint.Deliver.{blanked, is_withdrawn}
use Rattle.usb_model.specs.Endpoint.{first_waiting, is_blank, is_blank_state, is_waiting, is_waiting_state, past_blanks, past_number, with_first}
use Rattle.proof_model.proofs.Lists.Pieces.{same_name}
use Rattle.usb_model.specs.Coherence.{event_by, served_events, first_by, ServedFirst, has_asked}

-- lines, item by item
events_same : (x y : Item) (xs ys : List Item) → x.n ≡ y.n → x.state ≡ y.state → served_events xs ≡ served_events ys → served_events (x ∷ xs) ≡ served_events (y ∷ ys)
unfolding served_events
events_same x y xs ys n s e = rw (n, s, e)

-- a head before another line with the same results
first_same : (s : ItemState) (xs ys : List Item) (P Q : Type 0) → served_events ys ≡ served_events xs → (P → Q) → first_by s xs P → first_by s ys Q
first_same Waiting xs ys P Q e f p = e ∙ p
first_same (Served code) xs ys P Q e f p = f p
first_same Blank xs ys P Q e f p = f p

-- what stands behind a head, by an equal state
first_at : (s t : ItemState) (xs : List Item) (P : Type 0) → s ≡ t → first_by s xs P → first_by t xs P
first_at s t xs P e p = subst (λ k. first_by k xs P) e p

-- a map that keeps numbers, and states but for waiting items that may become blanks
asked_kept : (n : ℕ) (ask : Ask) (x : Item) → ((with_ask n ask x).n ≡ x.n) × ((with_ask n ask x).state ≡ x.state)
asked_kept n ask x = by_test (x.n == n)
  where
    by_test : (b : Bool) → ((if b then record x { ask = Some ask } else x).n ≡ x.n) × ((if b then record x { ask = Some ask } else x).state ≡ x.state)
    by_test true = (refl, refl)
    by_test false = (refl, refl)

-- an ask leaves the results served
pub events-with_ask : (n : ℕ) (ask : Ask) (line : List Item) → served_events (map (with_ask n ask) line) ≡ served_events line
events-with_ask n ask [] = refl
events-with_ask n ask (x ∷ xs) = events_same (with_ask n ask x) x (map (with_ask n ask) xs) xs (asked_kept n ask x).0 (asked_kept n ask x).1 (events-with_ask n ask xs)

-- an ask leaves the served first
pub first-with_ask : (n : ℕ) (ask : Ask) (line : List Item) → ServedFirst line → ServedFirst (map (with_ask n ask) line)
first-with_ask n ask [] f = tt
first-with_ask n ask (x ∷ xs) f =
    first_at x.state (with_ask n ask x).state (map (with_ask n ask) xs) (ServedFirst (map (with_ask n ask) xs)) (sym (asked_kept n ask x).1)
    (first_same x.state xs (map (with_ask n ask) xs) (ServedFirst xs) (ServedFirst (map (with_ask n ask) xs)) (events-with_ask n ask xs) (first-with_ask n ask xs) f)

-- a withdrawal
events_blanked : (x : Item) (es : List Event) → event_by (blanked x).n (blanked x).state es ≡ event_by x.n x.state es
events_blanked x es = by_state x.state (is_some x.ask)
  where
    by_state : (s : ItemState) (b : Bool) → event_by (if is_waiting_state s && b then record x { state = Blank } else record x { state = s }).n (if is_waiting_state s && b then record x { state = Blank } else record x { state = s }).state es ≡ event_by x.n s es
    by_state Waiting true = refl
    by_state Waiting false = refl
    by_state (Served code) b = refl
    by_state Blank b = refl

-- the withdrawn become blanks: the results served stay
pub events-blanked : (line : List Item) → served_events (map blanked line) ≡ served_events line
unfolding served_events
events-blanked [] = refl
events-blanked (x ∷ xs) = events_blanked x (served_events (map blanked xs)) ∙ ap (event_by x.n x.state) (events-blanked xs)

-- where nothing was served the served are first
pub no_events_first : (line : List Item) → served_events line ≡ [] → ServedFirst line
unfolding served_events
no_events_first [] e = tt
no_events_first (x ∷ xs) e = by_state x.state e (no_events_first xs)
  where
    by_state : (s : ItemState) → event_by x.n s (served_events xs) ≡ [] → (served_events xs ≡ [] → ServedFirst xs) → first_by s xs (ServedFirst xs)
    by_state Waiting e rest = e
    by_state (Served code) e rest = absurd cc
    by_state Blank e rest = rest e

-- a head that becomes a blank, or stays
first_blanked : (x : Item) (xs ys : List Item) (P Q : Type 0) → served_events ys ≡ served_events xs → (served_events ys ≡ [] → Q) → (P → Q) → first_by x.state xs P → first_by (blanked x).state ys Q
first_blanked x xs ys P Q e g f p = by_state x.state (is_some x.ask) p
  where
    by_state : (s : ItemState) (b : Bool) → first_by s xs P → first_by (if is_waiting_state s && b then record x { state = Blank } else record x { state = s }).state ys Q
    by_state Waiting true p = g (e ∙ p)
    by_state Waiting false p = e ∙ p
    by_state (Served code) b p = f p
    by_state Blank b p = f p

-- the withdrawn become blanks: the served stay first
pub first-blanked : (line : List Item) → ServedFirst line → ServedFirst (map blanked line)
first-blanked [] f = tt
first-blanked (x ∷ xs) f =
    first_blanked x xs (map blanked xs) (ServedFirst xs) (ServedFirst (map blanked xs)) (events-blanked xs) (no_events_first (map blanked xs)) (first-blanked xs) f

-- what became a blank is not withdrawn
none_asked : (x : Item) → is_withdrawn (blanked x) ≡ false
none_asked x = by_test (is_withdrawn x) refl
  where
    by_test : (b : Bool) → is_withdrawn x ≡ b → is_withdrawn (if b then record x { state = Blank } else x) ≡ false
    by_test true e = refl
    by_test false e = e

-- once the withdrawn are blanks no ask stands
pub asked-blanked : (line : List Item) → has_asked (map blanked line) ≡ false
asked-blanked [] = refl
asked-blanked (x ∷ xs) = rw (none_asked x, asked-blanked xs)

-- the first that waits is served, or goes on waiting
events_behind : (x : Item) (es fs : List Event) → event_by x.n x.state (es ++ fs) ≡ event_by x.n x.state es ++ fs
events_behind x es fs = by_state x.state
  where
    by_state : (s : ItemState) → event_by x.n s (es ++ fs) ≡ event_by x.n s es ++ fs
    by_state Waiting = refl
    by_state (Served code) = refl
    by_state Blank = refl

-- what y tells once it stands in the place of the first that waits
pub events-with_first : (x y : Item) (line : List Item) → first_waiting line ≡ Some x → ServedFirst line → is_blank y ≡ false
    → (served_events (with_first y line) ≡ served_events line ++ event_by y.n y.state []) × ServedFirst (with_first y line)
unfolding first_waiting with_first served_events
events-with_first x y [] f o live = absurd cc
events-with_first x y (z ∷ zs) f o live = by_state z.state f o (events-with_first x y zs)
  where
    at_y : (s : ItemState) → served_events zs ≡ [] → is_blank_state s ≡ false → (event_by y.n s (served_events zs) ≡ served_events zs ++ event_by y.n s []) × first_by s zs (ServedFirst zs)
    at_y Waiting e b = (rw e, e)
    at_y (Served code) e b = (rw e, no_events_first zs e)
    at_y Blank e b = absurd cc

    by_state : (s : ItemState) → (if is_waiting_state s then Some z else first_waiting zs) ≡ Some x → first_by s zs (ServedFirst zs)
        → (first_waiting zs ≡ Some x → ServedFirst zs → is_blank y ≡ false → (served_events (with_first y zs) ≡ served_events zs ++ event_by y.n y.state []) × ServedFirst (with_first y zs))
        → (served_events (if is_waiting_state s then y ∷ zs else record z { state = s } ∷ with_first y zs) ≡ event_by z.n s (served_events zs) ++ event_by y.n y.state [])
        × ServedFirst (if is_waiting_state s then y ∷ zs else record z { state = s } ∷ with_first y zs)
    by_state Waiting f o rest = at_y y.state o live
    by_state (Served code) f o rest = let r = rest f o live in (ap (λ l. Finished z.n code ∷ l) r.0, r.1)
    by_state Blank f o rest = rest f o live

-- the first waiting transfer replaced by one that is not withdrawn brings no ask
pub asked-with_first : (x y : Item) (line : List Item) → first_waiting line ≡ Some x → (is_withdrawn x ≡ false → is_withdrawn y ≡ false) → has_asked line ≡ false → has_asked (with_first y line) ≡ false
unfolding first_waiting with_first
asked-with_first x y [] f k a = absurd cc
asked-with_first x y (z ∷ zs) f k a = by_test (is_waiting z) refl f (asked-with_first x y zs)
  where
    p : (is_withdrawn z ≡ false) × (has_asked zs ≡ false)
    p = or_parts (is_withdrawn z) (has_asked zs) a

    by_test : (b : Bool) → is_waiting z ≡ b → (if b then Some z else first_waiting zs) ≡ Some x
        → (first_waiting zs ≡ Some x → (is_withdrawn x ≡ false → is_withdrawn y ≡ false) → has_asked zs ≡ false → has_asked (with_first y zs) ≡ false)
        → has_asked (if b then y ∷ zs else z ∷ with_first y zs) ≡ false
    by_test true w f rest = let same : z ≡ x = cc in rw (k (ap is_withdrawn (sym same) ∙ p.0)) p.1
    by_test false w f rest = rw (p.0) (rest f k p.1)

-- a new item behind all
pub events-push : (line : List Item) (y : Item) → y.state ≡ Waiting → served_events (line ++ y ∷ []) ≡ served_events line
unfolding served_events
events-push [] y w = rw w
events-push (x ∷ xs) y w = ap (event_by x.n x.state) (events-push xs y w)

-- a new transfer leaves the served first
pub first-push : (line : List Item) (y : Item) → y.state ≡ Waiting → ServedFirst line → ServedFirst (line ++ y ∷ [])
unfolding served_events
first-push [] y w f = rw w refl
first-push (x ∷ xs) y w f = first_same x.state xs (xs ++ y ∷ []) (ServedFirst xs) (ServedFirst (xs ++ y ∷ [])) (events-push xs y w) (first-push xs y w) f

-- blanks leave
pub events-past_blanks : (line : List Item) → ServedFirst line → (served_events (past_blanks line) ≡ served_events line) × ServedFirst (past_blanks line)
unfolding past_blanks served_events
events-past_blanks [] f = (refl, tt)
events-past_blanks (x ∷ xs) f = by_state x.state f (events-past_blanks xs)
  where
    by_state : (s : ItemState) → first_by s xs (ServedFirst xs) → (ServedFirst xs → (served_events (past_blanks xs) ≡ served_events xs) × ServedFirst (past_blanks xs))
        → (served_events (if is_blank_state s then past_blanks xs else record x { state = s } ∷ xs) ≡ event_by x.n s (served_events xs)) × ServedFirst (if is_blank_state s then past_blanks xs else record x { state = s } ∷ xs)
    by_state Waiting f rest = (refl, f)
    by_state (Served code) f rest = (refl, f)
    by_state Blank f rest = rest f

-- the first end that is told is that of the first item that is no blank
pub events-past_number : (line : List Item) (n code : ℕ) (es : List Event) → ServedFirst line → served_events line ≡ Finished n code ∷ es
    → (served_events (past_number n line) ≡ es) × ServedFirst (past_number n line)
unfolding past_number served_events
events-past_number [] n code es f e = absurd cc
events-past_number (x ∷ xs) n code es f e = by_state x.state f e (events-past_number xs n code es)
  where
    by_state : (s : ItemState) → first_by s xs (ServedFirst xs) → event_by x.n s (served_events xs) ≡ Finished n code ∷ es
        → (ServedFirst xs → served_events xs ≡ Finished n code ∷ es → (served_events (past_number n xs) ≡ es) × ServedFirst (past_number n xs))
        → (served_events (if (x.n == n) && not (is_blank_state s) then xs else past_number n xs) ≡ es) × ServedFirst (if (x.n == n) && not (is_blank_state s) then xs else past_number n xs)
    by_state Waiting f e rest = absurd (cc (f, e))
    by_state (Served c) f e rest = let is : x.n ≡ n = cc in let tail : served_events xs ≡ es = cc in rw (is, same_name n) (tail, f)
    by_state Blank f e rest = by_test (x.n == n)
      where
        by_test : (b : Bool) → (served_events (if b && false then xs else past_number n xs) ≡ es) × ServedFirst (if b && false then xs else past_number n xs)
        by_test true = rest f e
        by_test false = rest f e
