-- What each call of the transfers in flight leaves of what is kept with them.
use Rattle.std.proofs.Common.{◌≡◌, ℕ, zero, suc, ◌+◌, ◌<◌, Bool, true, false, refl, ap, sym, subst, ◌∙◌, arith, List, [], ◌∷◌, ◌++◌, drop, Option, Some, None}
use Rattle.std.specs.Prelude.{◌==◌, ◌&&◌, IsSome, if◌then◌else◌, slice_get, slice_index_or, slice_set}
use Rattle.std.proofs.lemmas.Bool.{eqb-true}
use Rattle.std.proofs.lemmas.Option.{same_Some}
use Rattle.usb_model.specs.declared.item.Ask.{Ask}
use Rattle.usb_tables.specs.HandleStates.{SameNumbers, number_of}
use Rattle.usb_tables.specs.declared.transfer.Transfer.{Transfer as InFlight}
use Rattle.usb_tables.specs.declared.ending.Ending.{Ending}
use Rattle.usb_tables.specs.ByEndpoint.{lane_at}
use Rattle.usb_tables.specs.TransfersInFlight.{EndedOf, TransfersInFlight, blanked_at, item_at, left_at, line_at, with_item, with_line}
use Rattle.refine_core.specs.Packets.{Serves, Skims}
use Rattle.usb_xhc.specs.Controller.{Controller}
use Rattle.proof_model.proofs.Lists.Pieces.{same_name}
use Rattle.refine_core.specs.Payloads.{Carries, CarriesMore, EachHas, IsKept, Kept, StillCarries, kept_with}
use Rattle.refine_core.specs.State.{State}

-- what holds of the one that is set and of each other holds of each
at_set : {A : Type 0} (Q : A → Type 0) (xs : List A) (i j : ℕ) (x z : A) → Q x → Q (slice_index_or xs j z) → Q (slice_index_or (slice_set xs i x) j z)
at_set Q [] i j x z is was = was
at_set Q (y ∷ ys) zero zero x z is was = is
at_set Q (y ∷ ys) zero (suc j) x z is was = was
at_set Q (y ∷ ys) (suc i) zero x z is was = was
at_set Q (y ∷ ys) (suc i) (suc j) x z is was = at_set Q ys i j x z is was

-- behind those that leave stand the others
at_drop : {A : Type 0} (Q : A → Type 0) (n : ℕ) (xs : List A) (z : A) → Q z → ((j : ℕ) → Q (slice_index_or xs j z)) → (j : ℕ) → Q (slice_index_or (drop n xs) j z)
at_drop Q zero xs z none each j = each j
at_drop Q (suc n) [] z none each j = none
at_drop Q (suc n) (x ∷ xs) z none each j = at_drop Q n xs z none (λ i. each (suc i)) j

-- behind all others stands the one that joins
at_end : {A : Type 0} (Q : A → Type 0) (xs : List A) (x z : A) → Q z → Q x → ((j : ℕ) → Q (slice_index_or xs j z)) → (j : ℕ) → Q (slice_index_or (xs ++ x ∷ []) j z)
at_end Q [] x z none is each zero = is
at_end Q [] x z none is each (suc j) = none
at_end Q (y ∷ ys) x z none is each zero = each zero
at_end Q (y ∷ ys) x z none is each (suc j) = at_end Q ys x z none is (λ i. each (suc i)) j

-- of a list what is found holds, where it holds of what joins
got_end : {A : Type 0} (Q : A → Type 0) (xs : List A) (x : A) → Q x → ((i : ℕ) (y : A) → slice_get xs i ≡ Some y → Q y) → (i : ℕ) (y : A) → slice_get (xs ++ x ∷ []) i ≡ Some y → Q y
got_end Q [] x is each zero y there = subst Q (same_Some x y there) is
got_end Q [] x is each (suc i) y there = absurd cc
got_end Q (z ∷ zs) x is each zero y there = each zero y there
got_end Q (z ∷ zs) x is each (suc i) y there = got_end Q zs x is (λ j w at. each (suc j) w at) i y there

-- and where the first is taken
got_rest : {A : Type 0} (Q : A → Type 0) (xs : List A) → ((i : ℕ) (y : A) → slice_get xs i ≡ Some y → Q y) → (i : ℕ) (y : A) → slice_get (drop 1 xs) i ≡ Some y → Q y
got_rest Q [] each i y there = each i y there
got_rest Q (x ∷ xs) each i y there = each (suc i) y there

module _ {P : Type 0} (R : ℕ → ℕ → P → Type 0) where
  -- it holds of an item, if this is a transfer
  abbrev ItemHas : Option (InFlight P) → Type 0
  ItemHas x = (t : InFlight P) → x ≡ Some t → R t.name t.n t.payload

  -- of each item of a line
  abbrev LineHas : List (Option (InFlight P)) → Type 0
  LineHas l = (j : ℕ) → ItemHas (slice_index_or l j None)

  -- of each transfer that ended
  abbrev EndedHas : List (EndedOf (InFlight P)) → Type 0
  EndedHas xs = (i : ℕ) (x : EndedOf (InFlight P)) → slice_get xs i ≡ Some x → R x.transfer.name x.transfer.n x.transfer.payload

  -- a blank is none
  none_has : ItemHas None
  none_has t is = absurd cc

  -- a transfer of which it holds
  it_has : (t : InFlight P) → R t.name t.n t.payload → ItemHas (Some t)
  it_has t has u same = subst (λ (v : InFlight P). R v.name v.n v.payload) (same_Some t u same) has

  -- another line at an endpoint, and others that ended
  each_by : (f g : TransfersInFlight (InFlight P)) (d e : ℕ) (l : List (Option (InFlight P))) (xs : List (EndedOf (InFlight P))) → g.lines ≡ (with_line f d e l).lines → g.ended ≡ xs → EachHas R f → LineHas l → EndedHas xs → EachHas R g
  each_by f g d e l xs lines ended each line has = record {
    in_line = λ dev ep. subst (λ (v : List (List (Option (InFlight P)))). LineHas (slice_index_or v (lane_at dev ep) [])) (sym lines) (at_set LineHas f.lines (lane_at d e) (lane_at dev ep) l [] line (each.in_line dev ep));
    ended = subst EndedHas (sym ended) has;
  }

  -- a transfer joins a line
  pub has_pushed : (f g : TransfersInFlight (InFlight P)) (d e : ℕ) (t : InFlight P) → g.lines ≡ (with_line f d e (line_at f d e ++ Some t ∷ [])).lines → g.ended ≡ f.ended → R t.name t.n t.payload → EachHas R f → EachHas R g
  has_pushed f g d e t lines ended has each = each_by f g d e (line_at f d e ++ Some t ∷ []) f.ended lines ended each (at_end ItemHas (line_at f d e) (Some t) None none_has (it_has t has) (each.in_line d e)) each.ended

  -- items leave
  pub has_left : (f g : TransfersInFlight (InFlight P)) (d e count : ℕ) → g ≡ left_at f d e count → EachHas R f → EachHas R g
  has_left f g d e count is each = each_by f g d e (drop count (line_at f d e)) f.ended (ap (λ (v : TransfersInFlight (InFlight P)). v.lines) is) (ap (λ (v : TransfersInFlight (InFlight P)). v.ended) is) each
      (at_drop ItemHas count (line_at f d e) None none_has (each.in_line d e)) each.ended

  -- an item is changed, and is still the same transfer's
  pub has_changed : (f g : TransfersInFlight (InFlight P)) (d e item : ℕ) (t : InFlight P) → g ≡ with_item f d e item (Some t) → R t.name t.n t.payload → EachHas R f → EachHas R g
  has_changed f g d e item t is has each = each_by f g d e (slice_set (line_at f d e) item (Some t)) f.ended (ap (λ (v : TransfersInFlight (InFlight P)). v.lines) is) (ap (λ (v : TransfersInFlight (InFlight P)). v.ended) is) each
      (λ j. at_set ItemHas (line_at f d e) item j (Some t) None (it_has t has) (each.in_line d e j)) each.ended

  -- a transfer ends: an item is a blank
  pub has_ended : (f g : TransfersInFlight (InFlight P)) (d e item : ℕ) (t : InFlight P) (x : Ending) → item_at f d e item ≡ Some t → g ≡ record (blanked_at f d e item) { ended = f.ended ++ record { transfer = t; ending = x } ∷ [] } → EachHas R f → EachHas R g
  has_ended f g d e item t x there is each = each_by f g d e (slice_set (line_at f d e) item None) (f.ended ++ record { transfer = t; ending = x } ∷ []) (ap (λ (v : TransfersInFlight (InFlight P)). v.lines) is) (ap (λ (v : TransfersInFlight (InFlight P)). v.ended) is) each
      (λ j. at_set ItemHas (line_at f d e) item j None None none_has (each.in_line d e j))
      (got_end (λ (y : EndedOf (InFlight P)). R y.transfer.name y.transfer.n y.transfer.payload) f.ended (record { transfer = t; ending = x }) (each.in_line d e item t there) each.ended)

  -- the one that ended first is taken
  pub has_taken : (f g : TransfersInFlight (InFlight P)) → g.lines ≡ f.lines → g.ended ≡ drop 1 f.ended → EachHas R f → EachHas R g
  has_taken f g lines ended each = record {
    in_line = λ dev ep. subst (λ (v : List (List (Option (InFlight P)))). LineHas (slice_index_or v (lane_at dev ep) [])) (sym lines) (each.in_line dev ep);
    ended = subst EndedHas (sym ended) (got_rest (λ (y : EndedOf (InFlight P)). R y.transfer.name y.transfer.n y.transfer.payload) f.ended each.ended);
  }

module _ {P : Type 0} where
  -- two are one transfer, for all that is kept with it
  pub record IsOne (t u : InFlight P) : Type 0 where
    pub name : u.name ≡ t.name
    pub number : u.n ≡ t.n
    pub payload : u.payload ≡ t.payload

  -- what holds of one holds of the other
  one_has : (R : ℕ → ℕ → P → Type 0) (t u : InFlight P) → IsOne t u → R t.name t.n t.payload → R u.name u.n u.payload
  one_has R t u one has = subst (λ (p : P). R u.name u.n p) (sym one.payload) (subst (λ (m : ℕ). R u.name m t.payload) (sym one.number) (subst (λ (g : ℕ). R g t.n t.payload) (sym one.name) has))

  -- whatever holds of each transfer of these holds of each of those
  abbrev pub Follows : (f g : TransfersInFlight (InFlight P)) → Type 1
  Follows f g = (R : ℕ → ℕ → P → Type 0) → EachHas R f → EachHas R g

  -- what is more holds of each too
  each_so : (R S : ℕ → ℕ → P → Type 0) (f : TransfersInFlight (InFlight P)) → ((h n : ℕ) (payload : P) → R h n payload → S h n payload) → EachHas R f → EachHas S f
  each_so R S f so each = record {
    in_line = λ d e item t there. so t.name t.n t.payload (each.in_line d e item t there);
    ended = λ i x there. so x.transfer.name x.transfer.n x.transfer.payload (each.ended i x there);
  }

  -- where transfers follow and numbers stay, what is kept stays
  pub still : (old new : State P) → Follows old.flights new.flights → SameNumbers old.callers new.callers → StillCarries old new
  still old new follows numbers kept carried = follows (IsKept kept new.callers)
      (each_so (IsKept kept old.callers) (IsKept kept new.callers) old.flights (λ h n payload is. record { its = is.its; given = subst (λ (m : ℕ). n < m) (sym (numbers h)) is.given }) carried)

  -- of parts as they are seen
  pub still_by : (old seen new : State P) → seen ≡ old → Follows seen.flights new.flights → SameNumbers seen.callers new.callers → StillCarries old new
  still_by old seen new is follows numbers = subst (λ (s : State P). StillCarries s new) is (still seen new follows numbers)

  -- and then again
  pub still_on : (old mid new : State P) → StillCarries old mid → StillCarries mid new → StillCarries old new
  still_on old mid new first behind kept carried = behind kept (first kept carried)

  -- a transfer that is there ends
  pub follows_end : (f g : TransfersInFlight (InFlight P)) (d e item : ℕ) (x : Ending) → IsSome (item_at f d e item)
      → ((t : InFlight P) → item_at f d e item ≡ Some t → g ≡ record (blanked_at f d e item) { ended = f.ended ++ record { transfer = t; ending = x } ∷ [] }) → Follows f g
  follows_end f g d e item x live is R each = by_item (item_at f d e item) refl live
    where
      by_item : (o : Option (InFlight P)) → item_at f d e item ≡ o → IsSome o → EachHas R g
      by_item None at some = absurd cc
      by_item (Some t) at some = has_ended R f g d e item t x at (is t at) each

  -- one is changed, which leaves its name, its number and its payload
  pub follows_change : (f g : TransfersInFlight (InFlight P)) (d e item : ℕ) (u : InFlight P → InFlight P) → ((t : InFlight P) → IsOne t (u t)) → IsSome (item_at f d e item)
      → ((t : InFlight P) → item_at f d e item ≡ Some t → g ≡ with_item f d e item (Some (u t))) → Follows f g
  follows_change f g d e item u same live is R each = by_item (item_at f d e item) refl live
    where
      by_item : (o : Option (InFlight P)) → item_at f d e item ≡ o → IsSome o → EachHas R g
      by_item None at some = absurd cc
      by_item (Some t) at some = has_changed R f g d e item (u t) (is t at) (one_has R t (u t) (same t) (each.in_line d e item t at)) each

  -- it is asked to end
  pub follows_ask : (f g : TransfersInFlight (InFlight P)) (d e item : ℕ) (why : Ask) → IsSome (item_at f d e item) → ((t : InFlight P) → item_at f d e item ≡ Some t → g ≡ with_item f d e item (Some (record t { ask = Some why }))) → Follows f g
  follows_ask f g d e item why = follows_change f g d e item (λ t. record t { ask = Some why }) (λ t. record { name = refl; number = refl; payload = refl })

  -- so much of it moved, as was told
  pub follows_pause : (f g : TransfersInFlight (InFlight P)) (d e item moved : ℕ) → IsSome (item_at f d e item) → ((t : InFlight P) → item_at f d e item ≡ Some t → g ≡ with_item f d e item (Some (record t { moved = moved }))) → Follows f g
  follows_pause f g d e item moved = follows_change f g d e item (λ t. record t { moved = moved }) (λ t. record { name = refl; number = refl; payload = refl })

  -- a packet of it is served
  pub follows_serve : (f g : TransfersInFlight (InFlight P)) (k : Controller) (d e item : ℕ) → IsSome (item_at f d e item) → ((t : InFlight P) → item_at f d e item ≡ Some t → Serves f g k d e item t) → Follows f g
  follows_serve f g k d e item live serves R each = by_item (item_at f d e item) refl live
    where
      one : (t : InFlight P) (s : Serves f g k d e item t) → IsOne t s.served
      one t s = record { name = ap (λ (v : InFlight P). v.name) s.behind.rest; number = ap (λ (v : InFlight P). v.n) s.behind.rest; payload = ap (λ (v : InFlight P). v.payload) s.behind.rest }

      by_item : (o : Option (InFlight P)) → item_at f d e item ≡ o → IsSome o → EachHas R g
      by_item None at some = absurd cc
      by_item (Some t) at some = has_changed R f g d e item (serves t at).served (serves t at).put (one_has R t (serves t at).served (one t (serves t at)) (each.in_line d e item t at)) each

  -- so many packets of it are
  pub follows_skim : (f g : TransfersInFlight (InFlight P)) (k : Controller) (d e item count : ℕ) → IsSome (item_at f d e item) → ((t : InFlight P) → item_at f d e item ≡ Some t → Skims f g k d e item count t) → Follows f g
  follows_skim f g k d e item count live skims R each = by_item (item_at f d e item) refl live
    where
      one : (t : InFlight P) (s : Skims f g k d e item count t) → IsOne t s.skimmed
      one t s = record { name = ap (λ (v : InFlight P). v.name) s.behind.rest; number = ap (λ (v : InFlight P). v.n) s.behind.rest; payload = ap (λ (v : InFlight P). v.payload) s.behind.rest }

      by_item : (o : Option (InFlight P)) → item_at f d e item ≡ o → IsSome o → EachHas R g
      by_item None at some = absurd cc
      by_item (Some t) at some = has_changed R f g d e item (skims t at).skimmed (skims t at).put (one_has R t (skims t at).skimmed (one t (skims t at)) (each.in_line d e item t at)) each

  -- items leave
  pub follows_leave : (f g : TransfersInFlight (InFlight P)) (d e count : ℕ) → g ≡ left_at f d e count → Follows f g
  follows_leave f g d e count is R = has_left R f g d e count is

  -- the one that ended first is taken
  pub follows_take : (f g : TransfersInFlight (InFlight P)) → g.lines ≡ f.lines → g.ended ≡ drop 1 f.ended → Follows f g
  follows_take f g lines ended R = has_taken R f g lines ended

  -- one after the other
  pub follows_on : (f g v : TransfersInFlight (InFlight P)) → Follows f g → Follows g v → Follows f v
  follows_on f g v first behind R each = behind R (first R each)

  -- what goes out is what is kept under its name and number
  pub goes_out : (s : State P) (x : EndedOf (InFlight P)) → slice_get s.flights.ended 0 ≡ Some x → (kept : Kept P) → Carries kept s → kept x.transfer.name x.transfer.n ≡ Some x.transfer.payload
  goes_out s x first kept carried = (carried.ended 0 x first).its

  -- where nothing is in flight all is with it
  pub none_carried : (s : State P) → ((d e : ℕ) → line_at s.flights d e ≡ []) → s.flights.ended ≡ [] → (kept : Kept P) → Carries kept s
  none_carried s lines ended kept = record {
    in_line = λ d e item. subst (λ (l : List (Option (InFlight P))). LineHas (IsKept kept s.callers) l) (sym (lines d e)) (λ j t there. absurd cc) item;
    ended = subst (EndedHas (IsKept kept s.callers)) (sym ended) (λ i x there. absurd cc);
  }

  -- a transfer joins a line under its name's next number, and its payload is kept with it
  pub joins_carried : (old new : State P) (h d e : ℕ) (t : InFlight P) → t.name ≡ h → t.n ≡ number_of old.callers h → new.flights.lines ≡ (with_line old.flights d e (line_at old.flights d e ++ Some t ∷ [])).lines → new.flights.ended ≡ old.flights.ended
      → ((g : ℕ) → number_of new.callers g ≡ (if h == g then number_of old.callers g + 1 else number_of old.callers g)) → CarriesMore h (number_of old.callers h) t.payload old new
  joins_carried old new h d e t name number lines ended numbers kept carried = has_pushed R old.flights new.flights d e t lines ended (subst (λ (g : ℕ). R g t.n t.payload) (sym name) (subst (λ (m : ℕ). R h m t.payload) (sym number) mine)) (each_so (IsKept kept old.callers) R old.flights others carried)
    where
      n : ℕ
      n = number_of old.callers h

      more : Kept P
      more = kept_with kept h n t.payload

      R : ℕ → ℕ → P → Type 0
      R = IsKept more new.callers

      mine : R h n t.payload
      mine = record {
        its = ap (λ (b : Bool). if b && (n == n) then Some t.payload else kept h n) (same_name h) ∙ ap (λ (b : Bool). if b then Some t.payload else kept h n) (same_name n);
        given =
            let next : number_of new.callers h ≡ n + 1 = numbers h ∙ ap (λ (b : Bool). if b then n + 1 else n) (same_name h) in
            omega (arith, next);
      }

      beside : (g m : ℕ) (p : P) → kept g m ≡ Some p → m < number_of old.callers g → (a : Bool) → (h == g) ≡ a → (b : Bool) → (n == m) ≡ b → (if a && b then Some t.payload else kept g m) ≡ Some p
      beside g m p its given true at true is =
          let same : n ≡ m = eqb-true n m is in
          let of_it : number_of old.callers g ≡ n = ap (number_of old.callers) (sym (eqb-true h g at)) in
          absurd (omega (arith, same, of_it, given))
      beside g m p its given true at false is = its
      beside g m p its given false at b is = its

      below : (g m : ℕ) → m < number_of old.callers g → (a : Bool) → m < (if a then number_of old.callers g + 1 else number_of old.callers g)
      below g m given true = omega (arith, given)
      below g m given false = given

      others : (g m : ℕ) (p : P) → IsKept kept old.callers g m p → R g m p
      others g m p is = record { its = beside g m p is.its is.given (h == g) refl (n == m) refl; given = subst (λ (k : ℕ). m < k) (sym (numbers g)) (below g m is.given (h == g)) }

  -- where all stayed before it joined
  pub more_on : (old mid new : State P) (h n : ℕ) (payload : P) → StillCarries old mid → CarriesMore h n payload mid new → CarriesMore h n payload old new
  more_on old mid new h n payload first behind kept carried = behind kept (first kept carried)
