-- The item with a TRB at the pointer of the first event is the first served one.
use Rattle.std.proofs.Common.{Bool, List, Some, [], ap, arith, ap₂, false, length, refl, subst, sym, subst₂, true, ℕ, ◌+◌, ◌<◌, ◌≤◌, ◌==◌, ◌∙◌, ◌∷◌, ◌≡◌}
use Rattle.std.specs.Prelude.{nat_le, ◌&&◌}
use Rattle.std.proofs.lemmas.Bool.{le-leb, le-ltb, lt-ltb}
use Rattle.usb_model.specs.declared.item.Item.{Item}
use Rattle.usb_model.specs.declared.item.ItemState.TheVariants.{Blank, Served, Waiting}
use Rattle.usb_model.specs.declared.item.ItemState.{ItemState}
use Rattle.usb_model.specs.declared.news.Event.TheVariants.{Finished}
use Rattle.usb_model.specs.declared.news.Event.{Event}
use Rattle.usb_model.specs.Endpoint.{first_waiting, in_progress, is_blank, is_blank_state, is_transfer, is_waiting, is_waiting_state, past_blanks, past_number}
use Rattle.usb_model.specs.Coherence.{ServedFirst, event_by, first_by, served_events}
use Rattle.proof_model.proofs.Lists.Pieces.{same_name}
use Rattle.usb_model.specs.Stands.{stand}
use Rattle.refine_world.specs.ShownEndpoint.{AllKept, FrontKnown, IsLive, count, front, known_by, pause_told, telling_of, told_by, told_of}
use Rattle.usb_model.specs.Kept.{InRow, KeptTransfer, first_place}
use Rattle.usb_model.specs.Events.{covers, find_at, past_at, past_kept_blanks}
use Rattle.usb_model.proofs.Stands.{stands_some}

-- the pointer of an event
abbrev pub pointer : ℕ → Item → KeptTransfer → ℕ
pointer size x y = y.place + (stand y.lengths (count size x)).index

-- part of a line, with the same transfers waiting
pub record Less (size : ℕ) (xs : List Item) (ys : List KeptTransfer) (end : ℕ) (xs' : List Item) (ys' : List KeptTransfer) : Type 0 where
  pub kept : AllKept size xs' ys'
  pub row : InRow ys' end
  pub front : front size xs ys end ≡ front size xs' ys' end
  pub pause : pause_told size xs ys ≡ pause_told size xs' ys'
  pub known : FrontKnown size xs ys → FrontKnown size xs' ys'
  pub first : first_waiting xs ≡ first_waiting xs'

-- the first served item of a line, with what the core keeps of it; p: where its event points
pub record Found (size : ℕ) (xs : List Item) (ys : List KeptTransfer) (end n code : ℕ) : Type 0 where
  pub x : Item
  pub y : KeptTransfer
  pub p : ℕ
  pub at : p ≡ pointer size x y
  pub state : x.state ≡ Served code
  pub number : x.n ≡ n
  pub blank : y.blank ≡ false
  pub live : IsLive size x y
  pub some : 0 < length y.lengths
  pub item : in_progress n xs ≡ Some x
  pub found : find_at p ys ≡ Some y
  pub told : told_of size xs ys ≡ telling_of size x y code ∷ told_of size (past_number n xs) (past_at p ys)
  pub less : Less size xs ys end (past_number n xs) (past_at p ys)
  pub low : first_place ys end ≤ p

-- nothing leaves
less_same : (size : ℕ) (xs : List Item) (ys : List KeptTransfer) (end : ℕ) → AllKept size xs ys → InRow ys end → Less size xs ys end xs ys
less_same size xs ys end k row = record { kept = k; row = row; front = refl; pause = refl; known = λ f. f; first = refl }

-- one that doesn't wait leaves first
less_one : (size : ℕ) (x : Item) (y : KeptTransfer) (xs : List Item) (ys : List KeptTransfer) (end : ℕ) {xs' : List Item} {ys' : List KeptTransfer} → is_waiting x ≡ false → ((P Q : Type 0) → known_by x.state P Q ≡ Q)
    → Less size xs ys end xs' ys' → Less size (x ∷ xs) (y ∷ ys) end xs' ys'
unfolding front pause_told first_waiting
less_one size x y xs ys end still same l = record {
  kept = l.kept;
  row = l.row;
  front = rw still l.front;
  pause = rw still l.pause;
  known = λ f. l.known (subst (λ (T : Type 0). T) (same (y.moved ≡ count size x) (FrontKnown size xs ys)) f);
  first = rw still l.first;
}

-- the blanks in front leave
pub blanks_leave : (size : ℕ) (xs : List Item) (ys : List KeptTransfer) (end : ℕ) → AllKept size xs ys → InRow ys end
    → Less size xs ys end (past_blanks xs) (past_kept_blanks ys) × (told_of size (past_blanks xs) (past_kept_blanks ys) ≡ told_of size xs ys)
unfolding past_blanks past_kept_blanks told_of
blanks_leave size [] [] end k row = (less_same size [] [] end tt tt, refl)
blanks_leave size [] (y ∷ ys) end k row = absurd k
blanks_leave size (x ∷ xs) [] end k row = absurd k
blanks_leave size (x ∷ xs) (y ∷ ys) end k row = by_state x.state refl (blanks_leave size xs ys end k.1 row.1)
  where
    Leave : Type 0
    Leave = Less size (x ∷ xs) (y ∷ ys) end (past_blanks (x ∷ xs)) (past_kept_blanks (y ∷ ys)) × (told_of size (past_blanks (x ∷ xs)) (past_kept_blanks (y ∷ ys)) ≡ told_of size (x ∷ xs) (y ∷ ys))

    Rest : Type 0
    Rest = Less size xs ys end (past_blanks xs) (past_kept_blanks ys) × (told_of size (past_blanks xs) (past_kept_blanks ys) ≡ told_of size xs ys)

    stay : is_blank x ≡ false → Leave
    stay still =
        let keeps : past_kept_blanks (y ∷ ys) ≡ y ∷ ys = rw (k.0.blank, still) refl in
        let items : past_blanks (x ∷ xs) ≡ x ∷ xs = rw still refl in
        (subst₂ (Less size (x ∷ xs) (y ∷ ys) end) (sym items) (sym keeps) (less_same size (x ∷ xs) (y ∷ ys) end k row), ap₂ (told_of size) items keeps)

    by_state : (s : ItemState) → x.state ≡ s → Rest → Leave
    by_state Waiting st rest = stay (ap is_blank_state st)
    by_state (Served c) st rest = stay (ap is_blank_state st)
    by_state Blank st rest =
        let yes : is_blank x ≡ true = ap is_blank_state st in
        let keeps : past_kept_blanks (y ∷ ys) ≡ past_kept_blanks ys = rw (k.0.blank, yes) refl in
        let items : past_blanks (x ∷ xs) ≡ past_blanks xs = rw yes refl in (
          subst₂ (Less size (x ∷ xs) (y ∷ ys) end) (sym items) (sym keeps) (less_one size x y xs ys end (ap is_waiting_state st) (λ P Q. ap (λ s. known_by s P Q) st) rest.0),
          ap₂ (told_of size) items keeps ∙ (rest.1 ∙ ap (λ s. told_by size x y s (told_of size xs ys)) (sym st)),
        )

-- what is not so is not so with anything
and_false : (b : Bool) → (b && false) ≡ false
and_false true = refl
and_false false = refl

-- a place among its TRBs, and one behind them
pub covers_here : (p : ℕ) (y : KeptTransfer) → y.place ≤ p → p < y.place + length y.lengths → covers p y ≡ true
covers_here p y low high = rw (lt-ltb p (y.place + length y.lengths) high, le-leb y.place p low) refl

pub covers_past : (p : ℕ) (y : KeptTransfer) → y.place + length y.lengths ≤ p → covers p y ≡ false
covers_past p y past = rw (le-ltb p (y.place + length y.lengths) past) (and_false (nat_le y.place p))

-- its events point at it
pub points : (size : ℕ) (x : Item) (y : KeptTransfer) → 0 < length y.lengths → IsLive size x y → covers (pointer size x y) y ≡ true
points size x y some live =
    let s = stands_some y.lengths (count size x) some live.fits in
    covers_here (pointer size x y) y (omega arith) (omega (arith, s.inside))

it_is : (n : ℕ) (x : Item) (code : ℕ) → x.n ≡ n → x.state ≡ Served code → is_transfer n x ≡ true
it_is n x code is st = rw (is, same_name n, st) refl

not_it : (n : ℕ) (x : Item) → x.state ≡ Blank → is_transfer n x ≡ false
not_it n x st = rw st (and_false (x.n == n))

-- the first event is that of an item which its pointer finds
pub finds : (size : ℕ) (xs : List Item) (ys : List KeptTransfer) (end n code : ℕ) (es : List Event) → AllKept size xs ys → InRow ys end → ServedFirst xs → served_events xs ≡ Finished n code ∷ es → Found size xs ys end n code
unfolding served_events in_progress past_number find_at past_at told_of
finds size [] ys end n code es k row f e = absurd cc
finds size (x ∷ xs) [] end n code es k row f e = absurd k
finds size (x ∷ xs) (y ∷ ys) end n code es k row f e = by_state x.state refl f e (finds size xs ys end n code es k.1 row.1)
  where
    by_state : (s : ItemState) → x.state ≡ s → first_by s xs (ServedFirst xs) → event_by x.n s (served_events xs) ≡ Finished n code ∷ es
        → (ServedFirst xs → served_events xs ≡ Finished n code ∷ es → Found size xs ys end n code) → Found size (x ∷ xs) (y ∷ ys) end n code
    by_state Waiting st f e rest = absurd (cc (f, e))
    by_state (Served c) st f e rest =
        let is : x.n ≡ n = cc in
        let same : c ≡ code = cc in
        let live : IsLive size x y = k.0.live (ap is_blank_state st) in
        let here = points size x y k.0.some live in
        let it = it_is n x c is st in
        let items : past_number n (x ∷ xs) ≡ xs = rw it refl in
        let keeps : past_at (pointer size x y) (y ∷ ys) ≡ ys = rw here refl in
        record {
          x = x;
          y = y;
          p = pointer size x y;
          at = refl;
          state = st ∙ ap Served same;
          number = is;
          blank = k.0.blank ∙ ap is_blank_state st;
          live = live;
          some = k.0.some;
          item = rw it refl;
          found = rw here refl;
          told = ap (λ s. told_by size x y s (told_of size xs ys)) (st ∙ ap Served same) ∙ ap₂ (λ l m. telling_of size x y code ∷ told_of size l m) (sym items) (sym keeps);
          less = subst₂ (Less size (x ∷ xs) (y ∷ ys) end) (sym items) (sym keeps) (less_one size x y xs ys end (ap is_waiting_state st) (λ P Q. ap (λ s. known_by s P Q) st) (less_same size xs ys end k.1 row.1));
          low = omega arith;
        }
    by_state Blank st f e rest =
        let r = rest f e in
        let behind : y.place + length y.lengths ≤ r.p = omega (arith, r.low, row.0) in
        let past = covers_past r.p y behind in
        let it = not_it n x st in
        let items : past_number n (x ∷ xs) ≡ past_number n xs = rw it refl in
        let keeps : past_at r.p (y ∷ ys) ≡ past_at r.p ys = rw past refl in
        record {
          x = r.x;
          y = r.y;
          p = r.p;
          at = r.at;
          state = r.state;
          number = r.number;
          blank = r.blank;
          live = r.live;
          some = r.some;
          item = rw it r.item;
          found = rw past r.found;
          told = ap (λ s. told_by size x y s (told_of size xs ys)) st ∙ (r.told ∙ ap₂ (λ l m. telling_of size r.x r.y code ∷ told_of size l m) (sym items) (sym keeps));
          less = subst₂ (Less size (x ∷ xs) (y ∷ ys) end) (sym items) (sym keeps) (less_one size x y xs ys end (ap is_waiting_state st) (λ P Q. ap (λ s. known_by s P Q) st) r.less);
          low = omega (arith, behind);
        }
