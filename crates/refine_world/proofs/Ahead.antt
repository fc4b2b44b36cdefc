-- Where the controller stands at the first transfer that waits, the line begins there or before, and so does all that is told point.
use Rattle.usb_model.proofs.Stands.{stands_some}
use Rattle.std.proofs.Common.{Bool, List, Option, [], ap, arith, false, length, refl, subst, sym, true, ℕ, ◌++◌, ◌<◌, ◌≤◌, ◌∷◌, ◌≡◌}
use Rattle.std.specs.Prelude.{if◌then◌else◌}
use Rattle.proof_model.proofs.Lists.Parts.{each_append}
use Rattle.usb_model.specs.Coherence.{IsCoherent, ServedFirst, event_by, first_by, served_events}
use Rattle.usb_model.specs.Endpoint.{is_blank_state, is_waiting, is_waiting_state}
use Rattle.usb_model.specs.declared.endpoint.Endpoint.{Endpoint}
use Rattle.usb_model.specs.declared.errand.Errand.{Errand}
use Rattle.usb_model.specs.declared.item.Item.{Item}
use Rattle.usb_model.specs.declared.item.ItemState.TheVariants.{Blank, Served, Waiting}
use Rattle.usb_model.specs.declared.item.ItemState.{ItemState}
use Rattle.usb_model.specs.declared.news.Event.TheVariants.{Finished, Paused, Settled}
use Rattle.usb_model.specs.declared.news.Event.{Event}
use Rattle.usb_model.specs.Kept.{Completion, InRow, KeptEndpoint, KeptTransfer, SentErrand, Telling, Transfer, first_place}
use Rattle.usb_model.specs.Stands.{stand}
use Rattle.refine_world.specs.ShownEndpoint.{AllBefore, AllKept, IsBefore, IsLive, IsNear, ShowsEnd, count, front, front_of, is_stale, pause_told, tail_told, telling_of, told_by, told_of}
use Rattle.refine_world.proofs.Fronts.{told_none}
use Rattle.refine_world.proofs.RoomAndDequeue.{front_behind, near_fresh}

-- what is before a place is before a later one
pub before_later : (p q : ℕ) (ts : List Telling) → p ≤ q → AllBefore p ts → AllBefore q ts
before_later p q [] le a = tt
before_later p q (t ∷ ts) le a = (by_telling t a.0, before_later p q ts le a.1)
  where
    by_telling : (t : Telling) → IsBefore p t → IsBefore q t
    by_telling (Transfer place residual code) b = omega (arith, b, le)
    by_telling (Completion index code) b = tt

-- what stands before a place in both parts of a list
pub before_and : (p : ℕ) (ts us : List Telling) → AllBefore p ts → AllBefore p us → AllBefore p (ts ++ us)
before_and p ts us a b = each_append (IsBefore p) ts us a b

-- and in the first
pub before_front : (p : ℕ) (ts us : List Telling) → AllBefore p (ts ++ us) → AllBefore p ts
before_front p [] us a = tt
before_front p (t ∷ ts) us a = (a.0, before_front p ts us a.1)

-- a line begins at its end or before
pub row_low : (ys : List KeptTransfer) (end : ℕ) → InRow ys end → first_place ys end ≤ end
row_low [] end row = omega arith
row_low (y ∷ ys) end row = omega (arith, row.0, row_low ys end row.1)

-- a transfer stands among its own places
pub stands_inside : (size : ℕ) (x : Item) (y : KeptTransfer) → 0 < length y.lengths → IsLive size x y → (stand y.lengths (count size x)).index < length y.lengths
stands_inside size x y some live = (stands_some y.lengths (count size x) some live.fits).inside

-- the first that waits stands among the line's places
front_inside : (size : ℕ) (xs : List Item) (ys : List KeptTransfer) (end : ℕ) → AllKept size xs ys → InRow ys end → (front size xs ys end).place ≤ end
unfolding front
front_inside size [] [] end k row = omega arith
front_inside size [] (y ∷ ys) end k row = absurd k
front_inside size (x ∷ xs) [] end k row = absurd k
front_inside size (x ∷ xs) (y ∷ ys) end k row = by_state x.state refl (front_inside size xs ys end k.1 row.1)
  where
    by_state : (s : ItemState) → x.state ≡ s → (front size xs ys end).place ≤ end → (if is_waiting_state s then front_of size x y else front size xs ys end).place ≤ end
    by_state Waiting st le = omega (arith, stands_inside size x y k.0.some (k.0.live (ap is_blank_state st)), row.0, row_low ys end row.1)
    by_state (Served code) st le = le
    by_state Blank st le = le

-- the ends that are told point before it
told_before : (size : ℕ) (xs : List Item) (ys : List KeptTransfer) (end : ℕ) → AllKept size xs ys → InRow ys end → ServedFirst xs → AllBefore (front size xs ys end).place (told_of size xs ys)
unfolding front told_of
told_before size [] ys end k row f = tt
told_before size (x ∷ xs) [] end k row f = absurd k
told_before size (x ∷ xs) (y ∷ ys) end k row f = by_state x.state refl f (told_before size xs ys end k.1 row.1)
  where
    by_state : (s : ItemState) → x.state ≡ s → first_by s xs (ServedFirst xs) → (ServedFirst xs → AllBefore (front size xs ys end).place (told_of size xs ys))
        → AllBefore (if is_waiting_state s then front_of size x y else front size xs ys end).place (told_by size x y s (told_of size xs ys))
    by_state Waiting st f rest = subst (AllBefore (front_of size x y).place) (sym (told_none size xs ys f)) tt
    by_state (Served code) st f rest = (omega (arith, stands_inside size x y k.0.some (k.0.live (ap is_blank_state st)), row.0, front_behind size xs ys end k.1 row.1), rest f)
    by_state Blank st f rest = rest f

-- a pause points at it
pause_before : (size : ℕ) (xs : List Item) (ys : List KeptTransfer) (end : ℕ) → AllBefore (front size xs ys end).place (pause_told size xs ys)
unfolding front pause_told
pause_before size [] ys end = tt
pause_before size (x ∷ xs) [] end = tt
pause_before size (x ∷ xs) (y ∷ ys) end = by_test (is_waiting x) (pause_before size xs ys end)
  where
    by_test : (b : Bool) → AllBefore (front size xs ys end).place (pause_told size xs ys) → AllBefore (if b then front_of size x y else front size xs ys end).place (if b then telling_of size x y 26 ∷ [] else pause_told size xs ys)
    by_test true rest = (omega arith, tt)
    by_test false rest = rest

-- so does what is told behind the ends
tail_before : (size p : ℕ) (xs : List Item) (ys : List KeptTransfer) (sent : Option SentErrand) (tail : List Event) → AllBefore p (pause_told size xs ys) → AllBefore p (tail_told size xs ys sent tail)
tail_before size p xs ys sent [] a = tt
tail_before size p xs ys sent (Finished n code ∷ es) a = tail_before size p xs ys sent es a
tail_before size p xs ys sent (Paused n ∷ es) a = before_and p (pause_told size xs ys) (tail_told size xs ys sent es) a (tail_before size p xs ys sent es a)
tail_before size p xs ys sent (Settled o ok ∷ es) a = (tt, tail_before size p xs ys sent es a)

-- so an endpoint that isn't stale is near
pub fresh_near : (size : ℕ) (e : Endpoint) (os : List Errand) (ns : List Event) (b : KeptEndpoint) (sent : List SentErrand) (told : List Telling) → IsCoherent e os ns → ShowsEnd size e os ns b sent told → is_stale e.state e.errand os ≡ false → IsNear b.line b.end b.dequeue told
fresh_near size e os ns b sent told c s fresh =
    let at : b.dequeue ≡ (front size e.line b.line b.end).place = ap (λ f. f.place) (s.stands fresh) in
    let all : AllBefore (front size e.line b.line b.end).place (told_of size e.line b.line ++ tail_told size e.line b.line b.errand s.tail) =
    before_and _ (told_of size e.line b.line) (tail_told size e.line b.line b.errand s.tail) (told_before size e.line b.line b.end s.kept s.row c.in_order)
    (tail_before size _ e.line b.line b.errand s.tail (pause_before size e.line b.line b.end)) in
    let near : first_place b.line b.end ≤ b.dequeue = near_fresh size e os ns b sent told s fresh in
    record {
      near = omega (arith, near);
      inside = omega (arith, at, front_inside size e.line b.line b.end s.kept s.row);
      before = subst (AllBefore b.dequeue) (sym s.told_is) (before_later _ b.dequeue _ (omega (arith, at)) all);
    }

-- what is told of the ends points into the line
told_from : (size p : ℕ) (xs : List Item) (ys : List KeptTransfer) (end : ℕ) → AllKept size xs ys → InRow ys end → 0 < length (served_events xs) → AllBefore p (told_of size xs ys) → first_place ys end ≤ p
unfolding told_of served_events
told_from size p [] ys end k row some a = absurd (omega (arith, some))
told_from size p (x ∷ xs) [] end k row some a = absurd k
told_from size p (x ∷ xs) (y ∷ ys) end k row some a = by_state x.state refl some a (told_from size p xs ys end k.1 row.1)
  where
    by_state : (s : ItemState) → x.state ≡ s → 0 < length (event_by x.n s (served_events xs)) → AllBefore p (told_by size x y s (told_of size xs ys)) → (0 < length (served_events xs) → AllBefore p (told_of size xs ys) → first_place ys end ≤ p) → y.place ≤ p
    by_state Waiting st some a rest = omega (arith, rest some a, row.0)
    by_state (Served code) st some a rest = omega (arith, a.0)
    by_state Blank st some a rest = omega (arith, rest some a, row.0)

-- so an endpoint of which an end is told is near, whether stale or not
pub told_near : (size : ℕ) (e : Endpoint) (os : List Errand) (ns : List Event) (b : KeptEndpoint) (sent : List SentErrand) (told : List Telling) → ShowsEnd size e os ns b sent told → 0 < length (served_events e.line) → AllBefore b.dequeue told → first_place b.line b.end ≤ b.dequeue
told_near size e os ns b sent told s some a =
    let first : AllBefore b.dequeue (told_of size e.line b.line) = before_front b.dequeue (told_of size e.line b.line) (tail_told size e.line b.line b.errand s.tail) (subst (AllBefore b.dequeue) s.told_is a) in
    told_from size b.dequeue e.line b.line b.end s.kept s.row some first

-- where what is told of the ends points at a place or before it, each served item begins there or before
abbrev pub low_by : ItemState → ℕ → ℕ → Type 0
low_by Waiting place p = Unit {0}
low_by (Served code) place p = place ≤ p
low_by Blank place p = Unit {0}

abbrev pub ServedLow : ℕ → List Item → List KeptTransfer → Type 0
ServedLow p (x ∷ xs) (y ∷ ys) = low_by x.state y.place p × ServedLow p xs ys
ServedLow p _ _ = Unit {0}

served_low : (size p : ℕ) (xs : List Item) (ys : List KeptTransfer) → AllBefore p (told_of size xs ys) → ServedLow p xs ys
unfolding told_of
served_low size p [] ys a = tt
served_low size p (x ∷ xs) [] a = tt
served_low size p (x ∷ xs) (y ∷ ys) a = by_state x.state a (served_low size p xs ys)
  where
    by_state : (s : ItemState) → AllBefore p (told_by size x y s (told_of size xs ys)) → (AllBefore p (told_of size xs ys) → ServedLow p xs ys) → low_by s y.place p × ServedLow p xs ys
    by_state Waiting a rest = (tt, rest a)
    by_state (Served code) a rest = (omega (arith, a.0), rest a.1)
    by_state Blank a rest = (tt, rest a)

-- so at an endpoint that is near
pub near_served : (size : ℕ) (e : Endpoint) (os : List Errand) (ns : List Event) (b : KeptEndpoint) (sent : List SentErrand) (told : List Telling) → ShowsEnd size e os ns b sent told → AllBefore b.dequeue told → ServedLow b.dequeue e.line b.line
near_served size e os ns b sent told s a = served_low size b.dequeue e.line b.line (before_front b.dequeue (told_of size e.line b.line) (tail_told size e.line b.line b.errand s.tail) (subst (AllBefore b.dequeue) s.told_is a))
