-- As many events are told as the world has news, and the orders sent are the world's.
use Rattle.std.proofs.Common.{Bool, List, Option, Some, [], ap, arith, false, length, length-append, refl, suc, sym, true, zero, ℕ, ◌++◌, ◌∙◌, ◌∷◌, ◌≡◌}
use Rattle.std.specs.Prelude.{if◌then◌else◌}
use Rattle.std.proofs.lemmas.List.{append_cancel_left, map-append}
use Rattle.usb_model.specs.declared.errand.Errand.{Errand}
use Rattle.usb_model.specs.declared.endpoint.Endpoint.{Endpoint}
use Rattle.usb_model.specs.declared.item.Item.{Item}
use Rattle.usb_model.specs.declared.item.ItemState.TheVariants.{Blank, Served, Waiting}
use Rattle.usb_model.specs.declared.item.ItemState.{ItemState}
use Rattle.usb_model.specs.declared.news.Event.TheVariants.{Finished, Paused, Settled}
use Rattle.usb_model.specs.declared.news.Event.{Event}
use Rattle.usb_model.specs.Endpoint.{first_waiting, is_waiting}
use Rattle.usb_model.specs.Coherence.{event_by, served_events}
use Rattle.refine_world.specs.ShownEndpoint.{AllKept, FirstPaused, ShowsEnd, orders_sent, pause_told, tail_told, telling_of, told_by, told_of}
use Rattle.usb_model.specs.Kept.{KeptEndpoint, KeptTransfer, SentErrand, Telling}
use Rattle.refine_world.specs.Shows.{Report, errands, events, tellings}

-- an end for each served transfer
count_told : (size : ℕ) (xs : List Item) (ys : List KeptTransfer) → AllKept size xs ys → length (told_of size xs ys) ≡ length (served_events xs)
unfolding told_of served_events
count_told size [] [] k = refl
count_told size [] (y ∷ ys) k = absurd k
count_told size (x ∷ xs) [] k = absurd k
count_told size (x ∷ xs) (y ∷ ys) k = by_state x.state (count_told size xs ys k.1)
  where
    by_state : (s : ItemState) → length (told_of size xs ys) ≡ length (served_events xs) → length (told_by size x y s (told_of size xs ys)) ≡ length (event_by x.n s (served_events xs))
    by_state Waiting e = e
    by_state (Served code) e = ap suc e
    by_state Blank e = e

-- one pause of the transfer that waits
count_pause : (size : ℕ) (xs : List Item) (ys : List KeptTransfer) (x : Item) → AllKept size xs ys → first_waiting xs ≡ Some x → length (pause_told size xs ys) ≡ suc zero
unfolding pause_told first_waiting
count_pause size [] ys x k first = absurd cc
count_pause size (z ∷ xs) [] x k first = absurd k
count_pause size (z ∷ xs) (y ∷ ys) x k first = by_test (is_waiting z) first (count_pause size xs ys x k.1)
  where
    by_test : (b : Bool) → (if b then Some z else first_waiting xs) ≡ Some x → (first_waiting xs ≡ Some x → length (pause_told size xs ys) ≡ suc zero) → length (if b then telling_of size z y 26 ∷ [] else pause_told size xs ys) ≡ suc zero
    by_test true q rest = refl
    by_test false q rest = rest q

-- an end is told by the served transfers, none of them behind the ends
abbrev pub NoEnds : List Event → Type 0
NoEnds [] = Unit {0}
NoEnds (Finished n code ∷ es) = ⊥
NoEnds (Paused n ∷ es) = NoEnds es
NoEnds (Settled o ok ∷ es) = NoEnds es

count_tail : (size : ℕ) (xs : List Item) (ys : List KeptTransfer) (sent : Option SentErrand) (tail : List Event) → AllKept size xs ys → NoEnds tail → FirstPaused xs tail → length (tail_told size xs ys sent tail) ≡ length tail
count_tail size xs ys sent [] k none p = refl
count_tail size xs ys sent (Finished n code ∷ es) k none p = absurd none
count_tail size xs ys sent (Paused n ∷ es) k none p =
    omega (arith, length-append (pause_told size xs ys) (tail_told size xs ys sent es), count_pause size xs ys p.0.0 k p.0.1, count_tail size xs ys sent es k none p.1)
count_tail size xs ys sent (Settled o ok ∷ es) k none p = ap suc (count_tail size xs ys sent es k none p)

-- as many as the news
pub as_many : (size : ℕ) (e : Endpoint) (os : List Errand) (ns : List Event) (b : KeptEndpoint) (sent : List SentErrand) (told : List Telling) → (s : ShowsEnd size e os ns b sent told) → NoEnds s.tail → length told ≡ length ns
as_many size e os ns b sent told s none =
    omega (arith, ap length s.told_is, ap length s.news, length-append (told_of size e.line b.line) (tail_told size e.line b.line b.errand s.tail), length-append (served_events e.line) s.tail, count_told size e.line b.line s.kept, count_tail size e.line b.line b.errand s.tail s.kept none s.paused)

-- the orders that are sent are the endpoint's
pub errands_sent : (sent : Option SentErrand) (os : List Errand) → errands (orders_sent sent os) ≡ os
errands_sent sent [] = refl
errands_sent sent (o ∷ os) = ap (λ l. o ∷ l) (errands_sent sent os)

-- so those that were added are
pub errands_added : (sent : Option SentErrand) (xs more : List SentErrand) (os : List Errand) → xs ++ more ≡ orders_sent sent (errands xs ++ os) → errands more ≡ os
errands_added sent xs more os e = append_cancel_left (errands xs) (errands more) os (sym (map-append (λ x. x.errand) xs more) ∙ (ap errands e ∙ errands_sent sent (errands xs ++ os)))

-- events with what is told of them
abbrev pub reports : List Event → List Telling → List Report
reports (x ∷ xs) (t ∷ ts) = record { event = x; telling = t } ∷ reports xs ts
reports _ _ = []

pub events_reported : (xs : List Event) (ts : List Telling) → length ts ≡ length xs → events (reports xs ts) ≡ xs
events_reported [] [] e = refl
events_reported [] (t ∷ ts) e = absurd (omega (arith, e))
events_reported (x ∷ xs) [] e = absurd (omega (arith, e))
events_reported (x ∷ xs) (t ∷ ts) e = ap (λ l. x ∷ l) (events_reported xs ts (omega (arith, e)))

pub tellings_reported : (xs : List Event) (ts : List Telling) → length ts ≡ length xs → tellings (reports xs ts) ≡ ts
tellings_reported [] [] e = refl
tellings_reported [] (t ∷ ts) e = absurd (omega (arith, e))
tellings_reported (x ∷ xs) [] e = absurd (omega (arith, e))
tellings_reported (x ∷ xs) (t ∷ ts) e = ap (λ l. t ∷ l) (tellings_reported xs ts (omega (arith, e)))
