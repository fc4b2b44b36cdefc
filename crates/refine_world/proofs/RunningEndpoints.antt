-- A running endpoint's controller stands at the first transfer that waits, and what was read of that is no more than what moved of it.
use Rattle.std.proofs.Common.{None, Option, Some, ap, arith, inl, inr, length, refl, subst, sym, List, ℕ, ◌≤◌, ◌∙◌, ◌≡◌, ◌⊎◌, false}
use Rattle.std.proofs.lemmas.Option.{same_Some}
use Rattle.usb_model.specs.declared.errand.Errand.{Errand}
use Rattle.usb_model.specs.declared.endpoint.Endpoint.{Endpoint}
use Rattle.usb_model.specs.declared.endpoint.EndpointState.TheVariants.{Running}
use Rattle.usb_model.specs.declared.item.Item.{Item}
use Rattle.usb_model.specs.declared.news.Event.{Event}
use Rattle.usb_model.specs.declared.outcome.Outcome.{Outcome}
use Rattle.usb_model.specs.declared.request.Body.{Body}
use Rattle.usb_model.specs.declared.request.Body.TheVariants.{In, Out}
use Rattle.usb_model.specs.Coherence.{IsCoherent}
use Rattle.usb_model.specs.Endpoint.{bytes_read, first_waiting, outcome_of}
use Rattle.usb_model.specs.Endpoint.Packets.{count_of}
use Rattle.usb_model.specs.Setup.{Setup, packet_size_of}
use Rattle.usb_model.specs.World.{World, holder}
use Rattle.usb_model.specs.Events.{find_at}
use Rattle.usb_model.specs.Kept.{KeptEndpoint, KeptTransfer, SentErrand, Telling}
use Rattle.usb_model.specs.Packets.{sent_before}
use Rattle.refine_world.specs.Lively.{IsFine}
use Rattle.refine_world.specs.ShownEndpoint.{ShowsEnd, front_of, is_stale}
use Rattle.refine_world.specs.Shows.{Core, Shows}
use Rattle.refine_world.proofs.Fronts.{Fronted, fronts}
use Rattle.refine_world.proofs.Links.{known}
use Rattle.refine_world.proofs.Serves.{At, at_front, find_end, fresh_running, front_none}

-- where none waits the controller stands at the line's end
pub at_end : (size : ℕ) (e : Endpoint) (os : List Errand) (ns : List Event) (b : KeptEndpoint) (sent : List SentErrand) (told : List Telling) → ShowsEnd size e os ns b sent told → is_stale e.state e.errand os ≡ false → first_waiting e.line ≡ None → b.dequeue ≡ b.end
at_end size e os ns b sent told s fresh none = ap (λ f. f.place) (s.stands fresh) ∙ front_none size e.line b.line b.end none

-- the transfer where the controller stands is the first that waits
pub record Stood (size : ℕ) (e : Endpoint) (b : KeptEndpoint) (x : Item) : Type 0 where
  pub first : first_waiting e.line ≡ Some x
  pub fronted : Fronted size e.line b.line b.end x
  pub stands : record { place = b.dequeue; within = b.within } ≡ front_of size x fronted.y
  pub found : find_at b.dequeue b.line ≡ Some fronted.y

-- where the endpoint isn't stale
pub stood : (size : ℕ) (e : Endpoint) (os : List Errand) (ns : List Event) (b : KeptEndpoint) (sent : List SentErrand) (told : List Telling) (x : Item) → IsCoherent e os ns → ShowsEnd size e os ns b sent told → is_stale e.state e.errand os ≡ false → first_waiting e.line ≡ Some x → Stood size e b x
stood size e os ns b sent told x c s fresh first =
    let f : Fronted size e.line b.line b.end x = fronts size e.line b.line b.end x s.kept s.row c.in_order first in
    let at : record { place = b.dequeue; within = b.within } ≡ front_of size x f.y = s.stands fresh ∙ f.stands in
    record { first = first; fronted = f; stands = at; found = subst (λ p. find_at p b.line ≡ Some f.y) (f.at ∙ sym (ap (λ f. f.place) at)) f.found }

-- a transfer that is found there is the first that waits
pub found_waits : (size : ℕ) (e : Endpoint) (os : List Errand) (ns : List Event) (b : KeptEndpoint) (sent : List SentErrand) (told : List Telling) (y : KeptTransfer) → IsCoherent e os ns → ShowsEnd size e os ns b sent told → is_stale e.state e.errand os ≡ false → find_at b.dequeue b.line ≡ Some y
    → (x : Item) × (a : Stood size e b x) × (a.fronted.y ≡ y)
found_waits size e os ns b sent told y c s fresh found = by_first (first_waiting e.line) refl
  where
    by_first : (o : Option Item) → first_waiting e.line ≡ o → (x : Item) × (a : Stood size e b x) × (a.fronted.y ≡ y)
    by_first None none =
        let end : b.dequeue ≡ b.end = at_end size e os ns b sent told s fresh none in
        absurd (cc (found, (find_end b.dequeue b.end b.line s.row (omega (arith, end))).1))
    by_first (Some x) first =
        let a : Stood size e b x = stood size e os ns b sent told x c s fresh first in
        (x, a, same_Some a.fronted.y y (sym a.found ∙ found))

-- the front of a running endpoint: the line's end, or a transfer in progress
pub stands_running : (size : ℕ) (e : Endpoint) (os : List Errand) (ns : List Event) (b : KeptEndpoint) (sent : List SentErrand) (told : List Telling) → IsCoherent e os ns → ShowsEnd size e os ns b sent told → b.state ≡ Running
    → (b.dequeue ≡ b.end) ⊎ ((y : KeptTransfer) × (find_at b.dequeue b.line ≡ Some y) × (y.blank ≡ false))
stands_running size e os ns b sent told c s runs = by_first (first_waiting e.line) refl
  where
    fresh : is_stale e.state e.errand os ≡ false
    fresh = fresh_running e.state e.errand os (sym s.state ∙ runs)

    by_first : (o : Option Item) → first_waiting e.line ≡ o → (b.dequeue ≡ b.end) ⊎ ((y : KeptTransfer) × (find_at b.dequeue b.line ≡ Some y) × (y.blank ≡ false))
    by_first None none = inl (at_end size e os ns b sent told s fresh none)
    by_first (Some x) first =
        let a : Stood size e b x = stood size e os ns b sent told x c s fresh first in
        inr (a.fronted.y, a.found, a.fronted.blank)

-- the bytes read are those of the packets that moved, or none
read_few : (body : Body) (o : Outcome) → length (bytes_read body o) ≤ count_of o
read_few (In n) o = omega arith
read_few (Out bytes) o = omega arith

-- what was read of the transfer there
pub reads_running : (size : ℕ) (e : Endpoint) (os : List Errand) (ns : List Event) (b : KeptEndpoint) (sent : List SentErrand) (told : List Telling) (y : KeptTransfer) → IsCoherent e os ns → ShowsEnd size e os ns b sent told → b.state ≡ Running → find_at b.dequeue b.line ≡ Some y
    → length y.bytes ≤ sent_before b y
reads_running size e os ns b sent told y c s runs found =
    let w = found_waits size e os ns b sent told y c s (fresh_running e.state e.errand os (sym s.state ∙ runs)) found in
    let x : Item = w.0 in
    let f : Fronted size e.line b.line b.end x = w.1.fronted in
    let at : At size b x f.y = at_front size b x f.y f.some f.live w.1.stands in
    subst (λ z. length z.bytes ≤ sent_before b z) w.2 (omega (arith, at.before, ap length f.live.bytes, read_few x.request.body (outcome_of size x)))

-- in a core that shows a world
pub fresh_while_running : (setup : Setup) (w : World) (c : Core) → Shows setup w c → IsFine setup → (h d e : ℕ) → holder setup w.claims d e ≡ Some h → (c.endpoints d e).state ≡ Running
    → ((c.endpoints d e).dequeue ≡ (c.endpoints d e).end) ⊎ ((y : KeptTransfer) × (find_at (c.endpoints d e).dequeue (c.endpoints d e).line ≡ Some y) × (y.blank ≡ false))
fresh_while_running setup w c s fine h d e holds runs = stands_running (packet_size_of setup d e) (w.endpoints d e) _ _ (c.endpoints d e) _ _ (known setup w c s fine h d e holds).fit.coherent (s.endpoints h d e holds) runs

-- and what was read there
pub reads_so_far : (setup : Setup) (w : World) (c : Core) → Shows setup w c → IsFine setup → (h d e : ℕ) → holder setup w.claims d e ≡ Some h → (c.endpoints d e).state ≡ Running → (y : KeptTransfer) → find_at (c.endpoints d e).dequeue (c.endpoints d e).line ≡ Some y
    → length y.bytes ≤ sent_before (c.endpoints d e) y
reads_so_far setup w c s fine h d e holds runs y found = reads_running (packet_size_of setup d e) (w.endpoints d e) _ _ (c.endpoints d e) _ _ y (known setup w c s fine h d e holds).fit.coherent (s.endpoints h d e holds) runs found
