-- An endpoint stays near where an answer halts it, and where an order is carried out that leaves it stale.
use Rattle.std.proofs.Common.{Bool, List, None, Option, Some, [], ap, append-nil, arith, false, inl, inr, length, refl, subst, subst₂, sym, true, ℕ, ◌+◌, ◌++◌, ◌-◌, ◌≤◌, ◌∙◌, ◌∷◌, ◌≡◌}
use Rattle.std.specs.Prelude.{if◌then◌else◌}
use Rattle.usb_model.specs.Coherence.{IsCoherent}
use Rattle.usb_model.specs.Endpoint.Command.{command}
use Rattle.usb_model.specs.Endpoint.Status.{halts}
use Rattle.usb_model.specs.declared.endpoint.Endpoint.{Endpoint}
use Rattle.usb_model.specs.declared.endpoint.EndpointState.TheVariants.{Halted, Running, Stopped}
use Rattle.usb_model.specs.declared.endpoint.EndpointState.{EndpointState}
use Rattle.usb_model.specs.declared.errand.Errand.TheVariants as errand
use Rattle.usb_model.specs.declared.errand.Errand.{Errand}
use Rattle.usb_model.specs.declared.item.Item.{Item}
use Rattle.usb_model.specs.declared.news.Event.{Event}
use Rattle.usb_model.specs.Commands.{carry}
use Rattle.usb_model.specs.Events.{find_at, past_at, past_kept_blanks}
use Rattle.usb_model.specs.Kept.{Completion, KeptEndpoint, KeptTransfer, SentErrand, Telling, code_of, first_place}
use Rattle.usb_model.specs.Packets.{Packet, answer_now, answered_by, answered_gone, endpoint_with, event_at, gave, got, packet_now, put_at, sent_before, serve_at, serve_kept, walk}
use Rattle.usb_model.specs.Stands.{stand}
use Rattle.refine_world.specs.ShownEndpoint.{IsNear, ShowsEnd, StandsNear, count, is_stale}
use Rattle.refine_world.proofs.Ahead.{before_and, before_later}
use Rattle.refine_world.proofs.Commands.{Ways}
use Rattle.refine_world.proofs.Fronts.{Fronted}
use Rattle.refine_world.proofs.Places.{is_at, put_first, stand_behind}
use Rattle.refine_world.proofs.RunningEndpoints.{found_waits}
use Rattle.refine_world.proofs.Serves.{At, at_front, fresh_running, walked}

-- a stale endpoint doesn't run
pub stale_still : (s : EndpointState) (er : Option Errand) (os : List Errand) → is_stale s er os ≡ true → s ≡ Running → ⊥
stale_still s er os stale runs = let fresh : is_stale s er os ≡ false = fresh_running s er os runs in cc

-- nothing more is told
pub near_still : (b : KeptEndpoint) (told : List Telling) → StandsNear b told → StandsNear b (told ++ [])
near_still b told near = subst (StandsNear b) (sym (append-nil told)) near

-- a controller that stands at a transfer where it runs stands there without a byte more
walks_none : (size : ℕ) (e : Endpoint) (os : List Errand) (ns : List Event) (b : KeptEndpoint) (sent : List SentErrand) (told : List Telling) (y : KeptTransfer) → IsCoherent e os ns → ShowsEnd size e os ns b sent told → b.state ≡ Running → find_at b.dequeue b.line ≡ Some y → (walk b y 0).index ≡ 0
walks_none size e os ns b sent told y c s runs found =
    let w = found_waits size e os ns b sent told y c s (fresh_running e.state e.errand os (sym s.state ∙ runs)) found in
    let x : Item = w.0 in
    let f : Fronted size e.line b.line b.end x = w.1.fronted in
    let at : At size b x f.y = at_front size b x f.y f.some f.live w.1.stands in
    let same : count size x + 0 ≡ count size x = omega arith in
    subst (λ z. (walk b z 0).index ≡ 0) w.2 (omega (arith, (walked size b x f.y 0 f.some at).0, at.is, ap (λ n. (stand f.y.lengths n).index) same))

-- an answer that stops the endpoint
pub serve_near : (size : ℕ) (gone : Bool) (e : Endpoint) (os : List Errand) (ns : List Event) (b : KeptEndpoint) (sent : List SentErrand) (told : List Telling) → IsCoherent e os ns → ShowsEnd size e os ns b sent told → StandsNear b told
    → ((serve_kept size gone b).endpoint.state ≡ Running → ⊥) → StandsNear (serve_kept size gone b).endpoint (told ++ (serve_kept size gone b).told)
unfolding serve_kept serve_at answered_by answered_gone
serve_near size gone e os ns b sent told c s near = by_state gone b.state refl (find_at b.dequeue b.line) refl
  where
    stops_at : (y z : KeptTransfer) (k code : ℕ) → find_at b.dequeue b.line ≡ Some y → z.place ≡ y.place → IsNear (put_at b.dequeue z b.line) b.end (b.dequeue + (walk b y k).index) (told ++ event_at b y (walk b y k) code ∷ [])
    stops_at y z k code q same =
        let a = is_at b.dequeue y b.line b.end s.row q in
        let first : first_place (put_at b.dequeue z b.line) b.end ≡ first_place b.line b.end = put_first b.dequeue y z b.line b.end q same in
        let on : b.dequeue - y.place + (walk b y k).index ≤ length y.lengths = omega (arith, stand_behind (b.dequeue - y.place) y.lengths (b.within + k) (omega (arith, a.low, a.high))) in
        record {
          near = omega (arith, first, near.near);
          inside = omega (arith, on, a.low, a.inside);
          before = before_and _ told (event_at b y (walk b y k) code ∷ []) (before_later b.dequeue _ told (omega arith) near.before) (omega arith, tt);
        }

    by_code : b.state ≡ Running → (y : KeptTransfer) (k : Packet) (o : Option ℕ) → find_at b.dequeue b.line ≡ Some y → ((answered_by b y k o).endpoint.state ≡ Running → ⊥) → StandsNear (answered_by b y k o).endpoint (told ++ (answered_by b y k o).told)
    by_code runs y k None q not = absurd (not runs)
    by_code runs y k (Some code) q not = by_halt (halts code) not
      where
        halted : KeptEndpoint
        halted = record (endpoint_with b y k (gave y.request.body (answer_now b) (sent_before b y) k.bytes)) { state = Halted }

        on : KeptEndpoint
        on = record (endpoint_with b y k (gave y.request.body (answer_now b) (sent_before b y) k.bytes)) { dequeue = first_place (past_kept_blanks (past_at b.dequeue b.line)) b.end; within = 0 }

        by_halt : (t : Bool) → ((if◌then◌else◌ {A = KeptEndpoint} t halted on).state ≡ Running → ⊥) → StandsNear (if t then halted else on) (told ++ event_at b y (walk b y k.bytes) code ∷ [])
        by_halt true not = stops_at y (record y { bytes = y.bytes ++ got y.request.body (answer_now b) k.bytes }) k.bytes code q refl
        by_halt false not = absurd (not runs)

    by_gone : b.state ≡ Running → (y : KeptTransfer) → find_at b.dequeue b.line ≡ Some y → StandsNear (answered_gone b y).endpoint (told ++ (answered_gone b y).told)
    by_gone runs y q = record { near = near.near; inside = near.inside; before = before_and b.dequeue told _ near.before (omega (arith, walks_none size e os ns b sent told y c s runs q), tt) }

    by_state : (g : Bool) (t : EndpointState) → b.state ≡ t → (o : Option KeptTransfer) → find_at b.dequeue b.line ≡ o → ((serve_at size g b t o).endpoint.state ≡ Running → ⊥) → StandsNear (serve_at size g b t o).endpoint (told ++ (serve_at size g b t o).told)
    by_state true Running runs (Some y) q not = by_gone runs y q
    by_state false Running runs (Some y) q not = by_code runs y (packet_now size b y) (packet_now size b y).code q not
    by_state true Running runs None q not = near_still b told near
    by_state false Running runs None q not = near_still b told near
    by_state true Stopped runs o q not = near_still b told near
    by_state false Stopped runs o q not = near_still b told near
    by_state true Halted runs o q not = near_still b told near
    by_state false Halted runs o q not = near_still b told near

-- an order that leaves it stale: Stop that fails, and Reset
pub carry_near : (size ep index : ℕ) (e : Endpoint) (b : KeptEndpoint) (o : Errand) (os : List Errand) (es tail : List Event) (told : List Telling) → Ways e.state e.errand o os es tail → b.state ≡ e.state → StandsNear b told
    → is_stale (command size ep e o e.state).endpoint.state (command size ep e o e.state).endpoint.errand (os ++ (command size ep e o e.state).orders) ≡ true → StandsNear (carry index b o b.state).endpoint (told ++ (carry index b o b.state).told)
unfolding carry command
carry_near size ep index e b o os es tail told way same near stale = by_way way
  where
    Near : Errand → EndpointState → Type 0
    Near x t = StandsNear (carry index b x t).endpoint (told ++ (carry index b x t).told)

    IsStale : Errand → EndpointState → Option Errand → List Errand → Type 0
    IsStale x t er l = is_stale (command size ep (record e { errand = er }) x t).endpoint.state (command size ep (record e { errand = er }) x t).endpoint.errand (l ++ (command size ep (record e { errand = er }) x t).orders) ≡ true

    more : (code : ℕ) → IsNear b.line b.end b.dequeue (told ++ Completion index code ∷ [])
    more code = record { near = near.near; inside = near.inside; before = before_and b.dequeue told (Completion index code ∷ []) near.before (tt, tt) }

    by_way : Ways e.state e.errand o os es tail → Near o b.state
    by_way (inl w) = let no : IsStale errand.Stop Running (Some errand.Stop) [] = subst₂ (λ x t. IsStale x t (Some errand.Stop) []) w.2 w.0 (subst₂ (λ er l. IsStale o e.state er l) w.1 w.3 stale) in absurd cc
    by_way (inr (inl w)) = subst₂ Near (sym w.2) (sym (same ∙ w.0)) (more (code_of false))
    by_way (inr (inr (inl (w, none)))) = subst₂ Near (sym w.2) (sym (same ∙ w.0)) (more (code_of true))
    by_way (inr (inr (inr (w, none)))) = let no : IsStale errand.Move Stopped (Some errand.Move) [] = subst₂ (λ x t. IsStale x t (Some errand.Move) []) w.2 w.0 (subst₂ (λ er l. IsStale o e.state er l) w.1 w.3 stale) in absurd cc
