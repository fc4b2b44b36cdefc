-- The orders that wait, where an endpoint is another.
use Rattle.std.proofs.Common.{◌≡◌, ℕ, suc, refl, ap, ap₂, sym, ◌∙◌, List, [], ◌∷◌, ◌++◌, length, Some, None, Option, Bool, true, false, eqb-true}
use Rattle.std.specs.Prelude.{◌==◌, ◌&&◌, ◌||◌, if◌then◌else◌}
use Rattle.usb_model.specs.declared.endpoint.EndpointState.{EndpointState}
use Rattle.usb_model.specs.declared.endpoint.EndpointState.TheVariants.{Running, Stopped, Halted}
use Rattle.usb_model.specs.declared.errand.Errand.{Errand}
use Rattle.usb_model.specs.declared.errand.Errand.TheVariants as errand
use Rattle.usb_model.specs.Endpoint.Serve as service
use Rattle.usb_model.specs.Endpoint.Status.{halts}
use Rattle.usb_model.specs.Setup.{endpoint_id}
use Rattle.usb_trb.specs.declared.kind.TrbKind.{TrbKind}
use Rattle.usb_trb.specs.declared.kind.TrbKind.TheVariants.{SetDequeue}
use Rattle.usb_rings.specs.Places.{address_of, cycle_of}
use Rattle.usb_model.specs.Kept.{KeptEndpoint, KeptTransfer, first_place}
use Rattle.usb_model.specs.Events.{find_at, past_at, past_kept_blanks}
use Rattle.usb_model.specs.Packets.{Packet, answer_now, answered_by, answered_gone, endpoint_with, gave, got, packet_now, put_at, sent_before, serve_at, serve_kept}
use Rattle.usb_model.specs.Commands as kept
use Rattle.usb_rings.specs.Line.{places}
use Rattle.refine_rings.specs.EndpointLaws.{HaveTrbsOf, start_of}
use Rattle.refine_rings.proofs.Goes.{put_same}
use Rattle.refine_world.specs.Shows.{RingOrder}
use Rattle.refine_rings.specs.Holds.{AllPosted, IsPosted, ring_at, with_end}
use Rattle.refine_world.specs.Known.{NoMove}

-- an order is one of any endpoint that goes on there
pub posted_kept : (b after : KeptEndpoint) (d e : ℕ) (o : Errand) (t : TrbKind) → start_of after ≡ start_of b → IsPosted b d e o t → IsPosted after d e o t
posted_kept b after d e errand.Stop t same is = is
posted_kept b after d e errand.Reset t same is = is
posted_kept b after d e errand.Move t same is = is ∙ ap (λ (n : ℕ). SetDequeue (address_of places (ring_at d e) n) (cycle_of places n) (suc d) (endpoint_id e)) (sym same)

-- where no order to go on there waits, it doesn't matter
posted_else : (b after : KeptEndpoint) (d e : ℕ) (o : Errand) (t : TrbKind) → (o ≡ errand.Move → ⊥) → IsPosted b d e o t → IsPosted after d e o t
posted_else b after d e errand.Stop t other is = is
posted_else b after d e errand.Reset t other is = is
posted_else b after d e errand.Move t other is = absurd (other refl)

-- all orders
pub orders_kept : (endpoints : ℕ → ℕ → KeptEndpoint) (d e : ℕ) (b : KeptEndpoint) (orders : List RingOrder) (ks : List TrbKind) → start_of b ≡ start_of (endpoints d e)
    → AllPosted endpoints orders ks → AllPosted (with_end endpoints d e b) orders ks
orders_kept endpoints d e b [] [] same all = tt
orders_kept endpoints d e b [] (k ∷ ks) same all = absurd all
orders_kept endpoints d e b (o ∷ os) [] same all = absurd all
orders_kept endpoints d e b (o ∷ os) (k ∷ ks) same all =
    (posted_kept (endpoints o.dev o.ep) (with_end endpoints d e b o.dev o.ep) o.dev o.ep o.errand k (by_tests (d == o.dev) (e == o.ep) refl refl) all.0, orders_kept endpoints d e b os ks same all.1)
  where
    by_tests : (x y : Bool) → (d == o.dev) ≡ x → (e == o.ep) ≡ y → start_of (if x && y then b else endpoints o.dev o.ep) ≡ start_of (endpoints o.dev o.ep)
    by_tests true true p q = same ∙ ap₂ (λ (m n : ℕ). start_of (endpoints m n)) (eqb-true d o.dev p) (eqb-true e o.ep q)
    by_tests true false p q = refl
    by_tests false y p q = refl

-- where no order waits to go on there, whatever the endpoint
pub orders_still : (endpoints : ℕ → ℕ → KeptEndpoint) (d e : ℕ) (b : KeptEndpoint) (orders : List RingOrder) (ks : List TrbKind) → NoMove d e orders
    → AllPosted endpoints orders ks → AllPosted (with_end endpoints d e b) orders ks
orders_still endpoints d e b [] [] none all = tt
orders_still endpoints d e b [] (k ∷ ks) none all = absurd all
orders_still endpoints d e b (o ∷ os) [] none all = absurd all
orders_still endpoints d e b (o ∷ os) (k ∷ ks) none all = (by_tests (d == o.dev) (e == o.ep) refl refl, orders_still endpoints d e b os ks none.1 all.1)
  where
    by_tests : (x y : Bool) → (d == o.dev) ≡ x → (e == o.ep) ≡ y → IsPosted (if x && y then b else endpoints o.dev o.ep) o.dev o.ep o.errand k
    by_tests true true p q = posted_else (endpoints o.dev o.ep) b o.dev o.ep o.errand k (λ moves. none.0 (sym (eqb-true d o.dev p), sym (eqb-true e o.ep q), moves)) all.0
    by_tests true false p q = all.0
    by_tests false y p q = all.0

-- one more order
pub orders_more : (endpoints : ℕ → ℕ → KeptEndpoint) (orders : List RingOrder) (ks : List TrbKind) (o : RingOrder) (t : TrbKind) → AllPosted endpoints orders ks → IsPosted (endpoints o.dev o.ep) o.dev o.ep o.errand t
    → AllPosted endpoints (orders ++ o ∷ []) (ks ++ t ∷ [])
orders_more endpoints [] [] o t all is = (is, tt)
orders_more endpoints [] (k ∷ ks) o t all is = absurd all
orders_more endpoints (x ∷ xs) [] o t all is = absurd all
orders_more endpoints (x ∷ xs) (k ∷ ks) o t all is = (all.0, orders_more endpoints xs ks o t all.1 is)

-- as many orders as TRBs
pub orders_length : (endpoints : ℕ → ℕ → KeptEndpoint) (orders : List RingOrder) (ks : List TrbKind) → AllPosted endpoints orders ks → length ks ≡ length orders
orders_length endpoints [] [] all = refl
orders_length endpoints [] (k ∷ ks) all = absurd all
orders_length endpoints (o ∷ os) [] all = absurd all
orders_length endpoints (o ∷ os) (k ∷ ks) all = ap suc (orders_length endpoints os ks all.1)

-- lines of the same TRBs go on at the same place
pub start_same : (ys zs : List KeptTransfer) (end : ℕ) → HaveTrbsOf ys zs → first_place (past_kept_blanks zs) end ≡ first_place (past_kept_blanks ys) end
unfolding past_kept_blanks
start_same [] [] end same = refl
start_same [] (z ∷ zs) end same = absurd same
start_same (y ∷ ys) [] end same = absurd same
start_same (y ∷ ys) (z ∷ zs) end same =
    ap (λ (t : Bool). first_place (if t then past_kept_blanks zs else z ∷ zs) end) same.0.blank ∙ by_test y.blank (start_same ys zs end same.1)
  where
    by_test : (t : Bool) → first_place (past_kept_blanks zs) end ≡ first_place (past_kept_blanks ys) end
        → first_place (if t then past_kept_blanks zs else z ∷ zs) end ≡ first_place (if t then past_kept_blanks ys else y ∷ ys) end
    by_test true rest = rest
    by_test false rest = same.0.place

-- so does one that another transfer joins at its end
pub start_joined : (ys : List KeptTransfer) (z : KeptTransfer) (end after : ℕ) → z.blank ≡ false → z.place ≡ end → first_place (past_kept_blanks (ys ++ z ∷ [])) after ≡ first_place (past_kept_blanks ys) end
unfolding past_kept_blanks
start_joined [] z end after live place = ap (λ (t : Bool). first_place (if◌then◌else◌ {A = List KeptTransfer} t [] (z ∷ [])) after) live ∙ place
start_joined (y ∷ ys) z end after live place = by_test y.blank (start_joined ys z end after live place)
  where
    by_test : (t : Bool) → first_place (past_kept_blanks (ys ++ z ∷ [])) after ≡ first_place (past_kept_blanks ys) end
        → first_place (if t then past_kept_blanks (ys ++ z ∷ []) else y ∷ ys ++ z ∷ []) after ≡ first_place (if t then past_kept_blanks ys else y ∷ ys) end
    by_test true rest = rest
    by_test false rest = refl

-- a packet changes neither
pub start_served : (size : ℕ) (gone : Bool) (b : KeptEndpoint) → start_of (serve_kept size gone b).endpoint ≡ start_of b
unfolding serve_kept serve_at answered_by answered_gone
start_served size gone b = by_state gone b.state (find_at b.dequeue b.line) refl
  where
    by_code : (y : KeptTransfer) (k : Packet) (o : Option ℕ) → find_at b.dequeue b.line ≡ Some y → start_of (answered_by b y k o).endpoint ≡ start_of b
    by_code y k o found = by_end o
      where
        line : List KeptTransfer
        line = put_at b.dequeue (record y { bytes = y.bytes ++ got y.request.body (answer_now b) k.bytes }) b.line

        there : first_place (past_kept_blanks line) b.end ≡ start_of b
        there = start_same b.line line b.end (put_same b.line b.dequeue y (record y { bytes = y.bytes ++ got y.request.body (answer_now b) k.bytes }) found (record { place = refl; lengths = refl; blank = refl; request = refl }))

        after : KeptEndpoint
        after = endpoint_with b y k (gave y.request.body (answer_now b) (sent_before b y) k.bytes)

        by_halt : (t : Bool)
            → start_of (record (if◌then◌else◌ {A = KeptEndpoint} t (record after { state = Halted }) (record after { dequeue = first_place (past_kept_blanks (past_at b.dequeue b.line)) b.end; within = 0 }))
            { device_halted = b.device_halted || service.is_stall (answer_now b) }) ≡ start_of b
        by_halt true = there
        by_halt false = there

        by_end : (o' : Option ℕ) → start_of (answered_by b y k o').endpoint ≡ start_of b
        by_end None = there
        by_end (Some code) = by_halt (halts code)

    by_state : (g : Bool) (s : EndpointState) (o : Option KeptTransfer) → find_at b.dequeue b.line ≡ o → start_of (serve_at size g b s o).endpoint ≡ start_of b
    by_state true Running (Some y) q = refl
    by_state false Running (Some y) q = by_code y (packet_now size b y) (packet_now size b y).code q
    by_state true Running None q = refl
    by_state false Running None q = refl
    by_state true Stopped o q = refl
    by_state false Stopped o q = refl
    by_state true Halted o q = refl
    by_state false Halted o q = refl

-- nor does an order
pub start_carried : (index : ℕ) (b : KeptEndpoint) (o : Errand) (s : EndpointState) → start_of (kept.carry index b o s).endpoint ≡ start_of b
unfolding kept.carry
start_carried index b errand.Stop Running = refl
start_carried index b errand.Stop Stopped = refl
start_carried index b errand.Stop Halted = refl
start_carried index b errand.Reset Running = refl
start_carried index b errand.Reset Stopped = refl
start_carried index b errand.Reset Halted = refl
start_carried index b errand.Move Running = refl
start_carried index b errand.Move Stopped = refl
start_carried index b errand.Move Halted = refl
