-- There is room for the rest of the transfer where the controller works, or its TRB's bytes are there.
use Rattle.std.proofs.Common.{◌≡◌, ℕ, ◌+◌, ◌-◌, ◌%◌, ◌<◌, ◌≤◌, refl, ap, sym, subst, ◌∙◌, arith, List, [], ◌∷◌, length, drop, take, Option, Some, None, Bool, true, false, inl, inr, ◌⊎◌, if◌then◌else◌}
use Rattle.std.specs.Prelude.{is_some, option_map, slice_get}
use Rattle.std.proofs.lemmas.Bool.{cases_lt}
use Rattle.usb_model.specs.declared.request.Body.TheVariants.{In, Out}
use Rattle.usb_model.specs.Requests.{length_of}
use Rattle.usb_model.specs.Setup.{Setup}
use Rattle.usb_model.specs.World.{World}
use Rattle.usb_trb.specs.declared.kind.Normal.{Normal as NormalTrb}
use Rattle.usb_model.specs.Stands.{total}
use Rattle.usb_model.specs.Kept.{KeptEndpoint, KeptTransfer}
use Rattle.usb_model.specs.Events.{find_at}
use Rattle.usb_model.specs.Packets.{sent_before}
use Rattle.usb_device.specs.Pipe.{pipe_at}
use Rattle.usb_tables.specs.declared.transfer.Transfer.{Transfer as InFlight}
use Rattle.usb_tables.specs.Tds.{room_of}
use Rattle.usb_tables.specs.Trbs.{buffer_of}
use Rattle.usb_xhc.specs.declared.trb_at.TrbAt.{TrbAt}
use Rattle.usb_xhc.specs.Ahead.{lengths, room}
use Rattle.usb_xhc.specs.Context.{Context, trbs}
use Rattle.usb_xhc.specs.Transaction.{is_running, offset_by, trb_at, working}
use Rattle.refine_world.specs.Shows.{Core, Shows}
use Rattle.refine_rings.specs.Endpoint.{IsContext}
use Rattle.refine_rings.proofs.Fronts as front
use Rattle.refine_rings.proofs.Reaches.{offset_is}
use Rattle.refine_core.specs.Laws.{SkimsSafely}
use Rattle.refine_core.specs.Packets.{CanSkim}
use Rattle.refine_core.specs.State.{State}
use Rattle.refine_core.specs.Works.{CanSkimItem, IsAt}
use Rattle.refine_core.proofs.Fronts.{IsAtWork, at_work, by_bytes, has_here}
use Rattle.refine_core.proofs.Held.{is_at}

-- where the controller works there is a TRB
pub first_trb : (x : Context) (first : TrbAt) → working x ≡ Some first → slice_get (trbs x) 0 ≡ Some first.trb
first_trb x first work = by_trb (slice_get (trbs x) 0) refl (by_state (is_running x.state) work)
  where
    by_state : (b : Bool) → (if b then trb_at x 0 else None) ≡ Some first → trb_at x 0 ≡ Some first
    by_state true is = is
    by_state false is = absurd cc

    by_trb : (o : Option NormalTrb) → slice_get (trbs x) 0 ≡ o → trb_at x 0 ≡ Some first → o ≡ Some first.trb
    by_trb None is at =
        let none : None ≡ Some first = sym (ap (option_map _) is) ∙ at in
        absurd cc
    by_trb (Some t) is at = ap (option_map (λ (v : TrbAt). v.trb)) (sym (ap (option_map _) is) ∙ at)

-- its bytes are of those that are left
trb_few : (ts : List NormalTrb) (t : NormalTrb) → slice_get ts 0 ≡ Some t → t.length ≤ total (lengths ts)
trb_few [] t there = absurd cc
trb_few (u ∷ us) t there =
    let same : u.length ≡ t.length = ap (λ (o : Option NormalTrb). by_some o) there in
    omega (arith, same)
  where
    by_some : Option NormalTrb → ℕ
    by_some None = 0
    by_some (Some v) = v.length

-- where the transfer stands, there is the rest of it, and the rest of its TRB
record HasRest (c : Context) (b : KeptEndpoint) (y : KeptTransfer) (t : NormalTrb) : Type 0 where
  pub room : sent_before b y + room (trbs c) c.within ≤ length_of y.request.body
  pub reaches : offset_by t c.within + (t.length - c.within) ≤ length_of y.request.body

has_rest : (c : Context) (b : KeptEndpoint) (y : KeptTransfer) (t : NormalTrb) → IsContext c b → front.IsFront c b y → find_at b.dequeue b.line ≡ Some y → slice_get (trbs c) 0 ≡ Some t → HasRest c b y t
has_rest c b y t is f h first = by_size (cases_lt before 262144)
  where
    before : ℕ
    before = total (take (b.dequeue - y.place) y.lengths)

    behind : ℕ
    behind = total (drop (b.dequeue - y.place) y.lengths)

    split : before + behind ≡ total y.lengths
    split = front.total_split y.lengths (b.dequeue - y.place)

    all : total y.lengths ≡ length_of y.request.body
    all = front.total_is c b y f

    inner : b.within ≤ behind
    inner = front.within_total c b y is h

    rest : room (trbs c) c.within ≡ behind - b.within
    rest = front.same_room c b y is f

    at : t.buffer ≡ buffer_of f.sent.key + before
    at = front.buffer_is c b y t f first

    few : t.length ≤ behind
    few = subst (λ (ls : List ℕ). t.length ≤ total ls) (front.lengths_ahead c b y f) (trb_few (trbs c) t first)

    sent : sent_before b y + room (trbs c) c.within ≤ length_of y.request.body
    sent = omega (arith, split, all, inner, rest)

    by_size : (before < 262144) ⊎ (262144 ≤ before) → HasRest c b y t
    by_size (inl less) =
        let there : t.buffer % 262144 ≡ before = ap (λ n. n % 262144) at ∙ offset_is f.sent.key before less in
        record { room = sent; reaches = omega (arith, split, all, inner, few, there, is.partly) }
    by_size (inr full) = record { room = sent; reaches = omega (arith, split, all, inner, few, full, is.partly, f.sent.few) }

module _ {P : Type 0} where
  -- of an item at work
  can_skim : (setup : Setup) (w : World) (s : State P) (c : Core) (h d e item : ℕ) (x : Context) (first : TrbAt) → IsAt setup s c h d e → Shows setup w c → working x ≡ Some first → IsAtWork setup s c h d e item x first → CanSkimItem s d e item
  can_skim setup w s c h d e item x first at shows work is = record { live = ap is_some is.is.found; bytes = by_bytes setup w s c h d e item x first at shows work is (CanSkim s.controller d e) read written }
    where
      t : InFlight P
      t = is.is.t

      b : KeptEndpoint
      b = c.endpoints d e

      left : HasRest x b is.y first.trb
      left = has_rest x b is.y first.trb is.ring.context (front.at_front x b is.y is.ring.context is.found is.live) is.found (first_trb x first work)

      read : (n : ℕ) → length_of is.y.request.body ≡ n → room_of is.y.request.body ≡ n → length t.bytes.items ≡ length is.y.bytes → length is.y.bytes ≤ sent_before b is.y → CanSkim s.controller d e (In n) t
      read n long room_is so_far few =
          has_here s.controller d e (λ v z f. length t.bytes.items + room (trbs z) z.within ≤ t.bytes.capacity) is.slot x first is.there is.context work (omega (arith, few, left.room, is.is.same.room, long, room_is, so_far))

      written : (bytes : List ℕ) → length_of is.y.request.body ≡ length bytes → CanSkim s.controller d e (Out bytes) t
      written bytes long = (
        has_here s.controller d e (λ v z f. z.size ≤ (pipe_at v.pipes e).size) is.slot x first is.there is.context work is.ring.fits,
        has_here s.controller d e (λ v z f. offset_by f.trb z.within + (f.trb.length - z.within) ≤ length bytes) is.slot x first is.there is.context work (omega (arith, left.reaches, long)),
      )

-- of the item where the controller works
pub skims_safely : {P : Type 0} → SkimsSafely P
skims_safely s h d e item is held front =
    let known = front.known item refl in
    let at = is_at is.0 s is.2.0 h d e is.2.1 held in
    can_skim is.0 is.1 s is.2.0 h d e item known.0 known.1 at is.2.2 known.3 (at_work is.0 is.1 s is.2.0 h d e item known.0 known.1 at is.2.2 known.2 known.3 front)
