-- Behind a packet that moved, its transfer is still the one where the controller works.
use Rattle.std.proofs.Common.{◌≡◌, ℕ, zero, suc, ◌+◌, ◌-◌, ◌<◌, ◌≤◌, refl, ap, ap₂, sym, subst, ◌∙◌, arith, List, [], ◌∷◌, ◌++◌, length, drop, Option, Some, None, Bool, true, false, if◌then◌else◌}
use Rattle.std.specs.Prelude.{slice_get, slice_set}
use Rattle.std.proofs.lemmas.List.{length-drop}
use Rattle.std.proofs.lemmas.Option.{same_Some}
use Rattle.usb_model.specs.declared.endpoint.EndpointState.{EndpointState}
use Rattle.usb_model.specs.declared.endpoint.EndpointState.TheVariants.{Running}
use Rattle.usb_model.specs.declared.reply.Reply.TheVariants.{Moved}
use Rattle.usb_model.specs.Setup.{Setup}
use Rattle.usb_model.specs.World.{World}
use Rattle.usb_model.specs.Kept.{InRow, KeptEndpoint, KeptTransfer}
use Rattle.usb_model.specs.Events.{covers, find_at}
use Rattle.usb_model.specs.Packets.{Answered, Packet, answer_now, answered_by, answered_gone, got, packet_now, put_at, serve_at, serve_kept, walk}
use Rattle.usb_xhc.specs.declared.trb_at.TrbAt.{TrbAt}
use Rattle.usb_xhc.specs.Context.{Context}
use Rattle.usb_xhc.specs.Transaction.{working}
use Rattle.refine_world.specs.Shows.{Core, Shows}
use Rattle.refine_world.proofs.Places.{stand_behind}
use Rattle.refine_rings.specs.Endpoint.{IsContext}
use Rattle.refine_rings.proofs.Fronts as front
use Rattle.refine_rings.proofs.Goes.{found_within}
use Rattle.refine_core.specs.State.{State}
use Rattle.refine_core.specs.Works.{IsAt, context_in}
use Rattle.refine_core.proofs.Fronts.{IsAtWork, works_at}
use Rattle.refine_core.proofs.Items.{found_at, one_place}

-- where an endpoint stands there is the transfer of an item
pub record IsNow (b : KeptEndpoint) (item : ℕ) : Type 0 where
  pub y : KeptTransfer
  pub found : find_at b.dequeue b.line ≡ Some y
  pub in_line : slice_get b.line item ≡ Some y

-- this transfer, or one with other bytes, is found where the endpoint stands now
pub record IsNext (b : KeptEndpoint) (p item : ℕ) : Type 0 where
  pub z : KeptTransfer
  pub found : find_at p b.line ≡ Some z
  pub in_line : slice_get b.line item ≡ Some z
  pub low : z.place ≤ b.dequeue
  pub high : b.dequeue < z.place + length z.lengths

-- what was put is found
find_put : (ys : List KeptTransfer) (p : ℕ) (y z : KeptTransfer) → find_at p ys ≡ Some y → covers p z ≡ covers p y → find_at p (put_at p z ys) ≡ Some z
unfolding find_at put_at
find_put [] p y z found same = absurd cc
find_put (x ∷ xs) p y z found same = by_test (covers p x) refl found (find_put xs p y z)
  where
    here : (b : Bool) → covers p z ≡ b → b ≡ true → (if covers p z then Some z else find_at p xs) ≡ Some z
    here b is it = ap (λ (t : Bool). if t then Some z else find_at p xs) (is ∙ it)

    by_test : (b : Bool) → covers p x ≡ b → (if b then Some x else find_at p xs) ≡ Some y → (find_at p xs ≡ Some y → covers p z ≡ covers p y → find_at p (put_at p z xs) ≡ Some z) → find_at p (if b then z ∷ xs else x ∷ put_at p z xs) ≡ Some z
    by_test true is it later = here (covers p x) (same ∙ ap (covers p) (sym (same_Some x y it))) is
    by_test false is it later = ap (λ (t : Bool). if t then Some x else find_at p (put_at p z xs)) is ∙ later it same

-- and so by its number
pub get_put : {A : Type 0} (ys : List A) (i : ℕ) (y z : A) → slice_get ys i ≡ Some y → slice_get (slice_set ys i z) i ≡ Some z
get_put [] i y z there = absurd cc
get_put (x ∷ xs) zero y z there = refl
get_put (x ∷ xs) (suc i) y z there = get_put xs i y z there

-- behind a packet that moved the transfer is the next one's too
pub moved_next : (size n bytes : ℕ) (gone : Bool) (x : Context) (b : KeptEndpoint) (y : KeptTransfer) (item : ℕ) → IsContext x b → b.state ≡ Running → find_at b.dequeue b.line ≡ Some y → slice_get b.line item ≡ Some y → y.blank ≡ false
    → (serve_kept size gone b).reply ≡ Moved n bytes → IsNext (serve_kept size gone b).endpoint b.dequeue item
unfolding serve_kept serve_at answered_gone answered_by
moved_next size n bytes true x b y item is runs found there live reply =
    let same : (serve_kept size true b).reply ≡ (answered_gone b y).reply = ap₂ (λ (s : EndpointState) (o : Option KeptTransfer). (serve_at size true b s o).reply) runs found in
    let ended = sym same ∙ reply in
    absurd cc
moved_next size n bytes false x b y item is runs found there live reply =
    by_code (packet_now size b y).code (ap₂ (λ (s : EndpointState) (o : Option KeptTransfer). serve_at size false b s o) runs found)
  where
    k : Packet
    k = packet_now size b y

    z : KeptTransfer
    z = record y { bytes = y.bytes ++ got y.request.body (answer_now b) k.bytes }

    f : front.IsFront x b y
    f = front.at_front x b y is found live

    ls : List ℕ
    ls = drop (b.dequeue - y.place) y.lengths

    inside : (walk b y k.bytes).index < length ls
    inside = omega (arith, stand_behind 0 ls (b.within + k.bytes) (omega (arith, length-drop (b.dequeue - y.place) y.lengths, f.found.low, f.found.high)))

    goes : serve_kept size false b ≡ answered_by b y k None → IsNext (serve_kept size false b).endpoint b.dequeue item
    goes same =
        subst (λ (a : Answered). IsNext a.endpoint b.dequeue item) (sym same)
        (record {
          z = z;
          found = find_put b.line b.dequeue y z found refl;
          in_line = ap (λ (ys : List KeptTransfer). slice_get ys item) ((found_at x b b.dequeue item y is found there).put z) ∙ get_put b.line item y z there;
          low = omega (arith, f.found.low);
          high = omega (arith, inside, length-drop (b.dequeue - y.place) y.lengths, f.found.low, f.found.high);
        })

    by_code : (o : Option ℕ) → serve_kept size false b ≡ answered_by b y k o → IsNext (serve_kept size false b).endpoint b.dequeue item
    by_code None same = goes same
    by_code (Some code) same =
        let ended = sym (ap (λ (a : Answered). a.reply) same) ∙ reply in
        absurd cc

-- in a line that stands in a row it is the one where the endpoint stands
pub next_now : (b : KeptEndpoint) (p item : ℕ) → InRow b.line b.end → IsNext b p item → IsNow b item
next_now b p item row next = record { y = next.z; found = found_within b.line b.end p b.dequeue next.z row next.found next.low next.high; in_line = next.in_line }

module _ {P : Type 0} where
  -- so it is the item at work
  pub at_now : (setup : Setup) (w : World) (s : State P) (c : Core) (h d e item : ℕ) (x : Context) (first : TrbAt) → IsAt setup s c h d e → Shows setup w c → context_in s.controller d e ≡ Some x → working x ≡ Some first
      → (InRow (c.endpoints d e).line (c.endpoints d e).end → IsNow (c.endpoints d e) item) → IsAtWork setup s c h d e item x first
  at_now setup w s c h d e item x first at shows there work is =
      let works = works_at setup w s c h d e x first at shows there work in
      let it : IsAtWork setup s c h d e works.0 x first = works.3 in
      let now = is it.ring.context.ring.row in
      let one : now.y ≡ it.y = same_Some now.y it.y (sym now.found ∙ it.found) in
      let in_line : slice_get (c.endpoints d e).line item ≡ Some it.y = now.in_line ∙ ap Some one in
      subst (λ (i : ℕ). IsAtWork setup s c h d e i x first)
      (one_place x.size (c.endpoints d e).line x.ring.line.items (c.endpoints d e).end works.0 item it.y it.ring.context.ring.items it.ring.context.ring.row it.in_line in_line) it
