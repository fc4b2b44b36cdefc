-- The packet that the controller makes next of a transfer is that of the first transfer that waits.
use Rattle.std.proofs.Common.{List, ◌≡◌, ℕ, zero, suc, ◌-◌, ◌<◌, Bool, true, false, [], ◌∷◌, refl, ap, ap₂, sym, ◌∙◌, arith, length, Option, Some, take, drop}
use Rattle.std.specs.Prelude.{min, not, ◌&&◌, ◌==◌, is_some, option_map}
use Rattle.std.specs.Option.{option_and_then}
use Rattle.std.proofs.lemmas.Bool.{eqb-true}
use Rattle.std.proofs.lemmas.Option.{same_Some}
use Rattle.usb_model.specs.declared.endpoint.EndpointState.TheVariants.{Running}
use Rattle.usb_model.specs.declared.item.Item.{Item}
use Rattle.usb_model.specs.declared.request.Body.{Body}
use Rattle.usb_model.specs.declared.request.Body.TheVariants.{In, Out}
use Rattle.usb_model.specs.declared.request.Request.{Request}
use Rattle.usb_model.specs.Endpoint.{first_waiting, outcome_of}
use Rattle.usb_model.specs.Endpoint.Packets.{count_of}
use Rattle.usb_model.specs.Requests.{length_of}
use Rattle.usb_model.specs.Setup.{Setup, packet_size_of}
use Rattle.usb_model.specs.World.{Claims, World, holder}
use Rattle.usb_model.specs.Kept.{KeptEndpoint, KeptTransfer}
use Rattle.usb_model.specs.Packets.{room_at, sent_before}
use Rattle.usb_device.specs.Pipe.{Pipe, pipe_at}
use Rattle.usb_tables.specs.declared.transfer.Transfer.{Transfer as InFlight}
use Rattle.usb_xhc.specs.declared.trb_at.TrbAt.{TrbAt}
use Rattle.usb_xhc.specs.Ahead.{room}
use Rattle.usb_xhc.specs.Context.{Context, trbs}
use Rattle.usb_xhc.specs.Transaction.{offset_by, packet_out, packet_room, working}
use Rattle.usb_xhc.specs.Slots.{DeviceSlot, context_of, room_ahead, sends}
use Rattle.refine_world.specs.Living.{is_empty, is_running, is_wanting}
use Rattle.refine_world.specs.ShownEndpoint.{ShowsEnd}
use Rattle.refine_world.specs.Shows.{Core, Shows, errands, events, tellings}
use Rattle.refine_world.specs.Shows.{at as at_end}
use Rattle.refine_world.proofs.Links.{known}
use Rattle.refine_world.proofs.RunningEndpoints.{Stood, found_waits}
use Rattle.refine_world.proofs.Serves.{At, at_front, fresh_running}
use Rattle.refine_world.proofs.PauseEvents.{room_is}
use Rattle.refine_rings.specs.Endpoint.{IsPipe}
use Rattle.refine_rings.proofs.Fronts as ring
use Rattle.refine_core.specs.Offers.{IsNext, IsOffered, OffersNext, asks_device, bytes_ahead, bytes_next, room_next}
use Rattle.refine_core.specs.State.{State}
use Rattle.refine_core.specs.Works.{IsAt}
use Rattle.refine_core.proofs.Fronts.{IsAtWork, at_work, working_runs}
use Rattle.refine_core.proofs.Held.{is_at}
use Rattle.refine_core.proofs.Rests.{first_trb}

take_none : (n : ℕ) → take {A = ℕ} n [] ≡ []
take_none zero = refl
take_none (suc n) = refl

-- as many bytes as there are, or fewer
pub take_min : (n : ℕ) (xs : List ℕ) → take (min n (length xs)) xs ≡ take n xs
take_min n [] = take_none (min n 0) ∙ sym (take_none n)
take_min zero (x ∷ xs) = ap (λ (m : ℕ). take m (x ∷ xs)) (let none : min 0 (length (x ∷ xs)) ≡ 0 = omega arith in none)
take_min (suc n) (x ∷ xs) =
    ap (λ (m : ℕ). take m (x ∷ xs)) (let one : min (suc n) (length (x ∷ xs)) ≡ suc (min n (length xs)) = omega arith in one)
    ∙ ap (λ (ys : List ℕ). x ∷ ys) (take_min n xs)

pub length_drop : (k : ℕ) (xs : List ℕ) → length (drop k xs) ≡ length xs - k
length_drop zero xs = omega arith
length_drop (suc k) [] = omega arith
length_drop (suc k) (x ∷ xs) = length_drop k xs ∙ omega arith

-- a list is empty by its length
empty_is : {A : Type 0} (xs : List A) → (length xs == 0) ≡ is_empty xs
empty_is [] = refl
empty_is (x ∷ xs) = by_test (length (x ∷ xs) == 0) refl
  where
    by_test : (b : Bool) → (length (x ∷ xs) == 0) ≡ b → b ≡ false
    by_test true same = absurd (omega (arith, eqb-true (length (x ∷ xs)) 0 same))
    by_test false same = refl

-- what a slot makes next where there is work
pub ahead_is : (s : DeviceSlot) (e : ℕ) (x : Context) (first : TrbAt) → context_of s e ≡ Some x → working x ≡ Some first → room_ahead s e ≡ Some (packet_room x)
ahead_is s e x first context work =
    ap (λ (o : Option Context). option_and_then (λ c. option_map (λ f. packet_room c) (working c)) o) context
    ∙ ap (λ (o : Option TrbAt). option_map (λ f. packet_room x) o) work

pub sent_is : (s : DeviceSlot) (e : ℕ) (x : Context) (first : TrbAt) (bytes : List ℕ) → context_of s e ≡ Some x → working x ≡ Some first → sends s e bytes ≡ Some (packet_out x first.trb bytes)
sent_is s e x first bytes context work =
    ap (λ (o : Option Context). option_and_then (λ c. option_map (λ (f : TrbAt). packet_out c f.trb bytes) (working c)) o) context
    ∙ ap (λ (o : Option TrbAt). option_map (λ (f : TrbAt). packet_out x f.trb bytes) o) work

module _ {P : Type 0} where
  -- of the item at work
  pub next_at : (setup : Setup) (w : World) (s : State P) (c : Core) (h d e item : ℕ) (x : Context) (first : TrbAt) (n : ℕ) (out : List ℕ) (most : ℕ) (wants : Bool) → IsAt setup s c h d e → Shows setup w c → working x ≡ Some first
      → IsAtWork setup s c h d e item x first → IsOffered s d e item n out most wants → IsNext setup w d e h n out most wants
  next_at setup w s c h d e item x first n out most wants at shows work it offered = record {
    item = z;
    held = holds;
    runs = sym shown.state ∙ runs;
    first = stood.first;
    number = offered.number ∙ ap (λ (t : InFlight P). t.n) one ∙ it.is.same.number ∙ ap (λ (v : KeptTransfer). v.n) (sym waits.2) ∙ stood.fronted.live.n;
    bytes = by_body offered.transfer.request.body refl;
    most = room_is_next;
    asked = offered.asked ∙ asked;
  }
    where
      b : KeptEndpoint
      b = c.endpoints d e

      size : ℕ
      size = packet_size_of setup d e

      holds : holder setup w.claims d e ≡ Some h
      holds = ap (λ (f : Claims). holder setup f d e) (sym shows.claims) ∙ at.holds

      runs : b.state ≡ Running
      runs = sym it.ring.context.runs ∙ working_runs x first work

      shown : ShowsEnd size (w.endpoints d e) (errands (at_end d e shows.orders)) (events (at_end d e shows.news)) b (at_end d e shows.orders) (tellings (at_end d e shows.news))
      shown = shows.endpoints h d e holds

      waits : (z : Item) × (a : Stood size (w.endpoints d e) b z) × (a.fronted.y ≡ it.y)
      waits =
          found_waits size (w.endpoints d e) (errands (at_end d e shows.orders)) (events (at_end d e shows.news)) b (at_end d e shows.orders) (tellings (at_end d e shows.news)) it.y
          (known setup w c shows at.keeps.fine h d e holds).fit.coherent shown (fresh_running (w.endpoints d e).state (w.endpoints d e).errand (errands (at_end d e shows.orders)) (sym shown.state ∙ runs)) it.found

      z : Item
      z = waits.0

      stood : Stood size (w.endpoints d e) b z
      stood = waits.1

      y : KeptTransfer
      y = stood.fronted.y

      stands : At size b z y
      stands = at_front size b z y stood.fronted.some stood.fronted.live stood.stands

      moved : ℕ
      moved = count_of (outcome_of size z)

      one : offered.transfer ≡ it.is.t
      one = same_Some offered.transfer it.is.t (sym offered.found ∙ it.is.found)

      request : offered.transfer.request ≡ z.request
      request = ap (λ (t : InFlight P). t.request) one ∙ it.is.same.asks_for ∙ ap (λ (v : KeptTransfer). v.request) (sym waits.2) ∙ stood.fronted.live.request

      slot : offered.slot ≡ it.slot
      slot = same_Some offered.slot it.slot (sym offered.there ∙ it.there)

      front : ring.IsFront x b it.y
      front = ring.at_front x b it.y it.ring.context it.found it.live

      left : room (trbs x) x.within ≡ length_of z.request.body - moved
      left = ring.same_room x b it.y it.ring.context front ∙ ap (λ (v : KeptTransfer). room_at b v) (sym waits.2) ∙ room_is size b z y stood.fronted.live stands

      room_is_now : packet_room x ≡ room_next size moved z.request.body
      room_is_now = ap₂ (λ (a r : ℕ). min a r) it.ring.size left

      room_is_next : most ≡ room_next size moved z.request.body
      room_is_next = same_Some most (packet_room x) (sym offered.most ∙ ap (λ (v : DeviceSlot). room_ahead v e) slot ∙ ahead_is it.slot e x first it.context work) ∙ room_is_now

      has : ring.HasBytes x b it.y first.trb
      has = ring.has_bytes x b it.y first.trb it.ring.context front it.found (first_trb x first work)

      before : sent_before b it.y ≡ moved
      before = ap (λ (v : KeptTransfer). sent_before b v) (sym waits.2) ∙ stands.before

      from_there : (bytes : List ℕ) (r : ℕ) → (0 < r → offset_by first.trb x.within ≡ sent_before b it.y) → take r (drop (offset_by first.trb x.within) bytes) ≡ take r (drop moved bytes)
      from_there bytes zero same = refl
      from_there bytes (suc r) same = ap (λ (k : ℕ). take (suc r) (drop k bytes)) (same (omega arith) ∙ before)

      sent : (bytes : List ℕ) → z.request.body ≡ Out bytes → packet_out x first.trb bytes ≡ take size (drop moved bytes)
      sent bytes body =
          let few : packet_room x ≡ min size (length (drop moved bytes)) = room_is_now ∙ ap (λ (v : Body). min size (length_of v - moved)) body ∙ ap (min size) (sym (length_drop moved bytes)) in
          from_there bytes (packet_room x) has.offset ∙ ap (λ (k : ℕ). take k (drop moved bytes)) few ∙ take_min size (drop moved bytes)

      by_body : (body : Body) → offered.transfer.request.body ≡ body → out ≡ bytes_next size moved z.request.body
      by_body (In m) is =
          let here : z.request.body ≡ In m = ap (λ (r : Request). r.body) (sym request) ∙ is in
          same_Some out [] (sym offered.bytes ∙ ap (bytes_ahead offered.slot e) is) ∙ sym (ap (bytes_next size moved) here)
      by_body (Out bytes) is =
          let here : z.request.body ≡ Out bytes = ap (λ (r : Request). r.body) (sym request) ∙ is in
          same_Some out (packet_out x first.trb bytes) (sym offered.bytes ∙ ap (bytes_ahead offered.slot e) is ∙ ap (λ (v : DeviceSlot). sends v e bytes) slot ∙ sent_is it.slot e x first bytes it.context work)
          ∙ sent bytes here ∙ sym (ap (bytes_next size moved) here)

      pipe : Pipe
      pipe = pipe_at it.slot.pipes e

      kept : IsPipe pipe b
      kept = ((at.keeps.held.each d it.slot it.there).ends e at.interface at.there).pipe

      gone : it.slot.gone ≡ w.gone d
      gone = (at.keeps.held.each d it.slot it.there).is_gone ∙ ap (λ (f : ℕ → Bool). f d) shows.gone

      wanting : is_running (w.endpoints d e).state ≡ true → is_some (first_waiting (w.endpoints d e).line) ≡ true
          → (is_running (w.endpoints d e).state && (is_some (first_waiting (w.endpoints d e).line) && (not (w.endpoints d e).device_halted && is_empty (w.endpoints d e).script_left))) ≡ (not (w.endpoints d e).device_halted && is_empty (w.endpoints d e).script_left)
      wanting r f = rw (r, f) refl

      asked : asks_device offered.slot e ≡ (not (w.gone d) && is_wanting (w.endpoints d e))
      asked =
          ap (λ (v : DeviceSlot). asks_device v e) slot
          ∙ ap₂ (λ (g : Bool) (k : Bool). not g && k) gone
          (ap₂ (λ (k l : Bool). not k && l) (kept.halted ∙ shown.device_halted) (empty_is pipe.left ∙ ap is_empty (kept.left ∙ shown.script_left)))
          ∙ ap (λ (k : Bool). not (w.gone d) && k) (sym (wanting (ap is_running (sym shown.state ∙ runs)) (ap is_some stood.first)))

pub offers : {P : Type 0} → OffersNext P
offers s setup w c h dev ep item n out room wants keeps shows held front offered =
    let known_front = front.known item refl in
    let at : IsAt setup s c h dev ep = is_at setup s c h dev ep keeps held in
    next_at setup w s c h dev ep item known_front.0 known_front.1 n out room wants at shows known_front.3
    (at_work setup w s c h dev ep item known_front.0 known_front.1 at shows known_front.2 known_front.3 front) offered
