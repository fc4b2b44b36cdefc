-- A packet that is told as next is the one that its device has, or has room for.
use Rattle.std.proofs.Common.{◌≡◌, ◌∙◌, ℕ, ◌-◌, ◌<◌, ◌==◌, Bool, true, false, not, ◌&&◌, ◌||◌, inl, inr, List, [], ◌∷◌, ◌++◌, length, take, drop, Option, Some, None, refl, sym, ap, ap₂, arith}
use Rattle.std.specs.Prelude.{if◌then◌else◌, is_some, min, nat_lt, option_map, slice_get, unwrap_or, zero, suc}
use Rattle.std.specs.List.{find}
use Rattle.std.specs.Option.{option_and_then}
use Rattle.std.proofs.lemmas.Bool.{and_parts}
use Rattle.usb_model.specs.declared.effect.Effect.{Effect}
use Rattle.usb_model.specs.declared.endpoint.Endpoint.{Endpoint}
use Rattle.usb_model.specs.declared.endpoint.EndpointState.{EndpointState}
use Rattle.usb_model.specs.declared.endpoint.EndpointState.TheVariants.{Running}
use Rattle.usb_model.specs.declared.endpoint_effect.EndpointEffect.{EndpointEffect}
use Rattle.usb_model.specs.declared.item.Item.{Item}
use Rattle.usb_model.specs.declared.outcome.Outcome.{Outcome}
use Rattle.usb_model.specs.declared.refused.Refused.TheVariants.{HeldElsewhere}
use Rattle.usb_model.specs.declared.reply.Reply.TheVariants as reply
use Rattle.usb_model.specs.declared.reply.Reply.TheVariants.{Moved, Nak}
use Rattle.usb_model.specs.declared.request.Body.{Body}
use Rattle.usb_model.specs.declared.request.Body.TheVariants.{In, Out}
use Rattle.usb_model.specs.declared.response.Response.{Response}
use Rattle.usb_model.specs.declared.response.Response.TheVariants.{Ack, Data}
use Rattle.usb_model.specs.declared.step.Step.TheVariants.{Serve}
use Rattle.usb_model.specs.Completion.{babble_detected, short_packet, success}
use Rattle.usb_model.specs.declared.setup.DeviceSetup.{DeviceSetup}
use Rattle.usb_model.specs.declared.setup.EndpointInfo.{EndpointInfo}
use Rattle.usb_model.specs.Direction.{IsBody, is_of_direction}
use Rattle.usb_model.specs.Endpoint.{first_waiting, outcome_of}
use Rattle.usb_model.specs.Endpoint.Packets.{IsOpenAt, count_of, open_with, outcome, without_naks}
use Rattle.usb_model.specs.Endpoint.Serve.{acknowledged, is_no_packet, next_answer, serve, serve_by, serve_first}
use Rattle.usb_model.specs.Machine.{at_endpoint}
use Rattle.usb_model.specs.Machine.Turns.{effect, serve_effect}
use Rattle.usb_model.specs.Requests.{length_of}
use Rattle.usb_model.specs.Setup.{Setup, endpoint_id, endpoints_of, info_of, packet_size_of}
use Rattle.usb_model.specs.World.{Turn, World, holder, is_blocked, is_its, machine_of, turn, turn_by, turn_of, world_after}
use Rattle.proof_model.proofs.Lists.Pieces.{same_name}
use Rattle.proof_model.proofs.Shares.More.{one_more}
use Rattle.proof_model.proofs.Shares.Next.{next_there}
use Rattle.proof_model.proofs.Shares.OpenShares.{open_at, open_whole}
use Rattle.usb_model.specs.Kept.{is_extra}
use Rattle.usb_model.specs.Packets.{Packet, gave, packet_by}
use Rattle.refine_world.specs.Kept.{outcome_now}
use Rattle.refine_world.specs.Lively.{IsSized}
use Rattle.refine_world.proofs.Links.{known}
use Rattle.refine_world.proofs.Packets.{NextIs, next_is}
use Rattle.refine_world.proofs.PauseEvents.{first_open}
use Rattle.refine_world.specs.Living.{GoesOn, More, is_empty, is_running, is_wanting, with_more, world_with}
use Rattle.refine_world.proofs.Effects.{size_same}
use Rattle.refine_world.proofs.Worlds.{holder_same}
use Rattle.refine_core.specs.Offers.{IsNext, bytes_next, room_next}
use Rattle.refine_core.proofs.Offers.{length_drop, take_min}
use Rattle.refine_core.specs.State.{ShowsWorld, State}
use Rattle.refine_rings.specs.Made.{IsRead}
use Rattle.refine_rings.proofs.Ids.{id-lt}
use Rattle.refine_world.specs.Fed.{fed_at, has_script}
use Rattle.refine_world.proofs.Fed.{fed_goes_on}
use Rattle.usb_living.specs.Offered.{FeedingGoesOn, FitsTheRoomItIsTold, GoesOnWith, TakesWhatItIsTold, answered, tells_babble}

-- an endpoint that runs, whose first transfer that waits is open, and whose device has no answer left
record IsAsked (size : ℕ) (e : Endpoint) (x : Item) : Type 0 where
  some : 0 < size
  runs : e.state ≡ Running
  first : first_waiting e.line ≡ Some x
  unended : IsOpenAt (outcome x.request size x.share false)
  up : e.device_halted ≡ false
  left : e.script_left ≡ []

next_is_first : (size : ℕ) (e : Endpoint) (x : Item) (a : Response) (behind : List Response) → IsAsked size e x → next_answer (with_more (a ∷ behind) e) ≡ a ∷ []
next_is_first size e x a behind is = ap₂ (λ (h : Bool) (l : List Response). if h then [] else take 1 (l ++ a ∷ behind)) is.up is.left

-- how far that transfer was, and is with an answer
record Comes (size : ℕ) (e : Endpoint) (x : Item) (a : Response) (behind : List Response) : Type 0 where
  before : Outcome
  was : outcome_of size x ≡ before
  after : Outcome
  now : outcome_now size (with_more (a ∷ behind) e) x ≡ after
  is : NextIs x.request size x.request.body before a after

comes : (inward : Bool) (size : ℕ) (e : Endpoint) (x : Item) (a : Response) (behind : List Response) → IsAsked size e x → IsBody inward x.request.body → is_of_direction inward a ≡ true → Comes size e x a behind
comes inward size e x a behind asked body kind =
    let o = open_at (outcome x.request size x.share false) asked.unended in
    let r = next_there inward x.request size x.share a o.0 asked.some body kind o.1 o.2 in
    record {
      before = o.0;
      was = ap (λ (p : Option Outcome). unwrap_or p (open_with [])) o.1;
      after = r.0;
      now =
          ap₂ (λ (l : List Response) (h : Bool). unwrap_or (outcome x.request size (x.share ++ l) h) (open_with [])) (next_is_first size e x a behind asked) asked.up
          ∙ ap (λ (p : Option Outcome). unwrap_or p (open_with [])) r.1;
      is = next_is x.request size x.request.body (without_naks x.share) o.0 a r.0 asked.some o.2 (open_whole x.request size x.share o.0 o.1 o.2) (sym (one_more x.request size x.share a o.0 asked.some o.1 o.2) ∙ r.1);
    }

-- an Ack moves what fits in a packet
acked : (size room : ℕ) (extra : Bool) → (packet_by size room extra Ack).bytes ≡ min size room
acked size room extra = by_test (nat_lt size room || (extra && nat_lt 0 room))
  where
    by_test : (b : Bool) → (if◌then◌else◌ {A = Packet} b (record { bytes = min size room; code = None }) (record { bytes = min size room; code = Some success })).bytes ≡ min size room
    by_test true = refl
    by_test false = refl

-- whether a transfer ended by babble
abbrev is_babble : Option ℕ → Bool
is_babble None = false
is_babble (Some code) = code == babble_detected

-- a packet that comes is too long where it has more bytes than there is room for
too_long : (size room : ℕ) (extra : Bool) (b : List ℕ) → is_babble (packet_by size room extra (Data b)).code ≡ nat_lt (min size room) (length b)
too_long size room extra b = by_room (nat_lt (min size room) (length b)) (length b == room) (nat_lt (length b) size)
  where
    by_room : (over whole short : Bool)
        → is_babble (if◌then◌else◌ {A = Packet} over (record { bytes = 0; code = Some babble_detected }) (if whole then record { bytes = length b; code = Some success } else if short then record { bytes = length b; code = Some short_packet } else record { bytes = length b; code = None })).code ≡ over
    by_room true whole short = refl
    by_room false true short = refl
    by_room false false true = refl
    by_room false false false = refl

-- the packet that an Ack acknowledges is one, of what fits in a packet behind the bytes that moved
acknowledges : (size : ℕ) (e : Endpoint) (x : Item) (bytes : List ℕ) (behind : List Response) → IsAsked size e x → x.request.body ≡ Out bytes
    → acknowledged x.request.body (outcome_of size x) (outcome_now size (with_more (Ack ∷ behind) e) x) ≡ bytes_next size (count_of (outcome_of size x)) (Out bytes) ∷ []
acknowledges size e x bytes behind asked body =
    let c : Comes size e x Ack behind = comes false size e x Ack behind asked (rw body tt) refl in
    let room : ℕ = length_of x.request.body - count_of c.before in
    let packet : ℕ = (packet_by size room (is_extra size x.request x.request.body) Ack).bytes in
    let fits : packet ≡ min size (length (drop (count_of c.before) bytes)) =
    acked size room (is_extra size x.request x.request.body)
    ∙ ap (λ (k : Body). min size (length_of k - count_of c.before)) body
    ∙ ap (min size) (sym (length_drop (count_of c.before) bytes)) in
    ap₂ (acknowledged x.request.body) c.was c.now
    ∙ c.is.packets_received
    ∙ ap (λ (k : Body). gave k (Ack ∷ []) (count_of c.before) packet) body
    ∙ ap (λ (k : ℕ). take k (drop (count_of c.before) bytes) ∷ []) fits
    ∙ ap (λ (l : List ℕ). l ∷ []) (take_min size (drop (count_of c.before) bytes))
    ∙ ap (λ (p : Outcome). take size (drop (count_of p) bytes) ∷ []) (sym c.was)

-- it is the device's, whether the transfer ends or not
keeps : (e : Endpoint) (x : Item) (before after : Outcome) (code : Option ℕ) → (serve_by e x before after code).endpoint.packets_received ≡ e.packets_received ++ acknowledged x.request.body before after
unfolding serve_by
keeps e x before after None = refl
keeps e x before after (Some code) = refl

gets : (size : ℕ) (e : Endpoint) (x : Item) (bytes : List ℕ) (behind : List Response) → IsAsked size e x → x.request.body ≡ Out bytes
    → (serve size false (with_more (Ack ∷ behind) e)).endpoint.packets_received ≡ e.packets_received ++ bytes_next size (count_of (outcome_of size x)) (Out bytes) ∷ []
unfolding serve serve_first
gets size e x bytes behind asked body =
    ap₂ (λ (s : EndpointState) (o : Option Item). (serve_first size false (with_more (Ack ∷ behind) e) s o).endpoint.packets_received) asked.runs asked.first
    ∙ keeps (with_more (Ack ∷ behind) e) x (outcome_of size x) (outcome_now size (with_more (Ack ∷ behind) e) x) (outcome_now size (with_more (Ack ∷ behind) e) x).code
    ∙ ap (λ (l : List (List ℕ)). e.packets_received ++ l) (acknowledges size e x bytes behind asked body)

-- the reply to a packet says how its transfer ended
says : (e : Endpoint) (x : Item) (before after : Outcome) (code : Option ℕ) → tells_babble (serve_by e x before after code).reply ≡ is_babble code
unfolding serve_by
says e x before after None = by_test (is_no_packet (next_answer e))
  where
    by_test : (b : Bool) → tells_babble (if b then Nak x.n else Moved x.n (count_of after - count_of before)) ≡ false
    by_test true = refl
    by_test false = refl
says e x before after (Some code) = refl

-- so a packet of the device that is too long
babbles : (size : ℕ) (e : Endpoint) (x : Item) (asked : ℕ) (b : List ℕ) (behind : List Response) → IsAsked size e x → x.request.body ≡ In asked
    → tells_babble (serve size false (with_more (Data b ∷ behind) e)).reply ≡ nat_lt (room_next size (count_of (outcome_of size x)) x.request.body) (length b)
unfolding serve serve_first
babbles size e x asked b behind is body =
    let c : Comes size e x (Data b) behind = comes true size e x (Data b) behind is (rw body tt) refl in
    ap₂ (λ (s : EndpointState) (o : Option Item). tells_babble (serve_first size false (with_more (Data b ∷ behind) e) s o).reply) is.runs is.first
    ∙ says (with_more (Data b ∷ behind) e) x (outcome_of size x) (outcome_now size (with_more (Data b ∷ behind) e) x) (outcome_now size (with_more (Data b ∷ behind) e) x).code
    ∙ ap (λ (p : Outcome). is_babble p.code) c.now
    ∙ ap is_babble c.is.code
    ∙ too_long size (length_of x.request.body - count_of c.before) (is_extra size x.request x.request.body) b
    ∙ ap (λ (p : Outcome). nat_lt (min size (length_of x.request.body - count_of p)) (length b)) (sym c.was)

-- a turn at an endpoint that somebody holds is what is done at that endpoint
record IsServed (setup : Setup) (w : World) (d ep : ℕ) : Type 0 where
  reply : (turn setup w (Serve d ep)).entry.reply ≡ (serve (packet_size_of setup d ep) (w.gone d) (w.endpoints d ep)).reply
  endpoint : (turn setup w (Serve d ep)).world.endpoints d ep ≡ (serve (packet_size_of setup d ep) (w.gone d) (w.endpoints d ep)).endpoint

is_served : (setup : Setup) (w : World) (d ep h : ℕ) → holder setup w.claims d ep ≡ Some h → IsServed setup w d ep
unfolding turn turn_of effect serve_effect machine_of is_blocked at_endpoint world_after
is_served setup w d ep h own = record {
  reply = ap (λ (o : Option ℕ). (turn_by setup o w (Serve d ep)).entry.reply) own ∙ ap (λ (y : Effect). (turn_with y).entry.reply) done;
  endpoint = ap (λ (o : Option ℕ). (turn_by setup o w (Serve d ep)).world.endpoints d ep) own ∙ ap (λ (y : Effect). (turn_with y).world.endpoints d ep) done ∙ here;
}
  where
    e : EndpointEffect
    e = serve (packet_size_of setup d ep) (w.gone d) (w.endpoints d ep)

    turn_with : Effect → Turn
    turn_with y =
        if is_blocked setup h w y.change
        then record { entry = record { owner = Some h; reply = reply.Refused HeldElsewhere }; world = w }
        else record { entry = record { owner = Some h; reply = y.reply }; world = world_after setup h w (Serve d ep) y }

    done : effect setup h (machine_of setup h w) (Serve d ep) ≡ at_endpoint (w.names h) d ep e
    done = ap (λ (b : Bool). serve_effect setup (machine_of setup h w) d ep (if◌then◌else◌ {A = Option Endpoint} b (Some (w.endpoints d ep)) None)) (ap (is_its h) own ∙ same_name h)

    here : (if ((d == d) && (ep == ep)) && is_its h (holder setup w.claims d ep) then e.endpoint else w.endpoints d ep) ≡ e.endpoint
    here = rw (same_name d, same_name ep, own, same_name h) refl

-- in a line without transfers none waits
none_waits : (x : Item) (l : List Item) → l ≡ [] → first_waiting l ≡ Some x → ⊥
unfolding first_waiting
none_waits x [] none first = absurd cc
none_waits x (y ∷ l) none first = absurd cc

-- what is known of a packet that is next
module _ {P : Type 0} (s : State P) (setup longer : Setup) (w : World) (dev ep owner n room : ℕ) (out : List ℕ) (shows : ShowsWorld setup s w) (next : IsNext setup w dev ep owner n out room true) where
  abbrev pub size : ℕ
  size = packet_size_of setup dev ep

  abbrev pub e : Endpoint
  e = w.endpoints dev ep

  -- the device is there, and has no answer left
  wanting : (not (w.gone dev) ≡ true) × (is_wanting e ≡ true)
  wanting = and_parts (not (w.gone dev)) (is_wanting e) (sym next.asked)

  there : w.gone dev ≡ false
  there = by_test (w.gone dev) refl wanting.0
    where
      by_test : (b : Bool) → w.gone dev ≡ b → not b ≡ true → w.gone dev ≡ false
      by_test true same is = absurd cc
      by_test false same is = same

  idle : (e.device_halted ≡ false) × (e.script_left ≡ [])
  idle =
      let waits = and_parts (is_running e.state) (is_some (first_waiting e.line) && (not e.device_halted && is_empty e.script_left)) wanting.1 in
      let ready = and_parts (is_some (first_waiting e.line)) (not e.device_halted && is_empty e.script_left) waits.1 in
      by_test e.device_halted e.script_left refl refl ready.1
    where
      by_test : (h : Bool) (l : List Response) → e.device_halted ≡ h → e.script_left ≡ l → (not h && is_empty l) ≡ true → (e.device_halted ≡ false) × (e.script_left ≡ [])
      by_test true l same left is = absurd cc
      by_test false [] same left is = (same, left)
      by_test false (x ∷ l) same left is = absurd cc

  asked_at : IsAsked size e next.item
  asked_at =
      let k = known setup w shows.0 shows.2 shows.1.fine owner dev ep next.held in
      record {
        some = by_size k.lively.sized;
        runs = next.runs;
        first = next.first;
        unended = first_open size e.line next.item next.first k.lively.orderly.opens;
        up = idle.0;
        left = idle.1;
      }
    where
      by_size : IsSized size e → 0 < size
      by_size (inl some) = some
      by_size (inr none) = absurd (none_waits next.item e.line none.0 next.first)

  -- the turn over longer scripts
  served : (more : More) → GoesOn setup longer more → IsServed longer (world_with more w) dev ep
  served more g = is_served longer (world_with more w) dev ep owner (holder_same setup longer more w.claims dev ep g ∙ next.held)

  -- is that at this endpoint, of a device that is there
  at_end : (a : Response) (on : GoesOnWith setup longer dev ep a)
      → serve (packet_size_of longer dev ep) (w.gone dev) (with_more (on.more dev ep) e) ≡ serve size false (with_more (a ∷ on.behind) e)
  at_end a on =
      ap₂ (λ (k : ℕ) (b : Bool). serve k b (with_more (on.more dev ep) e)) (size_same setup longer on.more dev ep on.goes_on) there
      ∙ ap (λ (l : List Response). serve size false (with_more l e)) on.first

  pub takes : (bytes : List ℕ) → next.item.request.body ≡ Out bytes → (on : GoesOnWith setup longer dev ep Ack)
      → ((answered longer on.more w dev ep).world.endpoints dev ep).packets_received ≡ e.packets_received ++ out ∷ []
  takes bytes body on =
      ap (λ (x : Endpoint). x.packets_received) (served on.more on.goes_on).endpoint
      ∙ ap (λ (x : EndpointEffect). x.endpoint.packets_received) (at_end Ack on)
      ∙ gets size e next.item bytes on.behind asked_at body
      ∙ ap (λ (l : List ℕ). e.packets_received ++ l ∷ []) (sym (next.bytes ∙ ap (bytes_next size (count_of (outcome_of size next.item))) body))

  pub fits : (asked : ℕ) (b : List ℕ) → next.item.request.body ≡ In asked → (on : GoesOnWith setup longer dev ep (Data b))
      → tells_babble (answered longer on.more w dev ep).entry.reply ≡ nat_lt room (length b)
  fits asked b body on =
      ap tells_babble (served on.more on.goes_on).reply
      ∙ ap (λ (x : EndpointEffect). tells_babble x.reply) (at_end (Data b) on)
      ∙ babbles size e next.item asked b on.behind asked_at body
      ∙ ap (λ (k : ℕ). nat_lt k (length b)) (sym next.most)

pub takes_what_it_is_told : {P : Type 0} → TakesWhatItIsTold P
takes_what_it_is_told s setup longer w dev ep owner n room out bytes shows next body on = takes s setup longer w dev ep owner n room out shows next bytes body on

pub fits_the_room : {P : Type 0} → FitsTheRoomItIsTold P
fits_the_room s setup longer w dev ep owner n room asked out b shows next body on = fits s setup longer w dev ep owner n room out shows next asked b body on

-- a script at each id
script_in : (xs : List (List Response)) (i : ℕ) → i < length xs → is_some (slice_get xs i) ≡ true
script_in [] i less = absurd (omega (arith, less))
script_in (x ∷ xs) zero less = refl
script_in (x ∷ xs) (suc i) less = script_in xs i (omega (arith, less))

-- of a device that has the endpoint
module _ (setup : Setup) (dev ep : ℕ) (reads : (x : DeviceSetup) → slice_get setup dev ≡ Some x → IsRead x) where
  has_device : (o : Option DeviceSetup) → slice_get setup dev ≡ o → is_some (info_of setup dev ep) ≡ true → has_script setup dev (endpoint_id ep) ≡ true
  unfolding info_of
  has_device None there known = absurd (none_known there known)
    where
      none_known : slice_get setup dev ≡ None → is_some (find (λ x. x.address == ep) (endpoints_of setup dev)) ≡ true → ⊥
      none_known there known = let nothing : is_some (find (λ (x : EndpointInfo). x.address == ep) (endpoints_of setup dev)) ≡ false = rw there refl in absurd (cc (known, nothing))
  has_device (Some x) there known =
      ap (λ (o : Option DeviceSetup). is_some (option_and_then (λ (y : DeviceSetup). slice_get y.scripts (endpoint_id ep)) o)) there
      ∙ script_in x.scripts (endpoint_id ep) (omega (arith, id-lt ep, (reads x there).lawful.all))

  goes_first : (a : Response) (o : Option EndpointInfo) → info_of setup dev ep ≡ o → is_some o ≡ true → fed_at setup dev (endpoint_id ep) (a ∷ []) dev ep ≡ a ∷ []
  goes_first a None info known = absurd cc
  goes_first a (Some z) info known =
      let script : has_script setup dev (endpoint_id ep) ≡ true = has_device (slice_get setup dev) refl (ap is_some info) in
      rw (same_name dev, same_name (endpoint_id ep), info, script) refl

pub feeding_goes_on : {P : Type 0} → FeedingGoesOn P
feeding_goes_on s setup w dev ep owner a shows holds = record {
  more = fed_at setup dev (endpoint_id ep) (a ∷ []);
  goes_on = fed_goes_on setup dev (endpoint_id ep) (a ∷ []);
  behind = [];
  first = goes_first setup dev ep (shows.1.read dev) a (info_of setup dev ep) refl (held (info_of setup dev ep) holds);
}
  where
    held : (o : Option EndpointInfo) → option_and_then (λ i. w.claims dev i) (option_map (λ (x : EndpointInfo). x.interface) o) ≡ Some owner → is_some o ≡ true
    held None holds = absurd cc
    held (Some z) holds = refl
