-- A packet that the controller moves is the kept endpoint's.
use Rattle.std.proofs.Common.{◌≡◌, ℕ, zero, suc, ◌+◌, ◌-◌, ◌<◌, ◌≤◌, refl, ap, ap₂, sym, subst, subst₂, ◌∙◌, arith, List, [], ◌∷◌, ◌++◌, take, drop, Some, None, true, false, Bool, inl, inr}
use Rattle.std.specs.Prelude.{Option, min, option_map, slice_get, if◌then◌else◌, ◌||◌}
use Rattle.usb_model.specs.declared.endpoint.EndpointState.{EndpointState}
use Rattle.usb_model.specs.declared.endpoint.EndpointState.TheVariants.{Running, Stopped, Halted}
use Rattle.usb_model.specs.declared.reply.Reply.{Reply}
use Rattle.usb_model.specs.declared.reply.Reply.TheVariants.{Idle, Nak, Moved}
use Rattle.usb_model.specs.declared.request.Body.{Body}
use Rattle.usb_model.specs.declared.request.Body.TheVariants.{In, Out}
use Rattle.usb_model.specs.Completion.{transaction_error}
use Rattle.usb_model.specs.Endpoint.Serve.{is_no_packet}
use Rattle.usb_model.specs.Endpoint.Serve as service
use Rattle.usb_model.specs.Endpoint.Status.{halts}
use Rattle.usb_trb.specs.declared.kind.Normal.{Normal as NormalTrb}
use Rattle.usb_trb.specs.declared.kind.TrbKind.{TrbKind}
use Rattle.usb_trb.specs.declared.kind.TrbKind.TheVariants.{TransferEvent}
use Rattle.usb_rings.specs.Places.{address_of}
use Rattle.usb_model.specs.Stands.{Stand, length_at}
use Rattle.usb_model.specs.Kept.{KeptEndpoint, KeptTransfer, is_extra}
use Rattle.usb_model.specs.Events.{find_at}
use Rattle.usb_model.specs.Packets.{Answered, Packet, answer_now, answered_by, answered_gone, endpoint_with, event_at, gave, got, packet_now, put_at, room_at, sent_before, serve_at, serve_kept, walk}
use Rattle.usb_device.specs.Pipe.{Pipe, answer_of, bytes_after, pipe_after}
use Rattle.usb_rings.specs.Line.{places}
use Rattle.usb_xhc.specs.declared.packet.PacketResult.TheVariants as told
use Rattle.usb_xhc.specs.declared.trb_at.TrbAt.{TrbAt}
use Rattle.usb_xhc.specs.Ahead.{ahead, lengths}
use Rattle.usb_xhc.specs.Context.{Context, event_by, gone_on, gone_past, stand_by, trbs}
use Rattle.usb_xhc.specs.Transaction.{Served, is_running, offset_by, packet_room, served, served_by, served_gone, trb_at, working}
use Rattle.refine_rings.specs.Endpoint.{IsContext, IsFresh, IsPipe}
use Rattle.refine_rings.specs.EndpointLaws.{HaveTrbsOf, ServedAs, ServesAs, packet_for, served_here}
use Rattle.refine_rings.specs.Reports.{event_of, reply_of}
use Rattle.refine_rings.proofs.Contents.{contents_end}
use Rattle.refine_rings.proofs.Fronts.{HasBytes, IsFront, at_front, first_is, has_bytes, length_drop_at, lengths_ahead, same_answer, same_room, same_walk}
use Rattle.refine_rings.proofs.Goes.{goes_on, goes_past, next_place, put_same}
use Rattle.refine_rings.proofs.Lines.{none_behind}
use Rattle.refine_rings.proofs.Pipes.{Answers, answers, open_goes, out_for, packet_few, packet_is, read_is}
use Rattle.refine_rings.proofs.Where.{same_address_on}

-- the event is that of the place, with what of its TRB is left
pub same_event : (c : Context) (b : KeptEndpoint) (y : KeptTransfer) (k code commands : ℕ) → IsContext c b → IsFront c b y → event_by c (stand_by c k) code ≡ event_of commands c (event_at b y (walk b y k) code)
same_event c b y k code commands is f =
    let s : Stand = walk b y k in
    let long : length_at (lengths (trbs c)) s.index ≡ length_at y.lengths (b.dequeue - y.place + s.index) =
    ap (λ (ls : List ℕ). length_at ls s.index) (lengths_ahead c b y f) ∙ length_drop_at y.lengths (b.dequeue - y.place) s.index in
    ap (λ (t : Stand). event_by c t code) (same_walk c b y k is f)
    ∙ ap₂ (λ (p n : ℕ). TransferEvent p (n - s.within) code c.slot c.id) (same_address_on c.ring.line.base b.dequeue c.ring.line.dequeue s.index is.ring.stands) long

-- the packet for the device is the kept endpoint's
same_out : (c : Context) (b : KeptEndpoint) (y : KeptTransfer) (t : NormalTrb) → IsContext c b → IsFront c b y → HasBytes c b y t → (body : Body) → packet_for c t body ≡ out_for c.size b y body
same_out c b y t is f h (In n) = refl
same_out c b y t is f h (Out bytes) =
    ap (λ (x : List ℕ). Some x) (from_there (packet_room c) h.offset ∙ ap (λ (r : ℕ). take (min c.size r) (drop (sent_before b y) bytes)) (same_room c b y is f))
  where
    from_there : (r : ℕ) → (0 < r → offset_by t c.within ≡ sent_before b y) → take r (drop (offset_by t c.within) bytes) ≡ take r (drop (sent_before b y) bytes)
    from_there zero e = refl
    from_there (suc r) e = ap (λ (n : ℕ). take (suc r) (drop n bytes)) (e (omega arith))

-- the transfer's TRB there, and its address
abbrev pub trb_there : Context → NormalTrb → TrbAt
trb_there c t = record { pointer = address_of places c.ring.line.base (c.ring.line.dequeue + 0); trb = t }

-- whatever a packet does, these hold of it
pub record IsServed (c : Context) (p : Pipe) (b : KeptEndpoint) (y : KeptTransfer) (t : NormalTrb) : Type 0 where
  pub context : IsContext c b
  pub pipe : IsPipe p b
  pub found : find_at b.dequeue b.line ≡ Some y
  pub live : y.blank ≡ false
  pub first : slice_get (trbs c) 0 ≡ Some t
  pub front : IsFront c b y
  pub has : HasBytes c b y t

pointer_there : (c : Context) (b : KeptEndpoint) → IsContext c b → address_of places c.ring.line.base (c.ring.line.dequeue + 0) ≡ address_of places c.ring.line.base b.dequeue
pointer_there c b is =
    let here : b.dequeue + 0 ≡ b.dequeue = omega arith in
    same_address_on c.ring.line.base b.dequeue c.ring.line.dequeue 0 is.ring.stands ∙ ap (address_of places c.ring.line.base) here

came : (c : Context) (p : Pipe) (b : KeptEndpoint) (y : KeptTransfer) (t : NormalTrb) → IsServed c p b y t → (n : ℕ) → y.request.body ≡ In n
    → bytes_after (answer_of p) (packet_room c) y.bytes ≡ y.bytes ++ got y.request.body (answer_now b) (packet_now c.size b y).bytes
came c p b y t s n e =
    ap (λ (r : ℕ). bytes_after (answer_of p) (min c.size r) y.bytes) (same_room c b y s.context s.front)
    ∙ read_is c.size p b y n y.bytes s.pipe
    ∙ ap (λ (body : Body). y.bytes ++ got body (answer_now b) (packet_now c.size b y).bytes) (sym e)

-- the device is gone
serves_gone : (c : Context) (p : Pipe) (b : KeptEndpoint) (y : KeptTransfer) (t : NormalTrb) → IsServed c p b y t → ServesAs c p b true (trb_there c t) (served_gone c) (answered_gone b y)
unfolding served_gone answered_gone
serves_gone c p b y t s = record {
  y = y;
  found = s.found;
  live = s.live;
  pointer = pointer_there c b s.context;
  reply = refl;
  told = λ commands. ap (λ (k : TrbKind). k ∷ []) (same_event c b y 0 transaction_error commands s.context s.front);
  context = record {
    ring = s.context.ring;
    runs = refl;
    partly = s.context.partly;
    front = λ z h. let f = s.context.front z h in record { begun = f.begun; fits = f.fits };
    rests = s.context.rests;
  };
  pipe = record { left = s.pipe.left; halted = s.pipe.halted; taken = s.pipe.taken };
  bytes = λ n e. came c p b y t s n e;
  room = s.has.room;
  reaches = s.has.reaches;
}

-- the line with the bytes that came
abbrev line_with : KeptEndpoint → KeptTransfer → ℕ → List KeptTransfer
line_with b y k = put_at b.dequeue (record y { bytes = y.bytes ++ got y.request.body (answer_now b) k }) b.line

line_kept : (b : KeptEndpoint) (y : KeptTransfer) (k : ℕ) → find_at b.dequeue b.line ≡ Some y → HaveTrbsOf b.line (line_with b y k)
line_kept b y k h = put_same b.line b.dequeue y (record y { bytes = y.bytes ++ got y.request.body (answer_now b) k }) h (record { place = refl; lengths = refl; blank = refl; request = refl })

fits : (c : Context) (p : Pipe) (b : KeptEndpoint) (y : KeptTransfer) (t : NormalTrb) → IsServed c p b y t → (packet_now c.size b y).bytes ≤ room_at b y
fits c p b y t s =
    let is : (packet_now c.size b y).bytes ≡ _ = ap (λ (k : Packet). k.bytes) (sym (packet_is c.size p b y s.pipe)) in
    omega (arith, is, packet_few c.size (room_at b y) (is_extra c.size y.request y.request.body) (answer_of p))

-- it goes on
serves_open : (c : Context) (p : Pipe) (b : KeptEndpoint) (y : KeptTransfer) (t : NormalTrb) → IsServed c p b y t → (packet_now c.size b y).code ≡ None
    → ServesAs c p b false (trb_there c t) (served_by c (answer_of p) (packet_now c.size b y) None) (answered_by b y (packet_now c.size b y) None)
unfolding answered_by
serves_open c p b y t s open_is =
    let k : Packet = packet_now c.size b y in
    let g = open_goes c.size p b y s.pipe open_is in
    let out = same_out c b y t s.context s.front s.has y.request.body in
    let a : Answers c.size p b y (pipe_after (packet_for c t y.request.body) p) = subst (λ (o : Option (List ℕ)). Answers c.size p b y (pipe_after o p)) (sym out) (answers c.size p b y s.pipe) in
    record {
      y = y;
      found = s.found;
      live = s.live;
      pointer = pointer_there c b s.context;
      reply = by_packet (is_no_packet (answer_now b)) k.bytes ∙ ap (λ (n : Bool). reply_of y.n (if n then told.Nak else told.Moved k.bytes)) (sym g.packet);
      told = λ commands. refl;
      context = goes_on c b y k.bytes (line_with b y k.bytes) s.context s.front s.found (fits c p b y t s) (line_kept b y k.bytes s.found);
      pipe = record { left = a.left; halted = a.halted ∙ g.halted; taken = a.taken };
      bytes = λ n e. came c p b y t s n e;
      room = s.has.room;
      reaches = s.has.reaches;
    }
  where
    by_packet : (n : Bool) (k : ℕ) → ◌≡◌ {A = Reply} (if n then Nak y.n else Moved y.n k) (reply_of y.n (if n then told.Nak else told.Moved k))
    by_packet true k = refl
    by_packet false k = refl

-- it ends
serves_ended : (c : Context) (p : Pipe) (b : KeptEndpoint) (y : KeptTransfer) (t : NormalTrb) (code : ℕ) → IsServed c p b y t
    → ServesAs c p b false (trb_there c t) (served_by c (answer_of p) (packet_now c.size b y) (Some code)) (answered_by b y (packet_now c.size b y) (Some code))
unfolding answered_by
serves_ended c p b y t code s =
    let k : Packet = packet_now c.size b y in
    let h = by_halt (halts code) in
    record {
      y = y;
      found = s.found;
      live = s.live;
      pointer = pointer_there c b s.context;
      reply = refl;
      told = λ commands. ap (λ (e : TrbKind). e ∷ []) (same_event c b y k.bytes code commands s.context s.front);
      context = h.0;
      pipe = h.1;
      bytes = λ n e. came c p b y t s n e;
      room = s.has.room;
      reaches = s.has.reaches;
    }
  where
    k : Packet
    k = packet_now c.size b y

    after : KeptEndpoint
    after = endpoint_with b y k (gave y.request.body (answer_now b) (sent_before b y) k.bytes)

    ended : Bool → KeptEndpoint
    ended t = record (if◌then◌else◌ {A = KeptEndpoint} t (record after { state = Halted }) (record after { dequeue = next_place b.line b.end b.dequeue; within = 0 })) { device_halted = b.device_halted || service.is_stall (answer_now b) }

    a : Answers c.size p b y (pipe_after (packet_for c t y.request.body) p)
    a = subst (λ (o : Option (List ℕ)). Answers c.size p b y (pipe_after o p)) (sym (same_out c b y t s.context s.front s.has y.request.body)) (answers c.size p b y s.pipe)

    by_halt : (t' : Bool) → IsContext (if◌then◌else◌ {A = Context} t' (record (gone_on c k.bytes) { state = Halted }) (gone_past c)) (ended t') × IsPipe (pipe_after (packet_for c t y.request.body) p) (ended t')
    by_halt true =
        let g = goes_on c b y k.bytes (line_with b y k.bytes) s.context s.front s.found (fits c p b y t s) (line_kept b y k.bytes s.found) in (
          record {
            ring = g.ring;
            runs = refl;
            partly = g.partly;
            front = λ z h. let f = g.front z h in record { begun = f.begun; fits = f.fits };
            rests = g.rests;
          },
          record { left = a.left; halted = a.halted; taken = a.taken },
        )
    by_halt false = (goes_past c b y (line_with b y k.bytes) s.context s.front (line_kept b y k.bytes s.found), record { left = a.left; halted = a.halted; taken = a.taken })

-- a packet of a transfer in progress
serves_live : (c : Context) (p : Pipe) (b : KeptEndpoint) (gone : Bool) (y : KeptTransfer) (t : NormalTrb) → IsServed c p b y t
    → ServesAs c p b gone (trb_there c t) (served_here gone c (answer_of p)) (serve_at c.size gone b Running (Some y))
unfolding serve_at served
serves_live c p b true y t s = serves_gone c p b y t s
serves_live c p b false y t s =
    let same = same_answer c b y (answer_of p) s.context s.front ∙ packet_is c.size p b y s.pipe in
    subst (λ (x : Served). ServesAs c p b false (trb_there c t) x (answered_by b y (packet_now c.size b y) (packet_now c.size b y).code))
    (ap (λ (k : Packet). served_by c (answer_of p) k k.code) (sym same)) (by_code (packet_now c.size b y).code refl)
  where
    by_code : (o : Option ℕ) → (packet_now c.size b y).code ≡ o
        → ServesAs c p b false (trb_there c t) (served_by c (answer_of p) (packet_now c.size b y) o) (answered_by b y (packet_now c.size b y) o)
    by_code None e = serves_open c p b y t s e
    by_code (Some code) e = serves_ended c p b y t code s

-- nothing is served
abbrev idle : KeptEndpoint → Answered
idle b = record { reply = Idle; endpoint = b; told = [] }

not_running : (size : ℕ) (gone : Bool) (b : KeptEndpoint) (s : EndpointState) (o : Option KeptTransfer) → is_running s ≡ false → serve_at size gone b s o ≡ idle b
unfolding serve_at
not_running size gone b Running o e = absurd cc
not_running size true b Stopped o e = refl
not_running size false b Stopped o e = refl
not_running size true b Halted o e = refl
not_running size false b Halted o e = refl

none_left : (size : ℕ) (gone : Bool) (b : KeptEndpoint) → serve_at size gone b Running None ≡ idle b
unfolding serve_at
none_left size true b = refl
none_left size false b = refl

pub serves : (c : Context) (p : Pipe) (b : KeptEndpoint) (gone : Bool) → IsContext c b → IsPipe p b → (b.state ≡ Running → IsFresh b) → ServedAs c p b gone (working c) (serve_kept c.size gone b)
unfolding serve_kept
serves c p b gone is pipe fresh = by_state b.state refl
  where
    still : is_running b.state ≡ false → ServedAs c p b gone (working c) (serve_at c.size gone b b.state (find_at b.dequeue b.line))
    still e =
        let none : working c ≡ None = ap (λ (s : EndpointState). if is_running s then trb_at c 0 else None) is.runs ∙ ap (λ (r : Bool). if r then trb_at c 0 else None) e in
        subst (λ (o : Option TrbAt). ServedAs c p b gone o (serve_at c.size gone b b.state (find_at b.dequeue b.line))) (sym none) (not_running c.size gone b b.state (find_at b.dequeue b.line) e)

    runs_is : b.state ≡ Running → working c ≡ trb_at c 0
    runs_is e = ap (λ (s : EndpointState). if is_running s then trb_at c 0 else None) (is.runs ∙ e)

    runs : b.state ≡ Running → IsFresh b → ServedAs c p b gone (working c) (serve_at c.size gone b b.state (find_at b.dequeue b.line))
    runs e (inl at_end) =
        let none : working c ≡ None =
        runs_is e ∙ ap (λ (ts : List NormalTrb). option_map (trb_there c) (slice_get ts 0)) (ap ahead (contents_end c.size c.ring.line b.line b.end b.dequeue is.ring at_end)) in
        let left : find_at b.dequeue b.line ≡ None = none_behind b.line b.end b.dequeue is.ring.row (omega (arith, at_end)) in
        subst₂ (λ (o : Option TrbAt) (x : Answered). ServedAs c p b gone o x) (sym none)
        (sym (ap₂ (λ (s : EndpointState) (o : Option KeptTransfer). serve_at c.size gone b s o) e left ∙ none_left c.size gone b)) refl
    runs e (inr there) =
        let y : KeptTransfer = there.0 in
        let f : IsFront c b y = at_front c b y is there.1 there.2 in
        let t = first_is c b y f in
        let it : working c ≡ Some (trb_there c t.0) = runs_is e ∙ ap (λ (o : Option NormalTrb). option_map (trb_there c) o) t.1 in
        let s : IsServed c p b y t.0 = record { context = is; pipe = pipe; found = there.1; live = there.2; first = t.1; front = f; has = has_bytes c b y t.0 is f there.1 t.1 } in
        subst₂ (λ (o : Option TrbAt) (x : Answered). ServedAs c p b gone o x) (sym it)
        (sym (ap₂ (λ (s : EndpointState) (o : Option KeptTransfer). serve_at c.size gone b s o) e there.1)) (serves_live c p b gone y t.0 s)

    by_state : (s : EndpointState) → b.state ≡ s → ServedAs c p b gone (working c) (serve_at c.size gone b b.state (find_at b.dequeue b.line))
    by_state Running e = runs e (fresh e)
    by_state Stopped e = still (ap is_running e)
    by_state Halted e = still (ap is_running e)
