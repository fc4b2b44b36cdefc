-- A packet is served: the transfer where the controller stands is the first that waits, and the next endpoint is shown.
use Rattle.std.proofs.Common.{Bool, List, None, Option, Some, [], ap, append-nil, arith, ap₂, drop, false, length, refl, subst, sym, take, true, ℕ, ◌+◌, ◌++◌, ◌-◌, ◌<◌, ◌≤◌, ◌∙◌, ◌∷◌, ◌≡◌}
use Rattle.std.specs.Prelude.{if◌then◌else◌, ◌||◌}
use Rattle.std.proofs.lemmas.List.{append_cancel_left}
use Rattle.usb_model.specs.declared.errand.Errand.{Errand}
use Rattle.usb_model.specs.declared.endpoint.Endpoint.{Endpoint}
use Rattle.usb_model.specs.declared.endpoint.EndpointState.TheVariants.{Halted, Running, Stopped}
use Rattle.usb_model.specs.declared.endpoint.EndpointState.{EndpointState}
use Rattle.usb_model.specs.declared.item.Item.{Item}
use Rattle.usb_model.specs.declared.item.ItemState.TheVariants.{Served}
use Rattle.usb_model.specs.declared.item.ItemState.{ItemState}
use Rattle.usb_model.specs.declared.news.Event.TheVariants.{Finished}
use Rattle.usb_model.specs.declared.news.Event.{Event}
use Rattle.usb_model.specs.declared.reply.Reply.TheVariants.{Ended, Idle, Moved, Nak}
use Rattle.usb_model.specs.Endpoint.{first_waiting, is_blank, is_blank_state, is_waiting, outcome_of, with_first, only_says}
use Rattle.usb_model.specs.Endpoint.Packets.{count_of}
use Rattle.usb_model.specs.Endpoint.Serve.{acknowledged, is_no_packet, next_answer, serve, serve_by, serve_first, serve_gone, is_stall}
use Rattle.usb_model.specs.Endpoint.Status.{halts}
use Rattle.proof_model.proofs.Work.Errands.{events-with_first}
use Rattle.usb_model.specs.Coherence.{IsCoherent, event_by, served_events}
use Rattle.usb_model.specs.Stands.{Stand, stand, total}
use Rattle.refine_world.specs.ShownEndpoint.{AllKept, IsLive, NewBehind, ShowsEnd, count, front, front_of, is_stale, orders_sent, telling_of, tail_told, told_of}
use Rattle.usb_model.specs.Kept.{InRow, KeptEndpoint, KeptTransfer, SentErrand, Telling, first_place}
use Rattle.usb_model.specs.Events.{covers, find_at, past_at, past_kept_blanks}
use Rattle.usb_model.specs.Packets.{Packet, answer_now, answered_by, answered_gone, endpoint_with, event_at, gave, got, packet_now, put_at, sent_before, serve_at, serve_kept, walk}
use Rattle.refine_world.specs.Kept.{PacketIs, Serves, grown, outcome_now}
use Rattle.refine_world.proofs.FirstServed.{covers_past}
use Rattle.refine_world.proofs.Fronts.{Fronted, Puts, fronts}
use Rattle.usb_model.proofs.Stands.{stands_some, walks}
use Rattle.proof_model.proofs.Work.Phases.{running_tail}

-- a running endpoint's controller stands at the first waiting transfer
pub fresh_running : (s : EndpointState) (er : Option Errand) (os : List Errand) → s ≡ Running → is_stale s er os ≡ false
fresh_running Running er os e = refl
fresh_running Halted er os e = absurd cc
fresh_running Stopped er os e = absurd cc

-- at the line's end stands nothing
pub find_end : (p end : ℕ) (ys : List KeptTransfer) → InRow ys end → end ≤ p → (first_place ys end ≤ p) × (find_at p ys ≡ None)
unfolding find_at
find_end p end [] row le = (le, refl)
find_end p end (y ∷ ys) row le =
    let r = find_end p end ys row.1 le in
    let behind : y.place + length y.lengths ≤ p = omega (arith, r.0, row.0) in
    (omega (arith, behind), rw (covers_past p y behind) r.1)

-- the same put in its own place
put_same : (p : ℕ) (y : KeptTransfer) (ys : List KeptTransfer) → find_at p ys ≡ Some y → put_at p y ys ≡ ys
unfolding find_at put_at
put_same p y [] e = refl
put_same p y (z ∷ ys) e = by_test (covers p z) e (put_same p y ys)
  where
    by_test : (b : Bool) → (if b then Some z else find_at p ys) ≡ Some y → (find_at p ys ≡ Some y → put_at p y ys ≡ ys) → (if b then y ∷ ys else z ∷ put_at p y ys) ≡ z ∷ ys
    by_test true e rest = let same : z ≡ y = cc in ap (λ k. k ∷ ys) (sym same)
    by_test false e rest = ap (λ l. z ∷ l) (rest e)

-- the front of a line where none waits
pub front_none : (size : ℕ) (xs : List Item) (ys : List KeptTransfer) (end : ℕ) → first_waiting xs ≡ None → (front size xs ys end).place ≡ end
unfolding first_waiting front
front_none size [] ys end e = refl
front_none size (x ∷ xs) [] end e = refl
front_none size (x ∷ xs) (y ∷ ys) end e = by_test (is_waiting x) e (front_none size xs ys end)
  where
    by_test : (b : Bool) → (if b then Some x else first_waiting xs) ≡ None → (first_waiting xs ≡ None → (front size xs ys end).place ≡ end) → (if b then front_of size x y else front size xs ys end).place ≡ end
    by_test true e rest = absurd cc
    by_test false e rest = rest e

-- where the controller stands in the transfer x, kept as y
pub record At (size : ℕ) (b : KeptEndpoint) (x : Item) (y : KeptTransfer) : Type 0 where
  pub i : ℕ
  pub is : (stand y.lengths (count size x)).index ≡ i
  pub index : b.dequeue - y.place ≡ i
  pub place : b.dequeue ≡ y.place + i
  pub within : b.within ≡ (stand y.lengths (count size x)).within
  pub before : sent_before b y ≡ count size x

pub at_front : (size : ℕ) (b : KeptEndpoint) (x : Item) (y : KeptTransfer) → 0 < length y.lengths → IsLive size x y → record { place = b.dequeue; within = b.within } ≡ front_of size x y → At size b x y
at_front size b x y some live e =
    let s = stands_some y.lengths (count size x) some live.fits in
    let place : b.dequeue ≡ y.place + (stand y.lengths (count size x)).index = ap (λ f. f.place) e in
    let within : b.within ≡ (stand y.lengths (count size x)).within = ap (λ f. f.within) e in
    let index : b.dequeue - y.place ≡ (stand y.lengths (count size x)).index = omega (arith, place) in
    record { i = (stand y.lengths (count size x)).index; is = refl; index = index; place = place; within = within; before = ap₂ (λ a c. total (take a y.lengths) + c) index within ∙ s.before }

-- k bytes on
pub walked : (size : ℕ) (b : KeptEndpoint) (x : Item) (y : KeptTransfer) (k : ℕ) → 0 < length y.lengths → (a : At size b x y)
    → (a.i + (walk b y k).index ≡ (stand y.lengths (count size x + k)).index) × ((walk b y k).within ≡ (stand y.lengths (count size x + k)).within)
walked size b x y k some a = by_lengths y.lengths some a.index a.within a.is
  where
    by_lengths : (ls : List ℕ) → 0 < length ls → b.dequeue - y.place ≡ a.i → b.within ≡ (stand ls (count size x)).within → (stand ls (count size x)).index ≡ a.i
        → (a.i + (stand (drop (b.dequeue - y.place) ls) (b.within + k)).index ≡ (stand ls (count size x + k)).index) × ((stand (drop (b.dequeue - y.place) ls) (b.within + k)).within ≡ (stand ls (count size x + k)).within)
    by_lengths [] some index within is = absurd (omega (arith, some))
    by_lengths (l ∷ ls) some index within is =
        let w = walks l ls (count size x) k in
        rw (index, within, sym is) (ap (λ s. s.index) w, ap (λ s. s.within) w)

-- so an event there is that of the transfer with these bytes
pub event_is : (size : ℕ) (b : KeptEndpoint) (x z : Item) (y y' : KeptTransfer) (k code : ℕ) → 0 < length y.lengths → At size b x y → y'.place ≡ y.place → y'.lengths ≡ y.lengths → count size z ≡ count size x + k → event_at b y (walk b y k) code ≡ telling_of size z y' code
event_is size b x z y y' k code some a same_place same_lengths more =
    let w = walked size b x y k some a in
    let s : Stand = stand y.lengths (count size x + k) in
    let at : b.dequeue + (walk b y k).index ≡ y.place + s.index = omega (arith, a.place, w.0) in
    let index : b.dequeue - y.place + (walk b y k).index ≡ s.index = omega (arith, a.index, w.0) in
    rw (at, index, w.1, same_place, same_lengths, more) refl

-- nothing happens
idles : (size : ℕ) (e : Endpoint) (os : List Errand) (ns : List Event) (b : KeptEndpoint) (sent : List SentErrand) (told : List Telling) → ShowsEnd size e os ns b sent told
    → Serves size (only_says e Idle) (record { reply = Idle; endpoint = b; told = [] }) os ns sent told
idles size e os ns b sent told s = record { reply = refl; shows = rw (append-nil os, append-nil ns, append-nil told) s }

-- the transfer as it is kept, with the bytes that came
abbrev kept_with : KeptEndpoint → KeptTransfer → ℕ → KeptTransfer
kept_with b y k = record y { bytes = y.bytes ++ got y.request.body (answer_now b) k }

live_with : (size : ℕ) (e : Endpoint) (b : KeptEndpoint) (x : Item) (y : KeptTransfer) (k : Packet) → answer_now b ≡ next_answer e → IsLive size x y → PacketIs size e x k → IsLive size (grown e x) (kept_with b y k.bytes)
live_with size e b x y k same live is = record {
  n = live.n;
  request = live.request;
  round = live.round;
  ask = live.ask;
  bytes = ap₂ (λ l m. l ++ m) live.bytes (ap₂ (λ r a. got r.body a k.bytes) live.request same) ∙ sym is.bytes;
  lengths = live.lengths;
  fits = rw (is.later, live.lengths) is.fits;
  unmoved = λ none. live.unmoved (omega (arith, none, is.later));
}

-- the state of an item that a packet ended, or didn't
abbrev item_with : Endpoint → Item → ItemState → Item
item_with e x s = record (grown e x) { state = s }

-- a packet that leaves the transfer open
open_shows : (size : ℕ) (e : Endpoint) (os : List Errand) (ns : List Event) (b : KeptEndpoint) (sent : List SentErrand) (told : List Telling) (x : Item) (k : Packet)
    → IsCoherent e os ns → (s : ShowsEnd size e os ns b sent told) → e.state ≡ Running → first_waiting e.line ≡ Some x → (f : Fronted size e.line b.line b.end x) → b.dequeue ≡ f.p → At size b x f.y
    → answer_now b ≡ next_answer e → PacketIs size e x k → Serves size (serve_by e x (outcome_of size x) (outcome_now size e x) None) (answered_by b f.y k None) os ns sent told
unfolding serve_by answered_by
open_shows size e os ns b sent told x k c s run first f deq a same is =
    let y' : KeptTransfer = kept_with b f.y k.bytes in
    let x' : Item = grown e x in
    let w = walked size b x f.y k.bytes f.some a in
    let tail : s.tail ≡ [] = ap (λ l. l) (append_cancel_left (served_events e.line) s.tail c.tail (sym s.news ∙ c.news)) ∙ running_tail e.state e.errand os (served_events e.line) c.tail run c.phase in
    let live = live_with size e b x f.y k same f.live is in
    let blank : f.y.blank ≡ is_blank x' = f.blank ∙ ap (λ t. is_blank_state t) (sym f.waiting) in
    let q = subst (λ p. Puts size e.line b.line b.end p x f.y x' y') (sym deq) (f.puts x' y' (record { blank = blank; some = f.some; live = λ n. live }) refl refl) in
    let v = q.waits f.waiting in
    let events = events-with_first x x' e.line first c.in_order (ap is_blank_state f.waiting) in
    let quiet : event_by x'.n x'.state [] ≡ [] = ap (λ t. event_by x.n t []) f.waiting in
    record {
      reply = ap₂ (λ n t. if t then Nak n else Moved n k.bytes) f.live.n (ap is_no_packet same) ∙ ap (λ m. if is_no_packet (next_answer e) then Nak x.n else Moved x.n m) (let m : k.bytes ≡ count_of (outcome_now size e x) - count_of (outcome_of size x) = omega (arith, is.now) in m);
      shows = rw (append-nil os, append-nil ns, append-nil told) (record {
        tail = [];
        news = s.news ∙ ap₂ (λ l t. l ++ t) (sym (events.0 ∙ (ap (λ l. served_events e.line ++ l) quiet ∙ append-nil (served_events e.line)))) tail;
        kept = q.kept;
        row = q.row;
        state = s.state;
        errand = s.errand;
        script_left = ap₂ (λ l m. drop (length l) m) same s.script_left;
        device_halted = s.device_halted;
        packets_received = ap₂ (λ l m. l ++ m) s.packets_received (ap₂ (λ r l. gave r.body l (sent_before b f.y) k.bytes) f.live.request same ∙ (ap (λ n. gave x.request.body (next_answer e) n k.bytes) a.before ∙ sym is.packets_received));
        told_is = s.told_is ∙ ap₂ (λ l t. l ++ tail_told size e.line b.line b.errand t) (sym v.0) tail;
        sent_is = s.sent_is;
        paused = tt;
        stands = λ z. ap₂ (λ p t. record { place = p; within = t }) (let at : b.dequeue + (walk b f.y k.bytes).index ≡ f.y.place + (stand f.y.lengths (count size x + k.bytes)).index = omega (arith, a.place, w.0) in at) w.1
            ∙ (ap (λ n. record { place = f.y.place + (stand f.y.lengths n).index; within = (stand f.y.lengths n).within }) (sym is.later) ∙ sym v.1);
        known = λ z none. absurd (cc (z, run));
      });
    }

-- a packet that ends it
ended_shows : (size : ℕ) (e : Endpoint) (os : List Errand) (ns : List Event) (b : KeptEndpoint) (sent : List SentErrand) (told : List Telling) (x : Item) (k : Packet) (code : ℕ)
    → IsCoherent e os ns → (s : ShowsEnd size e os ns b sent told) → NewBehind e.line → e.state ≡ Running → first_waiting e.line ≡ Some x → (f : Fronted size e.line b.line b.end x) → b.dequeue ≡ f.p → At size b x f.y
    → answer_now b ≡ next_answer e → PacketIs size e x k → Serves size (serve_by e x (outcome_of size x) (outcome_now size e x) (Some code)) (answered_by b f.y k (Some code)) os ns sent told
unfolding serve_by answered_by
ended_shows size e os ns b sent told x k code c s behind run first f deq a same is =
    record { reply = ap (λ n. Ended n code) f.live.n; shows = by_halt (halts code) }
  where
    y' : KeptTransfer
    y' = kept_with b f.y k.bytes

    x' : Item
    x' = item_with e x (Served code)

    tail : s.tail ≡ []
    tail = append_cancel_left (served_events e.line) s.tail c.tail (sym s.news ∙ c.news) ∙ running_tail e.state e.errand os (served_events e.line) c.tail run c.phase

    live : IsLive size x' y'
    live = let l = live_with size e b x f.y k same f.live is in record { n = l.n; request = l.request; round = l.round; ask = l.ask; bytes = l.bytes; lengths = l.lengths; fits = l.fits; unmoved = l.unmoved }

    q : Puts size e.line b.line b.end b.dequeue x f.y x' y'
    q = subst (λ p. Puts size e.line b.line b.end p x f.y x' y') (sym deq) (f.puts x' y' (record { blank = f.blank; some = f.some; live = λ n. live }) refl refl)

    event : event_at b f.y (walk b f.y k.bytes) code ≡ telling_of size x' y' code
    event = event_is size b x x' f.y y' k.bytes code f.some a refl refl is.later

    after : KeptEndpoint
    after = endpoint_with b f.y k (gave f.y.request.body (answer_now b) (sent_before b f.y) k.bytes)

    world_of : (state : EndpointState) (dequeue within : ℕ) → (is_stale state e.errand (os ++ []) ≡ false → record { place = dequeue; within = within } ≡ front size (with_first x' e.line) (put_at b.dequeue y' b.line) b.end) → (state ≡ Stopped → ⊥)
        → ShowsEnd size (record e { line = with_first x' e.line; script_left = drop (length (next_answer e)) e.script_left; packets_received = e.packets_received ++ acknowledged x.request.body (outcome_of size x) (outcome_now size e x); device_halted = e.device_halted || is_stall (next_answer e); state = state }) (os ++ []) (ns ++ Finished x.n code ∷ [])
        (record after { dequeue = dequeue; within = within; state = state; device_halted = b.device_halted || is_stall (answer_now b) }) (sent) (told ++ event_at b f.y (walk b f.y k.bytes) code ∷ [])
    world_of state dequeue within stands moves = record {
      tail = [];
      news = ap (λ l. l ++ Finished x.n code ∷ []) (s.news ∙ (ap (λ t. served_events e.line ++ t) tail ∙ append-nil (served_events e.line))) ∙ (sym (events-with_first x x' e.line first c.in_order refl).0 ∙ sym (append-nil (served_events (with_first x' e.line))));
      kept = q.kept;
      row = q.row;
      state = refl;
      errand = s.errand;
      script_left = ap₂ (λ l m. drop (length l) m) same s.script_left;
      device_halted = ap₂ (λ h l. h || is_stall l) s.device_halted same;
      packets_received = ap₂ (λ l m. l ++ m) s.packets_received (ap₂ (λ r l. gave r.body l (sent_before b f.y) k.bytes) f.live.request same ∙ (ap (λ n. gave x.request.body (next_answer e) n k.bytes) a.before ∙ sym is.packets_received));
      told_is = ap₂ (λ l t. l ++ t ∷ []) (s.told_is ∙ (ap (λ t. told_of size e.line b.line ++ tail_told size e.line b.line b.errand t) tail ∙ append-nil (told_of size e.line b.line))) event ∙ (sym (q.served code refl) ∙ sym (append-nil (told_of size (with_first x' e.line) (put_at b.dequeue y' b.line))));
      sent_is = s.sent_is ∙ ap (orders_sent b.errand) (sym (append-nil os));
      paused = tt;
      stands = stands;
      known = λ z none. absurd (moves z);
    }

    by_halt : (t : Bool) → ShowsEnd size (record e { line = with_first x' e.line; script_left = drop (length (next_answer e)) e.script_left; packets_received = e.packets_received ++ acknowledged x.request.body (outcome_of size x) (outcome_now size e x); device_halted = e.device_halted || is_stall (next_answer e); state = if t then Halted else e.state }) (os ++ []) (ns ++ Finished x.n code ∷ [])
        (record (if t then record after { state = Halted } else record after { dequeue = first_place (past_kept_blanks (past_at b.dequeue b.line)) b.end; within = 0 }) { device_halted = b.device_halted || is_stall (answer_now b) }) sent (told ++ event_at b f.y (walk b f.y k.bytes) code ∷ [])
    by_halt true = world_of Halted after.dequeue after.within (λ z. absurd cc) (λ z. cc)
    by_halt false =
        rw (s.state) (world_of e.state (first_place (past_kept_blanks (past_at b.dequeue b.line)) b.end) 0 (λ z. sym (q.after code refl behind)) (λ z. cc (z, run)))

-- the transfer of a gone device ends with what it has
gone_shows : (size : ℕ) (e : Endpoint) (os : List Errand) (ns : List Event) (b : KeptEndpoint) (sent : List SentErrand) (told : List Telling) (x : Item)
    → IsCoherent e os ns → (s : ShowsEnd size e os ns b sent told) → e.state ≡ Running → first_waiting e.line ≡ Some x → (f : Fronted size e.line b.line b.end x) → b.dequeue ≡ f.p → At size b x f.y
    → Serves size (serve_gone e x) (answered_gone b f.y) os ns sent told
unfolding serve_gone answered_gone
gone_shows size e os ns b sent told x c s run first f deq a =
    let x' : Item = record x { state = Served 4 } in
    let l = f.live in
    let q = f.puts x' f.y (record { blank = f.blank; some = f.some; live = λ n. record { n = l.n; request = l.request; round = l.round; ask = l.ask; bytes = l.bytes; lengths = l.lengths; fits = l.fits; unmoved = l.unmoved } }) refl refl in
    let still : put_at f.p f.y b.line ≡ b.line = put_same f.p f.y b.line f.found in
    let tail : s.tail ≡ [] = append_cancel_left (served_events e.line) s.tail c.tail (sym s.news ∙ c.news) ∙ running_tail e.state e.errand os (served_events e.line) c.tail run c.phase in
    let event : event_at b f.y (walk b f.y 0) 4 ≡ telling_of size x' f.y 4 = event_is size b x x' f.y f.y 0 4 f.some a refl refl (let same : count size x ≡ count size x + 0 = omega arith in same) in
    record {
      reply = ap (λ n. Ended n 4) f.live.n;
      shows = record {
        tail = [];
        news = ap (λ l. l ++ Finished x.n 4 ∷ []) (s.news ∙ (ap (λ t. served_events e.line ++ t) tail ∙ append-nil (served_events e.line))) ∙ (sym (events-with_first x x' e.line first c.in_order refl).0 ∙ sym (append-nil (served_events (with_first x' e.line))));
        kept = subst (AllKept size (with_first x' e.line)) still q.kept;
        row = s.row;
        state = refl;
        errand = s.errand;
        script_left = s.script_left;
        device_halted = s.device_halted;
        packets_received = s.packets_received;
        told_is = ap₂ (λ l t. l ++ t ∷ []) (s.told_is ∙ (ap (λ t. told_of size e.line b.line ++ tail_told size e.line b.line b.errand t) tail ∙ append-nil (told_of size e.line b.line))) event
            ∙ (sym (q.served 4 refl) ∙ (ap (told_of size (with_first x' e.line)) still ∙ sym (append-nil (told_of size (with_first x' e.line) b.line))));
        sent_is = s.sent_is ∙ ap (orders_sent b.errand) (sym (append-nil os));
        paused = tt;
        stands = λ z. absurd cc;
        known = λ z none. absurd cc;
      };
    }

-- what a packet tells of the first waiting transfer, where the controller stands in it
abbrev pub PacketTold : ℕ → Endpoint → KeptEndpoint → Type 0
PacketTold size e b = (x : Item) (y : KeptTransfer) → first_waiting e.line ≡ Some x → IsLive size x y → At size b x y → answer_now b ≡ next_answer e → PacketIs size e x (packet_now size b y)

-- with the transfer found
first_shows : (size : ℕ) (gone : Bool) (e : Endpoint) (os : List Errand) (ns : List Event) (b : KeptEndpoint) (sent : List SentErrand) (told : List Telling) (x : Item)
    → IsCoherent e os ns → ShowsEnd size e os ns b sent told → NewBehind e.line → e.state ≡ Running → first_waiting e.line ≡ Some x → (f : Fronted size e.line b.line b.end x) → b.dequeue ≡ f.p → At size b x f.y → PacketTold size e b
    → Serves size (serve_first size gone e Running (Some x)) (serve_at size gone b Running (Some f.y)) os ns sent told
unfolding serve_first serve_at
first_shows size true e os ns b sent told x c s behind run first f deq a packets = gone_shows size e os ns b sent told x c s run first f deq a
first_shows size false e os ns b sent told x c s behind run first f deq a packets = by_code (packet_now size b f.y).code is.code
  where
    same : answer_now b ≡ next_answer e
    same = rw (s.device_halted, s.script_left) refl

    is : PacketIs size e x (packet_now size b f.y)
    is = packets x f.y first f.live a same

    by_code : (o : Option ℕ) → (outcome_now size e x).code ≡ o → Serves size (serve_by e x (outcome_of size x) (outcome_now size e x) (outcome_now size e x).code) (answered_by b f.y (packet_now size b f.y) o) os ns sent told
    by_code None code = subst (λ o. Serves size (serve_by e x (outcome_of size x) (outcome_now size e x) o) (answered_by b f.y (packet_now size b f.y) None) os ns sent told) (sym code)
        (open_shows size e os ns b sent told x (packet_now size b f.y) c s run first f deq a same is)
    by_code (Some k) code = subst (λ o. Serves size (serve_by e x (outcome_of size x) (outcome_now size e x) o) (answered_by b f.y (packet_now size b f.y) (Some k)) os ns sent told) (sym code)
        (ended_shows size e os ns b sent told x (packet_now size b f.y) k c s behind run first f deq a same is)

pub serve_shows : (size : ℕ) (gone : Bool) (e : Endpoint) (os : List Errand) (ns : List Event) (b : KeptEndpoint) (sent : List SentErrand) (told : List Telling)
    → IsCoherent e os ns → ShowsEnd size e os ns b sent told → NewBehind e.line → PacketTold size e b → Serves size (serve size gone e) (serve_kept size gone b) os ns sent told
unfolding serve serve_kept serve_first serve_at
serve_shows size gone e os ns b sent told c s behind packets =
    subst (λ t. Serves size (serve_first size gone e e.state (first_waiting e.line)) (serve_at size gone b t (find_at b.dequeue b.line)) os ns sent told) (sym s.state) (by_state e.state refl)
  where
    idle : Serves size (only_says e Idle) (record { reply = Idle; endpoint = b; told = [] }) os ns sent told
    idle = idles size e os ns b sent told s

    by_first : e.state ≡ Running → (o : Option Item) → first_waiting e.line ≡ o → Serves size (serve_first size gone e Running o) (serve_at size gone b Running (find_at b.dequeue b.line)) os ns sent told
    by_first run None first =
        let at : b.dequeue ≡ b.end = ap (λ f. f.place) (s.stands (fresh_running e.state e.errand os run)) ∙ front_none size e.line b.line b.end first in
        let nothing : find_at b.dequeue b.line ≡ None = (find_end b.dequeue b.end b.line s.row (omega (arith, at))).1 in
        rw nothing (by_gone gone)
      where
        by_gone : (g : Bool) → Serves size (serve_first size g e Running None) (serve_at size g b Running None) os ns sent told
        by_gone true = idle
        by_gone false = idle
    by_first run (Some x) first =
        let f = fronts size e.line b.line b.end x s.kept s.row c.in_order first in
        let at = s.stands (fresh_running e.state e.errand os run) ∙ f.stands in
        let deq : b.dequeue ≡ f.p = ap (λ g. g.place) at ∙ sym f.at in
        let there : find_at b.dequeue b.line ≡ Some f.y = ap (λ p. find_at p b.line) deq ∙ f.found in
        rw there (first_shows size gone e os ns b sent told x c s behind run first f deq (at_front size b x f.y f.some f.live at) packets)

    by_gone : (g : Bool) (t : EndpointState) → (t ≡ Running → ⊥) → Serves size (serve_first size g e t (first_waiting e.line)) (serve_at size g b t (find_at b.dequeue b.line)) os ns sent told
    by_gone true Running q = absurd (q refl)
    by_gone false Running q = absurd (q refl)
    by_gone true Stopped q = idle
    by_gone false Stopped q = idle
    by_gone true Halted q = idle
    by_gone false Halted q = idle

    by_state : (t : EndpointState) → e.state ≡ t → Serves size (serve_first size gone e t (first_waiting e.line)) (serve_at size gone b t (find_at b.dequeue b.line)) os ns sent told
    by_state Running run = by_first run (first_waiting e.line) refl
    by_state Stopped st = by_gone gone Stopped (λ z. cc)
    by_state Halted st = by_gone gone Halted (λ z. cc)
