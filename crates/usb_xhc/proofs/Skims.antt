-- A whole packet inside the TRB at dequeue, and so many of them.
use Rattle.std.proofs.Common.{◌≡◌, ℕ, zero, suc, ◌+◌, ◌-◌, ◌*◌, ◌<◌, ◌≤◌, refl, ap, sym, ◌∙◌, arith, List, [], ◌∷◌, ◌++◌, length, drop, Some, None, true, false, Bool, ◌||◌, if◌then◌else◌, inl}
use Rattle.std.specs.Prelude.{Option, slice_get, option_map, nat_lt}
use Rattle.std.proofs.lemmas.Bool.{eqb-true, le-ltb, lt-ltb}
use Rattle.std.proofs.Math.Nat.{mul-le-mul_right}
use Rattle.usb_trb.specs.declared.kind.TrbKind.{TrbKind}
use Rattle.usb_model.specs.declared.response.Response.{Response}
use Rattle.usb_model.specs.declared.response.Response.TheVariants.{Data, Ack, Nak, Stall, Broken}
use Rattle.usb_model.specs.Endpoint.Serve.{is_no_packet}
use Rattle.usb_rings.specs.Places.{after, address_of}
use Rattle.usb_model.specs.Stands.{Stand}
use Rattle.usb_model.specs.Packets.{packet_by}
use Rattle.usb_rings.specs.Line.{Line, places, all_of, contents, moved}
use Rattle.usb_device.specs.Pipe.{bytes_after, is_ack, packet_of}
use Rattle.usb_device.specs.Skims.{is_whole}
use Rattle.usb_xhc.specs.declared.packet.PacketResult.TheVariants as told
use Rattle.usb_xhc.specs.declared.trb_at.TrbAt.{TrbAt}
use Rattle.usb_xhc.specs.Ahead.{ahead, trbs_ahead, goes_on, room}
use Rattle.usb_xhc.specs.Context.{Context, trbs, stand_by, gone_on}
use Rattle.usb_xhc.specs.Transaction.{Served, is_running, packet_room, served, trb_at, trb_in, working}
use Rattle.usb_xhc.specs.Skims.{skipped}
use Rattle.usb_xhc.proofs.Extents.{least, other}
use Rattle.usb_xhc.proofs.Nexts.{there}
use Rattle.usb_xhc.proofs.Scans.{on_by, stand-stops, total-goes}
use Rattle.usb_xhc.proofs.Serves.{served-moved}

-- an answer by which a packet of this size moves, where more than that is left
pub record Moves (size : ℕ) (a : Response) : Type 0 where
  pub packet : (r : ℕ) (e : Bool) → size < r → packet_by size r e a ≡ record { bytes = size; code = None }
  pub some : is_no_packet (a ∷ []) ≡ false

-- a packet of just this size for the host does
data-moves : (size : ℕ) (b : List ℕ) (r : ℕ) (e : Bool) → length b ≡ size → size < r → packet_by size r e (Data b) ≡ record { bytes = size; code = None }
data-moves size b r e same less =
    rw (least size r less, same, le-ltb size size (omega arith), other size r less) refl

-- so one by which a whole packet comes does
pub whole-moves : (size : ℕ) (a : Response) → is_whole size a ≡ true → Moves size a
whole-moves size (Data b) h = record { packet = λ r e less. data-moves size b r e (eqb-true (length b) size h) less; some = refl }
whole-moves size Ack h = absurd cc
whole-moves size Nak h = absurd cc
whole-moves size Stall h = absurd cc
whole-moves size Broken h = absurd cc

-- and so does one that the device takes
ack-moves : (size r : ℕ) (e : Bool) → size < r → packet_by size r e Ack ≡ record { bytes = size; code = None }
ack-moves size r e less = rw (lt-ltb size r less, least size r less) refl

-- so the packet that is taken moves
pub taken-moves : (size : ℕ) (a : Response) → is_ack a ≡ true → Moves size a
taken-moves size Ack h = record { packet = λ r e less. ack-moves size r e less; some = refl }
taken-moves size (Data b) h = absurd cc
taken-moves size Nak h = absurd cc
taken-moves size Stall h = absurd cc
taken-moves size Broken h = absurd cc

-- its bytes join the others
pub whole-joins : (size : ℕ) (a : Response) (bytes : List ℕ) → is_whole size a ≡ true → bytes_after a size bytes ≡ bytes ++ packet_of a
whole-joins size (Data b) bytes h = rw (le-ltb size (length b) (omega (arith, eqb-true (length b) size h))) refl
whole-joins size Ack bytes h = absurd cc
whole-joins size Nak bytes h = absurd cc
whole-joins size Stall bytes h = absurd cc
whole-joins size Broken bytes h = absurd cc

-- so many bytes on it stands at the same TRB, where that has more
inside-stands : (c : Context) (t : TrbAt) (k : ℕ) → trb_at c 0 ≡ Some t → c.within + k < t.trb.length → stand_by c k ≡ record { index = 0; within = c.within + k }
inside-stands c t k at less = sym (none-on (stand_by c k)) ∙ stand-stops (trbs c) 0 (c.within + k) t.trb (there c.ring.line 0 t at).0 (inl less)
  where
    none-on : (s : Stand) → on_by 0 s ≡ s
    none-on s = ap (λ (n : ℕ). record { index = n; within = s.within }) (omega arith)

-- and more bytes are left of its transfer
pub inside-room : (c : Context) (t : TrbAt) (k : ℕ) → trb_at c 0 ≡ Some t → c.within + k < t.trb.length → k < room (trbs c) c.within
inside-room c t k at less =
    let all = total-goes (trbs c) 0 t.trb (there c.ring.line 0 t at).0 in
    omega (arith, all, less)

-- one packet on, inside the TRB
abbrev pub stepped : Context → Context
stepped c = record c { within = c.within + c.size; begun = true; ring = record c.ring { line = moved c.ring.line 0 } }

-- whatever was before
or-true : (b : Bool) → (b || true) ≡ true
or-true true = refl
or-true false = refl

-- the endpoint at this stand
abbrev at-stand : Context → Bool → Stand → Context
at-stand c begun s = record c { within = s.within; begun = begun; ring = record c.ring { line = moved c.ring.line s.index } }

-- so it goes on by one packet there
inside-goes : (c : Context) (t : TrbAt) → trb_at c 0 ≡ Some t → c.within + c.size < t.trb.length → 0 < c.size → gone_on c c.size ≡ stepped c
inside-goes c t at less some =
    ap (at-stand c (c.begun || nat_lt 0 c.size)) (inside-stands c t c.size at less)
    ∙ ap (λ (b : Bool). at-stand c b (record { index = 0; within = c.within + c.size })) (ap (λ (b : Bool). c.begun || b) (lt-ltb 0 c.size some) ∙ or-true c.begun)

-- what a whole packet leaves there
abbrev pub left_by : Context → Bool → Context → Served
left_by c none d = record { packet = if none then told.Nak else told.Moved c.size; context = d; events = [] }

-- and that is all that a whole packet leaves: it moved, and nothing is told by an event
pub served-inside : (c : Context) (t : TrbAt) (a : Response) → trb_at c 0 ≡ Some t → c.within + c.size < t.trb.length → 0 < c.size → Moves c.size a → served c a ≡ left_by c false (stepped c)
served-inside c t a at less some moves =
    served-moved c a c.size (moves.packet (room (trbs c) c.within) (goes_on (trbs c)) (inside-room c t c.size at less))
    ∙ ap (λ (b : Bool). left_by c b (gone_on c c.size)) moves.some
    ∙ ap (left_by c false) (inside-goes c t at less some)

-- a line whose dequeue goes past no TRB
contents-stay : (l : Line) → contents (moved l 0) ≡ contents l
contents-stay l = ap (λ (n : ℕ). l.gone ++ drop n (all_of l.items)) (omega arith)

-- its first TRB stays the first, at the same address
trb-stays : (l : Line) → trb_in (moved l 0) 0 ≡ trb_in l 0
trb-stays l =
    ap (λ (ks : List TrbKind). option_map (λ t. record { pointer = address_of places l.base (after places l.dequeue 0 + 0); trb = t }) (slice_get (ahead ks) 0)) (contents-stay l)
    ∙ ap (λ (p : ℕ). option_map (λ t. record { pointer = p; trb = t }) (slice_get (trbs_ahead l) 0)) (omega arith)

-- and once more changes nothing
moved-twice : (l : Line) → moved (moved l 0) 0 ≡ moved l 0
moved-twice l =
    ap (λ (p : ℕ). record l { dequeue = p; passed = l.passed + (0 - length l.gone) + (0 - length l.gone) }) (omega arith)
    ∙ ap (λ (p : ℕ). record l { dequeue = after places l.dequeue 0; passed = p }) (omega arith)

-- so many packets leave the endpoint's size, and what it serves
pub size-skipped : (c : Context) (k : ℕ) → (skipped c k).size ≡ c.size
size-skipped c zero = refl
size-skipped c (suc k) = refl

-- the bytes that moved are those before and those of the packets
pub within-skipped : (c : Context) (k : ℕ) → (skipped c k).within ≡ c.within + k * c.size
within-skipped c zero = omega arith
within-skipped c (suc k) = refl

-- the TRB at dequeue stays
pub working-skipped : (c : Context) (k : ℕ) → working (skipped c k) ≡ working c
working-skipped c zero = refl
working-skipped c (suc k) = ap (λ (x : Option TrbAt). if is_running c.state then x else None) (trb-stays c.ring.line)

-- a running endpoint serves the TRB at dequeue
pub first-of : (c : Context) (t : TrbAt) → working c ≡ Some t → trb_at c 0 ≡ Some t
first-of c t h = by_state (is_running c.state) h
  where
    by_state : (b : Bool) → (if b then trb_at c 0 else None) ≡ Some t → trb_at c 0 ≡ Some t
    by_state true g = g
    by_state false g = absurd cc

-- so many packets and one more have the bytes of both
pub one-more : (k n : ℕ) → k * n + n ≡ suc k * n
one-more k n = grind arith

-- and one packet more is one step more
pub stepped-skipped : (c : Context) (k : ℕ) → stepped (skipped c k) ≡ skipped c (suc k)
stepped-skipped c zero = ap (λ (n : ℕ). record c { within = n; begun = true; ring = record c.ring { line = moved c.ring.line 0 } }) (omega arith)
stepped-skipped c (suc k) =
    ap (λ (l : Line). record c { within = c.within + suc k * c.size + c.size; begun = true; ring = record c.ring { line = l } }) (moved-twice c.ring.line)
    ∙ ap (λ (n : ℕ). record c { within = n; begun = true; ring = record c.ring { line = moved c.ring.line 0 } }) (omega (arith, one-more (suc k) c.size))

-- some packets
pub some-skipped : (c : Context) (k : ℕ) → 0 < k → skipped c k ≡ record c { within = c.within + k * c.size; begun = true; ring = record c.ring { line = moved c.ring.line 0 } }
some-skipped c zero some = absurd (omega (arith, some))
some-skipped c (suc k) some = refl

-- each of them is inside the TRB
pub inside-skipped : (c : Context) (t : TrbAt) (k i : ℕ) → c.within + k * c.size < t.trb.length → i < k → (skipped c i).within + (skipped c i).size < t.trb.length
inside-skipped c t k i less before =
    let few : suc i * c.size ≤ k * c.size = mul-le-mul_right c.size (omega (arith, before)) in
    omega (arith, less, few, one-more i c.size, within-skipped c i, size-skipped c i)

-- a packet there has its size
pub whole-room : (c : Context) (t : TrbAt) → trb_at c 0 ≡ Some t → c.within + c.size < t.trb.length → packet_room c ≡ c.size
whole-room c t at less = least c.size (room (trbs c) c.within) (inside-room c t c.size at less)
