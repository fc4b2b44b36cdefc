-- An answer of the device is that of the kept endpoint.
use Rattle.std.proofs.Common.{◌≡◌, ℕ, ◌≤◌, refl, ap, ap₂, sym, ◌∙◌, arith, append-nil, List, [], ◌∷◌, ◌++◌, length, take, drop, Some, None, true, false, Bool}
use Rattle.std.specs.Prelude.{Option, min, nat_lt, ◌==◌, ◌&&◌, ◌||◌, if◌then◌else◌}
use Rattle.std.proofs.lemmas.Bool.{ltb-false}
use Rattle.usb_model.specs.declared.request.Body.{Body}
use Rattle.usb_model.specs.declared.request.Body.TheVariants.{In, Out}
use Rattle.usb_model.specs.declared.response.Response.{Response}
use Rattle.usb_model.specs.declared.response.Response.TheVariants as response
use Rattle.usb_model.specs.Completion.{stall_error}
use Rattle.usb_model.specs.Endpoint.Serve.{is_no_packet}
use Rattle.usb_model.specs.Endpoint.Serve as service
use Rattle.usb_model.specs.Kept.{KeptEndpoint, KeptTransfer, is_extra}
use Rattle.usb_model.specs.Packets.{Packet, answer_now, gave, got, packet_by, packet_now, packet_of, room_at, sent_before}
use Rattle.usb_device.specs.Pipe.{Pipe, answer_of, bytes_after, first_of, pipe_after, stalls, taken_by}
use Rattle.refine_rings.specs.Endpoint.{IsPipe}

-- no more bytes than there is room for, and none where the packet is too long
pub packet_few : (size room : ℕ) (extra : Bool) (a : Response) → (packet_by size room extra a).bytes ≤ room
packet_few size room extra response.Nak = omega arith
packet_few size room extra response.Stall = omega arith
packet_few size room extra response.Broken = omega arith
packet_few size room extra response.Ack = by_test (nat_lt size room || (extra && nat_lt 0 room))
  where
    by_test : (t : Bool) → (if◌then◌else◌ {A = Packet} t (record { bytes = min size room; code = None }) (record { bytes = min size room; code = Some 1 })).bytes ≤ room
    by_test true = omega arith
    by_test false = omega arith
packet_few size room extra (response.Data b) = by_length (nat_lt (min size room) (length b)) (length b == room) (nat_lt (length b) size) refl
  where
    by_length : (t u v : Bool) → nat_lt (min size room) (length b) ≡ t
        → (if◌then◌else◌ {A = Packet} t (record { bytes = 0; code = Some 3 }) (if◌then◌else◌ {A = Packet} u (record { bytes = length b; code = Some 1 }) (if◌then◌else◌ {A = Packet} v (record { bytes = length b; code = Some 13 }) (record { bytes = length b; code = None })))).bytes ≤ room
    by_length true u v e = omega arith
    by_length false true v e = omega (arith, ltb-false (min size room) (length b) e)
    by_length false false true e = omega (arith, ltb-false (min size room) (length b) e)
    by_length false false false e = omega (arith, ltb-false (min size room) (length b) e)

-- a halted endpoint of the device stalls; else its first answer is taken, and behind the last a packet isn't ready
abbrev pub packet_at : ℕ → KeptEndpoint → KeptTransfer → Response → Packet
packet_at size b y a = packet_by size (room_at b y) (is_extra size y.request y.request.body) a

pub packet_is : (size : ℕ) (p : Pipe) (b : KeptEndpoint) (y : KeptTransfer) → IsPipe p b → packet_at size b y (answer_of p) ≡ packet_now size b y
packet_is size p b y is = by_halt p.halted is.halted p.left is.left
  where
    by_left : (left : List Response) → packet_at size b y (first_of left) ≡ packet_of size (room_at b y) (is_extra size y.request y.request.body) (take 1 left)
    by_left [] = refl
    by_left (a ∷ rest) = refl

    by_halt : (t : Bool) → t ≡ b.device_halted → (left : List Response) → left ≡ b.script_left → packet_at size b y (if t then response.Stall else first_of left) ≡ packet_now size b y
    by_halt true e left f = ap (λ (h : Bool). if h then record { bytes = 0; code = Some stall_error } else packet_of size (room_at b y) (is_extra size y.request y.request.body) (if h then [] else take 1 b.script_left)) e
    by_halt false e left f =
        by_left left
        ∙ ap (λ (l : List Response). packet_of size (room_at b y) (is_extra size y.request y.request.body) (take 1 l)) f
        ∙ ap (λ (h : Bool). if h then record { bytes = 0; code = Some stall_error } else packet_of size (room_at b y) (is_extra size y.request y.request.body) (if h then [] else take 1 b.script_left)) e

-- the answer that is taken now
pub now_is : (p : Pipe) (b : KeptEndpoint) → IsPipe p b → answer_now b ≡ (if p.halted then [] else take 1 p.left)
now_is p b is = ap₂ (λ (h : Bool) (l : List Response). if h then [] else take 1 l) (sym is.halted) (sym is.left)

-- the bytes that come
pub bytes_are : (size room : ℕ) (extra : Bool) (n : ℕ) (a : Response) (bytes : List ℕ) → bytes_after a (min size room) bytes ≡ bytes ++ got (In n) (a ∷ []) (packet_by size room extra a).bytes
bytes_are size room extra n response.Nak bytes = sym (append-nil bytes)
bytes_are size room extra n response.Stall bytes = sym (append-nil bytes)
bytes_are size room extra n response.Broken bytes = sym (append-nil bytes)
bytes_are size room extra n response.Ack bytes = sym (append-nil bytes)
bytes_are size room extra n (response.Data packet) bytes = by_length (nat_lt (min size room) (length packet)) (length packet == room) (nat_lt (length packet) size)
  where
    all : (xs : List ℕ) → take (length xs) xs ≡ xs
    all [] = refl
    all (x ∷ xs) = ap (λ (l : List ℕ). x ∷ l) (all xs)

    by_length : (t u v : Bool) → (if t then bytes else bytes ++ packet)
        ≡ bytes ++ take (if◌then◌else◌ {A = Packet} t (record { bytes = 0; code = Some 3 }) (if◌then◌else◌ {A = Packet} u (record { bytes = length packet; code = Some 1 }) (if◌then◌else◌ {A = Packet} v (record { bytes = length packet; code = Some 13 }) (record { bytes = length packet; code = None })))).bytes packet
    by_length true u v = sym (append-nil bytes)
    by_length false true v = ap (λ (l : List ℕ). bytes ++ l) (sym (all packet))
    by_length false false true = ap (λ (l : List ℕ). bytes ++ l) (sym (all packet))
    by_length false false false = ap (λ (l : List ℕ). bytes ++ l) (sym (all packet))

-- those of a transfer, whatever the device is about to do
pub read_is : (size : ℕ) (p : Pipe) (b : KeptEndpoint) (y : KeptTransfer) (n : ℕ) (bytes : List ℕ) → IsPipe p b
    → bytes_after (answer_of p) (min size (room_at b y)) bytes ≡ bytes ++ got (In n) (answer_now b) (packet_now size b y).bytes
read_is size p b y n bytes is =
    by_halt p.halted p.left refl refl
    ∙ ap₂ (λ (l : List Response) (k : ℕ). bytes ++ got (In n) l k) (sym (now_is p b is)) (ap (λ (k : Packet). k.bytes) (packet_is size p b y is))
  where
    by_halt : (t : Bool) (left : List Response) → p.halted ≡ t → p.left ≡ left → bytes_after (if t then response.Stall else first_of left) (min size (room_at b y)) bytes
        ≡ bytes ++ got (In n) (if t then [] else take 1 left) (packet_at size b y (if t then response.Stall else first_of left)).bytes
    by_halt true left e f = sym (append-nil bytes)
    by_halt false [] e f = sym (append-nil bytes)
    by_halt false (a ∷ rest) e f = bytes_are size (room_at b y) (is_extra size y.request y.request.body) n a bytes

-- the packet for the device, from where the transfer stands
abbrev pub out_for : ℕ → KeptEndpoint → KeptTransfer → Body → Option (List ℕ)
out_for size b y (In n) = None
out_for size b y (Out bytes) = Some (take (min size (room_at b y)) (drop (sent_before b y) bytes))

-- what the device keeps behind an answer
pub record Answers (size : ℕ) (p : Pipe) (b : KeptEndpoint) (y : KeptTransfer) (q : Pipe) : Type 0 where
  pub left : q.left ≡ drop (length (answer_now b)) b.script_left
  pub halted : q.halted ≡ (b.device_halted || service.is_stall (answer_now b))
  pub taken : q.taken ≡ b.packets_received ++ gave y.request.body (answer_now b) (sent_before b y) (packet_now size b y).bytes

-- the packets that are taken by an answer
taken_is : (size : ℕ) (b : KeptEndpoint) (y : KeptTransfer) (body : Body) (a : Response) → taken_by a (out_for size b y body) ≡ gave body (a ∷ []) (sent_before b y) (packet_at size b y a).bytes
taken_is size b y (In n) (response.Data packet) = refl
taken_is size b y (In n) response.Ack = refl
taken_is size b y (In n) response.Nak = refl
taken_is size b y (In n) response.Stall = refl
taken_is size b y (In n) response.Broken = refl
taken_is size b y (Out bytes) (response.Data packet) = refl
taken_is size b y (Out bytes) response.Nak = refl
taken_is size b y (Out bytes) response.Stall = refl
taken_is size b y (Out bytes) response.Broken = refl
taken_is size b y (Out bytes) response.Ack = by_test (nat_lt size (room_at b y) || (is_extra size y.request y.request.body && nat_lt 0 (room_at b y)))
  where
    by_test : (t : Bool) → take (min size (room_at b y)) (drop (sent_before b y) bytes) ∷ []
        ≡ take (if◌then◌else◌ {A = Packet} t (record { bytes = min size (room_at b y); code = None }) (record { bytes = min size (room_at b y); code = Some 1 })).bytes (drop (sent_before b y) bytes) ∷ []
    by_test true = refl
    by_test false = refl

-- nothing is given without an answer
none_given : (body : Body) (c k : ℕ) → gave body [] c k ≡ []
none_given (In n) c k = refl
none_given (Out bytes) c k = refl

pub answers : (size : ℕ) (p : Pipe) (b : KeptEndpoint) (y : KeptTransfer) → IsPipe p b → Answers size p b y (pipe_after (out_for size b y y.request.body) p)
answers size p b y is = by_halt p.halted p.left refl refl
  where
    out : Option (List ℕ)
    out = out_for size b y y.request.body

    now : (t : Bool) (left : List Response) → p.halted ≡ t → p.left ≡ left → answer_now b ≡ (if t then [] else take 1 left)
    now t left e f = now_is p b is ∙ ap₂ (λ (h : Bool) (l : List Response). if h then [] else take 1 l) e f

    bytes_at : (a : Response) → answer_of p ≡ a → (packet_at size b y a).bytes ≡ (packet_now size b y).bytes
    bytes_at a e = ap (λ (x : Response). (packet_at size b y x).bytes) (sym e) ∙ ap (λ (k : Packet). k.bytes) (packet_is size p b y is)

    by_halt : (t : Bool) (left : List Response) → p.halted ≡ t → p.left ≡ left → Answers size p b y (pipe_after out p)
    by_halt true left e f =
        let same : pipe_after out p ≡ p = rw e refl in
        let none : answer_now b ≡ [] = now true left e f in
        let halted : b.device_halted ≡ true = sym is.halted ∙ e in
        record {
          left = ap (λ (q : Pipe). q.left) same ∙ is.left ∙ ap (λ (l : List Response). drop (length l) b.script_left) (sym none);
          halted = ap (λ (q : Pipe). q.halted) same ∙ e ∙ ap (λ (h : Bool). h || service.is_stall (answer_now b)) (sym halted);
          taken = ap (λ (q : Pipe). q.taken) same ∙ is.taken ∙ sym (append-nil b.packets_received)
              ∙ ap (λ (l : List (List ℕ)). b.packets_received ++ l) (sym (none_given y.request.body (sent_before b y) (packet_now size b y).bytes))
              ∙ ap (λ (l : List Response). b.packets_received ++ gave y.request.body l (sent_before b y) (packet_now size b y).bytes) (sym none);
        }
    by_halt false [] e f =
        let same : pipe_after out p ≡ record p { left = drop 1 p.left; halted = stalls (first_of p.left); taken = p.taken ++ taken_by (first_of p.left) out } =
        ap (λ (h : Bool). if h then p else record p { left = drop 1 p.left; halted = stalls (first_of p.left); taken = p.taken ++ taken_by (first_of p.left) out }) e in
        let none : answer_now b ≡ [] = now false [] e f in
        let halted : b.device_halted ≡ false = sym is.halted ∙ e in
        record {
          left = ap (λ (q : Pipe). q.left) same ∙ ap (drop 1) f ∙ sym f ∙ is.left ∙ ap (λ (l : List Response). drop (length l) b.script_left) (sym none);
          halted = ap (λ (q : Pipe). q.halted) same ∙ ap (λ (l : List Response). stalls (first_of l)) f ∙ ap₂ (λ (h : Bool) (l : List Response). h || service.is_stall l) (sym halted) (sym none);
          taken = ap (λ (q : Pipe). q.taken) same ∙ ap (λ (l : List Response). p.taken ++ taken_by (first_of l) out) f
              ∙ append-nil p.taken ∙ is.taken ∙ sym (append-nil b.packets_received)
              ∙ ap (λ (l : List (List ℕ)). b.packets_received ++ l) (sym (none_given y.request.body (sent_before b y) (packet_now size b y).bytes))
              ∙ ap (λ (l : List Response). b.packets_received ++ gave y.request.body l (sent_before b y) (packet_now size b y).bytes) (sym none);
        }
    by_halt false (a ∷ rest) e f =
        let same : pipe_after out p ≡ record p { left = drop 1 p.left; halted = stalls (first_of p.left); taken = p.taken ++ taken_by (first_of p.left) out } =
        ap (λ (h : Bool). if h then p else record p { left = drop 1 p.left; halted = stalls (first_of p.left); taken = p.taken ++ taken_by (first_of p.left) out }) e in
        let one : answer_now b ≡ a ∷ [] = now false (a ∷ rest) e f in
        let halted : b.device_halted ≡ false = sym is.halted ∙ e in
        let it : answer_of p ≡ a = ap₂ (λ (h : Bool) (l : List Response). if h then response.Stall else first_of l) e f in
        record {
          left = ap (λ (q : Pipe). q.left) same ∙ ap (drop 1) is.left ∙ ap (λ (l : List Response). drop (length l) b.script_left) (sym one);
          halted = ap (λ (q : Pipe). q.halted) same ∙ ap (λ (l : List Response). stalls (first_of l)) f ∙ same_stall a
              ∙ ap₂ (λ (h : Bool) (l : List Response). h || service.is_stall l) (sym halted) (sym one);
          taken = ap (λ (q : Pipe). q.taken) same ∙ ap (λ (l : List Response). p.taken ++ taken_by (first_of l) out) f
              ∙ ap₂ (λ (l m : List (List ℕ)). l ++ m) is.taken (taken_is size b y y.request.body a)
              ∙ ap₂ (λ (l : List Response) (k : ℕ). b.packets_received ++ gave y.request.body l (sent_before b y) k) (sym one) (bytes_at a it);
        }
      where
        same_stall : (x : Response) → stalls x ≡ service.is_stall (x ∷ [])
        same_stall (response.Data packet) = refl
        same_stall response.Ack = refl
        same_stall response.Nak = refl
        same_stall response.Stall = refl
        same_stall response.Broken = refl

-- where the transfer goes on the device isn't halted, and doesn't stall
pub record GoesOn (p : Pipe) (b : KeptEndpoint) : Type 0 where
  pub halted : (b.device_halted || service.is_stall (answer_now b)) ≡ b.device_halted
  pub packet : is_no_packet (answer_of p ∷ []) ≡ is_no_packet (answer_now b)

pub open_goes : (size : ℕ) (p : Pipe) (b : KeptEndpoint) (y : KeptTransfer) → IsPipe p b → (packet_now size b y).code ≡ None → GoesOn p b
open_goes size p b y is open_is = by_halt p.halted p.left refl refl
  where
    code_at : (packet_at size b y (answer_of p)).code ≡ None
    code_at = ap (λ (k : Packet). k.code) (packet_is size p b y is) ∙ open_is

    no_stall : (a : Response) → (packet_at size b y a).code ≡ None → service.is_stall (a ∷ []) ≡ false
    no_stall (response.Data packet) e = refl
    no_stall response.Ack e = refl
    no_stall response.Nak e = refl
    no_stall response.Stall e = absurd cc
    no_stall response.Broken e = refl

    same_packet : (a : Response) → is_no_packet (a ∷ []) ≡ is_no_packet (a ∷ [])
    same_packet a = refl

    by_halt : (t : Bool) (left : List Response) → p.halted ≡ t → p.left ≡ left → GoesOn p b
    by_halt true left e f =
        let it : answer_of p ≡ response.Stall = ap (λ (h : Bool). if h then response.Stall else first_of p.left) e in
        let bad : (packet_at size b y response.Stall).code ≡ None = ap (λ (a : Response). (packet_at size b y a).code) (sym it) ∙ code_at in
        absurd cc
    by_halt false [] e f =
        let it : answer_of p ≡ response.Nak = ap₂ (λ (h : Bool) (l : List Response). if h then response.Stall else first_of l) e f in
        let none : answer_now b ≡ [] = now_is p b is ∙ ap₂ (λ (h : Bool) (l : List Response). if h then [] else take 1 l) e f in
        record {
          halted = ap₂ (λ (h : Bool) (l : List Response). h || service.is_stall l) (sym is.halted ∙ e) none ∙ sym (sym is.halted ∙ e);
          packet = ap (λ (a : Response). is_no_packet (a ∷ [])) it ∙ ap is_no_packet (sym none);
        }
    by_halt false (a ∷ rest) e f =
        let it : answer_of p ≡ a = ap₂ (λ (h : Bool) (l : List Response). if h then response.Stall else first_of l) e f in
        let one : answer_now b ≡ a ∷ [] = now_is p b is ∙ ap₂ (λ (h : Bool) (l : List Response). if h then [] else take 1 l) e f in
        let calm = no_stall a (ap (λ (x : Response). (packet_at size b y x).code) (sym it) ∙ code_at) in
        record {
          halted = ap₂ (λ (h : Bool) (l : List Response). h || service.is_stall l) (sym is.halted ∙ e) one ∙ calm ∙ sym (sym is.halted ∙ e);
          packet = ap (λ (x : Response). is_no_packet (x ∷ [])) it ∙ ap is_no_packet (sym one);
        }
