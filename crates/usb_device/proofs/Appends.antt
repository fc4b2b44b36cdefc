-- What is appended by an answer into zeros.
use Rattle.std.proofs.Common.{◌≡◌, ℕ, ◌+◌, ◌-◌, ◌≤◌, List, ◌++◌, length, take, drop, Bool, true, false, nat_lt, nat_le, if◌then◌else◌, sym, ap, ◌∙◌, refl, arith, append-nil, append_assoc, length-append, length-drop, take-take}
use Rattle.std.proofs.lemmas.List.{take-append-le}
use Rattle.std.proofs.Math.Seq.{drop-append_seam, take-append_seam, take-length, take-append-add}
use Rattle.usb_model.specs.declared.response.Response.{Response}
use Rattle.usb_model.specs.declared.response.Response.TheVariants as response
use Rattle.usb_device.specs.declared.device.Act.{Act}
use Rattle.usb_device.specs.Pipe.{act_of, buffer_after, bytes_after, count_within}

-- without a packet, nothing
nothing : (bytes zeros : List ℕ) → take (length bytes + 0) (bytes ++ zeros) ≡ bytes
nothing bytes zeros = take-append-add bytes zeros 0 ∙ append-nil bytes

-- a packet that fits, or nothing
a_packet : (room : ℕ) (packet bytes zeros : List ℕ) → length zeros ≡ room
    → take (length bytes + (if nat_le (length packet) room then length packet else 0)) (bytes ++ (if nat_lt (length zeros) (length packet) then zeros else packet ++ drop (length packet) zeros))
    ≡ (if nat_lt room (length packet) then bytes else bytes ++ packet)
a_packet room packet bytes zeros size = by_test (nat_lt room (length packet)) refl where
  by_test : (b : Bool) → nat_lt room (length packet) ≡ b
      → take (length bytes + (if nat_le (length packet) room then length packet else 0)) (bytes ++ (if nat_lt (length zeros) (length packet) then zeros else packet ++ drop (length packet) zeros))
      ≡ (if nat_lt room (length packet) then bytes else bytes ++ packet)
  by_test true over =
      let left_out : nat_le (length packet) room ≡ false = grind (arith, over) in
      rw (size, over, left_out) (nothing bytes zeros)
  by_test false fits =
      let kept : nat_le (length packet) room ≡ true = grind (arith, fits) in
      rw (size, fits, kept)
      (take-append-add bytes (packet ++ drop (length packet) zeros) (length packet) ∙ ap (λ (xs : List ℕ). bytes ++ xs) (take-append_seam packet (drop (length packet) zeros)))

-- of the bytes and the buffer behind them, those up to the packet's end
pub appended : (answer : Response) (room : ℕ) (bytes zeros : List ℕ) → length zeros ≡ room
    → take (length bytes + count_within (act_of answer) room) (bytes ++ buffer_after answer zeros) ≡ bytes_after answer room bytes
appended (response.Data packet) room bytes zeros size = a_packet room packet bytes zeros size
appended response.Ack room bytes zeros size = nothing bytes zeros
appended response.Nak room bytes zeros size = nothing bytes zeros
appended response.Stall room bytes zeros size = nothing bytes zeros
appended response.Broken room bytes zeros size = nothing bytes zeros

-- so behind the bytes where zeros were put
pub appended-behind : (answer : Response) (room before : ℕ) (bytes zeros : List ℕ) → length zeros ≡ room → before ≡ length bytes
    → take (before + count_within (act_of answer) room) (take before (bytes ++ zeros) ++ buffer_after answer (drop before (bytes ++ zeros))) ≡ bytes_after answer room bytes
appended-behind answer room before bytes zeros size is =
    rw (is, take-append_seam bytes zeros, drop-append_seam bytes zeros) (appended answer room bytes zeros size)

-- an answer leaves a buffer's length
pub length-buffer_after : (answer : Response) (buf : List ℕ) → length (buffer_after answer buf) ≡ length buf
length-buffer_after (response.Data packet) buf = by_test (nat_lt (length buf) (length packet)) refl where
  by_test : (b : Bool) → nat_lt (length buf) (length packet) ≡ b → length (if nat_lt (length buf) (length packet) then buf else packet ++ drop (length packet) buf) ≡ length buf
  by_test true over = rw over refl
  by_test false fits =
      let le : length packet ≤ length buf = grind (arith, fits) in
      rw fits (omega (arith, le, length-append packet (drop (length packet) buf), length-drop (length packet) buf))
length-buffer_after response.Ack buf = refl
length-buffer_after response.Nak buf = refl
length-buffer_after response.Stall buf = refl
length-buffer_after response.Broken buf = refl

-- the first of the first
take-within : (m v : ℕ) (xs : List ℕ) → m ≤ v → take m (take v xs) ≡ take m xs
take-within m v xs le = grind (arith, take-take, le)

-- of a list up to v, its first m, where what stands behind a and b doesn't matter
pub first-kept : (m v : ℕ) (a b p q : List ℕ) → m ≤ length a + length b → m ≤ v → take m (take v ((a ++ (b ++ p)) ++ q)) ≡ take m (a ++ b)
first-kept m v a b p q within le =
    let all : length (a ++ b) ≡ length a + length b = length-append a b in
    let more : length (a ++ (b ++ p)) ≡ length a + length (b ++ p) = length-append a (b ++ p) in
    let longer : length (b ++ p) ≡ length b + length p = length-append b p in
    take-within m v ((a ++ (b ++ p)) ++ q) le
    ∙ take-append-le m (a ++ (b ++ p)) q (omega (arith, within, more, longer))
    ∙ ap (take m) (sym (append_assoc a b p))
    ∙ take-append-le m (a ++ b) p (omega (arith, within, all))

-- the buffer that stands behind the bytes
pub buffer-is : (before : ℕ) (bytes zeros : List ℕ) → before ≡ length bytes
    → take (length (bytes ++ zeros) - before) (drop before (bytes ++ zeros)) ≡ zeros
buffer-is before bytes zeros is =
    let all : length (bytes ++ zeros) - length bytes ≡ length zeros = omega (arith, length-append bytes zeros) in
    rw (is, drop-append_seam bytes zeros, all) (take-length zeros)

-- so where the answer is put into what stands behind the bytes, in memory of which more may stand written
pub appended-within : (answer : Response) (a : Act) (room before count len : ℕ) (bytes zeros now buf post rest : List ℕ)
    → length zeros ≡ room → before ≡ length bytes → now ≡ bytes ++ zeros → len ≡ length now
    → buf ≡ buffer_after answer (take (length now - before) (drop before now)) → a ≡ act_of answer → count ≡ count_within a room → count ≤ room
    → take (before + count) (take len ((take before now ++ (buf ++ post)) ++ rest)) ≡ bytes_after answer room bytes
appended-within answer a room before count len bytes zeros now buf post rest size is now_is len_is buf_is act_is count_is most =
    let front : take before now ≡ bytes = rw (now_is, is) (take-append_seam bytes zeros) in
    let behind : take (length now - before) (drop before now) ≡ zeros = rw now_is (buffer-is before bytes zeros is) in
    let written : buf ≡ buffer_after answer zeros = buf_is ∙ ap (buffer_after answer) behind in
    let long : length buf ≡ room = ap (λ (xs : List ℕ). length xs) written ∙ length-buffer_after answer zeros ∙ size in
    let short : length (take before now) ≡ before = ap (λ (xs : List ℕ). length xs) front ∙ sym is in
    let all : len ≡ before + room = len_is ∙ ap (λ (xs : List ℕ). length xs) now_is ∙ omega (arith, length-append bytes zeros, size, is) in
    first-kept (before + count) len (take before now) buf post rest (omega (arith, short, long, most)) (omega (arith, all, most))
    ∙ rw (front, written, is, count_is, act_is) (appended answer room bytes zeros size)
