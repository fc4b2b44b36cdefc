-- How long a record is, and that it has bytes alone.
use Rattle.std.proofs.Common.{◌≡◌, ℕ, zero, suc, ◌+◌, ◌<◌, ◌-◌, ◌/◌, ◌%◌, ◌^◌, List, ◌++◌, Option, Some, None, length, refl, arith, length-append}
use Rattle.std.specs.List.{All, AllByRecursion}
use Rattle.std.specs.Int.{byte_at, bytes_low_first}
use Rattle.std.proofs.lemmas.List.Elements.{All-append, All-from_recursion}
use Rattle.byteorder.specs.Endian.{little_bytes}
use Rattle.trace_capture.specs.declared.control_setup.ControlSetup.{ControlSetup}
use Rattle.trace_capture.specs.declared.event.CaptureEvent.{CaptureEvent}
use Rattle.usb_model.specs.Setup.{is_in}
use Rattle.trace_capture.specs.Event.{record_header, who, how, what, rest, event_bytes, setup_bytes, id_number, type_letter, kind_number, setup_flag, data_flag, errno_number, flags_number}

-- the parts are of 16 bytes each
length-record_header : (e : CaptureEvent) → length (record_header e) ≡ 16
unfolding record_header
length-record_header e = refl

length-who : (e : CaptureEvent) → length (who e) ≡ 16
unfolding who
length-who e = refl

length-how : (e : CaptureEvent) → length (how e) ≡ 16
unfolding how
length-how e = refl

length-setup_bytes : (setup : Option ControlSetup) → length (setup_bytes setup) ≡ 8
length-setup_bytes None = refl
length-setup_bytes (Some setup) = refl

length-what : (e : CaptureEvent) → length (what e) ≡ 16
unfolding what
length-what e = omega (arith, length-setup_bytes e.setup)

length-rest : (e : CaptureEvent) → length (rest e) ≡ 16
unfolding rest
length-rest e = refl

-- a record is 80 bytes longer than its data
pub length-event_bytes : (e : CaptureEvent) → length (event_bytes e) ≡ 80 + length e.bytes
unfolding event_bytes
length-event_bytes e = simp (length-append, length-record_header, length-who, length-how, length-what, length-rest) (omega arith)

-- a byte
abbrev pub IsByte : ℕ → Type 0
IsByte b = b < 256

-- the bytes of a number are bytes
byte_below : (i x : ℕ) → byte_at i x < 256
byte_below zero x = omega arith
byte_below (suc i) x = omega arith

little_bytes_by_recursion : (i n x : ℕ) → AllByRecursion IsByte (bytes_low_first i n x)
little_bytes_by_recursion i zero x = tt
little_bytes_by_recursion i (suc n) x = (byte_below i x, little_bytes_by_recursion (suc i) n x)

-- a list of bytes
record AreBytes (xs : List ℕ) : Type 0 where
  pub each : All IsByte xs

of_number : (n x : ℕ) → AreBytes (little_bytes n x)
of_number n x = record { each = All-from_recursion IsByte (little_bytes n x) (little_bytes_by_recursion 0 n x) }

-- bytes behind bytes
infixl 10 ◌&◌
◌&◌ : {xs ys : List ℕ} → AreBytes xs → AreBytes ys → AreBytes (xs ++ ys)
◌&◌ {xs = xs} {ys = ys} p q = record { each = All-append IsByte xs ys p.each q.each }

in_setup : (setup : Option ControlSetup) → AreBytes (setup_bytes setup)
in_setup None = of_number 8 0
in_setup (Some s) = of_number 1 s.request_type & of_number 1 s.request & of_number 2 s.value & of_number 2 s.index & of_number 2 s.length

in_record_header : (e : CaptureEvent) → AreBytes (record_header e)
unfolding record_header
in_record_header e = of_number 4 (e.line / 1000000) & of_number 4 (e.line % 1000000) & of_number 4 (64 + length e.bytes) & of_number 4 (64 + length e.bytes)

in_who : (e : CaptureEvent) → AreBytes (who e)
unfolding who
in_who e =
    of_number 8 (id_number e.id) & of_number 1 (type_letter e.event_type) & of_number 1 (kind_number e.kind) & of_number 1 e.ep & of_number 1 (e.device + 1)
    & of_number 2 1 & of_number 1 (setup_flag e.setup) & of_number 1 (data_flag e.event_type (is_in e.ep))

in_how : (e : CaptureEvent) → AreBytes (how e)
unfolding how
in_how e = of_number 8 (e.line / 1000000) & of_number 4 (e.line % 1000000) & of_number 4 (2 ^ 32 - errno_number e.errno)

in_what : (e : CaptureEvent) → AreBytes (what e)
unfolding what
in_what e = of_number 4 e.length & of_number 4 (length e.bytes) & in_setup e.setup

in_rest : (e : CaptureEvent) → AreBytes (rest e)
unfolding rest
in_rest e = of_number 4 0 & of_number 4 0 & of_number 4 (flags_number e.flags (is_in e.ep)) & of_number 4 0

-- each byte of a record is one where each byte of its data is
pub bytes_of_record : (e : CaptureEvent) → All IsByte e.bytes → All IsByte (event_bytes e)
unfolding event_bytes
bytes_of_record e data_are =
    let behind : AreBytes e.bytes = record { each = data_are } in
    let all : AreBytes (record_header e ++ who e ++ how e ++ what e ++ rest e ++ e.bytes) = in_record_header e & in_who e & in_how e & in_what e & in_rest e & behind in
    all.each
