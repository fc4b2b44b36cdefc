-- How far the bytes of a transfer reach, as far as one packet needs it.
use Rattle.std.proofs.Common.{◌≡◌, ℕ, ◌+◌, ◌-◌, ◌<◌, ◌≤◌, refl, ap, sym, ◌∙◌, arith, List, length, Some, None, true, false, Bool, min, if◌then◌else◌}
use Rattle.std.specs.Prelude.{nat_lt, ◌==◌}
use Rattle.std.proofs.Math.Nat.{min-eq_left}
use Rattle.std.proofs.lemmas.Bool.{lt-ltb, ltb-false}
use Rattle.usb_trb.specs.declared.kind.Normal.{Normal as NormalTrb}
use Rattle.usb_model.specs.declared.response.Response.{Response}
use Rattle.usb_model.specs.declared.response.Response.TheVariants.{Data, Ack, Nak, Stall, Broken}
use Rattle.usb_model.specs.Stands.{total}
use Rattle.usb_model.specs.Packets.{Packet, packet_by}
use Rattle.usb_xhc.specs.Ahead.{lengths, goes_on, room, Reaches}

-- a number isn't a greater one
pub other : (n m : ℕ) → n < m → (n == m) ≡ false
other n m k = grind arith

-- a packet is less than more
pub least : (n m : ℕ) → n < m → min n m ≡ n
least n m k = min-eq_left (omega arith)

-- a packet for the host, by whether it is too long
abbrev data_by : ℕ → ℕ → List ℕ → Bool → Packet
data_by size r b long =
    if long then record { bytes = 0; code = Some 3 }
    else if length b == r then record { bytes = length b; code = Some 1 }
    else if nat_lt (length b) size then record { bytes = length b; code = Some 13 }
    else record { bytes = length b; code = None }

-- a packet that leaves bytes over is told without their number
pub packet-far : (size r s : ℕ) (e f : Bool) (a : Response) → size < r → size < s → packet_by size r e a ≡ packet_by size s f a
packet-far size r s e f (Data b) p q =
    rw (least size r p, least size s q) (by_test (nat_lt size (length b)) refl)
  where
    by_test : (c : Bool) → nat_lt size (length b) ≡ c → data_by size r b c ≡ data_by size s b c
    by_test true h = refl
    by_test false h =
        let near : length b ≤ size = ltb-false size (length b) h in
        rw (other (length b) r (omega arith), other (length b) s (omega arith)) refl
packet-far size r s e f Ack p q =
    rw (lt-ltb size r p, lt-ltb size s q, least size r p, least size s q) refl
packet-far size r s e f Nak p q = refl
packet-far size r s e f Stall p q = refl
packet-far size r s e f Broken p q = refl

-- more was seen than a packet needs
pub reaches-far : (size within sum : ℕ) (extra : Bool) (ts : List NormalTrb) → within + size < sum → sum ≤ total (lengths ts) → Reaches size ts within (sum - within) extra
reaches-far size within sum extra ts p q = record {
  most = least size (sum - within) (omega arith) ∙ sym (least size (room ts within) (omega arith));
  packet = λ a. packet-far size (sum - within) (room ts within) extra (goes_on ts) a (omega arith) (omega arith);
}

-- all was seen
pub reaches-all : (size within sum : ℕ) (extra : Bool) (ts : List NormalTrb) → sum ≡ total (lengths ts) → extra ≡ goes_on ts → Reaches size ts within (sum - within) extra
reaches-all size within sum extra ts p q = record {
  most = ap (λ (n : ℕ). min size (n - within)) p;
  packet = λ a. ap (λ (n : ℕ). packet_by size (n - within) extra a) p ∙ ap (λ (x : Bool). packet_by size (room ts within) x a) q;
}
