-- What a device's answers do to one transfer, read off the whole share of answers that the transfer took.
use Rattle.std.specs.Prelude.{◌≡◌, ◌≢◌, ℕ, zero, suc, ◌-◌, ◌+◌, ◌*◌, ◌/◌, ◌%◌, min, ◌==◌, nat_lt, Bool, true, false, not, ◌&&◌, List, [], ◌∷◌, ◌++◌, length, take, drop, Option, Some, None, if◌then◌else◌}
use Rattle.std.specs.List.{concat, filter}
use Rattle.usb_model.specs.declared.response.Response.{Response}
use Rattle.usb_model.specs.declared.response.Response.TheVariants.{Data, Ack, Nak, Stall, Broken}
use Rattle.usb_model.specs.declared.request.Body.{Body}
use Rattle.usb_model.specs.declared.request.Body.TheVariants.{In, Out}
use Rattle.usb_model.specs.declared.request.Request.{Request}
pub use Rattle.usb_model.specs.declared.outcome.Outcome.{Outcome}
use Rattle.usb_model.specs.Completion.{success, babble_detected, transaction_error, stall_error, short_packet}
use Rattle.usb_model.specs.Requests.{adds_zero_packet}

-- the bytes in k pieces of this size, and one piece more of what is left
abbrev pub cut : ℕ → ℕ → List ℕ → List (List ℕ)
cut size zero bytes = take size bytes ∷ []
cut size (suc k) bytes = take size bytes ∷ cut size k (drop size bytes)

-- how many packets stand before the last
abbrev pub full_packets : Bool → ℕ → ℕ → ℕ
full_packets adds_zero n size = if adds_zero && (n % size == 0) then n / size else (n - 1) / size

-- the bytes in packets of this size, the last perhaps shorter; no bytes are one empty packet;
-- with the flag, whole packets have one empty packet behind them (USB 2.0, 5.8.3; libusb)
unfoldable pub pieces : Bool → ℕ → List ℕ → List (List ℕ)
pieces adds_zero size bytes = cut size (full_packets adds_zero (length bytes) size) bytes

-- the packets that a request sends
abbrev pub packets_by : Request → ℕ → Body → List (List ℕ)
packets_by request size (In n) = []
packets_by request size (Out bytes) = pieces (adds_zero_packet request) size bytes

abbrev pub packets : Request → ℕ → List (List ℕ)
packets request size = packets_by request size request.body

-- an outcome is how far a transfer has come: the packets that moved, and the completion code (xHCI 1.2, 6.4.5) with which it ended, None while it is open
-- how many bytes moved
abbrev pub count_of : Outcome → ℕ
count_of o = length (concat o.packets)

abbrev pub open_with : List (List ℕ) → Outcome
open_with moved = record { packets = moved; code = None }

abbrev pub ended_with : List (List ℕ) → ℕ → Outcome
ended_with moved code = record { packets = moved; code = Some code }

abbrev pub is_nak : Response → Bool
is_nak Nak = true
is_nak _ = false

-- a nak moves nothing and ends nothing
abbrev pub without_naks : List Response → List Response
without_naks share = filter (λ x. not (is_nak x)) share

-- OUT: how many acknowledgements stand in front
abbrev pub acks : List Response → ℕ
acks (Ack ∷ xs) = suc (acks xs)
acks _ = 0

-- behind j of them: nothing more, or what ended the transfer
abbrev pub sent_with : List (List ℕ) → ℕ → List Response → Option Outcome
sent_with all j [] =
    if nat_lt j (length all) then Some (open_with (take j all))
    else if j == length all then Some (ended_with all success)
    else None
sent_with all j (Stall ∷ []) = if nat_lt j (length all) then Some (ended_with (take j all) stall_error) else None
sent_with all j (Broken ∷ []) = if nat_lt j (length all) then Some (ended_with (take j all) transaction_error) else None
sent_with all j _ = None

-- IN: the packets of exactly this size that stand in front, and no more than so many
abbrev pub full_front : ℕ → ℕ → List Response → List (List ℕ)
full_front size (suc most) (Data b ∷ xs) = if length b == size then b ∷ full_front size most xs else []
full_front size _ _ = []

-- behind these, with room for n bytes in all: nothing more, or what ended the transfer
abbrev pub read_with : ℕ → ℕ → List (List ℕ) → List Response → Option Outcome
read_with n size front [] = Some (open_with front)
read_with n size front (Stall ∷ []) = Some (ended_with front stall_error)
read_with n size front (Broken ∷ []) = Some (ended_with front transaction_error)
read_with n size front (Data b ∷ []) =
    if nat_lt (min size (n - length front * size)) (length b) then Some (ended_with front babble_detected)
    else if length front * size + length b == n then Some (ended_with (front ++ b ∷ []) success)
    else if nat_lt (length b) size then Some (ended_with (front ++ b ∷ []) short_packet)
    else None
read_with n size front _ = None

-- the longest front of full packets that leaves room: none of them, or fewer bytes than n
abbrev pub front_of : ℕ → ℕ → List Response → List (List ℕ)
front_of n size xs = full_front size ((n - 1) / size) xs

-- what answers without naks do
abbrev pub moved_by : Request → ℕ → Body → List Response → Option Outcome
moved_by request size (In n) xs = read_with n size (front_of n size xs) (drop (length (front_of n size xs)) xs)
moved_by request size (Out bytes) xs = sent_with (packets_by request size (Out bytes)) (acks xs) (drop (acks xs) xs)

-- the outcome of a share, where it has one; halted: whether the device's endpoint is, which then stalls and uses no answer
unfoldable pub outcome : Request → ℕ → List Response → Bool → Option Outcome
outcome request size [] true = Some (ended_with [] stall_error)
outcome request size share _ = moved_by request size request.body (without_naks share)

-- the share leaves the transfer open
abbrev pub IsOpenAt : Option Outcome → Type 0
IsOpenAt None = ⊥
IsOpenAt (Some o) = o.code ≡ None

abbrev pub EndsAt : Option Outcome → ℕ → Type 0
EndsAt None code = ⊥
EndsAt (Some o) code = o.code ≡ Some code

-- the share ends the transfer with the code, and no shorter beginning of it does
pub record Ends (request : Request) (size : ℕ) (share : List Response) (code : ℕ) : Type 0 where
  pub whole : EndsAt (outcome request size share false) code
  pub first : (front back : List Response) → share ≡ front ++ back → back ≢ [] → IsOpenAt (outcome request size front false)
