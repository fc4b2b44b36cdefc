-- What the core does with the events of one endpoint: an item is found by an event's pointer, and the bytes moved are read off the residual.
use Rattle.std.specs.Prelude.{ℕ, ◌+◌, ◌-◌, nat_lt, nat_le, Bool, ◌&&◌, List, [], ◌∷◌, length, Option, Some, None, if◌then◌else◌}
use Rattle.std.specs.Option.{option_map}
use Rattle.usb_model.specs.declared.errand.Errand.{Errand}
use Rattle.usb_model.specs.declared.errand.Errand.TheVariants.{Reset}
use Rattle.usb_model.specs.declared.reply.Reply.{Reply}
use Rattle.usb_model.specs.declared.reply.Reply.TheVariants as reply
use Rattle.usb_model.specs.declared.result.TransferResult.{TransferResult}
use Rattle.usb_model.specs.Endpoint.Deliver.{needs_reset}
use Rattle.usb_model.specs.Requests.{length_of, is_short_not_ok}
use Rattle.usb_model.specs.Endpoint.Status.{halts, told_status}
use Rattle.usb_model.specs.Stands.{length_at, read_off}
use Rattle.usb_model.specs.Kept.{KeptTransfer, SentErrand, KeptEndpoint}

-- whether a place is that of one of its TRBs
abbrev pub covers : ℕ → KeptTransfer → Bool
covers p y = nat_le y.place p && nat_lt p (y.place + length y.lengths)

-- the item with a TRB at this place
unfoldable pub find_at : ℕ → List KeptTransfer → Option KeptTransfer
find_at p [] = None
find_at p (y ∷ ys) = if covers p y then Some y else find_at p ys

-- the line behind it
unfoldable pub past_at : ℕ → List KeptTransfer → List KeptTransfer
past_at p [] = []
past_at p (y ∷ ys) = if covers p y then ys else past_at p ys

-- the line behind the blanks at its beginning
unfoldable pub past_kept_blanks : List KeptTransfer → List KeptTransfer
past_kept_blanks [] = []
past_kept_blanks (y ∷ ys) = if y.blank then past_kept_blanks ys else y ∷ ys

-- an event's transfer, and the bytes that it moved
pub record Reading : Type 0 where
  pub kept : KeptTransfer
  pub actual : ℕ

-- None where it is stray
abbrev pub read_at : ℕ → ℕ → Option KeptTransfer → Option Reading
read_at p r None = None
read_at p r (Some y) = if nat_lt (length_at y.lengths (p - y.place)) r then None else Some (record { kept = y; actual = read_off y.lengths (p - y.place) r })

abbrev pub reading : List KeptTransfer → ℕ → ℕ → Option Reading
reading line p r = read_at p r (find_at p line)

-- what a piece of work of the core leaves: the endpoint, the orders posted and the results made
pub record Handled : Type 0 where
  pub reply : Reply
  pub endpoint : KeptEndpoint
  pub orders : List SentErrand
  pub results : List TransferResult

-- the errand that is under way
abbrev pub errand_of : Option SentErrand → Option Errand
errand_of sent = option_map (λ s. s.errand) sent

-- an errand is ordered, at this index of the command ring
abbrev pub posts : KeptEndpoint → Errand → ℕ → Reply → List TransferResult → Handled
posts b errand index reply results = record {
  reply = reply;
  endpoint = record b { errand = Some (record { errand = errand; index = index }) };
  orders = record { errand = errand; index = index } ∷ [];
  results = results;
}

abbrev pub kept_result : Bool → ℕ → KeptTransfer → ℕ → TransferResult
kept_result gone code y actual = record {
  n = y.n;
  request = y.request;
  round = y.round;
  status = told_status gone code y.ask (is_short_not_ok y.request) (length_of y.request.body) actual;
  actual = actual;
  bytes = y.bytes;
}

-- the line after a transfer's end
abbrev pub kept_after : ℕ → ℕ → List KeptTransfer → List KeptTransfer
kept_after p code line = if halts code then past_at p line else past_kept_blanks (past_at p line)

-- a transfer's end is told; next: where the command ring is written next
unfoldable pub finish : Bool → ℕ → KeptEndpoint → ℕ → ℕ → Reading → Handled
finish gone next b p code found =
    let after : KeptEndpoint = record b { line = kept_after p code b.line } in
    let results : List TransferResult = kept_result gone code found.kept found.actual ∷ [] in
    if needs_reset code (errand_of b.errand) then posts after Reset next (reply.Finished found.kept.n) results
    else record { reply = reply.Finished found.kept.n; endpoint = after; orders = []; results = results }
