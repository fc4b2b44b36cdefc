-- What comes of a share of answers.
use Rattle.std.specs.Prelude.{◌≡◌, ◌≢◌, ◌↔◌, ℕ, ◌+◌, ◌*◌, ◌<◌, ◌≤◌, ◌⊎◌, Bool, true, false, List, [], ◌∷◌, ◌++◌, length, map, replicate, Some, None}
use Rattle.std.specs.List.{AllByRecursion}
use Rattle.usb_model.specs.declared.response.Response.{Response}
use Rattle.usb_model.specs.declared.response.Response.TheVariants.{Data, Ack, Stall, Broken}
use Rattle.usb_model.specs.declared.request.Body.{Body}
use Rattle.usb_model.specs.declared.request.Body.TheVariants.{In, Out}
use Rattle.usb_model.specs.declared.request.Request.{Request}
use Rattle.usb_model.specs.Completion.{success, babble_detected, transaction_error, stall_error, short_packet}
use Rattle.usb_model.specs.declared.outcome.Outcome.{Outcome}
use Rattle.usb_model.specs.Endpoint.Packets.{outcome, packets_by, without_naks}

-- behind an ended share there is nothing but naks
abbrev pub EndsForGood : Type 0
EndsForGood = (request : Request) (size : ℕ) (share back : List Response) (o : Outcome) (code : ℕ)
    → outcome request size share false ≡ Some o → o.code ≡ Some code → without_naks back ≢ []
    → outcome request size (share ++ back) false ≡ None

-- the packets of a read that moved so far leave room: each is whole, and there is none, or they are fewer bytes than n
pub record LeaveRoom (n size : ℕ) (front : List (List ℕ)) : Type 0 where
  pub whole : AllByRecursion (λ b. length b ≡ size) front
  pub room : (front ≡ []) ⊎ (length front * size < n)

-- what a read of n bytes comes to behind whole packets: it waits, or the device stalls or fails, or a last packet is too long,
-- or makes up the n bytes, or is short (USB 2.0, 5.8.3; xHCI 1.2, 4.10.1)
abbrev pub ReadsOn : ℕ → ℕ → List (List ℕ) → List Response → Outcome → Type 0
ReadsOn n size front [] o = o ≡ record { packets = front; code = None }
ReadsOn n size front (Stall ∷ []) o = o ≡ record { packets = front; code = Some stall_error }
ReadsOn n size front (Broken ∷ []) o = o ≡ record { packets = front; code = Some transaction_error }
ReadsOn n size front (Data b ∷ []) o =
    (((size < length b) ⊎ (n < length front * size + length b)) × (o ≡ record { packets = front; code = Some babble_detected }))
    ⊎ (((length b ≤ size) × (length front * size + length b ≡ n) × (o ≡ record { packets = front ++ b ∷ []; code = Some success }))
    ⊎ ((length b < size) × (length front * size + length b < n) × (o ≡ record { packets = front ++ b ∷ []; code = Some short_packet })))
ReadsOn n size front _ o = ⊥

-- a read: so many whole packets, and what stands behind them
pub record Reads (n size : ℕ) (share : List Response) (o : Outcome) : Type 0 where
  pub front : List (List ℕ)
  pub behind : List Response
  pub room : LeaveRoom n size front
  pub answers : share ≡ map Data front ++ behind
  pub comes : ReadsOn n size front behind o

-- what a transfer to the device comes to behind packets that were acknowledged, where these are left
abbrev pub SendsOn : List (List ℕ) → List (List ℕ) → List Response → Outcome → Type 0
SendsOn sent [] [] o = o ≡ record { packets = sent; code = Some success }
SendsOn sent (p ∷ left) [] o = o ≡ record { packets = sent; code = None }
SendsOn sent (p ∷ left) (Stall ∷ []) o = o ≡ record { packets = sent; code = Some stall_error }
SendsOn sent (p ∷ left) (Broken ∷ []) o = o ≡ record { packets = sent; code = Some transaction_error }
SendsOn sent left _ o = ⊥

-- a transfer of these packets to the device: an acknowledgement for each that was sent, and what stands behind them
pub record Sends (all : List (List ℕ)) (share : List Response) (o : Outcome) : Type 0 where
  pub sent : List (List ℕ)
  pub left : List (List ℕ)
  pub behind : List Response
  pub packets : all ≡ sent ++ left
  pub answers : share ≡ replicate (length sent) Ack ++ behind
  pub comes : SendsOn sent left behind o

abbrev pub Moves : Request → ℕ → Body → List Response → Outcome → Type 0
Moves request size (In n) share o = Reads n size share o
Moves request size (Out bytes) share o = Sends (packets_by request size (Out bytes)) share o

-- what comes of a share: a halted endpoint stalls and uses no answer; else, naks aside, what its answers move
abbrev pub IsOutcome : Request → ℕ → List Response → Bool → Outcome → Type 0
IsOutcome request size [] true o = o ≡ record { packets = []; code = Some stall_error }
IsOutcome request size share _ o = Moves request size request.body (without_naks share) o

-- the outcome of a share is what comes of it, and there is none where nothing does
abbrev pub TellsOutcomes : Type 0
TellsOutcomes = (request : Request) (size : ℕ) (share : List Response) (halted : Bool) (o : Outcome)
    → 0 < size → outcome request size share halted ≡ Some o ↔ IsOutcome request size share halted o
