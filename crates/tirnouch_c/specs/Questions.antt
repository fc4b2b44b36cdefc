-- What is asked of numbers that may be no device's.
use Rattle.std.specs.Prelude.{◌≡◌, ℕ, ℤ, pos, List, Option, Some, None}
use Rattle.std.specs.Option.{option_map}
use Rattle.tirnouch_c.specs.declared.endpoints.EndpointNumbers.{EndpointNumbers}
use Rattle.tirnouch_c.specs.declared.feeds.PacketOffer.{PacketOffer}
use Rattle.tirnouch_c.specs.declared.reads.EndpointView.{EndpointView}
use Rattle.tirnouch_c.specs.declared.reads.NextWork.{NextWork}
use Rattle.tirnouch_c.specs.declared.session.Session.{Session}
use Rattle.tirnouch_c.specs.Calls.{out_of_range}
use Rattle.tirnouch_c.specs.Endpoints.{HasEndpoint, HasInterface}
use Rattle.tirnouch_c.specs.Exports.{device_by}
use Rattle.tirnouch_c.specs.Feeds.{TellsNext}
use Rattle.tirnouch_c.specs.Reads.{TellsLook, TellsPending, TellsTaken}

-- the endpoint behind which is looked; none where there is no such device
abbrev pub after : (dev ep : ℕ) → Option (ℕ × ℕ)
after dev ep = option_map (λ d. (d, ep)) (device_by dev)

abbrev pub PendsBy : (dev ep : ℕ) → ℤ → NextWork → Session → Type 0
PendsBy dev ep answer next s = (answer ≡ pos 0) × TellsPending (after dev ep) s next

-- what is to be done at an endpoint, of a number that may be no device's
abbrev pub LooksIf : Option ℕ → (ep : ℕ) → ℤ → (old new : EndpointView) → Session → Type 0
LooksIf None ep answer old new s = (answer ≡ out_of_range) × (new ≡ old)
LooksIf (Some dev) ep answer old new s = (answer ≡ pos 0) × TellsLook dev ep s new

abbrev pub LooksBy : (dev ep : ℕ) → ℤ → (old new : EndpointView) → Session → Type 0
LooksBy dev ep answer old new s = LooksIf (device_by dev) ep answer old new s

-- a packet that was taken, of a number that may be no device's
abbrev pub TakenIf : Option ℕ → (ep i : ℕ) → ℤ → (old new : List ℕ) → Session → Type 0
TakenIf None ep i answer old new s = (answer ≡ out_of_range) × (new ≡ old)
TakenIf (Some dev) ep i answer old new s = TellsTaken dev ep i answer old new s

abbrev pub TakenBy : (dev ep i : ℕ) → ℤ → (old new : List ℕ) → Session → Type 0
TakenBy dev ep i answer old new s = TakenIf (device_by dev) ep i answer old new s

-- the packet that is next
abbrev pub OffersIf : Option ℕ → (ep : ℕ) → ℤ → (was packet : PacketOffer) → (old new : List ℕ) → Session → Type 0
OffersIf None ep answer was packet old new s = (answer ≡ out_of_range) × (packet ≡ was) × (new ≡ old)
OffersIf (Some dev) ep answer was packet old new s = (answer ≡ pos 0) × TellsNext dev ep packet old new s

abbrev pub OffersBy : (dev ep : ℕ) → ℤ → (was packet : PacketOffer) → (old new : List ℕ) → Session → Type 0
OffersBy dev ep answer was packet old new s = OffersIf (device_by dev) ep answer was packet old new s

-- an interface of the configuration
abbrev pub HasInterfaceIf : Option ℕ → (i : ℕ) → ℤ → Session → Type 0
HasInterfaceIf None i answer s = answer ≡ out_of_range
HasInterfaceIf (Some dev) i answer s = HasInterface dev i answer s

abbrev pub HasInterfaceBy : (dev i : ℕ) → ℤ → Session → Type 0
HasInterfaceBy dev i answer s = HasInterfaceIf (device_by dev) i answer s

-- an endpoint of it
abbrev pub HasEndpointIf : Option ℕ → (i : ℕ) → ℤ → (old new : EndpointNumbers) → Session → Type 0
HasEndpointIf None i answer old new s = (answer ≡ out_of_range) × (new ≡ old)
HasEndpointIf (Some dev) i answer old new s = HasEndpoint dev i answer old new s

abbrev pub HasEndpointBy : (dev i : ℕ) → ℤ → (old new : EndpointNumbers) → Session → Type 0
HasEndpointBy dev i answer old new s = HasEndpointIf (device_by dev) i answer old new s
