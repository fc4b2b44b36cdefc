-- Whose a step is, read off the world.
use Rattle.std.specs.Prelude.{◌≡◌, ℕ, List, [], ◌∷◌}
use Rattle.usb_model.specs.declared.step.Step.{Step}
use Rattle.usb_model.specs.declared.step.Step.TheVariants.{Open, Close, Claim, Release, Reset, ClearHalt, Submit, Cancel, Expire, Serve, Command, Deliver, Take, Answer, Unplug}
use Rattle.usb_model.specs.declared.shared.Tagged.{Tagged}
use Rattle.usb_model.specs.Setup.{Setup}
use Rattle.usb_model.specs.World.{World}
use Rattle.proof_laws.specs.Holders.{HoldsEndpoint, NobodyHolds}

-- the shared list begins with a piece of the name's
abbrev pub BeginsWith : {A : Type 0} → ℕ → List (Tagged A) → Type 0
BeginsWith {A = A} h xs = (piece : A) × (rest : List (Tagged A)) × (xs ≡ record { name = h; piece = piece } ∷ rest)

-- the step is this handle's: that of its caller, of the holder of the endpoint, or of the name whose piece is the first
abbrev pub IsOf : Setup → World → ℕ → Step → Type 0
IsOf setup w h (Open g dev) = g ≡ h
IsOf setup w h (Close g) = g ≡ h
IsOf setup w h (Claim g i) = g ≡ h
IsOf setup w h (Release g i) = g ≡ h
IsOf setup w h (Reset g) = g ≡ h
IsOf setup w h (ClearHalt g ep) = g ≡ h
IsOf setup w h (Submit g request) = g ≡ h
IsOf setup w h (Cancel g n) = g ≡ h
IsOf setup w h (Expire g n) = g ≡ h
IsOf setup w h (Serve dev ep) = HoldsEndpoint setup w h dev ep
IsOf setup w h Command = BeginsWith h w.orders
IsOf setup w h Deliver = BeginsWith h w.news
IsOf setup w h Take = BeginsWith h w.results
IsOf setup w h (Answer g n verdict) = g ≡ h
IsOf setup w h (Unplug dev) = ⊥

-- the step is nobody's: an Unplug; a Serve where nobody holds the endpoint; a Command, Deliver or Take of an empty list
abbrev pub IsNobodys : Setup → World → Step → Type 0
IsNobodys setup w (Serve dev ep) = NobodyHolds setup w dev ep
IsNobodys setup w Command = w.orders ≡ []
IsNobodys setup w Deliver = w.news ≡ []
IsNobodys setup w Take = w.results ≡ []
IsNobodys setup w (Unplug dev) = Unit {0}
IsNobodys setup w _ = ⊥
