-- Where a transfer of a name is in progress, as the code answers it.
use Rattle.std.specs.Prelude.{◌≡◌, ℕ, ◌==◌, Bool, false, not, ◌&&◌, ◌||◌, is_some, Option, Some, None}
use Rattle.std.specs.Option.{option_map_or}
use Rattle.usb_model.specs.Setup.{Setup, endpoints_of}
use Rattle.usb_tables.specs.TransfersInFlight.{item_at}
use Rattle.refine_world.specs.Shows.{Core}
use Rattle.refine_world.specs.Calls.{KeptHome, device_of, kept_home}
use Rattle.refine_core.specs.State.{State}
use Rattle.refine_core.specs.Steps.{IsHome}
use Rattle.usb_core.specs.declared.ask.Home.{Home}

-- it is nowhere, or it is there
abbrev pub HomeIs : Setup → Core → (h n : ℕ) → Option Home → Type 0
HomeIs setup c h n None = kept_home setup c h n (endpoints_of setup (device_of c h)) ≡ None
HomeIs setup c h n (Some x) = IsHome setup c h n x.dev x.ep x.item

-- whether a transfer wasn't asked to end before; timed: and has a timeout
abbrev pub is_askable : {P : Type 0} → State P → (d e item : ℕ) → Bool → Bool
is_askable s d e item timed = option_map_or (λ t. not (is_some t.ask) && not (timed && (t.request.timeout == 0))) (item_at s.flights d e item) false

-- whether a transfer of a name is in progress, wasn't asked to end, and has a timeout
abbrev pub can_expire : Option KeptHome → Bool
can_expire None = false
can_expire (Some home) = not (is_some home.kept.ask || (home.kept.request.timeout == 0))

abbrev pub expires_now : Setup → Core → (h n : ℕ) → Bool
expires_now setup c h n = can_expire (kept_home setup c h n (endpoints_of setup (device_of c h)))
