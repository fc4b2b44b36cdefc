-- Where a transfer that is asked to end is found.
use Rattle.std.specs.Prelude.{◌≡◌, ℕ, Bool, false, is_some, Option, Some, None}
use Rattle.usb_model.specs.declared.endpoint.Endpoint.{Endpoint}
use Rattle.usb_model.specs.declared.item.Ask.{Ask}
use Rattle.usb_model.specs.Setup.{Setup}
use Rattle.usb_model.specs.Endpoint.{in_progress}
use Rattle.usb_model.specs.Machine.{Machine, at_endpoint}
use Rattle.usb_model.specs.Machine.Calls.{asks, ask_effect}

-- the transfer of this number is asked to end at the endpoint of the handle's own, wherever that stands
abbrev pub Asks : Setup → Machine → ℕ → ℕ → Ask → Bool → ℕ → Type 0
Asks setup m dev n ask timed ep = (e : Endpoint) → m.endpoints dev ep ≡ Some e → ask_effect setup m n ask timed ≡ at_endpoint m.handle dev ep (asks e n ask)
