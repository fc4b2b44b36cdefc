-- What handles haven't finished, part by part, as it is asked of a core.
use Rattle.std.specs.Prelude.{ℕ, Bool, ◌||◌, Option, Some, None, if◌then◌else◌}
use Rattle.usb_model.specs.declared.endpoint.Endpoint.{Endpoint}
use Rattle.usb_model.specs.declared.item.Item.{Item}
use Rattle.usb_model.specs.declared.result.TransferResult.{TransferResult}
use Rattle.usb_model.specs.declared.shared.Tagged.{Tagged}
use Rattle.usb_model.specs.Endpoint.{is_blank}
use Rattle.usb_core.specs.StepInventory.{is_halted_state}
use Rattle.usb_core.specs.declared.inventory.WaitingResult.{WaitingResult}

-- a result that waits: whose it is, its endpoint, its number and its status
abbrev pub waiting_result : Tagged TransferResult → WaitingResult
waiting_result x = record { h = x.name; ep = x.piece.request.ep; n = x.piece.n; status = x.piece.status }

-- the number of a transfer in a line; none at a place that a withdrawn one left, and past the end
abbrev pub number_in : Option Item → Option ℕ
number_in None = None
number_in (Some x) = if is_blank x then None else Some x.n

-- whether an endpoint is halted, at its device or at the controller
abbrev pub halted : Endpoint → Bool
halted e = e.device_halted || is_halted_state e.state
