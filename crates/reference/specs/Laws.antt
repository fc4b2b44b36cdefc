-- What the packets that move are to the device.
use Rattle.std.specs.Prelude.{◌≡◌, ◌++◌, ℕ, Bool, List, Some}
use Rattle.usb_model.specs.declared.endpoint.Endpoint.{Endpoint}
use Rattle.usb_model.specs.declared.item.Item.{Item}
use Rattle.usb_model.specs.declared.request.Body.TheVariants.{Out}
use Rattle.usb_model.specs.Endpoint.{first_waiting}
use Rattle.usb_model.specs.Endpoint.Serve.{serve}
use Rattle.reference.specs.Moved.{packets_moved}

-- where the first item that waits writes, the device receives the packets that move, and no other
abbrev pub DeviceReceivesWhatMoves : Type 0
DeviceReceivesWhatMoves =
    (size : ℕ) (gone : Bool) (e : Endpoint) (x : Item) (bytes : List ℕ) → first_waiting e.line ≡ Some x → x.request.body ≡ Out bytes
    → (serve size gone e).endpoint.packets_received ≡ e.packets_received ++ packets_moved size gone e
