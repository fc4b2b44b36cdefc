-- What the steps of device, controller and event loop come to, where the endpoint is there and where it isn't.
use Rattle.std.proofs.Common.{◌≡◌, ℕ, false, Option, Some, None}
use Rattle.usb_model.specs.declared.reply.Reply.TheVariants.{Idle}
use Rattle.usb_model.specs.declared.reply.Reply.TheVariants as reply
use Rattle.usb_model.specs.declared.refused.Refused.TheVariants.{NotFound}
use Rattle.usb_model.specs.declared.effect.Change.TheVariants.{Sets}
use Rattle.usb_model.specs.declared.endpoint.Endpoint.{Endpoint}
use Rattle.usb_model.specs.declared.news.News.{News}
use Rattle.usb_model.specs.declared.order.Order.{Order}
use Rattle.usb_model.specs.Setup.{Setup, packet_size_of}
use Rattle.usb_model.specs.Endpoint.Serve.{serve}
use Rattle.usb_model.specs.Endpoint.Command.{command}
use Rattle.usb_model.specs.Endpoint.Deliver.{deliver}
use Rattle.usb_model.specs.Machine.{Machine, endpoint_at, is_gone, says, does, at_endpoint, unless}
use Rattle.usb_model.specs.Machine.Calls.{clear_halt_effect}
use Rattle.usb_model.specs.Machine.Calls.{clear_tests}
use Rattle.usb_model.specs.Machine.Turns.{serve_effect, command_order, deliver_news}

-- the endpoint of a device that a handle opened
pub end_there : (m : Machine) (dev ep : ℕ) (o : Option Endpoint) → m.handle.device ≡ Some dev → m.endpoints dev ep ≡ o → endpoint_at m ep ≡ o
end_there m dev ep o opened e = rw opened e

-- there is none where it opened none
pub none_there : (m : Machine) (ep : ℕ) → m.handle.device ≡ None → endpoint_at m ep ≡ None
none_there m ep closed = rw closed

-- a device whose endpoint isn't the handle's is idle
pub serves_nothing : (setup : Setup) (m : Machine) (dev ep : ℕ) (o : Option Endpoint) → o ≡ None → serve_effect setup m dev ep o ≡ says m Idle
unfolding serve_effect
serves_nothing setup m dev ep o e = rw e

-- else the endpoint serves
pub serves_it : (setup : Setup) (m : Machine) (dev ep : ℕ) (o : Option Endpoint) (e : Endpoint) → o ≡ Some e → serve_effect setup m dev ep o ≡ at_endpoint m.handle dev ep (serve (packet_size_of setup dev ep) (m.gone dev) e)
unfolding serve_effect
serves_it setup m dev ep o e there = rw there

-- an order of an endpoint that isn't there is idle
pub commands_nothing : (setup : Setup) (m : Machine) (order : Order) (o : Option Endpoint) → o ≡ None → command_order setup m order o ≡ says m Idle
unfolding command_order
commands_nothing setup m order o e = rw e

-- else it is carried out there
pub commands_it : (setup : Setup) (m : Machine) (order : Order) (dev : ℕ) (o : Option Endpoint) (e : Endpoint) → m.handle.device ≡ Some dev → o ≡ Some e
    → command_order setup m order o ≡ at_endpoint m.handle dev order.ep (command (packet_size_of setup dev order.ep) order.ep e order.errand e.state)
unfolding command_order
commands_it setup m order dev o e opened there = rw (there, opened)

-- news of an endpoint that isn't there is idle
pub delivers_nothing : (setup : Setup) (m : Machine) (news : News) (o : Option Endpoint) → o ≡ None → deliver_news setup m news o ≡ says m Idle
unfolding deliver_news
delivers_nothing setup m news o e = rw e

-- else it is handled there
pub delivers_it : (setup : Setup) (m : Machine) (news : News) (dev : ℕ) (o : Option Endpoint) (e : Endpoint) → m.handle.device ≡ Some dev → o ≡ Some e
    → deliver_news setup m news o ≡ at_endpoint m.handle dev news.ep (deliver (packet_size_of setup dev news.ep) news.ep (is_gone m) e news.event)
unfolding deliver_news
delivers_it setup m news dev o e opened there = rw (there, opened)

-- the halt of an endpoint that isn't there can't be ended
pub clears_nothing : (m : Machine) (ep : ℕ) (o : Option Endpoint) → o ≡ None → clear_halt_effect m ep o ≡ says m (reply.Refused NotFound)
unfolding clear_halt_effect
clears_nothing m ep o e = rw e

-- at one that is there the tests decide
pub clears_by : (m : Machine) (ep dev : ℕ) (o : Option Endpoint) (e : Endpoint) → m.handle.device ≡ Some dev → o ≡ Some e
    → clear_halt_effect m ep o ≡ unless m (clear_tests m e) (does m.handle (Sets dev ep (record e { device_halted = false })))
unfolding clear_halt_effect
clears_by m ep dev o e opened there = rw (there, opened)
