-- The controller carries out an order (xHCI 1.2, 4.6.8 to 4.6.10; that a Stop of a halted endpoint fails, and when a pause is told, is our own).
use Rattle.std.specs.Prelude.{ℕ, ◌==◌, Bool, true, false, List, [], ◌∷◌, ◌++◌, length, Option, Some, None, if◌then◌else◌}
use Rattle.usb_model.specs.declared.errand.Errand.{Errand}
use Rattle.usb_model.specs.declared.errand.Errand.TheVariants.{Stop, Reset, Move}
use Rattle.usb_model.specs.declared.reply.Reply.TheVariants.{Ran}
use Rattle.usb_model.specs.declared.item.Item.{Item}
use Rattle.usb_model.specs.declared.endpoint.Endpoint.{Endpoint}
use Rattle.usb_model.specs.declared.endpoint.EndpointState.{EndpointState}
use Rattle.usb_model.specs.declared.endpoint.EndpointState.TheVariants.{Running, Stopped, Halted}
use Rattle.usb_model.specs.declared.news.Event.{Event}
use Rattle.usb_model.specs.declared.news.Event.TheVariants.{Paused, Settled}
use Rattle.usb_model.specs.Endpoint.{EndpointEffect, first_waiting, outcome_of}

-- a transfer that has moved a packet, if only an empty one, is told to be paused
abbrev pub pause_of : ℕ → Option Item → List Event
pause_of size None = []
pause_of size (Some x) = if length (outcome_of size x).packets == 0 then [] else Paused x.n ∷ []

-- the order was carried out, or failed: the endpoint after it, and the news before its own
abbrev pub ran : ℕ → Errand → Bool → Endpoint → List Event → EndpointEffect
ran ep errand ok e news = record { reply = Ran ep errand ok; endpoint = e; orders = []; news = news ++ Settled errand ok ∷ []; results = [] }

unfoldable pub command : ℕ → ℕ → Endpoint → Errand → EndpointState → EndpointEffect
command size ep e Stop Running = ran ep Stop true (record e { state = Stopped }) (pause_of size (first_waiting e.line))
command size ep e Reset Halted = ran ep Reset true (record e { state = Stopped }) []
command size ep e Move Stopped = ran ep Move true e []
command size ep e errand state = ran ep errand false e []
