-- An errand is ordered at an endpoint.
use Rattle.std.specs.Prelude.{ℕ, List, [], map, Option, Some, None}
use Rattle.usb_model.specs.declared.errand.Errand.{Errand}
use Rattle.usb_model.specs.declared.item.Ask.{Ask}
use Rattle.usb_model.specs.declared.reply.Reply.{Reply}
use Rattle.usb_model.specs.declared.result.TransferResult.{TransferResult}
use Rattle.usb_model.specs.Kept.{KeptEndpoint}
use Rattle.usb_model.specs.Events.{Handled, kept_after, posts}
use Rattle.usb_model.specs.Joins.{kept_ask}

-- this errand, if there is one, is posted at the command ring's next index
abbrev pub ordered : Option Errand → ℕ → KeptEndpoint → Reply → List TransferResult → Handled
ordered None next b reply results = record { reply = reply; endpoint = b; orders = []; results = results }
ordered (Some errand) next b reply results = posts b errand next reply results

-- the endpoint whose transfer of this number has the ask
abbrev pub with_ask : ℕ → Ask → KeptEndpoint → KeptEndpoint
with_ask n why b = record b { line = map (kept_ask n why) b.line }

-- the endpoint without the transfer at this place, which ended
abbrev pub without_ended : ℕ → ℕ → KeptEndpoint → KeptEndpoint
without_ended p code b = record b { line = kept_after p code b.line }
