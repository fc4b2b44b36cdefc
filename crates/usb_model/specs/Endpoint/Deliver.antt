-- A piece of news is handled: results are made, and what stands in the way is ordered.
use Rattle.std.specs.Prelude.{ℕ, Bool, true, false, not, ◌&&◌, List, [], ◌∷◌, map, is_some, Option, Some, None, if◌then◌else◌}
use Rattle.usb_model.specs.declared.errand.Errand.{Errand}
use Rattle.usb_model.specs.declared.errand.Errand.TheVariants.{Stop, Reset, Move}
use Rattle.usb_model.specs.declared.reply.Reply.TheVariants as reply
use Rattle.usb_model.specs.declared.item.Item.{Item}
use Rattle.usb_model.specs.declared.item.ItemState.TheVariants.{Blank}
use Rattle.usb_model.specs.declared.endpoint.Endpoint.{Endpoint}
use Rattle.usb_model.specs.declared.endpoint.EndpointState.TheVariants.{Running}
use Rattle.usb_model.specs.declared.news.Event.{Event}
use Rattle.usb_model.specs.declared.news.Event.TheVariants.{Finished, Paused, Settled}
use Rattle.usb_model.specs.declared.result.TransferResult.{TransferResult}
use Rattle.usb_model.specs.declared.reply.Reply.{Reply}
use Rattle.usb_model.specs.Completion.{stopped}
use Rattle.usb_model.specs.Endpoint.Status.{halts}
use Rattle.usb_model.specs.Endpoint.{EndpointEffect, only_says, is_waiting, is_blank, past_blanks, in_progress, past_number, result_of}

-- an item that was asked to end, and that the device may no more use once the endpoint stands
abbrev pub is_withdrawn : Item → Bool
is_withdrawn x = is_waiting x && is_some x.ask

-- it becomes a blank
abbrev pub blanked : Item → Item
blanked x = if is_withdrawn x then record x { state = Blank } else x

-- and its result is made, with the code Stopped and the bytes moved; several in line order
unfoldable pub withdrawn : ℕ → List Item → List TransferResult
withdrawn size [] = []
withdrawn size (x ∷ xs) = if is_withdrawn x then result_of size false stopped x ∷ withdrawn size xs else withdrawn size xs

abbrev pub leads_blank : List Item → Bool
leads_blank [] = false
leads_blank (x ∷ xs) = is_blank x

-- an errand is ordered, and these results are made
abbrev pub orders_errand : Endpoint → Errand → Reply → List TransferResult → EndpointEffect
orders_errand e errand reply results = record { reply = reply; endpoint = record e { errand = Some errand }; orders = errand ∷ []; news = []; results = results }

-- asked items are withdrawn from this line; where a blank then leads it, Move is ordered, else the doorbell is rung
unfoldable pub resume : ℕ → Endpoint → Reply → List Item → EndpointEffect
resume size e reply line =
    let after : List Item = map blanked line in
    if leads_blank after then orders_errand (record e { line = after }) Move reply (withdrawn size line)
    else record { reply = reply; endpoint = record e { line = after; errand = None; state = Running }; orders = []; news = []; results = withdrawn size line }

-- a transfer's end halted the endpoint: the way out begins with Reset, unless a Stop is outstanding, which will fail first
abbrev pub needs_reset : ℕ → Option Errand → Bool
needs_reset code errand = halts code && not (is_some errand)

abbrev pub finished_result : ℕ → Bool → ℕ → Option Item → List TransferResult
finished_result size gone code None = []
finished_result size gone code (Some x) = result_of size gone code x ∷ []

-- the transfer leaves the line, with the blanks before it; and with those behind it where the endpoint went on
abbrev pub line_after : ℕ → ℕ → List Item → List Item
line_after n code line = if halts code then past_number n line else past_blanks (past_number n line)

-- gone: whether the device is
unfoldable pub deliver : ℕ → ℕ → Bool → Endpoint → Event → EndpointEffect
deliver size ep gone e (Finished n code) =
    let after : Endpoint = record e { line = line_after n code e.line } in
    let results : List TransferResult = finished_result size gone code (in_progress n e.line) in
    if needs_reset code e.errand then orders_errand after Reset (reply.Finished n) results
    else record { reply = reply.Finished n; endpoint = after; orders = []; news = []; results = results }
deliver size ep gone e (Paused n) = only_says e (reply.Paused n)
deliver size ep gone e (Settled Stop false) = orders_errand e Reset (reply.Settled ep Stop false) []
deliver size ep gone e (Settled Stop true) = resume size e (reply.Settled ep Stop true) e.line
deliver size ep gone e (Settled Reset ok) = orders_errand (record e { line = map blanked e.line }) Move (reply.Settled ep Reset ok) (withdrawn size e.line)
deliver size ep gone e (Settled Move ok) = resume size e (reply.Settled ep Move ok) (past_blanks e.line)
