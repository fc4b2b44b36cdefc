-- What follows when an errand ended at an endpoint.
use Rattle.std.specs.Prelude.{ℕ, Bool, true, false, ◌||◌, List, [], ◌∷◌, drop, map, is_some, Option, Some, None, if◌then◌else◌}
use Rattle.std.specs.List.{prefix_len}
use Rattle.usb_model.specs.declared.errand.Errand.{Errand}
use Rattle.usb_model.specs.declared.errand.Errand.TheVariants.{Stop, Move}
use Rattle.usb_model.specs.declared.endpoint.EndpointState.TheVariants.{Running}
use Rattle.usb_model.specs.declared.reply.Reply.{Reply}
use Rattle.usb_model.specs.declared.reply.Reply.TheVariants.{Settled}
use Rattle.usb_model.specs.declared.result.TransferResult.{TransferResult}
use Rattle.usb_model.specs.Kept.{KeptEndpoint, KeptTransfer}
use Rattle.usb_model.specs.Events.{Handled, posts}
use Rattle.usb_model.specs.Settlements.{kept_blanked, withdrawn_results}
use Rattle.usb_tables.specs.declared.ended.Mark.{Mark}
use Rattle.usb_tables.specs.declared.ended.Settlement.{Settlement}

-- what errands read of a transfer
abbrev pub mark_of : KeptTransfer → Mark
mark_of y = record { blank = y.blank; asked = is_some y.ask }

-- whether a Stop failed
abbrev pub fails_stop : Errand → Bool → Bool
fails_stop Stop false = true
fails_stop _ _ = false

-- what is left of the line
abbrev pub line_by : Settlement → List KeptTransfer → List KeptTransfer
line_by s line = if s.withdraw then map kept_blanked (drop s.leave line) else drop s.leave line

-- the results that are made
abbrev pub results_by : Settlement → List KeptTransfer → List TransferResult
results_by s line = if s.withdraw then withdrawn_results (drop s.leave line) else []

-- an errand is ordered, or the doorbell is rung
abbrev pub goes_on : Option Errand → ℕ → KeptEndpoint → Reply → List TransferResult → Handled
goes_on None next b reply results = record { reply = reply; endpoint = record b { errand = None; state = Running }; orders = []; results = results }
goes_on (Some errand) next b reply results = posts b errand next reply results

-- the endpoint after a settlement
abbrev pub settled_by : Settlement → ℕ → ℕ → KeptEndpoint → Errand → Bool → Handled
settled_by s ep next b errand ok = goes_on s.next next (record b { line = line_by s b.line }) (Settled ep errand ok) (results_by s b.line)

-- how many blanks lead
abbrev pub leading : List Mark → ℕ
leading line = prefix_len (λ m. m.blank) line

-- whether a blank leads once those that were asked to end are withdrawn
abbrev pub leads_withdrawn : List Mark → Bool
leads_withdrawn [] = false
leads_withdrawn (m ∷ ms) = m.blank || m.asked

-- the endpoint goes on without so many of its line, unless a blank leads then
abbrev pub resumed_at : ℕ → List Mark → Settlement
resumed_at leave line = record { leave = leave; withdraw = true; next = if leads_withdrawn (drop leave line) then Some Move else None }
