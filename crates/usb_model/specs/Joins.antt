-- A transfer joins a line, and one is asked to end.
use Rattle.std.specs.Prelude.{ℕ, ◌+◌, ◌==◌, false, not, ◌&&◌, [], ◌∷◌, ◌++◌, map, length, is_some, Some, None, if◌then◌else◌}
use Rattle.usb_model.specs.declared.errand.Errand.TheVariants.{Stop}
use Rattle.usb_model.specs.declared.reply.Reply.TheVariants as reply
use Rattle.usb_model.specs.declared.request.Request.{Request}
use Rattle.usb_model.specs.declared.item.Ask.{Ask}
use Rattle.usb_model.specs.Kept.{KeptTransfer, KeptEndpoint, trbs_of}
use Rattle.usb_model.specs.Events.{Handled, posts}

-- a transfer whose TRBs are pushed at the enqueue place
abbrev pub new_kept : ℕ → ℕ → ℕ → Request → ℕ → KeptTransfer
new_kept size place n request round = record { place = place; lengths = trbs_of size request; blank = false; n = n; request = request; round = round; ask = None; moved = 0; bytes = [] }

abbrev pub joined : ℕ → KeptEndpoint → ℕ → Request → ℕ → KeptEndpoint
joined size b n request round = record b { line = b.line ++ new_kept size b.end n request round ∷ []; end = b.end + length (trbs_of size request) }

-- the transfer of this number is asked to end
abbrev pub kept_ask : ℕ → Ask → KeptTransfer → KeptTransfer
kept_ask n ask y = if not y.blank && (y.n == n) then record y { ask = Some ask } else y

-- Stop is ordered where no errand is under way
abbrev pub asked : ℕ → KeptEndpoint → ℕ → Ask → Handled
asked next b n ask =
    if is_some b.errand then record { reply = reply.Done; endpoint = record b { line = map (kept_ask n ask) b.line }; orders = []; results = [] }
    else posts (record b { line = map (kept_ask n ask) b.line }) Stop next reply.Done []
