-- A pause, and the end of an errand, are handled: asked transfers are withdrawn, and what stands in the way is ordered.
use Rattle.std.specs.Prelude.{ℕ, Bool, true, false, not, ◌&&◌, List, [], ◌∷◌, map, is_some, None, if◌then◌else◌}
use Rattle.usb_model.specs.declared.errand.Errand.{Errand}
use Rattle.usb_model.specs.declared.errand.Errand.TheVariants.{Stop, Reset, Move}
use Rattle.usb_model.specs.declared.reply.Reply.{Reply}
use Rattle.usb_model.specs.declared.reply.Reply.TheVariants as reply
use Rattle.usb_model.specs.declared.endpoint.EndpointState.TheVariants.{Running}
use Rattle.usb_model.specs.declared.result.TransferResult.{TransferResult}
use Rattle.usb_model.specs.Completion.{stopped}
use Rattle.usb_model.specs.Kept.{KeptTransfer, KeptEndpoint}
use Rattle.usb_model.specs.Events.{Reading, Handled, posts, kept_result, past_kept_blanks}
use Rattle.usb_model.specs.Packets.{put_at}

-- a transfer in progress that was asked to end; when an errand ends none is served
abbrev pub kept_withdrawn : KeptTransfer → Bool
kept_withdrawn y = not y.blank && is_some y.ask

abbrev pub kept_blanked : KeptTransfer → KeptTransfer
kept_blanked y = if kept_withdrawn y then record y { blank = true } else y

-- their results, in line order, with the bytes that were told last
unfoldable pub withdrawn_results : List KeptTransfer → List TransferResult
withdrawn_results [] = []
withdrawn_results (y ∷ ys) = if kept_withdrawn y then kept_result false stopped y y.moved ∷ withdrawn_results ys else withdrawn_results ys

abbrev pub leads_kept : List KeptTransfer → Bool
leads_kept [] = false
leads_kept (y ∷ ys) = y.blank

-- asked transfers of this line are withdrawn; where a blank then leads it Move is ordered, else the doorbell is rung
unfoldable pub resume_kept : ℕ → KeptEndpoint → Reply → List KeptTransfer → Handled
resume_kept next b reply line =
    let after : List KeptTransfer = map kept_blanked line in
    if leads_kept after then posts (record b { line = after }) Move next reply (withdrawn_results line)
    else record { reply = reply; endpoint = record b { line = after; errand = None; state = Running }; orders = []; results = withdrawn_results line }

-- the errand ended
unfoldable pub settle : ℕ → ℕ → KeptEndpoint → Errand → Bool → Handled
settle ep next b Stop false = posts b Reset next (reply.Settled ep Stop false) []
settle ep next b Stop true = resume_kept next b (reply.Settled ep Stop true) b.line
settle ep next b Reset ok = posts (record b { line = map kept_blanked b.line }) Move next (reply.Settled ep Reset ok) (withdrawn_results b.line)
settle ep next b Move ok = resume_kept next b (reply.Settled ep Move ok) (past_kept_blanks b.line)

-- the transfer stands: what moved of it is kept
abbrev pub pauses : KeptEndpoint → ℕ → Reading → Handled
pauses b p found = record {
  reply = reply.Paused found.kept.n;
  endpoint = record b { line = put_at p (record found.kept { moved = found.actual }) b.line };
  orders = [];
  results = [];
}
