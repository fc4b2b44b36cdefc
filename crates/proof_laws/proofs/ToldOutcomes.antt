-- The outcome of a share is what comes of it.
use Rattle.std.proofs.Common.{◌≡◌, ℕ, ◌<◌, true, false, List, [], ◌∷◌, Some, ap, sym}
use Rattle.std.specs.Prelude.{◌↔◌}
use Rattle.std.proofs.lemmas.Option.{same_Some}
use Rattle.usb_model.specs.declared.response.Response.{Response}
use Rattle.usb_model.specs.declared.request.Body.{Body}
use Rattle.usb_model.specs.declared.request.Body.TheVariants.{In, Out}
use Rattle.usb_model.specs.declared.request.Request.{Request}
use Rattle.usb_model.specs.declared.outcome.Outcome.{Outcome}
use Rattle.usb_model.specs.Endpoint.Packets.{outcome, ended_with, moved_by, without_naks}
use Rattle.proof_laws.specs.Outcomes.{Moves, TellsOutcomes}
use Rattle.proof_laws.proofs.ReadShares.{reads_if_moved, moved_if_reads}
use Rattle.proof_laws.proofs.SentShares.{sends_if_moved, moved_if_sends}

-- what answers move
moves : (request : Request) (size : ℕ) (body : Body) (xs : List Response) (o : Outcome) → 0 < size → moved_by request size body xs ≡ Some o ↔ Moves request size body xs o
moves request size (In n) xs o some = (reads_if_moved request n size xs o, moved_if_reads request n size xs o some)
moves request size (Out bytes) xs o some = (sends_if_moved request size bytes xs o, moved_if_sends request size bytes xs o)

pub tells_outcomes : TellsOutcomes
unfolding outcome
tells_outcomes request size [] true o some = (λ e. sym (same_Some (ended_with [] 6) o e), λ is. ap Some (sym is))
tells_outcomes request size [] false o some = moves request size request.body (without_naks []) o some
tells_outcomes request size (x ∷ xs) halted o some = moves request size request.body (without_naks (x ∷ xs)) o some
