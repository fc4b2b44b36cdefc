-- None of the endpoints before is the sender.
use Rattle.std.specs.Prelude.{◌≡◌, ℕ, suc, List, ◌∷◌}
use Rattle.usb_model.specs.Setup.{Setup}
use Rattle.usb_trb.specs.declared.kind.TrbKind.TheVariants.{CommandCompletion}
use Rattle.refine_world.specs.Shows.{Completes, Core, RingEvent}
use Rattle.refine_core.specs.Deliveries.{IsTaken}
use Rattle.refine_core.proofs.Senders.{Looked}
use Rattle.usb_core.proofs.parts.Parts.sender.Given as goal

abbrev pub invariant-loop-info : goal.invariant-loop-info
invariant-loop-info g l = (setup : Setup) (c : Core) (code index : ℕ) (rest : List RingEvent) → IsTaken setup l.self c (CommandCompletion l.fn.pointer code l.fn.slot) → l.fn.slot ≡ suc l.dev → c.events ≡ Completes l.dev index code ∷ rest → Looked setup c l.dev index l.info-items l.info-index
