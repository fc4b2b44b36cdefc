-- So many did the same, and more may be served.
use Rattle.std.specs.Prelude.{◌-◌, ◌<◌, replicate}
use Rattle.usb_model.specs.declared.step.Step.TheVariants.{Serve}
use Rattle.refine_core.specs.Payloads.{StillCarries}
use Rattle.refine_core.specs.State.{IsState}
use Rattle.refine_core.specs.Steps.{DoesCoreSteps}
use Rattle.usb_core.specs.StepBursts.{whole_entry}
use Rattle.usb_core.proofs.parts.Parts.serve_on.Given as goal

abbrev pub invariant-loop-full : goal.invariant-loop-full
invariant-loop-full g l =
    IsState l.self
    × (l.full < l.fn.most)
    × DoesCoreSteps l.initial.self (replicate l.full (Serve l.fn.dev l.fn.ep)) (replicate l.full (whole_entry l.fn.each)) l.self
    × StillCarries l.initial.self l.self

abbrev pub decreases-loop-full : goal.decreases-loop-full
decreases-loop-full g l = l.fn.most - l.full
