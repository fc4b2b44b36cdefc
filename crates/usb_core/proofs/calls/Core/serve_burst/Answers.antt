use Rattle.std.proofs.Common.{◌+◌, subst}
use Rattle.std.specs.Prelude.{replicate}
use Rattle.usb_model.specs.declared.step.Step.TheVariants.{Serve}
use Rattle.refine_core.specs.State.{State}
use Rattle.refine_core.specs.Steps.{TurnsInRow}
use Rattle.refine_core.proofs.Rows.{runs, shows_behind}
use Rattle.usb_core.specs.StepBursts.{burst_entries}
use Rattle.usb_core.proofs.calls.Core.serve_burst.Goals as goal

pub invariant_of-self : goal.invariant_of-self
invariant_of-self g c = shows_behind c.self.inside.parts c.serve_burst.new.self (replicate (c.serve_burst.result.full + 1) (Serve c.args.dev c.args.ep)) (burst_entries c.serve_burst.result) c.serve_burst.ensures.turns c.self.invariant

pub returns-clause-turned : goal.returns-clause-turned
returns-clause-turned g c = subst (λ (s : State g.row.P.Denot). TurnsInRow s (replicate (c.serve_burst.result.full + 1) (Serve c.args.dev c.args.ep)) (burst_entries c.serve_burst.result) c.serve_burst.new.self) c.self.view_is
    (runs c.self.inside.parts c.serve_burst.new.self (replicate (c.serve_burst.result.full + 1) (Serve c.args.dev c.args.ep)) (burst_entries c.serve_burst.result) c.serve_burst.ensures.turns)
