-- The own part of a run is what the handle sees, and a run of its own steps is what it sees alone.
use Rattle.std.proofs.Common.{◌∙◌, ap, sym}
use Rattle.usb_model.specs.World.Journal.{world_run}
use Rattle.reference.specs.Part.{own_entries, own_steps}
use Rattle.proof_model.proofs.Handles.Isolation.{sees_alone}
use Rattle.reference.proofs.PartSteps.{entries_are, run_is_alone, runs_as_alone}
use Rattle.reference.proofs.comparison.compare.Goals as goal

pub returns-clause-shared : goal.returns-clause-shared
returns-clause-shared c =
    c.in_ok-part.ensures.entries
    ∙ ap (own_entries c.args.h c.args.steps.now) c.requires
    ∙ entries_are c.args.setup.now c.args.steps.now c.args.h

pub returns-clause-alone : goal.returns-clause-alone
returns-clause-alone c =
    c.in_ok-alone.ensures
    ∙ ap (world_run c.args.setup.now) c.as_slice.ensures
    ∙ ap (world_run c.args.setup.now) c.in_ok-part.ensures.steps
    ∙ ap (λ all. world_run c.args.setup.now (own_steps c.args.h c.args.steps.now all)) c.requires
    ∙ run_is_alone c.args.setup.now c.args.steps.now c.args.h

pub returns-clause-runs : goal.returns-clause-runs
returns-clause-runs c = returns-clause-alone c ∙ sym (runs_as_alone c.args.setup.now c.args.steps.now c.args.h)

pub returns-clause-same : goal.returns-clause-same
returns-clause-same c = returns-clause-shared c ∙ (sees_alone c.args.setup.now c.args.steps.now c.args.h ∙ sym (returns-clause-alone c))
