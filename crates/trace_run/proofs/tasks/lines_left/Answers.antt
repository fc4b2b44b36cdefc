-- The core shows the world where the scenario's run ends.
use Rattle.std.proofs.Common.{◌≡◌, ◌∙◌, List, ap₂, subst}
use Rattle.std.specs.Prelude.{IfOk}
use Rattle.usb_model.specs.declared.verdict.Rule.{Rule}
use Rattle.usb_model.specs.Setup.{Setup}
use Rattle.usb_model.specs.World.{new_world, world_from}
use Rattle.usb_model.specs.World.Plans.{expand}
use Rattle.usb_core.specs.Public.{setup_of}
use Rattle.trace_left.specs.Left.{all_left}
use Rattle.trace_left.specs.LeftText.{lines_left}
use Rattle.trace_run.proofs.tasks.lines_left.Goals as goal

pub returns : goal.returns
returns c =
    let left = λ (s : Setup) (r : List Rule). all_left s (world_from s (new_world s) (expand s c.args.scenario.plan r)) in
    subst (λ l. IfOk c.lines_of.result (λ lines. lines.items ≡ lines_left l))
    (c.as_slice-2.ensures.value ∙ (c.in_ok-left.ensures (setup_of c.in_ok-parts.parts.setup) _ c.in_ok-core.ensures ∙ ap₂ left c.in_ok-parts.ensures.devices (c.in_ok-parts.ensures.rules ∙ c.as_slice.ensures)))
    c.lines_of.ensures
