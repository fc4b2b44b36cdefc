-- What was performed in threads, as a scenario's run.
use Rattle.std.proofs.Common.{◌≡◌, ◌∙◌, ℕ, List, ap, subst₂}
use Rattle.usb_model.specs.declared.entry.Entry.{Entry}
use Rattle.usb_model.specs.declared.step.Step.{Step}
use Rattle.usb_model.specs.declared.verdict.Rule.{Rule}
use Rattle.usb_model.specs.Setup.{Setup}
use Rattle.usb_model.specs.World.{new_world, world_from}
use Rattle.trace_threads.specs.AtRest.{IsAtRest}
use Rattle.trace_left.specs.declared.left.Left.{Left}
use Rattle.trace_left.specs.LeftText.{lines_left}
use Rattle.trace_threads.specs.Callbacks.{AreCallbacks}
use Rattle.trace_threads.specs.Calls.{HasCalls}
use Rattle.trace_threads.specs.Unfinished.{IsPerformed, unfinished_in}
use Rattle.trace_threads.specs.Verdicts.{AreToldSo, ruled}
use Rattle.trace_scenario.specs.declared.scenario.Scenario.{Scenario}
use Rattle.trace_main.specs.Lived.{IsLived, unfinished_text}

-- s: a scenario, whose devices and rules these are; p: it was performed by some steps
module _ (s : Scenario) (setup : Setup) (rules : List Rule) (rounds : ℕ) (told : List Entry) (unfinished : List Left) (devices : setup ≡ s.setup) (given : rules ≡ s.rules)
    (p : (steps : List Step) × IsPerformed setup s.plan rules rounds steps told unfinished) where
  pub lived_so : IsLived s rounds p.0 told
  lived_so =
      subst₂ (λ d r. HasCalls s.plan p.0 × AreToldSo d (ruled s.plan r) rounds p.0 × AreCallbacks d p.0 told × IsAtRest d (world_from d (new_world d) p.0)) devices given
      (p.1.calls, p.1.verdicts, p.1.callbacks, p.1.rest)

  pub unfinished_so : (notes : List ℕ) → notes ≡ lines_left unfinished → notes ≡ unfinished_text s p.0
  unfinished_so notes are = are ∙ ap lines_left (p.1.left ∙ ap (λ d. unfinished_in d p.0) devices)
