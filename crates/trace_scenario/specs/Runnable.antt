-- What a scenario's devices and plan always are, so that any program can run them.
use Rattle.std.specs.Prelude.{◌≡◌, ◌≢◌, ◌≤◌, Bool, true, false, length, count_by}
use Rattle.std.specs.List.{AllByRecursion}
use Rattle.usb_model.specs.declared.plan.Plan.{Plan}
use Rattle.usb_model.specs.declared.plan.Plan.TheVariants.{Do, Return}
use Rattle.usb_model.specs.declared.step.Step.{Step}
use Rattle.usb_model.specs.declared.step.Step.TheVariants.{Answer}
use Rattle.usb_model.specs.declared.verdict.Rule.TheVariants.{Free}
use Rattle.usb_model.specs.World.Plans.{is_submission}
use Rattle.usb_device.specs.Scripts.{CanBeMade}
use Rattle.trace_scenario.specs.declared.scenario.Scenario.{Scenario}

-- whether a step is a callback's verdict
abbrev pub is_answer : Step → Bool
is_answer (Answer h n verdict) = true
is_answer step = false

-- whether a piece of a plan is one, which no line says
abbrev pub is_verdict : Plan → Bool
is_verdict (Do step) = is_answer step
is_verdict (Return h n) = false

-- four devices at most, each of which can be made; a plan without verdicts; and a rule for each of its submissions, none of which is Free
pub record IsRunnable (s : Scenario) : Type 0 where
  pub few : length s.setup ≤ 4
  pub devices : AllByRecursion CanBeMade s.setup
  pub no_verdict : AllByRecursion (λ piece. is_verdict piece ≡ false) s.plan
  pub ruled : length s.rules ≡ count_by is_submission s.plan
  pub fixed : AllByRecursion (λ rule. rule ≢ Free) s.rules
