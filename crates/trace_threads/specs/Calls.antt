-- Which calls stand in a run in threads: those of the plan's lines, each handle's in order.
use Rattle.std.specs.Prelude.{◌≡◌, ◌<◌, ◌==◌, ℕ, Bool, true, false, List, [], ◌∷◌, filter, Option, Some, None}
use Rattle.std.specs.List.{list_all}
use Rattle.std.specs.Option.{option_map_or}
use Rattle.usb_model.specs.declared.plan.Plan.{Plan}
use Rattle.usb_model.specs.declared.plan.Plan.TheVariants.{Do, Return}
use Rattle.usb_model.specs.declared.step.Step.{Step}
use Rattle.usb_model.specs.declared.step.Step.TheVariants.{Open, Close, Claim, Release, Reset, ClearHalt, Submit, Cancel, Expire, Unplug}

-- the handle whose call a step is; none of what workers, clocks and callbacks do
abbrev pub handle_of : Step → Option ℕ
handle_of (Open h dev) = Some h
handle_of (Close h) = Some h
handle_of (Claim h i) = Some h
handle_of (Release h i) = Some h
handle_of (Reset h) = Some h
handle_of (ClearHalt h ep) = Some h
handle_of (Submit h request) = Some h
handle_of (Cancel h n) = Some h
handle_of step = None

-- whether a step is a call of this handle
abbrev pub is_call_of : ℕ → Step → Bool
is_call_of h step = option_map_or (λ g. g == h) (handle_of step) false

-- the calls of a handle among steps, in order
abbrev pub calls_by : ℕ → List Step → List Step
calls_by h steps = filter (is_call_of h) steps

-- the steps of a plan, in order; where a callback returns there is none
abbrev pub steps_in : List Plan → List Step
steps_in [] = []
steps_in (Do step ∷ plan) = step ∷ steps_in plan
steps_in (Return h n ∷ plan) = steps_in plan

-- whether a step is one that a handle's thread or a worker makes: neither the end of a transfer's time nor that of a device
abbrev pub is_lived : Step → Bool
is_lived (Expire h n) = false
is_lived (Unplug dev) = false
is_lived step = true

-- a run has the calls of a plan: each handle makes its own, in their order, and no other; and beside them there is what workers do
pub record HasCalls (plan : List Plan) (steps : List Step) : Type 0 where
  pub calls : (h : ℕ) → h < 64 → calls_by h steps ≡ calls_by h (steps_in plan)
  pub others : list_all is_lived steps ≡ true
