-- The packets of a run that aren't as expected.
use Rattle.std.specs.Prelude.{ℕ, ◌++◌, List, [], ◌∷◌, length, Option, Some, None, slice_get}
use Rattle.std.specs.Option.{option_and_then, option_map, option_to_list}
use Rattle.usb_model.specs.declared.plan.Plan.{Plan}
use Rattle.usb_model.specs.declared.plan.Plan.TheVariants.{Do, Return}
use Rattle.usb_model.specs.declared.step.Step.{Step}
use Rattle.usb_model.specs.declared.step.Step.TheVariants.{Serve}
use Rattle.usb_model.specs.declared.verdict.Rule.{Rule}
use Rattle.usb_model.specs.Setup.{Setup}
use Rattle.usb_model.specs.World.{World, turn}
use Rattle.usb_model.specs.World.Plans.{Stage, first_stage, stage_after, steps_of}
use Rattle.trace_scenario.specs.declared.expectations.ExpectedPackets.{ExpectedPackets}
use Rattle.usb_scripttext.specs.declared.expected_packet.ExpectedPacket.{ExpectedPacket}
use Rattle.trace_judged.specs.declared.difference.Difference.{Difference}
use Rattle.trace_judged.specs.Expected.{differs_at, expected_at}

-- how many packets an endpoint took since its script began: the index of the next
abbrev pub next_index : World → ℕ → ℕ → ℕ
next_index w dev ep = length (w.endpoints dev ep).packets_received

-- the packet of this index that it took
abbrev pub received_at : World → ℕ → ℕ → ℕ → Option (List ℕ)
received_at w dev ep index = slice_get (w.endpoints dev ep).packets_received index

-- the packet that a step in a world takes at an endpoint: one stands behind the step that didn't before
abbrev pub taken_at : Setup → World → Step → ℕ → ℕ → Option (List ℕ)
taken_at setup w step dev ep = received_at (turn setup w step).world dev ep (next_index w dev ep)

-- a packet with these bytes, where it isn't as expected
abbrev pub difference_of : (line dev ep index : ℕ) → ExpectedPacket → List ℕ → Option Difference
difference_of line dev ep index expected came =
    option_map (λ offset. record { line = line; dev = dev; ep = ep; index = index; came = came; expected = expected; offset = offset }) (differs_at expected came)

-- the same by its index, where something is expected of that
abbrev pub difference_by : List ExpectedPackets → (line dev ep index : ℕ) → List ℕ → Option Difference
difference_by lines line dev ep index came = option_and_then (λ expected. difference_of line dev ep index expected came) (slice_get (expected_at lines dev ep) index)

-- the packet that a step takes, where it isn't as expected: only where a device answers is one taken
abbrev pub step_difference : List ExpectedPackets → Setup → World → (line : ℕ) → Step → Option Difference
step_difference lines setup w line (Serve dev ep) = option_and_then (difference_by lines line dev ep (next_index w dev ep)) (taken_at setup w (Serve dev ep) dev ep)
step_difference lines setup w line step = None

-- the same of a piece of a plan: what a callback answers moves no packet
abbrev pub piece_difference : List ExpectedPackets → Setup → World → (line : ℕ) → Plan → Option Difference
piece_difference lines setup w line (Do step) = step_difference lines setup w line step
piece_difference lines setup w line (Return h n) = None

-- those of a plan from a stage on, as far as there are lines, each with the number of its line
unfoldable pub differences_from : List ExpectedPackets → Setup → Stage → List Plan → List (ℕ × List ℕ) → List Difference
differences_from expected setup s [] lines = []
differences_from expected setup s (piece ∷ plan) [] = []
differences_from expected setup s (piece ∷ plan) (line ∷ lines) =
    option_to_list (piece_difference expected setup s.world line.0 piece) ++ differences_from expected setup (stage_after setup s piece (steps_of setup s piece)) plan lines

-- those of a plan under these rules, in the order in which they were taken
abbrev pub differences : List ExpectedPackets → Setup → List Plan → List Rule → List (ℕ × List ℕ) → List Difference
differences expected setup plan rules lines = differences_from expected setup (first_stage setup rules) plan lines
