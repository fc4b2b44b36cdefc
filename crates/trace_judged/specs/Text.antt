-- What is told of the run of a text's scenario.
use Rattle.std.specs.Prelude.{◌≡◌, ℕ, Bool, List, [], Option, Some, None}
use Rattle.std.specs.List.{list_any}
use Rattle.std.specs.Option.{option_map_or}
use Rattle.usb_model.specs.declared.plan.Plan.{Plan}
use Rattle.usb_model.specs.declared.verdict.Rule.{Rule}
use Rattle.usb_model.specs.Setup.{Setup}
use Rattle.usb_model.specs.World.{new_world, world_from}
use Rattle.usb_model.specs.World.Plans.{expand}
use Rattle.trace_scenario.specs.declared.expectations.ExpectedPackets.{ExpectedPackets}
use Rattle.trace_scenario.specs.declared.scenario.Scenario.{Scenario}
use Rattle.trace_scenario.specs.Expectations.{expected_of}
use Rattle.trace_judged.specs.Differences.{differences}
use Rattle.trace_judged.specs.Missing.{all_missing, is_wanted}
use Rattle.trace_judged.specs.Report.{unexpected_of, unexpected_text}
use Rattle.trace_judged.specs.declared.unexpected.Unexpected.{Unexpected}

-- whether lines expect anything of a packet: what may be anything isn't
abbrev pub line_expects : ExpectedPackets → Bool
line_expects line = list_any is_wanted line.packets

abbrev pub expects : List ExpectedPackets → Bool
expects lines = list_any line_expects lines

-- what is told of a plan's run under these rules, by what is expected of it and the lines of its steps
abbrev pub unexpected_in : List ExpectedPackets → Setup → List Plan → List Rule → List (ℕ × List ℕ) → Option Unexpected
unexpected_in expected setup plan rules lines =
    unexpected_of (differences expected setup plan rules lines) (all_missing expected setup (world_from setup (new_world setup) (expand setup plan rules)))

-- the same of a text's scenario
abbrev pub unexpected_by : List ℕ → Scenario → List (ℕ × List ℕ) → Option Unexpected
unexpected_by text s lines = unexpected_in (expected_of text) s.setup s.plan s.rules lines

-- what the lines of a text expect, as entries of which the same is told of any scenario's run as of the lines; none, where nothing is told of any
abbrev pub AreExpected : List ℕ → Option (List ExpectedPackets) → Type 0
AreExpected text None = (s : Scenario) (lines : List (ℕ × List ℕ)) → unexpected_by text s lines ≡ None
AreExpected text (Some entries) = (s : Scenario) (lines : List (ℕ × List ℕ)) → unexpected_in entries s.setup s.plan s.rules lines ≡ unexpected_by text s lines

-- in lines, each with the number of its line in the text: no byte, where nothing is told
abbrev pub told_text : Option Unexpected → List ℕ
told_text unexpected = option_map_or unexpected_text unexpected []
