-- The scenario that a test stands for.
use Rattle.std.specs.Prelude.{◌≡◌, ◌||◌, ◌++◌, ◌+◌, ◌-◌, ◌==◌, ℕ, nat_le, Bool, true, false, is_some, List, [], ◌∷◌, map, replicate, codes, Option, Some, None, option_and_then, slice_index_or, if◌then◌else◌}
use Rattle.std.specs.Bool.{then_some}
use Rattle.std.specs.List.{flat_map, slice_split}
use Rattle.std.specs.Str.{bytes_eq}
use Rattle.usb_scripttext.specs.Number.{u32_of}
use Rattle.usb_scripttext.specs.Words.{says_nothing}
use Rattle.usb_devicetext.specs.Line.{line_of_text}
use Rattle.usb_devicetext.specs.declared.line.DeskLine.{DeskLine}
use Rattle.usb_devicetext.specs.declared.line.DeskLine.TheVariants.{Says}
use Rattle.trace_test.specs.Expected.{expected_of}
use Rattle.trace_test.specs.Parts.{parts_around}
use Rattle.trace_test.specs.declared.settling.Settling.{Settling}
use Rattle.trace_test.specs.declared.settling.Settling.TheVariants.{Command, Deliver, Take}

-- the text of a scenario, and for each of its lines the number of the line of a test that it comes from
pub record Expansion : Type 0 where
  pub text : List ℕ
  pub origins : List ℕ

-- the lines of a text
abbrev pub lines_in : List ℕ → List (List ℕ)
lines_in text = slice_split (λ b. b == 10) text

-- a text of these lines
abbrev pub text_of : List (List ℕ) → List ℕ
text_of lines = flat_map (λ line. line ++ codes "\n") lines

-- the line of a step that settles
abbrev pub settling_line : Settling → List ℕ
settling_line Command = codes "command"
settling_line Deliver = codes "deliver"
settling_line Take = codes "take"

-- how many times a line may stand for itself, and a macro's body for a call
abbrev pub most_times : ℕ
most_times = 65536

-- a line with a star behind it: what stands in front of the first ` *`, and the number up to 65,536 behind it; None where a line has no such end, and of a comment
abbrev pub times_by : Option (List ℕ × List ℕ) → Option (List ℕ × ℕ)
times_by None = None
times_by (Some parts) = option_and_then (λ n. then_some (nat_le n most_times) (parts.0, n)) (u32_of parts.1)

abbrev pub times_of : List ℕ → Option (List ℕ × ℕ)
times_of line = if says_nothing line then None else times_by (parts_around (codes " *") line)

-- the line that settles
abbrev pub is_settle : List ℕ → Bool
is_settle line = bytes_eq line (codes "settle")

-- whether a line says something of a device that its run doesn't show: what a host reads of it, how it answers control requests, what it does by itself
abbrev pub is_said : Option DeskLine → Bool
is_said (Some (Says dev what)) = true
is_said said = false

abbrev pub says_of_device : List ℕ → Bool
says_of_device line = is_said (line_of_text line)

-- a line so many times, or once
abbrev pub repeated : List ℕ → Option (List ℕ × ℕ) → List (List ℕ)
repeated line None = line ∷ []
repeated line (Some front) = replicate front.1 front.0

-- some steps that settle
abbrev pub Settle : List (List ℕ) → Type 0
Settle lines = (steps : List Settling) × (lines ≡ map settling_line steps)

-- which lines of a scenario a line of a test stands for, the first that applies: none where it expects something; `settle` for some steps that settle; none where it
-- says something of a device that a run doesn't show; what stands in front of a star so many times; any other line for itself
abbrev pub StandsBy : (expects settles of_device : Bool) → List ℕ → List (List ℕ) → Type 0
StandsBy true settles of_device line lines = lines ≡ []
StandsBy false true of_device line lines = Settle lines
StandsBy false false true line lines = lines ≡ []
StandsBy false false false line lines = lines ≡ repeated line (times_of line)

abbrev pub StandsFor : List ℕ → List (List ℕ) → Type 0
StandsFor line lines = StandsBy (is_some (expected_of line)) (is_settle line) (says_of_device line) line lines

-- whether a line may stand for no line at all, though it expects nothing: it settles, or stands so many times as none
abbrev pub is_no_time : Option (List ℕ × ℕ) → Bool
is_no_time None = false
is_no_time (Some front) = front.1 == 0

abbrev pub may_be_nothing : List ℕ → Bool
may_be_nothing line = is_settle line || is_no_time (times_of line)

-- these lines were added, each of which comes from this line of the test
abbrev pub AddsLines : ℕ → List (List ℕ) → Expansion → Expansion → Type 0
AddsLines at lines old new = (new.text ≡ old.text ++ text_of lines) × (new.origins ≡ old.origins ++ map (λ _. at) lines)

-- what a line of a test stands for was added
abbrev pub AddsLine : ℕ → List ℕ → Expansion → Expansion → Type 0
AddsLine at line old new = (lines : List (List ℕ)) × StandsFor line lines × AddsLines at lines old new

-- and so for each of these lines, of which the first has this number
unfoldable pub AddsAll : ℕ → List (List ℕ) → Expansion → Expansion → Type 0
AddsAll at [] old new = new ≡ old
AddsAll at (line ∷ lines) old new = (mid : Expansion) × AddsLine at line old mid × AddsAll (at + 1) lines mid new

-- no line yet
abbrev pub nothing_added : Expansion
nothing_added = record { text = []; origins = [] }

-- a scenario that a test stands for
abbrev pub Expands : List ℕ → Expansion → Type 0
Expands text e = AddsAll 1 (lines_in text) nothing_added e

-- the line of the test that a line of the scenario comes from
abbrev pub origin_of : Expansion → ℕ → ℕ
origin_of e line = slice_index_or e.origins (line - 1) 0
