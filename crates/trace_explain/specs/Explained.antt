-- A run with what there is to say of its entries.
use Rattle.std.specs.Prelude.{◌≡◌, ⊤, ℕ, ◌++◌, Bool, true, false, List, [], ◌∷◌, Option, Some, None, codes}
use Rattle.std.specs.List.{flat_map}
use Rattle.usb_model.specs.declared.entry.Entry.{Entry}
use Rattle.usb_model.specs.declared.plan.Plan.{Plan}
use Rattle.usb_model.specs.declared.plan.Plan.TheVariants.{Do, Return}
use Rattle.usb_model.specs.declared.step.Step.{Step}
use Rattle.usb_model.specs.declared.step.Step.TheVariants.{Answer}
use Rattle.usb_model.specs.declared.verdict.Rule.{Rule}
use Rattle.usb_model.specs.Setup.{Setup}
use Rattle.usb_model.specs.World.Journal.{run_from}
use Rattle.usb_model.specs.World.Plans.{Stage, first_stage, returning, stage_after, steps_of, verdict_by}
use Rattle.trace_io.specs.Output.{behind_line, line_text}
use Rattle.trace_explain.specs.Reasons.{reason_of}
use Rattle.trace_explain.specs.Text.{reason_text}
use Rattle.trace_explain.specs.declared.sentence.Reason.{Reason}
use Rattle.trace_explain.specs.declared.sentence.Reason.TheVariants.{Refused, UnplugRefused}
use Rattle.trace_explain.specs.Packets.{packet_lines}
use Rattle.trace_explain.specs.declared.telling.Telling.{Telling}
use Rattle.trace_explain.specs.declared.telling.Telling.TheVariants.{Reasons, Refusals, Packets, StepPackets}

-- the first step that a piece of a plan stands for
abbrev pub first_step : Stage → Plan → Step
first_step s (Do step) = step
first_step s (Return h n) = Answer h n (verdict_by (returning s h n) (s.book h n))

-- its reason
abbrev pub first_reason : Setup → Stage → Plan → Option Reason
first_reason setup s piece = reason_of setup s.world (first_step s piece)

-- the line of a reason, if there is one
abbrev pub reason_line : Option Reason → List ℕ
reason_line None = []
reason_line (Some reason) = codes "    " ++ (reason_text reason ++ codes "\n")

-- what stands below the first entry of a piece: the reason of its first step, or the packets that this moves
abbrev pub note_text : Telling → Setup → Stage → Plan → List ℕ
note_text Reasons setup s piece = reason_line (first_reason setup s piece)
note_text Refusals setup s piece = reason_line (first_reason setup s piece)
note_text Packets setup s piece = packet_lines setup s.world (first_step s piece)
note_text StepPackets setup s piece = packet_lines setup s.world (first_step s piece)

-- an entry: behind its line, or alone
abbrev pub told_entry : Telling → ℕ × List ℕ → Entry → List ℕ
told_entry Packets line entry = line_text entry
told_entry telling line entry = behind_line line entry

-- the entries of a piece, and the note below the first
abbrev pub explained_entries : Telling → ℕ × List ℕ → (note : List ℕ) → List Entry → List ℕ
explained_entries telling line note [] = []
explained_entries telling line note (entry ∷ entries) = told_entry telling line entry ++ (note ++ flat_map (told_entry telling line) entries)

-- whether a reason is that of a refusal
abbrev pub is_refusal : Option Reason → Bool
is_refusal (Some (Refused refusal)) = true
is_refusal (Some (UnplugRefused refusal)) = true
is_refusal reason = false

-- whether a piece is told whose first step has this reason: each, or those alone that are refused
abbrev pub is_told : Telling → Option Reason → Bool
is_told Refusals reason = is_refusal reason
is_told telling reason = true

-- a reason is that of a piece's first step, where what is told has to do with reasons
abbrev pub IsAsked : Telling → (reason own : Option Reason) → Type 0
IsAsked Reasons reason own = reason ≡ own
IsAsked Refusals reason own = reason ≡ own
IsAsked Packets reason own = ⊤
IsAsked StepPackets reason own = ⊤

-- a text, where it is told
abbrev pub where_told : Bool → List ℕ → List ℕ
where_told true text = text
where_told false text = []

-- what is told of a piece
abbrev pub told_piece : Telling → Setup → Stage → Plan → ℕ × List ℕ → List ℕ
told_piece telling setup s piece line =
    where_told (is_told telling (first_reason setup s piece))
    (explained_entries telling line (note_text telling setup s piece) (run_from setup s.world (steps_of setup s piece)))

-- of a plan from a stage on, as far as there are lines
unfoldable pub explained_from : Telling → Setup → Stage → List Plan → List (ℕ × List ℕ) → List ℕ
explained_from telling setup s [] lines = []
explained_from telling setup s (piece ∷ plan) [] = []
explained_from telling setup s (piece ∷ plan) (line ∷ lines) =
    told_piece telling setup s piece line ++ explained_from telling setup (stage_after setup s piece (steps_of setup s piece)) plan lines

-- of a plan under these rules
abbrev pub explained_text : Telling → Setup → List Plan → List Rule → List (ℕ × List ℕ) → List ℕ
explained_text telling setup plan rules lines = explained_from telling setup (first_stage setup rules) plan lines
