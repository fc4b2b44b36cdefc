-- What reading a line, or a part of it, may answer.
use Rattle.std.specs.Prelude.{◌≡◌, ⊤, Option, Some, None, Result, Ok, Err}
use Rattle.usb_model.specs.declared.plan.Plan.{Plan}
use Rattle.usb_scripttext.specs.declared.fault.LineFault.{LineFault}
use Rattle.usb_scripttext.specs.declared.fault.LineFault.TheVariants.{Bad, Memory}
use Rattle.trace_scenario.specs.declared.line.Line.{Line}
use Rattle.trace_scenario.specs.declared.line.Line.TheVariants as line
use Rattle.trace_scenario.specs.declared.submit.Submitted.{Submitted}

-- the answer is the piece of the plan that a line says
abbrev pub ReadsPiece : Result Plan LineFault → Option Line → Type 0
ReadsPiece (Ok piece) said = said ≡ Some (line.Piece piece)
ReadsPiece (Err (Bad problem)) said = said ≡ None
ReadsPiece (Err Memory) said = ⊤

-- the line of a submission
abbrev pub submitted_line : Submitted → Line
submitted_line s = line.Submit s.h s.request s.rule

-- the answer is the submission that a line says
abbrev pub ReadsSubmitted : Result Submitted LineFault → Option Line → Type 0
ReadsSubmitted (Ok s) said = said ≡ Some (submitted_line s)
ReadsSubmitted (Err (Bad problem)) said = said ≡ None
ReadsSubmitted (Err Memory) said = ⊤
