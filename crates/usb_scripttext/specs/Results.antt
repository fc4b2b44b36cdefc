-- What reading a line, a part of it or a text may answer.
use Rattle.std.specs.Prelude.{◌≡◌, ℕ, ⊤, Option, Some, None, Result, Ok, Err}
use Rattle.usb_scripttext.specs.declared.fault.LineFault.{LineFault}
use Rattle.usb_scripttext.specs.declared.fault.LineFault.TheVariants.{Bad, Memory}
use Rattle.usb_scripttext.specs.declared.text_fault.TextFault.{TextFault}
use Rattle.usb_scripttext.specs.declared.text_fault.TextFault.TheVariants as fault

-- the answer is what the text says, or that it says nothing; want of memory says nothing of it
abbrev pub ReadsAs : {T : Type 0} → Result T LineFault → Option T → Type 0
ReadsAs (Ok x) said = said ≡ Some x
ReadsAs (Err (Bad problem)) said = said ≡ None
ReadsAs (Err Memory) said = ⊤

-- the value became what the text makes of it, or the text makes nothing of it and it is as it was; want of memory says nothing
abbrev pub Becomes : {T S : Type 0} → Result T LineFault → Option S → S → S → Type 0
Becomes (Ok x) said old new = said ≡ Some new
Becomes (Err (Bad problem)) said old new = (said ≡ None) × (new ≡ old)
Becomes (Err Memory) said old new = ⊤

-- the fault of a text whose line of this number isn't taken
abbrev pub fault_at : ℕ → LineFault → TextFault
fault_at line (Bad problem) = fault.Line line
fault_at line Memory = fault.Memory

-- the answer is the same as that of the text, a bad line by its number; want of memory says nothing
abbrev pub AnswersAs : {T : Type 0} → Result T TextFault → Result T ℕ → Type 0
AnswersAs (Ok x) said = said ≡ Ok x
AnswersAs (Err (fault.Line line)) said = said ≡ Err line
AnswersAs (Err fault.Memory) said = ⊤

-- the fault may be that of such an answer
abbrev pub IsFaultOf : {T : Type 0} → TextFault → Result T ℕ → Type 0
IsFaultOf {T} fault said = AnswersAs {T = T} (Err fault) said
