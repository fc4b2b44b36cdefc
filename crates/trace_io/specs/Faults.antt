-- Why a run of the program ends early, and its message.
use Rattle.std.specs.Prelude.{◌++◌, ◌<◌, ℕ, Bool, List, Option, ⊤, IfSome, [], codes, false, if◌then◌else◌, length, true}
use Rattle.std.specs.Fmt.{decimal}
use Rattle.std.specs.declared.io.ErrorKind.{ErrorKind}
use Rattle.std.specs.declared.io.ErrorKind.TheVariants.{BrokenPipe, OutOfMemory}
use Rattle.usb_scripttext.specs.declared.text_fault.TextFault.{TextFault}
use Rattle.usb_scripttext.specs.declared.text_fault.TextFault.TheVariants as text
use Rattle.trace_io.specs.declared.fault.Fault.{Fault}
use Rattle.trace_io.specs.declared.fault.Fault.TheVariants.{Line, Memory, InputOutput, Closed, TooLong, Rounds, Wide, Capture, Descriptor}
use Rattle.trace_faults.specs.declared.capture_fault.CaptureFault.{CaptureFault}
use Rattle.trace_faults.specs.declared.capture_fault.CaptureFault.TheVariants as capture
use Rattle.trace_faults.specs.CaptureFaults.{capture_fault_text}
use Rattle.trace_faults.specs.declared.descriptor_fault.DescriptorFault.{DescriptorFault}
use Rattle.trace_faults.specs.declared.descriptor_fault.DescriptorFault.TheVariants as descriptor
use Rattle.trace_faults.specs.DescriptorFaults.{descriptor_fault_text}
use Rattle.trace_io.specs.Input.{longest_input}

-- the fault of a run whose text has this one
abbrev pub fault_of_text : TextFault → Fault
fault_of_text (text.Line line) = Line line
fault_of_text text.Memory = Memory

-- the fault of a run whose capture has this one: want of memory is that of a run
abbrev pub fault_of_capture : CaptureFault → Fault
fault_of_capture capture.Memory = Memory
fault_of_capture fault = Capture fault

-- the fault of a run whose descriptor has this one, likewise
abbrev pub fault_of_descriptor : DescriptorFault → Fault
fault_of_descriptor descriptor.Memory = Memory
fault_of_descriptor fault = Descriptor fault

-- the fault of a stream that fails with an error of this kind
abbrev pub fault_of_kind : ErrorKind → Fault
fault_of_kind OutOfMemory = Memory
fault_of_kind BrokenPipe = Closed
fault_of_kind _ = InputOutput

-- how a sentence begins that says why a capture isn't read
abbrev pub refusal_head : CaptureFault → List ℕ
refusal_head (capture.NoDevice ids) = codes "the capture has "
refusal_head fault = codes "the capture is refused: "

-- a fault in words
abbrev pub fault_text : Fault → List ℕ
fault_text (Line line) = codes "line " ++ decimal line ++ codes " refused"
fault_text Memory = codes "out of memory"
fault_text InputOutput = codes "input or output failed"
fault_text Closed = codes "nobody reads the output any more"
fault_text TooLong = codes "the input is longer than 67108864 bytes\nusbtrace: input or output failed"
fault_text (Rounds rounds) = codes "more than " ++ decimal rounds ++ codes " callbacks are called: --rounds sets how many may be"
fault_text (Wide steps) = decimal steps ++ codes " steps are too many for a picture, which has 2000: choose some by --from and --to"
fault_text (Capture fault) = refusal_head fault ++ capture_fault_text fault
fault_text (Descriptor fault) = descriptor_fault_text fault

-- whether nobody reads the output any more
abbrev pub is_closed : Fault → Bool
is_closed Closed = true
is_closed fault = false

-- a fault as a sentence of the program
abbrev pub sentence_of : Fault → List ℕ
sentence_of fault = codes "usbtrace: " ++ fault_text fault ++ codes "\n"

-- the message of a fault on standard error: none where nobody reads the output any more
abbrev pub message_of : Fault → List ℕ
message_of fault = if is_closed fault then [] else sentence_of fault

-- a fault of memory or of a stream, and not of a line, of the whole input, of the callbacks, of a picture, of a capture or of a descriptor
abbrev pub IsOfRun : Fault → Type 0
IsOfRun (Line line) = ⊥
IsOfRun Memory = ⊤
IsOfRun InputOutput = ⊤
IsOfRun Closed = ⊤
IsOfRun TooLong = ⊥
IsOfRun (Rounds rounds) = ⊥
IsOfRun (Wide steps) = ⊥
IsOfRun (Capture fault) = ⊥
IsOfRun (Descriptor fault) = ⊥

-- how many steps a picture has at most
abbrev pub most_drawn : ℕ
most_drawn = 2000

-- a fault of a picture: of memory or of a stream, or there are too many steps
abbrev pub IsOfPicture : Fault → Type 0
IsOfPicture (Wide steps) = most_drawn < steps
IsOfPicture fault = IsOfRun fault

-- a fault of reading this input, of which perhaps the bytes are known: of memory or of a stream, or the input is too long
abbrev pub IsOfInput : Option (List ℕ) → Fault → Type 0
IsOfInput given TooLong = IfSome given (λ bytes. longest_input < length bytes)
IsOfInput given fault = IsOfRun fault

-- what holds of a picture that is too wide, of its number of steps
abbrev pub IfWide : Fault → (ℕ → Type 0) → Type 0
IfWide (Wide steps) holds = holds steps
IfWide fault holds = ⊤
