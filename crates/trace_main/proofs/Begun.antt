-- What a task has written, however it ends.
use Rattle.std.proofs.Common.{◌≡◌, ◌++◌, ℕ, List, [], Option, Some, None, Result, Ok, Err, IfSome, inl, refl, sym, subst, append-nil}
use Rattle.std.specs.Io.KnownBytes.{Appends, Keeps}
use Rattle.trace_scenario.specs.declared.scenario.Scenario.{Scenario}
use Rattle.trace_io.specs.declared.words.Task.{Task}
use Rattle.trace_io.specs.declared.words.Task.TheVariants.{Run, Steps, Packets, Alone, Live, Left, Check, Draw, Page, Capture, Devices, Explain, Test, Device, Describe}
use Rattle.trace_io.specs.Output.{AppendsSome}
use Rattle.trace_io.proofs.Beginnings.{none_yet, some_behind, some_of_front}
use Rattle.trace_main.specs.Lived.{AppendsSomeCallbacks}
use Rattle.trace_faults.specs.declared.capture_fault.CaptureFault.{CaptureFault}
use Rattle.trace_recorded.specs.declared.scenario.RecordedScenario.{RecordedScenario}
use Rattle.trace_recorded.specs.Scenario.{recorded_scenario}
use Rattle.trace_run.specs.Tasks.{AppendsAny}
use Rattle.trace_faults.specs.declared.descriptor_fault.DescriptorFault.{DescriptorFault}
use Rattle.trace_descriptor.specs.Device.{device_text}
use Rattle.trace_main.specs.Program.{Begins, BeginsDevice, BeginsOutcome, BeginsRecorded}

-- known bytes stay
pub keeps_same : (old : Option (List ℕ)) → Keeps old old
keeps_same None = tt
keeps_same (Some xs) = refl

-- nothing of a capture is told
pub no_recorded : (said : Result RecordedScenario CaptureFault) (old : Option (List ℕ)) → BeginsRecorded said old old
no_recorded (Ok r) old = none_yet r.text old
no_recorded (Err fault) old = keeps_same old

-- nothing of a device is told
pub no_device : (said : Result (List ℕ) DescriptorFault) (old : Option (List ℕ)) → BeginsDevice said old old
no_device (Ok lines) old = none_yet lines old
no_device (Err fault) old = keeps_same old

-- nothing of a table is told
pub no_table : (old : Option (List ℕ)) → AppendsAny old old
no_table old = let none = none_yet [] old in (none.0, none.2)

-- nothing of what came of a test
pub no_outcome : (text : List ℕ) (old : Option (List ℕ)) → BeginsOutcome text old old
no_outcome text old = inl (keeps_same old)

-- nothing is a beginning of what callbacks are told
pub none_begun : (s : Scenario) (rounds : ℕ) (old : Option (List ℕ)) → AppendsSomeCallbacks s rounds old old
none_begun s rounds old = inl (keeps_same old)

-- nothing is written
pub nothing_of : (t : Task) (text : List ℕ) (old : Option (List ℕ)) → Begins t text old old
nothing_of Run text old = inl (keeps_same old)
nothing_of Steps text old = inl (keeps_same old)
nothing_of (Packets steps) text old = inl (keeps_same old)
nothing_of (Alone h) text old = inl (keeps_same old)
nothing_of (Live rounds) text old = inl (keeps_same old)
nothing_of Left text old = inl (keeps_same old)
nothing_of Check text old = inl (keeps_same old)
nothing_of (Draw from to) text old = inl (keeps_same old)
nothing_of Capture text old = inl (keeps_same old)
nothing_of (Devices reader) text old = no_recorded (recorded_scenario reader text) old
nothing_of (Page from to) text old = inl (keeps_same old)
nothing_of Explain text old = inl (keeps_same old)
nothing_of Test text old = no_outcome text old
nothing_of Device text old = no_device (device_text text) old
nothing_of Describe text old = no_table old

-- nothing is written, whatever the input has
pub nothing_begun : (input : Option (List ℕ)) (t : Task) (old : Option (List ℕ)) → IfSome input (λ text. Begins t text old old)
nothing_begun None t old = tt
nothing_begun (Some text) t old = nothing_of t text old

-- a task over all that the input has
pub bytes_begun : (input : Option (List ℕ)) (t s : Task) (bytes : List ℕ) (old new : Option (List ℕ)) → t ≡ s → IfSome input (λ given. bytes ≡ given)
    → Begins s bytes old new → IfSome input (λ text. Begins t text old new)
bytes_begun None t s bytes old new asked same some = tt
bytes_begun (Some text) t s bytes old new asked same some =
    subst (λ (x : Task). Begins x text old new) (sym asked) (subst (λ bs. Begins s bs old new) same some)

-- a message was told, and a beginning of what is behind it
pub told_behind : (message notes : List ℕ) (old mid new : Option (List ℕ)) → Appends old mid message → AppendsSome notes mid new → AppendsSome (message ++ notes) old new
told_behind message notes old mid new first behind = some_behind (message ++ notes) message notes old mid new refl first behind

-- a beginning of the message, and nothing behind it
pub told_front : (message notes : List ℕ) (old new : Option (List ℕ)) → AppendsSome message old new → AppendsSome (message ++ notes) old new
told_front message notes old new some = some_of_front (message ++ notes) message notes old new refl some

-- nothing stands behind a message
pub told_alone : (message : List ℕ) (old new : Option (List ℕ)) → AppendsSome (message ++ []) old new → AppendsSome message old new
told_alone message old new some = subst (λ (text : List ℕ). AppendsSome text old new) (append-nil message) some
