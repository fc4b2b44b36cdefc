-- How a run over a capture ends of which one device is meant.
use Rattle.std.proofs.Common.{◌≡◌, ℕ, List, [], ◌++◌, Option, Some, None, Result, Ok, Err, OnOk, IfOk, IfErr, IfSome, true, false, ◌≤◌, inl, inr, refl, append-nil, subst, arith}
use Rattle.std.specs.Io.KnownBytes.{Keeps}
use Rattle.trace_io.specs.declared.fault.Fault.{Fault}
use Rattle.trace_io.specs.Faults.{fault_of_capture, message_of}
use Rattle.trace_io.specs.Output.{AppendsSome}
use Rattle.trace_faults.specs.declared.capture_fault.CaptureFault.{CaptureFault}
use Rattle.trace_faults.specs.declared.capture_fault.CaptureFault.TheVariants as capture
use Rattle.trace_recorded.specs.declared.choice.DeviceChoice.{DeviceChoice}
use Rattle.trace_faults.specs.declared.text_reader.TextReader.{TextReader}
use Rattle.trace_recorded.specs.DescribedText.{described_scenario}
use Rattle.trace_faults.specs.CaptureFaults.{IsCaptureFault}
use Rattle.trace_run.specs.declared.tasks.TaskEnd.{TaskEnd}
use Rattle.trace_run.specs.declared.tasks.TaskEnd.TheVariants.{Good, BadLines, NoDevices, Differs, Unexpected}
use Rattle.trace_main.specs.Described.{EndsDescribed, FindsDescribed, IsOfDevices, PerformsDescribed, TellsRefusal}
use Rattle.trace_main.specs.Program.{status_of}

-- a capture that is refused, where the fault is its own
pub described_refused : (reader : TextReader) (choice : DeviceChoice) (text : List ℕ) (refused : CaptureFault) (old new : Option (List ℕ)) → IsCaptureFault refused (described_scenario reader choice text) → Keeps old new
    → EndsDescribed reader choice text old new (fault_of_capture refused)
described_refused reader choice text capture.NotACapture old new is kept = (is, kept)
described_refused reader choice text capture.HeaderCutShort old new is kept = (is, kept)
described_refused reader choice text (capture.LinkType number) old new is kept = (is, kept)
described_refused reader choice text capture.NoInterface old new is kept = (is, kept)
described_refused reader choice text (capture.NoDevice ids) old new is kept = (is, kept)
described_refused reader choice text capture.Memory old new is kept = tt

-- a run with status 0 found the device
pub described_done : (reader : TextReader) (choice : DeviceChoice) (input old new : Option (List ℕ)) (ended : Result TaskEnd Fault) (status : ℕ)
    → IfSome input (λ text. PerformsDescribed reader choice text old new ended) → status ≡ status_of ended → status ≡ 0
    → IfSome input (λ text. FindsDescribed reader choice true text old new)
described_done reader choice None old new ended status ends same zero = tt
described_done reader choice (Some text) old new (Ok Good) status ends same zero = ends
described_done reader choice (Some text) old new (Ok BadLines) status ends same zero = absurd ends
described_done reader choice (Some text) old new (Ok NoDevices) status ends same zero = absurd (omega arith)
described_done reader choice (Some text) old new (Ok Differs) status ends same zero = absurd ends
described_done reader choice (Some text) old new (Ok Unexpected) status ends same zero = absurd ends
described_done reader choice (Some text) old new (Err fault) status ends same zero = absurd (omega arith)

-- the status is 0 or 1
pub described_status : (ended : Result TaskEnd Fault) (status : ℕ) → IfOk ended IsOfDevices → status ≡ status_of ended → status ≤ 1
described_status (Ok Good) status is same = omega (arith, same)
described_status (Ok BadLines) status is same = absurd is
described_status (Ok NoDevices) status is same = omega (arith, same)
described_status (Ok Differs) status is same = absurd is
described_status (Ok Unexpected) status is same = absurd is
described_status (Err fault) status is same = omega (arith, same)

-- nothing is told of a run with status 0
pub described_quiet : (ended : Result TaskEnd Fault) (status : ℕ) (err_old err_new : Option (List ℕ)) → OnOk ended (◌≡◌ {A = List ℕ} [] [] → Keeps err_old err_new) → status ≡ status_of ended → status ≡ 0 → Keeps err_old err_new
described_quiet (Ok ending) status err_old err_new quiet same zero = quiet refl
described_quiet (Err fault) status err_old err_new quiet same zero = absurd (omega (arith, same, zero))

-- what stands behind status 1
pub described_told : (reader : TextReader) (choice : DeviceChoice) (input old new err_old err_new : Option (List ℕ)) (ended : Result TaskEnd Fault) (status : ℕ) → IfOk ended IsOfDevices
    → IfSome input (λ text. PerformsDescribed reader choice text old new ended) → OnOk ended (◌≡◌ {A = List ℕ} [] [] → Keeps err_old err_new)
    → IfErr ended (λ fault. AppendsSome (message_of fault ++ []) err_old err_new) → status ≡ status_of ended → status ≡ 1
    → TellsRefusal reader choice input old new err_old err_new
described_told reader choice input old new err_old err_new (Ok Good) status is ends quiet told same one = absurd (omega (arith, same, one))
described_told reader choice input old new err_old err_new (Ok BadLines) status is ends quiet told same one = absurd is
described_told reader choice input old new err_old err_new (Ok NoDevices) status is ends quiet told same one = inl (kept input ends, quiet refl)
  where
    kept : (i : Option (List ℕ)) → IfSome i (λ text. PerformsDescribed reader choice text old new (Ok NoDevices)) → IfSome i (λ text. FindsDescribed reader choice false text old new)
    kept None given = tt
    kept (Some text) given = given
described_told reader choice input old new err_old err_new (Ok Differs) status is ends quiet told same one = absurd is
described_told reader choice input old new err_old err_new (Ok Unexpected) status is ends quiet told same one = absurd is
described_told reader choice input old new err_old err_new (Err fault) status is ends quiet told same one = inr (fault, refused input ends, subst (λ m. AppendsSome m err_old err_new) (append-nil (message_of fault)) told)
  where
    refused : (i : Option (List ℕ)) → IfSome i (λ text. PerformsDescribed reader choice text old new (Err fault)) → IfSome i (λ text. EndsDescribed reader choice text old new fault)
    refused None given = tt
    refused (Some text) given = given
