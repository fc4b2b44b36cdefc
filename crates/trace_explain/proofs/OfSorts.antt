-- What a reason is, by its sort.
use Rattle.std.proofs.Common.{◌≡◌, ℕ, Option, Some, None, refl}
use Rattle.std.specs.Option.{option_and_then}
use Rattle.usb_model.specs.declared.endpoint.EndpointState.{EndpointState}
use Rattle.usb_model.specs.declared.refused.Refused.{Refused}
use Rattle.usb_model.specs.declared.status.Status.{Status}
use Rattle.trace_explain.specs.declared.sentence.CalledWith.{CalledWith}
use Rattle.trace_explain.specs.declared.sentence.TransferEnd.{TransferEnd}
use Rattle.trace_explain.specs.declared.sentence.Idleness.{Idleness}
use Rattle.trace_explain.specs.declared.sentence.Reason.{Reason}
use Rattle.trace_explain.specs.declared.sentence.Reason.TheVariants as reason
use Rattle.trace_explain.specs.declared.sentence.Unready.{Unready}
use Rattle.trace_explain.specs.Sorts.{Refusal, Idleness as Idles, NoPacket, End, Failure, Callback, code_of, refusal_of, sort_of}

pub of_refusal : (o : Option Reason) (why : Refused) → sort_of o ≡ Refusal why → option_and_then refusal_of o ≡ Some why
of_refusal None why e = absurd cc
of_refusal (Some (reason.Refused x)) why e = cc
of_refusal (Some (reason.UnplugRefused x)) why e = cc
of_refusal (Some (reason.Idle x)) why e = absurd cc
of_refusal (Some (reason.Nak x)) why e = absurd cc
of_refusal (Some (reason.Ended x)) why e = absurd cc
of_refusal (Some (reason.Failed ep state)) why e = absurd cc
of_refusal (Some (reason.Called x)) why e = absurd cc

pub of_idleness : (o : Option Reason) → sort_of o ≡ Idles → (x : Idleness) × (o ≡ Some (reason.Idle x))
of_idleness None e = absurd cc
of_idleness (Some (reason.Refused x)) e = absurd cc
of_idleness (Some (reason.UnplugRefused x)) e = absurd cc
of_idleness (Some (reason.Idle x)) e = (x, refl)
of_idleness (Some (reason.Nak x)) e = absurd cc
of_idleness (Some (reason.Ended x)) e = absurd cc
of_idleness (Some (reason.Failed ep state)) e = absurd cc
of_idleness (Some (reason.Called x)) e = absurd cc

pub of_no_packet : (o : Option Reason) → sort_of o ≡ NoPacket → (x : Unready) × (o ≡ Some (reason.Nak x))
of_no_packet None e = absurd cc
of_no_packet (Some (reason.Refused x)) e = absurd cc
of_no_packet (Some (reason.UnplugRefused x)) e = absurd cc
of_no_packet (Some (reason.Idle x)) e = absurd cc
of_no_packet (Some (reason.Nak x)) e = (x, refl)
of_no_packet (Some (reason.Ended x)) e = absurd cc
of_no_packet (Some (reason.Failed ep state)) e = absurd cc
of_no_packet (Some (reason.Called x)) e = absurd cc

pub of_end : (o : Option Reason) (code : ℕ) → sort_of o ≡ End code → (x : TransferEnd) × (o ≡ Some (reason.Ended x)) × (code_of x ≡ code)
of_end None code e = absurd cc
of_end (Some (reason.Refused x)) code e = absurd cc
of_end (Some (reason.UnplugRefused x)) code e = absurd cc
of_end (Some (reason.Idle x)) code e = absurd cc
of_end (Some (reason.Nak x)) code e = absurd cc
of_end (Some (reason.Ended x)) code e = (x, refl, cc)
of_end (Some (reason.Failed ep state)) code e = absurd cc
of_end (Some (reason.Called x)) code e = absurd cc

pub of_failure : (o : Option Reason) (ep : ℕ) → sort_of o ≡ Failure ep → (state : EndpointState) × (o ≡ Some (reason.Failed ep state))
of_failure None ep e = absurd cc
of_failure (Some (reason.Refused x)) ep e = absurd cc
of_failure (Some (reason.UnplugRefused x)) ep e = absurd cc
of_failure (Some (reason.Idle x)) ep e = absurd cc
of_failure (Some (reason.Nak x)) ep e = absurd cc
of_failure (Some (reason.Ended x)) ep e = absurd cc
of_failure (Some (reason.Failed at state)) ep e = (state, cc)
of_failure (Some (reason.Called x)) ep e = absurd cc

pub of_callback : (o : Option Reason) (status : Status) → sort_of o ≡ Callback status → (x : CalledWith) × (o ≡ Some (reason.Called x)) × (x.status ≡ status)
of_callback None status e = absurd cc
of_callback (Some (reason.Refused x)) status e = absurd cc
of_callback (Some (reason.UnplugRefused x)) status e = absurd cc
of_callback (Some (reason.Idle x)) status e = absurd cc
of_callback (Some (reason.Nak x)) status e = absurd cc
of_callback (Some (reason.Ended x)) status e = absurd cc
of_callback (Some (reason.Failed ep state)) status e = absurd cc
of_callback (Some (reason.Called x)) status e = (x, refl, cc)
