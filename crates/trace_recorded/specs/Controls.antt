-- What the control transfers of a recorded device say: each submission with its callback.
use Rattle.std.specs.Prelude.{ℕ, ◌==◌, Bool, false, List, [], Option, Some, None, if◌then◌else◌}
use Rattle.usb_model.specs.declared.request.Kind.TheVariants.{Control}
use Rattle.usb_model.specs.Requests.{is_same_kind}
use Rattle.trace_capture.specs.declared.control_setup.ControlSetup.{ControlSetup}
use Rattle.trace_recorded.specs.declared.controls.Controls.{Controls}
use Rattle.trace_recorded.specs.declared.event.RecordedEvent.{RecordedEvent}
use Rattle.trace_recorded.specs.declared.event.RecordedType.{RecordedType}
use Rattle.trace_recorded.specs.declared.event.RecordedType.TheVariants.{Submission, Callback, SubmissionError}
use Rattle.trace_recorded.specs.declared.request.RecordedRequest.{RecordedRequest}
use Rattle.trace_recorded.specs.Configurations.{no_configurations, with_answer}
use Rattle.trace_recorded.specs.Folds.{after}
use Rattle.trace_recorded.specs.Identity.{no_identity, with_identity}
use Rattle.trace_recorded.specs.Requests.{no_requests, with_ended}
use Rattle.trace_recorded.specs.Tables.{value_at, with_value, without}

-- a request that succeeded, with these bytes
abbrev pub with_success : ControlSetup → List ℕ → Controls → Controls
with_success setup bytes controls = record controls { configurations = with_answer setup bytes controls.configurations; identity = with_identity setup bytes controls.identity }

-- what was read counts where the status is 0
abbrev pub with_read : ControlSetup → RecordedEvent → Controls → Controls
with_read setup event controls = if event.status == 0 then with_success setup event.bytes controls else controls

-- a request was called back
abbrev pub with_callback : RecordedRequest → RecordedEvent → Controls → Controls
with_callback request event controls = with_read request.setup event (record controls { requests = with_ended request event controls.requests })

-- the same, where its submission was recorded
abbrev pub with_end : Option RecordedRequest → RecordedEvent → Controls → Controls
with_end None event controls = controls
with_end (Some request) event controls = with_callback request event controls

-- a request was submitted: it counts where its setup data were recorded
abbrev pub with_submission : Option ControlSetup → RecordedEvent → Controls → Controls
with_submission (Some setup) event controls = record controls { waiting = with_value event.id (record { setup = setup; bytes = event.bytes }) controls.waiting }
with_submission None event controls = record controls { waiting = without event.id controls.waiting }

-- an event of a control transfer
abbrev pub with_control_by : RecordedType → RecordedEvent → Controls → Controls
with_control_by Submission event controls = with_submission event.setup event controls
with_control_by Callback event controls = with_end (value_at event.id controls.waiting) event (record controls { waiting = without event.id controls.waiting })
with_control_by SubmissionError event controls = record controls { waiting = without event.id controls.waiting }

-- an event of any
unfoldable pub with_control : RecordedEvent → Controls → Controls
with_control event controls = if is_same_kind event.kind Control then with_control_by event.event_type event controls else controls

-- nothing happened yet
abbrev pub no_controls : Controls
no_controls = record { waiting = []; configurations = no_configurations; identity = no_identity; requests = no_requests }

-- what the control transfers among events say
abbrev pub controls_of : List RecordedEvent → Controls
controls_of events = after with_control no_controls events
