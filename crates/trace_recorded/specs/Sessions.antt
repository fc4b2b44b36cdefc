-- What the endpoints of a device answered, over its events in order.
use Rattle.std.specs.Prelude.{ℕ, ◌+◌, ◌/◌, ◌%◌, ◌==◌, min, Bool, true, false, not, ◌&&◌, List, [], ◌∷◌, ◌++◌, map, Option, Some, None, if◌then◌else◌}
use Rattle.std.specs.List.{flat_map}
use Rattle.std.specs.Option.{unwrap_or}
use Rattle.usb_model.specs.declared.setup.EndpointInfo.{EndpointInfo}
use Rattle.usb_model.specs.Limits.{longest_script}
use Rattle.usb_model.specs.Setup.{is_in}
use Rattle.trace_capture.specs.declared.control_setup.ControlSetup.{ControlSetup}
use Rattle.trace_recorded.specs.declared.endpoint.RecordedEndpoint.{RecordedEndpoint}
use Rattle.trace_recorded.specs.declared.event.RecordedEvent.{RecordedEvent}
use Rattle.trace_recorded.specs.declared.event.RecordedType.{RecordedType}
use Rattle.trace_recorded.specs.declared.event.RecordedType.TheVariants.{Submission}
use Rattle.trace_recorded.specs.declared.session.RecordedSession.{RecordedSession}
use Rattle.trace_recorded.specs.declared.waits.Source.TheVariants as source
use Rattle.trace_recorded.specs.declared.waits.TakenCount.{TakenCount}
use Rattle.trace_recorded.specs.Endpoints.{counted, is_scripted, no_answers, with_event}
use Rattle.trace_recorded.specs.Folds.{after}
use Rattle.trace_recorded.specs.Keys.{key_of}
use Rattle.trace_recorded.specs.Tables.{value_at, with_value, without}

-- whether a request isn't a standard one (USB 2.0, 9.3: bits 5 and 6 of its type)
abbrev pub is_special : ControlSetup → Bool
is_special setup = not (setup.request_type / 32 % 4 == 0)

-- such a request, where an event is its submission
abbrev pub special_request : RecordedType → Option ControlSetup → Option ControlSetup
special_request Submission (Some setup) = if is_special setup then Some setup else None
special_request _ setup = None

-- how many packets an endpoint took, where it is for OUT; else how many answers of its script it gave
abbrev pub count_at : RecordedEndpoint → ℕ
count_at x = if is_in x.info.address then min x.count longest_script else x.acknowledged

abbrev pub takes : RecordedEndpoint → List TakenCount
takes x = record { source = source.Endpoint x.info.address; count = count_at x; frame = x.answered } ∷ []

-- how many requests like this were submitted
abbrev pub asked : ControlSetup → RecordedSession → ℕ
asked setup s = unwrap_or (value_at (key_of setup) s.requests) 0

-- the last request that isn't a standard one, by how many like it there were
abbrev pub asked_last : Option ControlSetup → RecordedSession → List TakenCount
asked_last None s = []
asked_last (Some setup) s = record { source = source.Requests setup; count = asked setup s; frame = 0 } ∷ []

abbrev pub last_taken : RecordedSession → List TakenCount
last_taken s = asked_last s.last s

-- what was taken and given so far: at each endpoint, and of the last request
abbrev pub taken_of : RecordedSession → List TakenCount
taken_of s = flat_map takes s.endpoints ++ last_taken s

-- one more
abbrev pub with_request : ControlSetup → RecordedSession → RecordedSession
with_request setup s = record s {
  requests = with_value (key_of setup) (counted (asked setup s) 1) (without (key_of setup) s.requests);
  last = Some setup;
}

abbrev pub with_asked : Option ControlSetup → RecordedSession → RecordedSession
with_asked None s = s
with_asked (Some setup) s = with_request setup s

-- an event more: each endpoint's answers wait for what was taken before it
unfoldable pub with_session_event : RecordedEvent → RecordedSession → RecordedSession
with_session_event event s = with_asked (special_request event.event_type event.setup) (record s { endpoints = map (with_event (taken_of s) event) s.endpoints })

-- those of a configuration that have a script, in its order
unfoldable pub with_endpoint : EndpointInfo → List RecordedEndpoint → List RecordedEndpoint
with_endpoint info endpoints = if is_scripted info then endpoints ++ no_answers info ∷ [] else endpoints

abbrev pub no_session : List EndpointInfo → RecordedSession
no_session infos = record { endpoints = after with_endpoint [] infos; requests = []; last = None }

-- what they answered
abbrev pub session_of : List EndpointInfo → List RecordedEvent → RecordedSession
session_of infos events = after with_session_event (no_session infos) events
