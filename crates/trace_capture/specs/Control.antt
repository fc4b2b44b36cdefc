-- The events of control transfers, each of which ends at once.
use Rattle.std.specs.Prelude.{ℕ, ◌+◌, ◌*◌, Bool, true, false, List, [], ◌∷◌, ◌++◌, length, take, slice_index, Some, None, if◌then◌else◌}
use Rattle.usb_model.specs.declared.request.Kind.TheVariants as kind
use Rattle.usb_model.specs.Setup.{is_in}
use Rattle.trace_capture.specs.declared.control_setup.ControlSetup.{ControlSetup}
use Rattle.trace_capture.specs.declared.identity.UrbId.TheVariants.{Control}
use Rattle.trace_capture.specs.declared.errno.Errno.TheVariants.{Success, InProgress}
use Rattle.trace_capture.specs.declared.event.EventType.TheVariants.{Submission, Callback}
use Rattle.trace_capture.specs.declared.event.UrbFlags.{UrbFlags}
use Rattle.trace_capture.specs.declared.event.CaptureEvent.{CaptureEvent}

-- GET_DESCRIPTOR of a configuration (USB 2.0, 9.4.3)
abbrev pub get_configuration : ℕ → ControlSetup
get_configuration length = record { request_type = 0x80; request = 6; value = 0x200; index = 0; length = length }

-- SET_CONFIGURATION (USB 2.0, 9.4.7)
abbrev pub set_configuration : ℕ → ControlSetup
set_configuration value = record { request_type = 0; request = 9; value = value; index = 0; length = 0 }

-- SET_INTERFACE to alternate setting 0 (USB 2.0, 9.4.10)
abbrev pub set_interface : ℕ → ControlSetup
set_interface i = record { request_type = 1; request = 11; value = 0; index = i; length = 0 }

-- CLEAR_FEATURE of ENDPOINT_HALT (USB 2.0, 9.4.1)
abbrev pub clear_halt : ℕ → ControlSetup
clear_halt ep = record { request_type = 2; request = 1; value = 0; index = ep; length = 0 }

-- the default control endpoint, with bit 7 where the request reads
abbrev pub control_endpoint : ControlSetup → ℕ
control_endpoint setup = if is_in setup.request_type then 0x80 else 0

abbrev pub no_flags : UrbFlags
no_flags = record { short_not_ok = false; zero_packet = false }

-- a control transfer is submitted
abbrev pub control_submission : ℕ → Bool → ℕ → ControlSetup → CaptureEvent
control_submission line second device setup = record {
  id = Control line second;
  event_type = Submission;
  kind = kind.Control;
  ep = control_endpoint setup;
  device = device;
  line = line;
  errno = InProgress;
  length = setup.length;
  setup = Some setup;
  flags = no_flags;
  bytes = [];
}

-- and ended, with these bytes
abbrev pub control_callback : ℕ → Bool → ℕ → ControlSetup → List ℕ → CaptureEvent
control_callback line second device setup bytes = record {
  id = Control line second;
  event_type = Callback;
  kind = kind.Control;
  ep = control_endpoint setup;
  device = device;
  line = line;
  errno = Success;
  length = length bytes;
  setup = None;
  flags = no_flags;
  bytes = bytes;
}

-- a control transfer of a line, whole
abbrev pub control_events : ℕ → Bool → ℕ → ControlSetup → List ℕ → List CaptureEvent
control_events line second device setup bytes = control_submission line second device setup ∷ control_callback line second device setup bytes ∷ []

-- one that moves no bytes
abbrev pub control_alone : ℕ → ℕ → ControlSetup → List CaptureEvent
control_alone line device setup = control_events line false device setup []

-- how many bytes a configuration has with all its descriptors, as it says itself (USB 2.0, 9.6.3, wTotalLength)
abbrev pub total_length : List ℕ → ℕ
total_length descriptor = slice_index descriptor 2 + 256 * slice_index descriptor 3

-- the value by which it is set (USB 2.0, 9.6.3, bConfigurationValue)
abbrev pub configuration_value : List ℕ → ℕ
configuration_value descriptor = slice_index descriptor 5

-- the events of a device's line: its configuration is read, and then set
unfoldable pub device_events : ℕ → ℕ → List ℕ → List CaptureEvent
device_events line device descriptor =
    control_events line false device (get_configuration (total_length descriptor)) (take (total_length descriptor) descriptor)
    ++ control_events line true device (set_configuration (configuration_value descriptor)) []
