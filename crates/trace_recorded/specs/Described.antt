-- What a file says of a device and a capture doesn't: as if a host had asked for it before the device's first event.
use Rattle.std.specs.Prelude.{ℕ, ◌+◌, ◌-◌, ◌*◌, ◌/◌, ◌%◌, ◌^◌, ◌==◌, min, Bool, true, ◌&&◌, List, [], ◌∷◌, ◌++◌, length, slice_index, codes, Option, Some, None, is_some, if◌then◌else◌}
use Rattle.std.specs.List.{flat_map}
use Rattle.usb_model.specs.declared.request.Kind.TheVariants.{Control}
use Rattle.usb_model.specs.Text.{hex_byte}
use Rattle.trace_capture.specs.declared.control_setup.ControlSetup.{ControlSetup}
use Rattle.trace_recorded.specs.declared.completed.DescriptorKind.{DescriptorKind}
use Rattle.trace_recorded.specs.declared.completed.DescriptorKind.TheVariants.{Device, Configuration, Text}
use Rattle.trace_recorded.specs.declared.completed.EventPlace.{EventPlace}
use Rattle.trace_recorded.specs.declared.completed.KnownDescriptor.{KnownDescriptor}
use Rattle.trace_recorded.specs.declared.configuration.Configurations.{Configurations}
use Rattle.trace_recorded.specs.declared.controls.Controls.{Controls}
use Rattle.trace_recorded.specs.declared.described.DescribedDevice.{DescribedDevice}
use Rattle.trace_faults.specs.declared.device_ids.DeviceIds.{DeviceIds}
use Rattle.trace_recorded.specs.declared.event.RecordedEvent.{RecordedEvent}
use Rattle.trace_recorded.specs.declared.event.RecordedType.TheVariants.{Submission, Callback}
use Rattle.trace_recorded.specs.declared.identity.DeviceIdentity.{DeviceIdentity}
use Rattle.trace_recorded.specs.declared.identity.RecordedString.{RecordedString}
use Rattle.trace_recorded.specs.Controls.{controls_of}
use Rattle.trace_recorded.specs.Identity.{has_string}

-- the vendor and the product of a device descriptor
abbrev pub ids_of : List ℕ → DeviceIds
ids_of descriptor = record {
  vendor = slice_index descriptor 8 + 256 * slice_index descriptor 9;
  product = slice_index descriptor 10 + 256 * slice_index descriptor 11;
}

abbrev pub is_same : DeviceIds → DeviceIds → Bool
is_same ids others = (ids.vendor == others.vendor) && (ids.product == others.product)

-- the device descriptor of a file, where none was read
abbrev pub missing_device : DescribedDevice → DeviceIdentity → List KnownDescriptor
missing_device described identity = if is_some identity.descriptor then [] else record { kind = Device; index = 0; bytes = described.descriptor } ∷ []

-- its configurations, where none was read
abbrev pub configuration_known : List ℕ → List KnownDescriptor
configuration_known bytes = record { kind = Configuration; index = 0; bytes = bytes } ∷ []

abbrev pub missing_configurations : DescribedDevice → Configurations → List KnownDescriptor
missing_configurations described configurations = if length configurations.found == 0 then flat_map configuration_known described.configurations else []

-- its strings, those of an index that wasn't read
abbrev pub string_bytes_of : List ℕ → List ℕ
string_bytes_of units = min (length units + 2) 255 ∷ (3 ∷ units)

abbrev pub missing_string : DeviceIdentity → RecordedString → List KnownDescriptor
missing_string identity s = if has_string s.index identity then [] else record { kind = Text; index = s.index; bytes = string_bytes_of s.units } ∷ []

abbrev pub missing_strings : DescribedDevice → DeviceIdentity → List KnownDescriptor
missing_strings described identity = flat_map (missing_string identity) described.strings

-- what a file says of a device and its control transfers don't
abbrev pub missing_by : DescribedDevice → Controls → List KnownDescriptor
missing_by described controls = missing_device described controls.identity ++ (missing_configurations described controls.configurations ++ missing_strings described controls.identity)

abbrev pub missing_of : DescribedDevice → List RecordedEvent → List KnownDescriptor
missing_of described events = missing_by described (controls_of events)

-- the number of a descriptor's type (USB 2.0, table 9-5)
abbrev pub number_of : DescriptorKind → ℕ
number_of Device = 1
number_of Configuration = 2
number_of Text = 3

-- a string is asked for in English of the United States
abbrev pub language_of : DescriptorKind → ℕ
language_of Text = 0x409
language_of _ = 0

-- the request for a descriptor: GET_DESCRIPTOR, of the device (USB 2.0, 9.4.3)
abbrev pub request_for : KnownDescriptor → ControlSetup
request_for known = record {
  request_type = 0x80;
  request = 6;
  value = 256 * number_of known.kind + known.index;
  index = language_of known.kind;
  length = min (length known.bytes) 65535;
}

-- its submission and its callback, before an event of the device and told as that event's packet
abbrev pub submission_for : EventPlace → KnownDescriptor → RecordedEvent
submission_for place known = record {
  frame = place.frame;
  id = 2 ^ 64 - 1;
  event_type = Submission;
  kind = Control;
  ep = 0x80;
  device = place.device;
  bus = place.bus;
  status = 2 ^ 32 - 115;
  length = min (length known.bytes) 65535;
  is_counted = true;
  setup = Some (request_for known);
  flags = 0x200;
  bytes = [];
}

abbrev pub callback_for : EventPlace → KnownDescriptor → RecordedEvent
callback_for place known = record {
  frame = place.frame;
  id = 2 ^ 64 - 1;
  event_type = Callback;
  kind = Control;
  ep = 0x80;
  device = place.device;
  bus = place.bus;
  status = 0;
  length = min (length known.bytes) 65535;
  is_counted = true;
  setup = None;
  flags = 0x200;
  bytes = known.bytes;
}

abbrev pub read_of : EventPlace → KnownDescriptor → List RecordedEvent
read_of place known = submission_for place known ∷ (callback_for place known ∷ [])

abbrev pub place_of : RecordedEvent → EventPlace
place_of event = record { frame = event.frame; bus = event.bus; device = event.device }

-- the events of a device, with reads of what is missing in front
abbrev pub completed : DescribedDevice → List RecordedEvent → List RecordedEvent
completed described [] = []
completed described (event ∷ events) = flat_map (read_of (place_of event)) (missing_of described (event ∷ events)) ++ (event ∷ events)
