-- Who a recorded device says that it is: its device descriptor and its strings (USB 2.0, 9.6.1 and 9.6.7).
use Rattle.std.specs.Prelude.{ℕ, ◌/◌, ◌%◌, ◌==◌, nat_le, Bool, not, ◌&&◌, List, [], ◌∷◌, ◌++◌, length, take, drop, slice_index, Option, Some, None, if◌then◌else◌}
use Rattle.std.specs.List.{list_any}
use Rattle.std.specs.Option.{unwrap_or}
use Rattle.trace_capture.specs.declared.control_setup.ControlSetup.{ControlSetup}
use Rattle.trace_recorded.specs.declared.identity.DeviceIdentity.{DeviceIdentity}
use Rattle.trace_recorded.specs.declared.identity.RecordedString.{RecordedString}

-- whether a request reads a descriptor of this type: GET_DESCRIPTOR, of the device
abbrev pub reads_descriptor : ℕ → ControlSetup → Bool
reads_descriptor kind setup = (setup.request_type == 0x80) && ((setup.request == 6) && (setup.value / 256 == kind))

-- whether it reads a string; that of index 0 says the languages of the others
abbrev pub reads_string : ControlSetup → Bool
reads_string setup = reads_descriptor 3 setup && not (setup.value % 256 == 0)

-- whether bytes are a whole device descriptor, or begin with one
abbrev pub is_device_descriptor : List ℕ → Bool
is_device_descriptor bytes = nat_le 18 (length bytes) && ((slice_index bytes 0 == 18) && (slice_index bytes 1 == 1))

-- the same of a string descriptor, in units of two bytes
abbrev pub is_string_descriptor : List ℕ → Bool
is_string_descriptor bytes =
    nat_le 2 (slice_index bytes 0) && ((slice_index bytes 0 % 2 == 0) && ((slice_index bytes 1 == 3) && nat_le (slice_index bytes 0) (length bytes)))

-- its units
abbrev pub units_of : List ℕ → List ℕ
units_of bytes = drop 2 (take (slice_index bytes 0) bytes)

-- the device descriptor that was read first
abbrev pub with_descriptor : List ℕ → DeviceIdentity → DeviceIdentity
with_descriptor bytes identity = record identity { descriptor = Some (unwrap_or identity.descriptor (take 18 bytes)) }

-- the string of an index that was read first
abbrev pub has_string : ℕ → DeviceIdentity → Bool
has_string index identity = list_any (λ s. s.index == index) identity.strings

abbrev pub with_string : ℕ → List ℕ → DeviceIdentity → DeviceIdentity
with_string index bytes identity = if has_string index identity then identity else record identity { strings = identity.strings ++ record { index = index; units = units_of bytes } ∷ [] }

-- a request that succeeded, with these bytes
abbrev pub with_identity : ControlSetup → List ℕ → DeviceIdentity → DeviceIdentity
with_identity setup bytes identity =
    if reads_descriptor 1 setup && is_device_descriptor bytes then with_descriptor bytes identity
    else if reads_string setup && is_string_descriptor bytes then with_string (setup.value % 256) bytes identity
    else identity

abbrev pub no_identity : DeviceIdentity
no_identity = record { descriptor = None; strings = [] }
