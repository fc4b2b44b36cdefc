-- The configuration that a recorded device was used in, from its requests (USB 2.0, 9.3, 9.4.3 and 9.4.7).
use Rattle.std.specs.Prelude.{ℕ, ◌/◌, ◌%◌, ◌==◌, nat_le, Bool, false, not, ◌&&◌, List, [], ◌∷◌, ◌++◌, length, take, slice_get, Option, Some, None, if◌then◌else◌}
use Rattle.std.specs.List.{find}
use Rattle.std.specs.Option.{option_map_or}
use Rattle.trace_capture.specs.declared.control_setup.ControlSetup.{ControlSetup}
use Rattle.trace_capture.specs.Control.{total_length, configuration_value}
use Rattle.trace_recorded.specs.declared.configuration.Configurations.{Configurations}

-- whether a request reads a configuration descriptor: GET_DESCRIPTOR, of the device, of any configuration
abbrev pub reads_configuration : ControlSetup → Bool
reads_configuration setup = (setup.request_type == 0x80) && ((setup.request == 6) && (setup.value / 256 == 2))

-- whether it sets a configuration, and not none
abbrev pub sets_configuration : ControlSetup → Bool
sets_configuration setup = (setup.request_type == 0) && ((setup.request == 9) && not (setup.value % 256 == 0))

-- whether bytes are a whole configuration: as many as it says itself, and 9 at least
abbrev pub is_complete : List ℕ → Bool
is_complete bytes = nat_le 9 (length bytes) && (nat_le 9 (total_length bytes) && nat_le (total_length bytes) (length bytes))

-- a request that succeeded, with these bytes
abbrev pub with_answer : ControlSetup → List ℕ → Configurations → Configurations
with_answer setup bytes configurations =
    if reads_configuration setup && is_complete bytes then record configurations { found = configurations.found ++ take (total_length bytes) bytes ∷ [] }
    else if sets_configuration setup then record configurations { configured = Some (setup.value % 256) }
    else configurations

-- nothing is read yet
abbrev pub no_configurations : Configurations
no_configurations = record { found = []; configured = None }

-- whether a descriptor is that of the configuration that was set
abbrev pub is_of : Option ℕ → List ℕ → Bool
is_of configured descriptor = option_map_or (λ value. configuration_value descriptor == value) configured false

-- the first of these, or else the first of those
abbrev pub first_of : Option (List ℕ) → Option (List ℕ) → Option (List ℕ)
first_of (Some descriptor) others = Some descriptor
first_of None others = others

-- the first descriptor that was read of the configuration that was set last; where there is none, the first that was read
abbrev pub configuration_by : Configurations → Option (List ℕ)
configuration_by configurations = first_of (find (is_of configurations.configured) configurations.found) (slice_get configurations.found 0)
