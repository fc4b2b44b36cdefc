-- Which device of a capture is meant: by its vendor and product, by where it stood, or since there is no other.
use Rattle.std.specs.Prelude.{ℕ, ◌+◌, ◌*◌, ◌==◌, nat_lt, Bool, true, false, not, ◌&&◌, List, [], ◌∷◌, Option, Some, None, is_some, if◌then◌else◌}
use Rattle.std.specs.Option.{option_map_or}
use Rattle.trace_recorded.specs.declared.choice.DeviceChoice.{DeviceChoice}
use Rattle.trace_recorded.specs.declared.choice.DeviceSearch.{DeviceSearch}
use Rattle.trace_recorded.specs.declared.choice.SeenDevice.{SeenDevice}
use Rattle.trace_recorded.specs.declared.described.DescribedDevice.{DescribedDevice}
use Rattle.trace_faults.specs.declared.device_ids.DeviceIds.{DeviceIds}
use Rattle.trace_recorded.specs.declared.described.DevicePlace.{DevicePlace}
use Rattle.trace_recorded.specs.declared.event.RecordedEvent.{RecordedEvent}
use Rattle.trace_recorded.specs.Controls.{controls_of}
use Rattle.trace_recorded.specs.Described.{ids_of, is_same}
use Rattle.trace_recorded.specs.Folds.{after}
use Rattle.trace_recorded.specs.Scenario.{first_frame}

-- a device of a capture, with its number in the table and the device descriptor that it says itself
abbrev pub seen_of : ℕ × List RecordedEvent → SeenDevice
seen_of found = record { key = found.0; frame = first_frame found.1; descriptor = (controls_of found.1).identity.descriptor; events = found.1 }

-- whether it says that it has these ids
abbrev pub has_ids : DeviceIds → SeenDevice → Bool
has_ids ids seen = option_map_or (λ descriptor. is_same (ids_of descriptor) ids) seen.descriptor false

-- whether the ids of the file are wanted
abbrev pub wants_file : DeviceChoice → Bool
wants_file choice = option_map_or (λ (d : DescribedDevice). is_same (ids_of d.descriptor) choice.ids) choice.described false

-- whether a device stood where the file says
abbrev pub stood_at : SeenDevice → DevicePlace → Bool
stood_at seen place = seen.key == 256 * place.bus + place.device

abbrev pub is_placed : SeenDevice → DescribedDevice → Bool
is_placed seen described = option_map_or (stood_at seen) described.place false

abbrev pub is_at_place : DeviceChoice → SeenDevice → Bool
is_at_place choice seen = wants_file choice && option_map_or (is_placed seen) choice.described false

-- whether nobody says its ids
abbrev pub is_unknown : DeviceChoice → SeenDevice → Bool
is_unknown choice seen = wants_file choice && not (is_some seen.descriptor)

-- of two devices the one that came later in the capture
abbrev pub later : SeenDevice → Option SeenDevice → SeenDevice
later seen None = seen
later seen (Some other) = if nat_lt seen.frame other.frame then other else seen

-- with one device more: among those of the ids the last of the capture counts
unfoldable pub with_seen : DeviceChoice → SeenDevice → DeviceSearch → DeviceSearch
with_seen choice seen search =
    if has_ids choice.ids seen then record search { of_ids = Some (later seen search.of_ids) }
    else if is_at_place choice seen then record search { at_place = Some seen }
    else if is_unknown choice seen then record search { has_more = is_some search.unknown; unknown = Some seen }
    else search

abbrev pub with_found_device : DeviceChoice → ℕ × List RecordedEvent → DeviceSearch → DeviceSearch
with_found_device choice found search = with_seen choice (seen_of found) search

abbrev pub no_search : DeviceSearch
no_search = record { of_ids = None; at_place = None; unknown = None; has_more = false }

-- that of the ids, or else that of the place, or else the only one that nobody knows
abbrev pub only : Bool → Option SeenDevice → Option SeenDevice
only has_more unknown = if has_more then None else unknown

abbrev pub first_of : Option SeenDevice → Option SeenDevice → Option SeenDevice
first_of (Some seen) others = Some seen
first_of None others = others

abbrev pub found_in : DeviceSearch → Option SeenDevice
found_in search = first_of search.of_ids (first_of search.at_place (only search.has_more search.unknown))

-- the device that is meant, among those of a table
abbrev pub chosen : DeviceChoice → List (ℕ × List RecordedEvent) → Option SeenDevice
chosen choice devices = found_in (after (with_found_device choice) no_search devices)
