-- What a text of devices says of a file that completed one, and the text of a capture of which one device is meant.
use Rattle.std.specs.Prelude.{ℕ, nat_lt, Bool, true, false, List, [], ◌∷◌, ◌++◌, codes, string_bytes, Option, Some, None, Result, Ok, Err, if◌then◌else◌}
use Rattle.std.specs.Fmt.{decimal}
use Rattle.std.specs.List.{flat_map}
use Rattle.trace_faults.specs.declared.capture_fault.CaptureFault.{CaptureFault}
use Rattle.trace_faults.specs.declared.capture_fault.CaptureFault.TheVariants.{NoDevice}
use Rattle.trace_recorded.specs.declared.choice.DeviceChoice.{DeviceChoice}
use Rattle.trace_recorded.specs.declared.choice.SeenDevice.{SeenDevice}
use Rattle.trace_recorded.specs.declared.completed.DescriptorKind.{DescriptorKind}
use Rattle.trace_recorded.specs.declared.completed.DescriptorKind.TheVariants.{Device, Configuration, Text}
use Rattle.trace_recorded.specs.declared.completed.KnownDescriptor.{KnownDescriptor}
use Rattle.trace_recorded.specs.declared.described.DescribedDevice.{DescribedDevice}
use Rattle.trace_recorded.specs.declared.described.DeviceSpeed.{DeviceSpeed}
use Rattle.trace_recorded.specs.declared.described.DeviceSpeed.TheVariants.{Low, Full, High}
use Rattle.trace_faults.specs.declared.text_reader.TextReader.{TextReader}
use Rattle.trace_faults.specs.declared.text_reader.TextReader.TheVariants.{Library, Scenario}
use Rattle.trace_recorded.specs.declared.recording.Recording.{Recording}
use Rattle.trace_recorded.specs.declared.scenario.Listing.{Listing}
use Rattle.trace_recorded.specs.declared.scenario.RecordedScenario.{RecordedScenario}
use Rattle.trace_recorded.specs.Choices.{chosen}
use Rattle.trace_recorded.specs.Described.{completed, missing_of}
use Rattle.trace_recorded.specs.Devices.{by_device}
use Rattle.trace_recorded.specs.Files.{recording}
use Rattle.trace_recorded.specs.Scenario.{no_device, scenario_by, with_found}

-- what is from a file
abbrev pub known_text : DescriptorKind → ℕ → List ℕ
known_text Device index = codes "the device descriptor"
known_text Configuration index = codes "the configuration"
known_text Text index = codes "string " ++ decimal index

-- whether the text has a line of it: a scenario has the configuration alone
abbrev pub is_printed : TextReader → DescriptorKind → Bool
is_printed Library kind = true
is_printed Scenario Configuration = true
is_printed Scenario _ = false

-- the comment that says so
abbrev pub source_text : List ℕ → KnownDescriptor → List ℕ
source_text file known = codes "# " ++ (known_text known.kind known.index ++ (codes " is from " ++ (file ++ codes ": the capture has none\n")))

abbrev pub source_line : TextReader → List ℕ → KnownDescriptor → List ℕ
source_line reader file known = if is_printed reader known.kind then source_text file known else []

abbrev pub source_lines : TextReader → List ℕ → List KnownDescriptor → List ℕ
source_lines reader file missing = flat_map (source_line reader file) missing

-- the line of a device's speed, of the first of a text; a device is of high speed without one, and a scenario has none
abbrev pub speed_word : DeviceSpeed → List ℕ
speed_word Low = codes "low"
speed_word Full = codes "full"
speed_word High = codes "high"

abbrev pub speed_line : List ℕ → DeviceSpeed → List ℕ
speed_line file speed = codes "# the speed is from " ++ (file ++ (codes "\nspeed 0 " ++ (speed_word speed ++ codes "\n")))

abbrev pub speed_lines : TextReader → List ℕ → Option DeviceSpeed → List ℕ
speed_lines Library file (Some Low) = speed_line file Low
speed_lines Library file (Some Full) = speed_line file Full
speed_lines _ file _ = []

-- the lines of a device that is kept, between what is from the file and its speed
unfoldable pub with_sources : DescribedDevice → List KnownDescriptor → Listing → Listing
with_sources described missing listing =
    if nat_lt 0 listing.count
    then record listing { kept = source_lines listing.reader (string_bytes described.file) missing ++ (listing.kept ++ speed_lines listing.reader (string_bytes described.file) described.speed) }
    else listing

-- the lines of the one device that is meant
abbrev pub listing_by : TextReader → Option DescribedDevice → SeenDevice → Listing
listing_by reader None seen = with_found (seen.key, seen.events) (no_device reader)
listing_by reader (Some described) seen = with_sources described (missing_of described seen.events) (with_found (seen.key, completed described seen.events) (no_device reader))

abbrev pub described_by : TextReader → DeviceChoice → Bool → Option SeenDevice → Result RecordedScenario CaptureFault
described_by reader choice is_cut None = Err (NoDevice choice.ids)
described_by reader choice is_cut (Some seen) = Ok (scenario_by is_cut (listing_by reader choice.described seen))

abbrev pub described_from : TextReader → DeviceChoice → Result Recording CaptureFault → Result RecordedScenario CaptureFault
described_from reader choice (Err fault) = Err fault
described_from reader choice (Ok recording) = described_by reader choice recording.is_cut (chosen choice (by_device recording.events))

-- the text of one device of a capture, and of what a file says of it where the capture says nothing; or why none is made
unfoldable pub described_scenario : TextReader → DeviceChoice → List ℕ → Result RecordedScenario CaptureFault
described_scenario reader choice capture = described_from reader choice (recording capture)
