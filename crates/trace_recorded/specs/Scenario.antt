-- The scenario that is made of a capture: what its devices answered.
use Rattle.std.specs.Prelude.{ℕ, ◌+◌, nat_lt, Bool, List, [], ◌∷◌, ◌++◌, codes, Option, Result, Ok, Err, if◌then◌else◌}
use Rattle.std.specs.Option.{option_map}
use Rattle.trace_faults.specs.declared.capture_fault.CaptureFault.{CaptureFault}
use Rattle.trace_faults.specs.declared.device_ids.DeviceIds.{DeviceIds}
use Rattle.trace_recorded.specs.declared.device.RecordedDevice.{RecordedDevice}
use Rattle.trace_recorded.specs.declared.event.RecordedEvent.{RecordedEvent}
use Rattle.trace_recorded.specs.declared.left_out.LeftOut.{LeftOut}
use Rattle.trace_recorded.specs.declared.left_out.LeftOut.TheVariants.{FifthDevice}
use Rattle.trace_faults.specs.declared.text_reader.TextReader.{TextReader}
use Rattle.trace_recorded.specs.declared.recording.Recording.{Recording}
use Rattle.trace_recorded.specs.declared.scenario.Listing.{Listing}
use Rattle.trace_recorded.specs.declared.scenario.RecordedScenario.{RecordedScenario}
use Rattle.trace_recorded.specs.Controls.{controls_of}
use Rattle.trace_recorded.specs.Described.{ids_of}
use Rattle.trace_recorded.specs.Devices.{by_device, device_of}
use Rattle.trace_recorded.specs.Files.{recording}
use Rattle.trace_recorded.specs.Folds.{after}
use Rattle.trace_recorded.specs.DeviceText.{device_text}
use Rattle.trace_recorded.specs.Lines.{left_out_line}

-- a device is left out that says these ids itself, of which the first packet has this number, for this reason
abbrev pub with_left_out : ℕ → Option DeviceIds → ℕ → LeftOut → Listing → Listing
with_left_out key ids frame why listing = record listing { left_out = listing.left_out ++ left_out_line key ids frame why }

-- a device is kept, under the next number
abbrev pub with_kept : ℕ → RecordedDevice → Listing → Listing
with_kept key device listing = record listing { kept = listing.kept ++ device_text listing.reader listing.count key device; count = listing.count + 1 }

-- a device more: a scenario has four at most
abbrev pub with_device : ℕ → Option DeviceIds → ℕ → Result RecordedDevice LeftOut → Listing → Listing
with_device key ids frame (Err why) listing = with_left_out key ids frame why listing
with_device key ids frame (Ok device) listing = if nat_lt listing.count 4 then with_kept key device listing else with_left_out key ids frame FifthDevice listing

-- the number of the first packet of events
abbrev pub first_frame : List RecordedEvent → ℕ
first_frame [] = 0
first_frame (event ∷ events) = event.frame

-- the ids that a device with these events says itself, where its descriptor was read
abbrev pub known_ids : List RecordedEvent → Option DeviceIds
known_ids events = option_map ids_of (controls_of events).identity.descriptor

unfoldable pub with_found : ℕ × List RecordedEvent → Listing → Listing
with_found found listing = with_device found.0 (known_ids found.1) (first_frame found.1) (device_of listing.reader found.1) listing

abbrev pub no_device : TextReader → Listing
no_device reader = record { reader = reader; left_out = []; kept = []; count = 0 }

-- the lines of all devices
abbrev pub listing_of : TextReader → List RecordedEvent → Listing
listing_of reader events = after with_found (no_device reader) (by_device events)

-- the line that says that something is missing at the end
abbrev pub cut_line : Bool → List ℕ
cut_line is_cut = if is_cut then codes "# the capture ends amid a record\n" else []

-- first the devices that are left out, and then those that are kept
abbrev pub scenario_by : Bool → Listing → RecordedScenario
scenario_by is_cut listing = record { text = cut_line is_cut ++ listing.left_out ++ listing.kept; has_devices = nat_lt 0 listing.count }

abbrev pub scenario_from : TextReader → Result Recording CaptureFault → Result RecordedScenario CaptureFault
scenario_from reader (Err fault) = Err fault
scenario_from reader (Ok recording) = Ok (scenario_by recording.is_cut (listing_of reader recording.events))

-- the text of a capture's devices, for one who reads it, or why none is made
unfoldable pub recorded_scenario : TextReader → List ℕ → Result RecordedScenario CaptureFault
recorded_scenario reader capture = scenario_from reader (recording capture)
