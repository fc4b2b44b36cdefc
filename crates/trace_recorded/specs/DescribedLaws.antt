-- What a capture says itself of a device isn't replaced by what a file says.
use Rattle.std.specs.Prelude.{◌≡◌, ℕ, ◌==◌, Bool, false, not, List, [], ◌++◌, length, is_some}
use Rattle.std.specs.List.{AllByRecursion}
use Rattle.trace_recorded.specs.declared.completed.DescriptorKind.{DescriptorKind}
use Rattle.trace_recorded.specs.declared.completed.DescriptorKind.TheVariants.{Device, Configuration, Text}
use Rattle.trace_recorded.specs.declared.completed.KnownDescriptor.{KnownDescriptor}
use Rattle.trace_recorded.specs.declared.controls.Controls.{Controls}
use Rattle.trace_recorded.specs.declared.described.DescribedDevice.{DescribedDevice}
use Rattle.trace_recorded.specs.declared.event.RecordedEvent.{RecordedEvent}
use Rattle.trace_recorded.specs.Controls.{controls_of}
use Rattle.trace_recorded.specs.Described.{completed, missing_of}
use Rattle.trace_recorded.specs.Identity.{has_string}

-- whether control transfers say a descriptor of a kind themselves: a device descriptor, any configuration, a string of the index
abbrev pub is_said : Controls → DescriptorKind → ℕ → Bool
is_said controls Device index = is_some controls.identity.descriptor
is_said controls Configuration index = not (length controls.configurations.found == 0)
is_said controls Text index = has_string index controls.identity

abbrev pub IsUnsaid : Controls → KnownDescriptor → Type 0
IsUnsaid controls known = is_said controls known.kind known.index ≡ false

-- nothing is put in that a device's events say themselves
abbrev pub NothingSaidIsPutIn : Type 0
NothingSaidIsPutIn = (described : DescribedDevice) (events : List RecordedEvent) → AllByRecursion (IsUnsaid (controls_of events)) (missing_of described events)

-- the events themselves stay, behind what is put in
abbrev pub EventsStay : Type 0
EventsStay = (described : DescribedDevice) (events : List RecordedEvent) → (front : List RecordedEvent) × (completed described events ≡ front ++ events)

-- where nothing is missing they are the same
abbrev pub NothingMissing : Type 0
NothingMissing = (described : DescribedDevice) (events : List RecordedEvent) → missing_of described events ≡ [] → completed described events ≡ events
