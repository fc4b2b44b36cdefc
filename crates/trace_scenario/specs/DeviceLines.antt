-- Which lines of a text say devices, and the bytes of their configurations.
use Rattle.std.specs.Prelude.{ℕ, ◌+◌, ◌*◌, ◌++◌, ◌==◌, nat_lt, Bool, List, [], ◌∷◌, length, slice_index, take, Option, Some, None, if◌then◌else◌}
use Rattle.std.specs.List.{slice_split}
use Rattle.std.specs.Option.{option_and_then, option_map, option_to_list}
use Rattle.trace_scenario.specs.declared.described.DescribedDevice.{DescribedDevice}
use Rattle.trace_scenario.specs.declared.scenario.Scenario.{Scenario}
use Rattle.usb_scripttext.specs.Words.{ascii_of}
use Rattle.usb_scripttext.specs.Number.{bytes_of, device_of}
use Rattle.trace_scenario.specs.Scenario.{nothing_said, with_text}
use Rattle.usb_scripttext.specs.Words.{words_in}

-- how many bytes a configuration has with all its descriptors, as it says itself (USB 2.0, 9.6.3, wTotalLength)
abbrev pub total_length : List ℕ → ℕ
total_length descriptor = slice_index descriptor 2 + 256 * slice_index descriptor 3

-- a device whose line has this number; of the bytes those that are its configuration
abbrev pub device_at : ℕ → ℕ → List ℕ → DescribedDevice
device_at at number descriptor = record { line = at; device = number; descriptor = take (total_length descriptor) descriptor }

-- the device of a line's words: the verb, the device's number and its descriptor
unfoldable pub described_by : ℕ → List (List ℕ) → Option DescribedDevice
described_by at (verb ∷ number ∷ descriptor ∷ []) = option_and_then (λ d. option_map (device_at at d) (bytes_of descriptor)) (device_of number)
described_by at _ = None

-- the device of a line
abbrev pub described : ℕ → List ℕ → Option DescribedDevice
described at text = option_and_then (λ ascii. described_by at (words_in ascii)) (ascii_of text)

-- whether a scenario has one device more
abbrev pub has_more_devices : Scenario → Scenario → Bool
has_more_devices s t = nat_lt (length s.setup) (length t.setup)

-- the devices' lines from one on that leads here: it is one of them if the scenario has one device more
abbrev pub device_lines_past : ℕ → Scenario → List ℕ → (Scenario → List DescribedDevice) → Option Scenario → List DescribedDevice
device_lines_past at s text further None = []
device_lines_past at s text further (Some t) = (if has_more_devices s t then option_to_list (described at text) else []) ++ further t

-- those of some lines behind others, of which the first has this number, up to the first that isn't taken
unfoldable pub device_lines_from : ℕ → Scenario → List (List ℕ) → List DescribedDevice
device_lines_from at s [] = []
device_lines_from at s (text ∷ texts) = device_lines_past at s text (λ t. device_lines_from (at + 1) t texts) (with_text s text)

-- the devices' lines of a text
abbrev pub device_lines : List ℕ → List DescribedDevice
device_lines text = device_lines_from 1 nothing_said (slice_split (λ b. b == 10) text)
