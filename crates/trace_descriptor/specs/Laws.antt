-- What the text is to a scenario.
use Rattle.std.specs.Prelude.{◌≡◌, ℕ, ◌==◌, nat_eq, Bool, not, ◌||◌, List, [], ◌∷◌, codes, Ok}
use Rattle.std.specs.List.{filter, slice_split, starts_with}
use Rattle.hex.specs.Hex.{IsBytes}
use Rattle.usb_model.specs.declared.setup.Configuration.{Configuration}
use Rattle.usb_descriptors.specs.Grammar.{reading}
use Rattle.usb_scripttext.specs.Devices.{new_device}
use Rattle.trace_scenario.specs.Scenario.{nothing_said, scenario_from}
use Rattle.trace_descriptor.specs.Device.{device_text}
use Rattle.trace_descriptor.specs.File.{FileParts, parts_of}
use Rattle.trace_descriptor.specs.Input.{bytes_of}

-- a line that says what a device descriptor has
abbrev pub says_identity : List ℕ → Bool
says_identity line = starts_with nat_eq line (codes "ids ") || starts_with nat_eq line (codes "class ")

-- the other lines of a text
abbrev pub others_of : List ℕ → List (List ℕ)
others_of text = filter (λ line. not (says_identity line)) (slice_split (λ b. b == 10) text)

-- the other lines are a scenario of one device, with the configuration that the bytes say which were taken, and nothing else
abbrev pub TextsAreScenarios : Type 0
TextsAreScenarios =
    (input text : List ℕ) → IsBytes input → device_text input ≡ Ok text
    → (bytes : List ℕ) × (file : FileParts) × (config : Configuration) × (bytes_of input ≡ Ok bytes) × (parts_of bytes ≡ Ok file)
    × (reading file.configuration ≡ Ok config)
    × (scenario_from 1 nothing_said (others_of text) ≡ Ok (record { setup = new_device config ∷ []; plan = []; rules = [] }))
