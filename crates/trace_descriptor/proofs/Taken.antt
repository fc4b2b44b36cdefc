-- The text of an input is a scenario's.
use Rattle.std.proofs.Common.{◌≡◌, ℕ, ◌+◌, ◌<◌, ◌≤◌, ◌==◌, ◌⊎◌, inl, inr, Bool, true, false, cond, ◌&&◌, nat_le, List, [], ◌++◌, length, take, drop, get_or, Result, Ok, Err, refl, ap, sym, ◌∙◌, subst, arith}
use Rattle.std.proofs.lemmas.Bool.{cases_lt}
use Rattle.std.proofs.lemmas.List.{get_or-drop, get_or-take, get_or_past, length-take}
use Rattle.hex.specs.declared.error.FromHexError.{FromHexError}
use Rattle.hex.specs.Hex.{IsBytes, decode_of}
use Rattle.hex.proofs.HexLemmas.{decode_of-ok}
use Rattle.usb_model.specs.declared.setup.Configuration.{Configuration}
use Rattle.usb_descriptors.specs.declared.fault.DescFault.{DescFault}
use Rattle.usb_descriptors.specs.Grammar.{reading}
use Rattle.usb_descriptors.specs.Pieces.{byte}
use Rattle.trace_scenario.specs.Scenario.{nothing_said, scenario_from}
use Rattle.trace_faults.specs.declared.descriptor_fault.DescriptorFault.{DescriptorFault}
use Rattle.trace_faults.specs.declared.descriptor_fault.DescriptorFault.TheVariants.{NotADescriptor, NotADevice, NoConfiguration}
use Rattle.trace_descriptor.specs.Device.{text_by, text_of_bytes, text_of_file}
use Rattle.trace_descriptor.specs.File.{FileParts, parts, parts_of, taken_length}
use Rattle.trace_descriptor.specs.Input.{by_hex, bytes_of, bytes_of_text, digits, is_text}
use Rattle.trace_descriptor.specs.Identity.{identity_lines}
use Rattle.trace_descriptor.specs.Laws.{TextsAreScenarios, others_of}
use Rattle.trace_descriptor.specs.Lines.{comments, device_line}
use Rattle.trace_descriptor.proofs.Comments.{quiet_comments}
use Rattle.trace_descriptor.proofs.DeviceLine.{device_taken, one_device}

-- comments, and then the lines of the device
text_taken : (file : FileParts) (config : Configuration) → IsBytes file.configuration → reading file.configuration ≡ Ok config
    → scenario_from 1 nothing_said (others_of (comments file config ++ (device_line file.configuration ++ identity_lines file.device))) ≡ Ok (one_device config)
text_taken file config fit reads =
    let behind = (quiet_comments file config).goes 1 nothing_said (device_line file.configuration ++ identity_lines file.device) in
    behind.1 ∙ device_taken behind.0 file.configuration file.device config fit reads

-- the first bytes, and those behind, are bytes
take_fits : (n : ℕ) (bytes : List ℕ) → IsBytes bytes → IsBytes (take n bytes)
take_fits n bytes fit i = by_place (cases_lt i n)
  where
    by_place : (i < n) ⊎ (n ≤ i) → get_or (take n bytes) i 0 < 256
    by_place (inl less) = let same = get_or-take n bytes i 0 less in let h : get_or bytes i 0 < 256 = fit i in omega (arith, same, h)
    by_place (inr past) = let none = get_or_past (take n bytes) i 0 (omega (arith, length-take n bytes)) in omega (arith, none)

drop_fits : (n : ℕ) (bytes : List ℕ) → IsBytes bytes → IsBytes (drop n bytes)
drop_fits n bytes fit i = let same = get_or-drop n bytes i 0 in let h : get_or bytes (n + i) 0 < 256 = fit (n + i) in omega (arith, same, h)

-- what is taken is bytes
file_fits : (bytes : List ℕ) (file : FileParts) → IsBytes bytes → parts_of bytes ≡ Ok file → IsBytes file.configuration
file_fits bytes file fit = by_tests (byte 1 bytes == 1) ((byte 0 bytes == 18) && nat_le 18 (length bytes)) (length (drop 18 bytes) == 0) (byte 1 bytes == 2)
  where
    by_tests : (a b c d : Bool)
        → cond a (cond b (cond c (Err NoConfiguration) (Ok (parts (take 18 bytes) (drop 18 bytes)))) (Err NotADevice)) (cond d (Ok (parts [] bytes)) (Err NotADescriptor)) ≡ Ok file
        → IsBytes file.configuration
    by_tests true true true d is = cc
    by_tests true true false d is =
        let same : parts (take 18 bytes) (drop 18 bytes) ≡ file = cc in
        subst (λ (f : FileParts). IsBytes f.configuration) same (take_fits (taken_length (drop 18 bytes)) (drop 18 bytes) (drop_fits 18 bytes fit))
    by_tests true false c d is = cc
    by_tests false b c true is =
        let same : parts [] bytes ≡ file = cc in
        subst (λ (f : FileParts). IsBytes f.configuration) same (take_fits (taken_length bytes) bytes fit)
    by_tests false b c false is = cc

-- so is what a text spells
text_fits : (text bytes : List ℕ) → bytes_of_text text ≡ Ok bytes → IsBytes bytes
unfolding bytes_of_text
text_fits text bytes = by_hex_of (decode_of (digits text)) refl
  where
    by_hex_of : (r : Result (List ℕ) FromHexError) → decode_of (digits text) ≡ r → by_hex r ≡ Ok bytes → IsBytes bytes
    by_hex_of (Ok found) read is =
        let same : found ≡ bytes = cc in
        subst IsBytes same (decode_of-ok (digits text) found read).3
    by_hex_of (Err error) read is = cc

bytes_fit : (input bytes : List ℕ) → IsBytes input → bytes_of input ≡ Ok bytes → IsBytes bytes
bytes_fit input bytes fit = by_test (is_text input)
  where
    by_test : (b : Bool) → cond b (bytes_of_text input) (Ok input) ≡ Ok bytes → IsBytes bytes
    by_test true is = text_fits input bytes is
    by_test false is = let same : input ≡ bytes = cc in subst IsBytes same fit

-- the whole
pub texts_are_scenarios : TextsAreScenarios
texts_are_scenarios input text fit = by_bytes (bytes_of input) refl
  where
    by_reading : (bytes : List ℕ) (file : FileParts) (r : Result Configuration DescFault) → bytes_of input ≡ Ok bytes → parts_of bytes ≡ Ok file → reading file.configuration ≡ r → text_by file r ≡ Ok text
        → (b : List ℕ) × (f : FileParts) × (config : Configuration) × (bytes_of input ≡ Ok b) × (parts_of b ≡ Ok f) × (reading f.configuration ≡ Ok config) × (scenario_from 1 nothing_said (others_of text) ≡ Ok (one_device config))
    by_reading bytes file (Err fault) given cut read is = cc
    by_reading bytes file (Ok config) given cut read is =
        let same : comments file config ++ (device_line file.configuration ++ identity_lines file.device) ≡ text = cc in
        let fits = file_fits bytes file (bytes_fit input bytes fit given) cut in
        (bytes, file, config, given, cut, read, ap (λ t. scenario_from 1 nothing_said (others_of t)) (sym same) ∙ text_taken file config fits read)

    by_file : (bytes : List ℕ) (r : Result FileParts DescriptorFault) → bytes_of input ≡ Ok bytes → parts_of bytes ≡ r → text_of_file r ≡ Ok text
        → (b : List ℕ) × (f : FileParts) × (config : Configuration) × (bytes_of input ≡ Ok b) × (parts_of b ≡ Ok f) × (reading f.configuration ≡ Ok config) × (scenario_from 1 nothing_said (others_of text) ≡ Ok (one_device config))
    by_file bytes (Err fault) given cut is = cc
    by_file bytes (Ok file) given cut is = by_reading bytes file (reading file.configuration) given cut refl is

    by_bytes : (r : Result (List ℕ) DescriptorFault) → bytes_of input ≡ r → text_of_bytes r ≡ Ok text
        → (b : List ℕ) × (f : FileParts) × (config : Configuration) × (bytes_of input ≡ Ok b) × (parts_of b ≡ Ok f) × (reading f.configuration ≡ Ok config) × (scenario_from 1 nothing_said (others_of text) ≡ Ok (one_device config))
    by_bytes (Err fault) given is = cc
    by_bytes (Ok bytes) given is = by_file bytes (parts_of bytes) given refl is
