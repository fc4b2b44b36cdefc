-- What a file says of a device: Linux's `descriptors`, in bytes or as hexadecimal text.
use Rattle.std.specs.Prelude.{◌≡◌, ℕ, zero, suc, ◌==◌, Bool, true, not, ◌&&◌, ◌||◌, List, [], ◌∷◌, ◌++◌, codes, length, take, drop, slice_index, Option, Some, None, Result, Ok, Err, if◌then◌else◌, ⊤}
use Rattle.std.specs.Fmt.{decimal}
use Rattle.std.specs.List.{flat_map, list_any}
use Rattle.std.specs.Str.{bytes_eq}
use Rattle.hex.specs.declared.error.FromHexError.{FromHexError}
use Rattle.hex.specs.declared.error.FromHexError.TheVariants.{InvalidHexCharacter, OddLength, InvalidStringLength, OutOfMemory}
use Rattle.hex.specs.Hex.{decode_of, is_hex_digit}
use Rattle.trace_capture.specs.Control.{total_length}
use Rattle.trace_recorded.specs.declared.described.DescribedDevice.{DescribedDevice}
use Rattle.trace_recorded.specs.declared.described.DevicePlace.{DevicePlace}
use Rattle.trace_recorded.specs.declared.described.DeviceSpeed.{DeviceSpeed}
use Rattle.trace_recorded.specs.declared.described.DeviceSpeed.TheVariants.{Low, Full, High}
use Rattle.trace_recorded.specs.declared.described_fault.DescribedFault.{DescribedFault}
use Rattle.trace_recorded.specs.declared.described_fault.DescribedFault.TheVariants.{NoDescriptors, NoDevice, NotHex, OddDigits, Memory}
use Rattle.trace_recorded.specs.Configurations.{is_complete}
use Rattle.trace_recorded.specs.Identity.{is_device_descriptor}

-- a fault in words, behind the file's name
abbrev pub described_fault_text : DescribedFault → List ℕ
described_fault_text NoDescriptors = codes "has no descriptors of a device: its 18 bytes, and a configuration's behind them (USB 2.0, 9.6)"
described_fault_text NoDevice = codes "has no USB device: `umockdev-record /dev/bus/usb/BUS/DEVICE > FILE` writes one"
described_fault_text (NotHex place) = codes "has something else behind " ++ (decimal place ++ codes " digits of its descriptors: give two hexadecimal digits for each byte")
described_fault_text OddDigits = codes "has an odd number of digits for its descriptors: give two for each byte"
described_fault_text Memory = codes "is too large: out of memory"

-- the fault is that of the definition, or of memory
abbrev pub IsDescribedFault : {T : Type 0} → DescribedFault → Result T DescribedFault → Type 0
IsDescribedFault Memory result = ⊤
IsDescribedFault fault result = result ≡ Err fault

-- why digits aren't bytes
abbrev pub fault_of_hex : FromHexError → DescribedFault
fault_of_hex (InvalidHexCharacter c place) = NotHex place
fault_of_hex OddLength = OddDigits
fault_of_hex InvalidStringLength = OddDigits
fault_of_hex OutOfMemory = Memory

abbrev pub by_hex : Result (List ℕ) FromHexError → Result (List ℕ) DescribedFault
by_hex (Ok bytes) = Ok bytes
by_hex (Err error) = Err (fault_of_hex error)

-- white space: a space, and 9 to 13
abbrev pub is_white : ℕ → Bool
is_white b = (b == 32) || ((b == 9) || ((b == 10) || ((b == 11) || ((b == 12) || (b == 13)))))

abbrev pub is_of_text : ℕ → Bool
is_of_text b = is_hex_digit b || is_white b

-- whether a file is text: hexadecimal digits and white space, and nothing else. A descriptor's second byte is its type, which no text has
abbrev pub is_other : ℕ → Bool
is_other b = not (is_of_text b)

abbrev pub has_other : List ℕ → Bool
has_other file = list_any (λ b. is_other b) file

abbrev pub is_text : List ℕ → Bool
is_text file = not (has_other file)

-- its digits
abbrev pub digits_at : ℕ → List ℕ
digits_at b = if is_white b then [] else b ∷ []

unfoldable pub bytes_of_text : List ℕ → Result (List ℕ) DescribedFault
bytes_of_text text = by_hex (decode_of (flat_map digits_at text))

-- the bytes of a file
abbrev pub bytes_of : List ℕ → Result (List ℕ) DescribedFault
bytes_of file = if is_text file then bytes_of_text file else Ok file

-- the configurations with which bytes begin, each as long as it says itself; at most so many
abbrev pub begins_with_configuration : List ℕ → Bool
begins_with_configuration bytes = (slice_index bytes 1 == 2) && is_complete bytes

unfoldable pub configurations_behind : ℕ → List ℕ → List (List ℕ)
configurations_behind zero bytes = []
configurations_behind (suc most) bytes = if begins_with_configuration bytes then take (total_length bytes) bytes ∷ configurations_behind most (drop (total_length bytes) bytes) else []

abbrev pub configurations_in : List ℕ → List (List ℕ)
configurations_in bytes = configurations_behind (length bytes) bytes

-- a speed as Linux has it, in Mb/s
abbrev pub speed_of : List ℕ → Option DeviceSpeed
speed_of text = if bytes_eq text (codes "1.5") then Some Low else if bytes_eq text (codes "12") then Some Full else if bytes_eq text (codes "480") then Some High else None

-- whether bytes are a device descriptor and a configuration behind it
abbrev pub has_descriptors : List ℕ → Bool
has_descriptors bytes = is_device_descriptor bytes && not (length (configurations_in (drop 18 bytes)) == 0)

-- a device has what these bytes say, stood at this place and is as fast as this text says; of its strings no more is said here
abbrev pub IsDescribedBy : (bytes text : List ℕ) → Option DevicePlace → DescribedDevice → Type 0
IsDescribedBy bytes text stood described =
    (described.descriptor ≡ take 18 bytes) × (described.configurations ≡ configurations_in (drop 18 bytes)) × (described.speed ≡ speed_of text) × (described.place ≡ stood)

-- the bytes of a file that describe a device, or why they don't
abbrev pub with_descriptors : Result (List ℕ) DescribedFault → Result (List ℕ) DescribedFault
with_descriptors (Err fault) = Err fault
with_descriptors (Ok bytes) = if has_descriptors bytes then Ok bytes else Err NoDescriptors

abbrev pub descriptor_bytes : List ℕ → Result (List ℕ) DescribedFault
descriptor_bytes file = with_descriptors (bytes_of file)

-- a file describes a device
abbrev pub Describes : (file text : List ℕ) → DescribedDevice → Type 0
Describes file text described = (bytes : List ℕ) × (descriptor_bytes file ≡ Ok bytes) × IsDescribedBy bytes text None described
