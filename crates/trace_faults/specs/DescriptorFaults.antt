-- Why no device is made of an input.
use Rattle.std.specs.Prelude.{◌≡◌, ℕ, List, ◌++◌, codes, Result, Err, ⊤}
use Rattle.std.specs.Fmt.{decimal}
use Rattle.hex.specs.declared.error.FromHexError.{FromHexError}
use Rattle.hex.specs.declared.error.FromHexError.TheVariants.{InvalidHexCharacter, OddLength, InvalidStringLength, OutOfMemory}
use Rattle.usb_model.specs.Text.{hex_byte}
use Rattle.usb_descriptors.specs.declared.fault.DescFault.{DescFault}
use Rattle.usb_descriptors.specs.declared.fault.DescFault.TheVariants.{Truncated, BadLength, WrongType, SharedEndpoint, BadPacketSize, TooMany}
use Rattle.trace_faults.specs.declared.descriptor_fault.DescriptorFault.{DescriptorFault}
use Rattle.trace_faults.specs.declared.descriptor_fault.DescriptorFault.TheVariants.{NotADescriptor, NotADevice, NoConfiguration, NotHex, OddDigits, Descriptor, Memory}

-- the fault of a configuration; offsets count from its first byte
abbrev pub configuration_fault_text : DescFault → List ℕ
configuration_fault_text (Truncated at) = codes "the configuration is cut off at its byte " ++ (decimal at ++ codes ": give the whole file")
configuration_fault_text (BadLength at) = codes "the descriptor at byte " ++ (decimal at ++ codes " of the configuration has an impossible length: `usbtrace describe` shows it")
configuration_fault_text (WrongType at) = codes "the descriptor at byte " ++ (decimal at ++ codes " of the configuration can't stand there: `usbtrace describe` shows it")
configuration_fault_text (SharedEndpoint ep) = codes "two endpoints have the address " ++ (hex_byte ep ++ codes ": no scenario has such a device")
configuration_fault_text (BadPacketSize ep) = codes "endpoint " ++ (hex_byte ep ++ codes " has a packet size outside 1 to 1,024: no scenario has such a device")
configuration_fault_text TooMany = codes "there are more than 32 interfaces: no scenario has such a device"

-- a fault in words
abbrev pub descriptor_fault_text : DescriptorFault → List ℕ
descriptor_fault_text NotADescriptor = codes "no descriptor begins the input: give it a device's file `descriptors`, or the same bytes in hexadecimal"
descriptor_fault_text NotADevice = codes "the device descriptor in front isn't one of 18 bytes: give the whole file"
descriptor_fault_text NoConfiguration = codes "no configuration stands behind the device descriptor: give the whole file"
descriptor_fault_text (NotHex place) = codes "behind " ++ (decimal place ++ codes " digits the text has something else: give two hexadecimal digits for each byte")
descriptor_fault_text OddDigits = codes "the text has an odd number of digits: give two for each byte"
descriptor_fault_text (Descriptor fault) = configuration_fault_text fault
descriptor_fault_text Memory = codes "out of memory"

-- why a text isn't hexadecimal
abbrev pub fault_of_hex : FromHexError → DescriptorFault
fault_of_hex (InvalidHexCharacter c place) = NotHex place
fault_of_hex OddLength = OddDigits
fault_of_hex InvalidStringLength = OddDigits
fault_of_hex OutOfMemory = Memory

-- the fault is that of the definition, or of memory
abbrev pub IsDescriptorFault : {T : Type 0} → DescriptorFault → Result T DescriptorFault → Type 0
IsDescriptorFault Memory result = ⊤
IsDescriptorFault fault result = result ≡ Err fault
