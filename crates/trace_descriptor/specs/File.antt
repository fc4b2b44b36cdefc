-- What the bytes of a file of descriptors are: a device descriptor, perhaps, and configurations (USB 2.0, 9.6.1 and 9.6.3).
use Rattle.std.specs.Prelude.{ℕ, ◌==◌, nat_le, nat_lt, ◌&&◌, List, [], take, drop, length, Result, Ok, Err, if◌then◌else◌}
use Rattle.usb_descriptors.specs.Pieces.{byte}
use Rattle.usb_descriptors.specs.Grammar.{total_length}
use Rattle.trace_faults.specs.declared.descriptor_fault.DescriptorFault.{DescriptorFault}
use Rattle.trace_faults.specs.declared.descriptor_fault.DescriptorFault.TheVariants.{NotADescriptor, NotADevice, NoConfiguration}

-- the device descriptor, or nothing; the first configuration, of wTotalLength bytes; what stands behind it
pub record FileParts : Type 0 where
  pub device : List ℕ
  pub configuration : List ℕ
  pub others : List ℕ

-- how many bytes are a configuration's: wTotalLength, and 9 at least, which its own descriptor has
abbrev pub taken_length : List ℕ → ℕ
taken_length rest = if nat_lt (total_length rest) 9 then 9 else total_length rest

abbrev pub parts : List ℕ → List ℕ → FileParts
parts device rest = record { device = device; configuration = take (taken_length rest) rest; others = drop (taken_length rest) rest }

-- behind a device descriptor there is a configuration
abbrev pub behind_device : List ℕ → List ℕ → Result FileParts DescriptorFault
behind_device device rest = if length rest == 0 then Err NoConfiguration else Ok (parts device rest)

-- a device descriptor has type 1 and 18 bytes, a configuration type 2
abbrev pub parts_of : List ℕ → Result FileParts DescriptorFault
parts_of bytes =
    if byte 1 bytes == 1 then
    (if (byte 0 bytes == 18) && nat_le 18 (length bytes) then behind_device (take 18 bytes) (drop 18 bytes) else Err NotADevice)
    else if byte 1 bytes == 2 then Ok (parts [] bytes)
    else Err NotADescriptor
