-- What one descriptor says by itself, or its fault (USB 2.0, 9.6.5 and 9.6.6).
use Rattle.std.specs.Prelude.{◌==◌, nat_lt, length, Result, Ok, Err, if◌then◌else◌}
use Rattle.usb_descriptors.specs.declared.fault.DescFault.{DescFault}
use Rattle.usb_descriptors.specs.declared.fault.DescFault.TheVariants.{WrongType, BadLength}
use Rattle.usb_descriptors.specs.declared.descriptor.Descriptor.{Descriptor}
use Rattle.usb_descriptors.specs.declared.descriptor.Descriptor.TheVariants.{Interface, Endpoint, Other}
use Rattle.usb_descriptors.specs.Pieces.{Piece, byte}
use Rattle.usb_descriptors.specs.Grammar.{type_of, is_interface, is_endpoint, interface_number, address_of, kind_of, packet_size_of}

-- the faults are those that a descriptor has wherever it stands; the grammar has them first
abbrev pub descriptor_of : Piece → Result Descriptor DescFault
descriptor_of p =
    if type_of p == 2 then Err (WrongType p.at)
    else if is_interface p then
    (if nat_lt (length p.bytes) 9 then Err (BadLength p.at)
    else Ok (Interface (record { number = interface_number p; setting = byte 3 p.bytes })))
    else if is_endpoint p then
    (if nat_lt (length p.bytes) 7 then Err (BadLength p.at)
    else Ok (Endpoint (record { address = address_of p; kind = kind_of p; packet_size = packet_size_of p })))
    else Ok Other
