-- The lines that are made of a file of descriptors.
use Rattle.std.specs.Prelude.{ℕ, ◌==◌, not, ◌&&◌, List, [], ◌∷◌, ◌++◌, length, codes, if◌then◌else◌}
use Rattle.std.specs.Fmt.{decimal}
use Rattle.std.specs.List.{flat_map}
use Rattle.hex.specs.Hex.{encode_lower}
use Rattle.usb_model.specs.declared.request.Kind.{Kind}
use Rattle.usb_model.specs.declared.request.Kind.TheVariants.{Control, Isochronous, Bulk, Interrupt}
use Rattle.usb_model.specs.declared.setup.Configuration.{Configuration}
use Rattle.usb_model.specs.declared.setup.EndpointInfo.{EndpointInfo}
use Rattle.usb_model.specs.Setup.{is_in}
use Rattle.usb_model.specs.Text.{hex_byte}
use Rattle.usb_descriptors.specs.Pieces.{byte}
use Rattle.trace_descriptor.specs.declared.interface.InterfaceSetting.{InterfaceSetting}
use Rattle.trace_descriptor.specs.File.{FileParts}
use Rattle.trace_descriptor.specs.Interfaces.{class_of, settings_of}

-- so many of something
abbrev pub plural_end : ℕ → List ℕ
plural_end n = if n == 1 then [] else codes "s"

abbrev pub counted : ℕ → List ℕ → List ℕ
counted n noun = decimal n ++ (codes " " ++ (noun ++ plural_end n))

-- idVendor and idProduct, and bcdUSB
unfoldable pub ids_text : List ℕ → List ℕ
ids_text d = encode_lower (byte 9 d ∷ byte 8 d ∷ []) ++ (codes ":" ++ encode_lower (byte 11 d ∷ byte 10 d ∷ []))

unfoldable pub version_text : List ℕ → List ℕ
version_text d = codes ", USB " ++ (decimal (byte 3 d) ++ (codes "." ++ encode_lower (byte 2 d ∷ [])))

-- bNumConfigurations
unfoldable pub configurations_text : ℕ → List ℕ
configurations_text n = codes ", " ++ (counted n (codes "configuration") ++ codes "\n")

-- the comment on a device
unfoldable pub device_comment : List ℕ → List ℕ
device_comment d = codes "# " ++ (ids_text d ++ (version_text d ++ configurations_text (byte 17 d)))

-- where there is a device descriptor
abbrev pub device_comments : List ℕ → List ℕ
device_comments d = if length d == 0 then [] else device_comment d

-- bConfigurationValue, and how many interfaces are used
unfoldable pub configuration_comment : ℕ → ℕ → List ℕ
configuration_comment value n = codes "# configuration " ++ (decimal value ++ (codes ": " ++ (counted n (codes "interface") ++ codes "\n")))

-- the common classes of interfaces (USB-IF, defined class codes)
unfoldable pub class_name : ℕ → List ℕ
class_name class =
    if class == 0x01 then codes " (audio)"
    else if class == 0x02 then codes " (communications)"
    else if class == 0x03 then codes " (human interface device)"
    else if class == 0x06 then codes " (imaging)"
    else if class == 0x07 then codes " (printer)"
    else if class == 0x08 then codes " (mass storage)"
    else if class == 0x09 then codes " (hub)"
    else if class == 0x0a then codes " (communications data)"
    else if class == 0x0b then codes " (smart card)"
    else if class == 0x0e then codes " (video)"
    else if class == 0xe0 then codes " (wireless controller)"
    else if class == 0xfe then codes " (application specific)"
    else if class == 0xff then codes " (vendor specific)"
    else []

-- an interface with its class
unfoldable pub interface_comment : ℕ → ℕ → List ℕ
interface_comment number class = codes "# interface " ++ (decimal number ++ (codes ": class " ++ (encode_lower (class ∷ []) ++ (class_name class ++ codes "\n"))))

unfoldable pub kind_name : Kind → List ℕ
kind_name Control = codes " control"
kind_name Isochronous = codes " isochronous"
kind_name Bulk = codes " bulk"
kind_name Interrupt = codes " interrupt"

unfoldable pub direction_name : ℕ → List ℕ
direction_name address = if is_in address then codes " IN" else codes " OUT"

-- an endpoint that is used
unfoldable pub endpoint_comment : EndpointInfo → List ℕ
endpoint_comment x = codes "#   " ++ (hex_byte x.address ++ (kind_name x.kind ++ (direction_name x.address ++ (codes ", packets of " ++ (counted x.packet_size (codes "byte") ++ codes "\n")))))

-- where it belongs to this interface
abbrev pub endpoint_comments : ℕ → EndpointInfo → List ℕ
endpoint_comments number x = if x.interface == number then endpoint_comment x else []

-- a setting of an interface that isn't used
unfoldable pub setting_comment : InterfaceSetting → List ℕ
setting_comment s = codes "# interface " ++ (decimal s.number ++ (codes ", setting " ++ (decimal s.setting ++ codes ": not used here\n")))

-- where it is one of this interface
abbrev pub setting_comments : ℕ → InterfaceSetting → List ℕ
setting_comments number s = if (s.number == number) && not (s.setting == 0) then setting_comment s else []

-- an interface that is used, its endpoints, and its other settings
unfoldable pub interface_comments : List EndpointInfo → List InterfaceSetting → ℕ → List ℕ
interface_comments endpoints settings number =
    interface_comment number (class_of number settings)
    ++ (flat_map (endpoint_comments number) endpoints
    ++ flat_map (setting_comments number) settings)

-- what stands behind the first configuration
unfoldable pub others_comment : ℕ → List ℕ
others_comment n = codes "# left out: " ++ (counted n (codes "more byte") ++ codes ", which `usbtrace describe` prints\n")

abbrev pub others_comments : List ℕ → List ℕ
others_comments others = if length others == 0 then [] else others_comment (length others)

-- the line of a scenario's device 0
unfoldable pub device_line : List ℕ → List ℕ
device_line configuration = codes "device 0 " ++ (encode_lower configuration ++ codes "\n")

-- the comments
unfoldable pub comments : FileParts → Configuration → List ℕ
comments file config =
    device_comments file.device
    ++ (configuration_comment (byte 5 file.configuration) (length config.interfaces)
    ++ (flat_map (interface_comments config.endpoints (settings_of file.configuration)) config.interfaces
    ++ others_comments file.others))
