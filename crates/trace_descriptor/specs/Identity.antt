-- The lines of a device's text that say what its device descriptor has (USB 2.0, 9.6.1): vendor, product, release and class.
use Rattle.std.specs.Prelude.{ℕ, ◌==◌, ◌&&◌, List, [], ◌∷◌, ◌++◌, length, codes, if◌then◌else◌}
use Rattle.hex.specs.Hex.{encode_lower}
use Rattle.usb_descriptors.specs.Pieces.{byte}

-- idVendor, idProduct and bcdDevice, whose lower bytes come first
unfoldable pub ids_line : List ℕ → List ℕ
ids_line d =
    codes "ids 0 " ++ (encode_lower (byte 9 d ∷ byte 8 d ∷ [])
    ++ (codes " " ++ (encode_lower (byte 11 d ∷ byte 10 d ∷ [])
    ++ (codes " " ++ (encode_lower (byte 13 d ∷ byte 12 d ∷ []) ++ codes "\n")))))

-- bDeviceClass, bDeviceSubClass and bDeviceProtocol
unfoldable pub class_line : List ℕ → List ℕ
class_line d =
    codes "class 0 " ++ (encode_lower (byte 4 d ∷ [])
    ++ (codes " " ++ (encode_lower (byte 5 d ∷ [])
    ++ (codes " " ++ (encode_lower (byte 6 d ∷ []) ++ codes "\n")))))

-- unless all three are 0
abbrev pub class_lines : List ℕ → List ℕ
class_lines d = if (byte 4 d == 0) && ((byte 5 d == 0) && (byte 6 d == 0)) then [] else class_line d

-- where there is a device descriptor
abbrev pub identity_lines : List ℕ → List ℕ
identity_lines d = if length d == 0 then [] else ids_line d ++ class_lines d
