-- The interface descriptors of a configuration (USB 2.0, 9.6.5).
use Rattle.std.specs.Prelude.{ℕ, ◌==◌, Bool, ◌&&◌, List, [], ◌∷◌, drop, if◌then◌else◌}
use Rattle.std.specs.List.{find, flat_map}
use Rattle.std.specs.Option.{option_map_or}
use Rattle.usb_descriptors.specs.Grammar.{interface_number, is_interface}
use Rattle.usb_descriptors.specs.Pieces.{Piece, byte, pieces}
use Rattle.trace_descriptor.specs.declared.interface.InterfaceSetting.{InterfaceSetting}

-- bInterfaceNumber, bAlternateSetting and bInterfaceClass
abbrev pub setting_of : Piece → InterfaceSetting
setting_of p = record { number = interface_number p; setting = byte 3 p.bytes; class = byte 5 p.bytes }

abbrev pub settings_in : Piece → List InterfaceSetting
settings_in p = if is_interface p then setting_of p ∷ [] else []

-- those of all interface descriptors, in order
abbrev pub settings_of : List ℕ → List InterfaceSetting
settings_of configuration = flat_map settings_in (pieces (byte 0 configuration) (drop (byte 0 configuration) configuration))

-- the class of an interface, as it is used: in its setting 0
abbrev pub is_used_of : ℕ → InterfaceSetting → Bool
is_used_of number s = (s.number == number) && (s.setting == 0)

abbrev pub class_of : ℕ → List InterfaceSetting → ℕ
class_of number settings = option_map_or (λ s. s.class) (find (is_used_of number) settings) 0
