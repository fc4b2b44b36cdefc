-- The comments say nothing in a scenario.
use Rattle.std.proofs.Common.{ℕ, ◌==◌, Bool, true, false, cond, List, [], ◌∷◌, length, refl}
use Rattle.std.specs.Prelude.{codes}
use Rattle.std.specs.Fmt.{decimal}
use Rattle.hex.specs.Hex.{encode_lower}
use Rattle.usb_model.specs.declared.request.Kind.{Kind}
use Rattle.usb_model.specs.declared.request.Kind.TheVariants.{Control, Isochronous, Bulk, Interrupt}
use Rattle.usb_model.specs.declared.setup.Configuration.{Configuration}
use Rattle.usb_model.specs.declared.setup.EndpointInfo.{EndpointInfo}
use Rattle.usb_model.specs.Setup.{is_in}
use Rattle.usb_model.specs.Text.{hex_byte}
use Rattle.usb_descriptors.specs.Pieces.{byte}
use Rattle.trace_descriptor.specs.declared.interface.InterfaceSetting.{InterfaceSetting}
use Rattle.trace_descriptor.specs.File.{FileParts}
use Rattle.trace_descriptor.specs.Interfaces.{class_of, settings_of}
use Rattle.trace_descriptor.specs.Lines.{class_name, comments, configuration_comment, configurations_text, counted, device_comment, direction_name, endpoint_comment, endpoint_comments, ids_text, interface_comment, interface_comments, kind_name, others_comment, plural_end, setting_comment, setting_comments, version_text}
use Rattle.trace_descriptor.proofs.Plain.{Plain, plain, plain_decimal, plain_either, plain_encode, plain_hex_byte, plain_join}
use Rattle.trace_descriptor.proofs.Quiet.{EndsLine, Quiet, ends_behind, ends_here, quiet_comment, quiet_each, quiet_join, quiet_none}

quiet_either : (b : Bool) (x y : List ℕ) → Quiet x → Quiet y → Quiet (cond b x y)
quiet_either true x y p q = p
quiet_either false x y p q = q

feed : EndsLine (codes "\n")
feed = ends_here [] (plain refl)

plain_counted : (n : ℕ) (noun : List ℕ) → Plain noun → Plain (counted n noun)
plain_counted n noun p =
    plain_join (decimal n) _ (plain_decimal n) (plain_join (codes " ") _ (plain refl) (plain_join noun (plural_end n) p (plain_either (n == 1) [] (codes "s") (plain refl) (plain refl))))

plain_ids : (d : List ℕ) → Plain (ids_text d)
unfolding ids_text
plain_ids d = plain_join (encode_lower (byte 9 d ∷ byte 8 d ∷ [])) _ (plain_encode _) (plain_join (codes ":") (encode_lower (byte 11 d ∷ byte 10 d ∷ [])) (plain refl) (plain_encode _))

plain_version : (d : List ℕ) → Plain (version_text d)
unfolding version_text
plain_version d = plain_join (codes ", USB ") _ (plain refl) (plain_join (decimal (byte 3 d)) _ (plain_decimal _) (plain_join (codes ".") (encode_lower (byte 2 d ∷ [])) (plain refl) (plain_encode _)))

ends_configurations : (n : ℕ) → EndsLine (configurations_text n)
unfolding configurations_text
ends_configurations n = ends_behind (codes ", ") _ (plain refl) (ends_behind (counted n (codes "configuration")) _ (plain_counted n (codes "configuration") (plain refl)) feed)

quiet_device : (d : List ℕ) → Quiet (device_comment d)
unfolding device_comment
quiet_device d = quiet_comment _ (ends_behind (codes " ") _ (plain refl) (ends_behind (ids_text d) _ (plain_ids d) (ends_behind (version_text d) _ (plain_version d) (ends_configurations (byte 17 d)))))

quiet_configuration : (value n : ℕ) → Quiet (configuration_comment value n)
unfolding configuration_comment
quiet_configuration value n =
    quiet_comment _ (ends_behind (codes " configuration ") _ (plain refl) (ends_behind (decimal value) _ (plain_decimal value) (ends_behind (codes ": ") _ (plain refl)
    (ends_behind (counted n (codes "interface")) _ (plain_counted n (codes "interface") (plain refl)) feed))))

plain_class : (class : ℕ) → Plain (class_name class)
unfolding class_name
plain_class class =
    plain_either (class == 0x01) _ _ (plain refl) (plain_either (class == 0x02) _ _ (plain refl) (plain_either (class == 0x03) _ _ (plain refl) (plain_either (class == 0x06) _ _ (plain refl)
    (plain_either (class == 0x07) _ _ (plain refl) (plain_either (class == 0x08) _ _ (plain refl) (plain_either (class == 0x09) _ _ (plain refl) (plain_either (class == 0x0a) _ _ (plain refl)
    (plain_either (class == 0x0b) _ _ (plain refl) (plain_either (class == 0x0e) _ _ (plain refl) (plain_either (class == 0xe0) _ _ (plain refl) (plain_either (class == 0xfe) _ _ (plain refl)
    (plain_either (class == 0xff) _ _ (plain refl) (plain refl)))))))))))))

quiet_interface : (number class : ℕ) → Quiet (interface_comment number class)
unfolding interface_comment
quiet_interface number class =
    quiet_comment _ (ends_behind (codes " interface ") _ (plain refl) (ends_behind (decimal number) _ (plain_decimal number) (ends_behind (codes ": class ") _ (plain refl)
    (ends_behind (encode_lower (class ∷ [])) _ (plain_encode _) (ends_behind (class_name class) _ (plain_class class) feed)))))

plain_kind : (kind : Kind) → Plain (kind_name kind)
unfolding kind_name
plain_kind Control = (plain refl)
plain_kind Isochronous = (plain refl)
plain_kind Bulk = (plain refl)
plain_kind Interrupt = (plain refl)

plain_direction : (address : ℕ) → Plain (direction_name address)
unfolding direction_name
plain_direction address = plain_either (is_in address) _ _ (plain refl) (plain refl)

quiet_endpoint : (x : EndpointInfo) → Quiet (endpoint_comment x)
unfolding endpoint_comment
quiet_endpoint x =
    quiet_comment _ (ends_behind (codes "   ") _ (plain refl) (ends_behind (hex_byte x.address) _ (plain_hex_byte x.address) (ends_behind (kind_name x.kind) _ (plain_kind x.kind)
    (ends_behind (direction_name x.address) _ (plain_direction x.address) (ends_behind (codes ", packets of ") _ (plain refl)
    (ends_behind (counted x.packet_size (codes "byte")) _ (plain_counted x.packet_size (codes "byte") (plain refl)) feed))))))

quiet_setting : (s : InterfaceSetting) → Quiet (setting_comment s)
unfolding setting_comment
quiet_setting s =
    quiet_comment _ (ends_behind (codes " interface ") _ (plain refl) (ends_behind (decimal s.number) _ (plain_decimal s.number) (ends_behind (codes ", setting ") _ (plain refl)
    (ends_behind (decimal s.setting) _ (plain_decimal s.setting) (ends_here (codes ": not used here") (plain refl))))))

quiet_others : (n : ℕ) → Quiet (others_comment n)
unfolding others_comment
quiet_others n =
    quiet_comment _ (ends_behind (codes " left out: ") _ (plain refl) (ends_behind (counted n (codes "more byte")) _ (plain_counted n (codes "more byte") (plain refl))
    (ends_here (codes ", which `usbtrace describe` prints") (plain refl))))

quiet_whole_interface : (endpoints : List EndpointInfo) (settings : List InterfaceSetting) (number : ℕ) → Quiet (interface_comments endpoints settings number)
unfolding interface_comments
quiet_whole_interface endpoints settings number =
    quiet_join _ _ (quiet_interface number (class_of number settings))
    (quiet_join _ _ (quiet_each (endpoint_comments number) endpoints (λ x. quiet_either (x.interface == number) _ _ (quiet_endpoint x) quiet_none))
    (quiet_each (setting_comments number) settings (λ s. quiet_either _ _ _ (quiet_setting s) quiet_none)))

pub quiet_comments : (file : FileParts) (config : Configuration) → Quiet (comments file config)
unfolding comments
quiet_comments file config =
    quiet_join _ _ (quiet_either (length file.device == 0) _ _ quiet_none (quiet_device file.device))
    (quiet_join _ _ (quiet_configuration (byte 5 file.configuration) (length config.interfaces))
    (quiet_join _ _ (quiet_each (interface_comments config.endpoints (settings_of file.configuration)) config.interfaces (quiet_whole_interface config.endpoints (settings_of file.configuration)))
    (quiet_either (length file.others == 0) _ _ quiet_none (quiet_others (length file.others)))))
