-- The packets that a step moves, as lines.
use Rattle.std.specs.Prelude.{ℕ, ◌++◌, Bool, true, false, List, [], ◌∷◌, length, codes, Option, Some, None}
use Rattle.std.specs.Fmt.{decimal}
use Rattle.std.specs.List.{flat_map}
use Rattle.reference.specs.Moved.{packets_moved}
use Rattle.usb_model.specs.declared.step.Step.{Step}
use Rattle.usb_model.specs.declared.step.Step.TheVariants.{Serve}
use Rattle.usb_model.specs.Setup.{Setup, is_in, packet_size_of}
use Rattle.usb_model.specs.Text.{hex_byte, hex_text}
use Rattle.usb_model.specs.World.{World, holder}

-- which way an endpoint's packets go
abbrev pub way_text : Bool → List ℕ
way_text true = codes " IN "
way_text false = codes " OUT "

-- the line of a packet at an endpoint: the endpoint, which way it went, how many bytes it has, and these, or a dash where there are none
abbrev pub packet_line : ℕ → List ℕ → List ℕ
packet_line ep bytes =
    codes "    packet ep " ++ (hex_byte ep ++ (way_text (is_in ep) ++ (decimal (length bytes) ++ (codes " data " ++ (hex_text bytes ++ codes "\n")))))

-- the packets that move at an endpoint where its device answers, if a handle holds it
abbrev pub packets_at : Setup → World → ℕ → ℕ → Option ℕ → List (List ℕ)
packets_at setup w dev ep None = []
packets_at setup w dev ep (Some h) = packets_moved (packet_size_of setup dev ep) (w.gone dev) (w.endpoints dev ep)

-- the lines of the packets that a step moves in a world: only where a device answers does any
abbrev pub packet_lines : Setup → World → Step → List ℕ
packet_lines setup w (Serve dev ep) = flat_map (packet_line ep) (packets_at setup w dev ep (holder setup w.claims dev ep))
packet_lines setup w step = []
