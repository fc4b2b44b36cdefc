-- A device as the lines of a text describe it.
use Rattle.std.specs.Prelude.{ℕ, ◌+◌, ◌/◌, ◌%◌, nat_lt, true, false, List, [], ◌∷◌, ◌++◌, slice_set, if◌then◌else◌}
use Rattle.usb_devicetext.specs.declared.device.DeskDevice.{DeskDevice}
use Rattle.usb_devicetext.specs.declared.statement.Class.{Class}
use Rattle.usb_devicetext.specs.declared.statement.Ids.{Ids}
use Rattle.usb_devicetext.specs.declared.statement.Text.{Text}
use Rattle.usb_devicetext.specs.declared.statement.Statement.{Statement}
use Rattle.usb_devicetext.specs.declared.statement.Statement.TheVariants as says
use Rattle.usb_devicetext.specs.declared.word.Speed.TheVariants.{High}

-- a device descriptor of USB 2.0 without classes and strings: packets of 64 bytes on the default control endpoint, vendor 1209 and product 0001,
-- release 1.00, one configuration (USB 2.0, 9.6.1)
abbrev pub plain_descriptor : List ℕ
plain_descriptor = 18 ∷ 1 ∷ 0 ∷ 2 ∷ 0 ∷ 0 ∷ 0 ∷ 64 ∷ 9 ∷ 18 ∷ 1 ∷ 0 ∷ 0 ∷ 1 ∷ 0 ∷ 0 ∷ 0 ∷ 1 ∷ []

-- a device of which no line speaks but its own
abbrev pub new_device : (configuration interfaces : List ℕ) → DeskDevice
new_device configuration interfaces = record {
  configuration = configuration;
  interfaces = interfaces;
  descriptor = plain_descriptor;
  strings = [];
  speed = High;
  hidden = false;
  anew = false;
  lasts = false;
  drivers = [];
  controls = [];
  gates = [];
  departures = [];
}

-- a number of 16 bits in a descriptor, the lower byte first
abbrev pub set_word : (at value : ℕ) → List ℕ → List ℕ
set_word at value bytes = slice_set (slice_set bytes at (value % 256)) (at + 1) (value / 256)

abbrev pub with_ids : Ids → DeskDevice → DeskDevice
with_ids ids d = record d { descriptor = set_word 12 ids.release (set_word 10 ids.product (set_word 8 ids.vendor d.descriptor)) }

abbrev pub with_class : Class → DeskDevice → DeskDevice
with_class c d = record d { descriptor = slice_set (slice_set (slice_set d.descriptor 4 c.class) 5 c.subclass) 6 c.protocol }

-- strings 1 to 3 are the manufacturer, the product and the serial number
abbrev pub with_text : Text → DeskDevice → DeskDevice
with_text t d = record d { strings = d.strings ++ t ∷ []; descriptor = if nat_lt t.index 4 then slice_set d.descriptor (13 + t.index) t.index else d.descriptor }

-- a device behind one more line
abbrev pub said : Statement → DeskDevice → DeskDevice
said (says.Ids ids) d = with_ids ids d
said (says.Class class) d = with_class class d
said (says.Descriptor bytes) d = record d { descriptor = bytes }
said (says.Text text) d = with_text text d
said (says.Speed speed) d = record d { speed = speed }
said (says.Control control) d = record d { controls = d.controls ++ control ∷ [] }
said (says.After gate) d = record d { gates = d.gates ++ gate ∷ [] }
said (says.Leaves departure) d = record d { departures = d.departures ++ departure ∷ [] }
said says.Hidden d = record d { hidden = true }
said says.Anew d = record d { anew = true }
said says.Lasts d = record d { lasts = true }
said (says.Driver interface) d = record d { drivers = d.drivers ++ interface ∷ [] }
