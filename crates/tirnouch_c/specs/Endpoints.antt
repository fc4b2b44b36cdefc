-- A device's interfaces and endpoints.
use Rattle.std.specs.Prelude.{ℕ, ℤ, slice_get}
use Rattle.std.specs.Option.{option_map}
use Rattle.usb_core.specs.Public.{ShowsWorld}
use Rattle.usb_model.specs.declared.request.Kind.{Kind}
use Rattle.usb_model.specs.declared.request.Kind.TheVariants.{Bulk, Control, Interrupt, Isochronous}
use Rattle.usb_model.specs.declared.setup.EndpointInfo.{EndpointInfo}
use Rattle.usb_model.specs.Setup.{Setup, endpoints_of, interfaces_of}
use Rattle.usb_model.specs.World.{World}
use Rattle.tirnouch_c.specs.declared.endpoints.EndpointNumbers.{EndpointNumbers}
use Rattle.tirnouch_c.specs.declared.session.Session.{Session}
use Rattle.tirnouch_c.specs.Facts.{AnswersWith, Gives}

-- libusb's number of a kind (libusb_transfer_type)
abbrev pub kind_number : Kind → ℕ
kind_number Control = 0
kind_number Isochronous = 1
kind_number Bulk = 2
kind_number Interrupt = 3

-- what a configuration says of an endpoint, in numbers
abbrev pub endpoint_numbers : EndpointInfo → EndpointNumbers
endpoint_numbers x = record { address = x.address; interface = x.interface; transfer_type = kind_number x.kind; packet_size = x.packet_size }

-- the interface of an index, of the device that is set up
abbrev pub HasInterface : (dev i : ℕ) → ℤ → Session → Type 0
HasInterface dev i answer s = (setup : Setup) (w : World) → ShowsWorld setup s.core w → AnswersWith (slice_get (interfaces_of setup dev) i) answer

-- and the endpoint
abbrev pub HasEndpoint : (dev i : ℕ) → ℤ → (old new : EndpointNumbers) → Session → Type 0
HasEndpoint dev i answer old new s = (setup : Setup) (w : World) → ShowsWorld setup s.core w → Gives (option_map endpoint_numbers (slice_get (endpoints_of setup dev) i)) answer old new
