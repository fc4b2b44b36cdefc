-- What a configuration descriptor says (USB 2.0, 9.6.3, 9.6.5, 9.6.6), read off the list of its pieces; and its first fault.
use Rattle.std.specs.Prelude.{ℕ, ◌+◌, ◌*◌, ◌%◌, ◌/◌, ◌==◌, nat_lt, nat_le, Bool, true, false, not, ◌&&◌, ◌||◌, List, [], ◌∷◌, ◌++◌, length, take, drop, Option, Some, None, Result, Ok, Err, if◌then◌else◌}
use Rattle.std.specs.List.{list_any}
use Rattle.usb_model.specs.declared.request.Kind.{Kind}
use Rattle.usb_model.specs.declared.request.Kind.TheVariants.{Control, Isochronous, Bulk, Interrupt}
use Rattle.usb_model.specs.declared.setup.Configuration.{Configuration}
use Rattle.usb_model.specs.declared.setup.EndpointInfo.{EndpointInfo}
use Rattle.usb_descriptors.specs.declared.fault.DescFault.{DescFault}
use Rattle.usb_descriptors.specs.declared.fault.DescFault.TheVariants.{Truncated, BadLength, WrongType, SharedEndpoint, BadPacketSize, TooMany}
use Rattle.usb_descriptors.specs.Pieces.{Piece, byte, word, pieces, extent, rest}

-- a descriptor's type (USB 2.0, table 9-5): configuration 2, interface 4, endpoint 5
abbrev pub type_of : Piece → ℕ
type_of p = byte 1 p.bytes

abbrev pub is_interface : Piece → Bool
is_interface p = type_of p == 4

abbrev pub is_endpoint : Piece → Bool
is_endpoint p = type_of p == 5

-- bInterfaceNumber, and whether bAlternateSetting is 0
abbrev pub interface_number : Piece → ℕ
interface_number p = byte 2 p.bytes

abbrev pub is_first_setting : Piece → Bool
is_first_setting p = is_interface p && (byte 3 p.bytes == 0)

-- an interface is used where it has alternate setting 0, and its number is new among those
abbrev pub is_used : List Piece → Piece → Bool
is_used before p = is_first_setting p && not (list_any (λ q. is_first_setting q && (interface_number q == interface_number p)) before)

-- what a test of a piece and of those before it gives, for each piece in order
abbrev pub each_from : {A : Type 0} → (List Piece → Piece → List A) → List Piece → List Piece → List A
each_from f before [] = []
each_from f before (p ∷ ps) = f before p ++ each_from f (before ++ p ∷ []) ps

abbrev pub each : {A : Type 0} → (List Piece → Piece → List A) → List Piece → List A
each f ps = each_from f [] ps

-- the numbers of the used interfaces
abbrev pub interfaces : List Piece → List ℕ
interfaces ps = each (λ before p. if is_used before p then interface_number p ∷ [] else []) ps

abbrev pub last_of : {A : Type 0} → List A → Option A
last_of [] = None
last_of (x ∷ []) = Some x
last_of (x ∷ y ∷ xs) = last_of (y ∷ xs)

-- the nearest earlier interface: its number where it is used, None where it isn't
abbrev pub nearest : List Piece → Option (Option ℕ)
nearest before = last_of (each (λ earlier q. if is_interface q then (if is_used earlier q then Some (interface_number q) else None) ∷ [] else []) before)

-- bEndpointAddress, whose bits 6 to 4 are taken as 0; bmAttributes' kind; wMaxPacketSize's size
abbrev pub address_of : Piece → ℕ
address_of p = byte 2 p.bytes / 128 * 128 + byte 2 p.bytes % 16

abbrev pub kind_by : ℕ → Kind
kind_by n = if n == 0 then Control else if n == 1 then Isochronous else if n == 2 then Bulk else Interrupt

abbrev pub kind_of : Piece → Kind
kind_of p = kind_by (byte 3 p.bytes % 4)

abbrev pub packet_size_of : Piece → ℕ
packet_size_of p = word 4 p.bytes % 2048

abbrev pub info_of : ℕ → Piece → EndpointInfo
info_of interface p = record { address = address_of p; interface = interface; kind = kind_of p; packet_size = packet_size_of p }

-- an endpoint is kept where its number isn't 0 and the nearest earlier interface is used
abbrev pub kept_under : Option (Option ℕ) → Piece → List EndpointInfo
kept_under (Some (Some interface)) p = if is_endpoint p && not (byte 2 p.bytes % 16 == 0) then info_of interface p ∷ [] else []
kept_under _ p = []

abbrev pub kept : List Piece → Piece → List EndpointInfo
kept before p = kept_under (nearest before) p

abbrev pub endpoints : List Piece → List EndpointInfo
endpoints ps = each kept ps

abbrev pub is_transfer_kind : Kind → Bool
is_transfer_kind Bulk = true
is_transfer_kind Interrupt = true
is_transfer_kind _ = false

abbrev pub is_bad_size : EndpointInfo → Bool
is_bad_size x = is_transfer_kind x.kind && (nat_lt x.packet_size 1 || nat_lt 1024 x.packet_size)

-- the first fault of an endpoint that would be kept
abbrev pub faults_of_kept : List Piece → List EndpointInfo → List DescFault
faults_of_kept before [] = []
faults_of_kept before (x ∷ xs) =
    if list_any (λ y. y.address == x.address) (endpoints before) then SharedEndpoint x.address ∷ []
    else if is_bad_size x then BadPacketSize x.address ∷ []
    else []

abbrev pub is_none_before : Option (Option ℕ) → Bool
is_none_before None = true
is_none_before (Some x) = false

-- the fault of a piece, if it has one: the first rule that applies, by its type
abbrev pub faults_of : List Piece → Piece → List DescFault
faults_of before p =
    if type_of p == 2 then WrongType p.at ∷ []
    else if is_interface p then
    (if nat_lt (length p.bytes) 9 then BadLength p.at ∷ []
    else if is_used before p && nat_le 32 (length (interfaces before)) then TooMany ∷ []
    else [])
    else if is_endpoint p then
    (if nat_lt (length p.bytes) 7 then BadLength p.at ∷ []
    else if is_none_before (nearest before) then WrongType p.at ∷ []
    else faults_of_kept before (kept before p))
    else []

-- bytes that no descriptor begins are a fault where they stand
abbrev pub faults_at_end : ℕ → List ℕ → List DescFault
faults_at_end at [] = []
faults_at_end at (x ∷ xs) = BadLength at ∷ []

-- the faults of the bytes behind the configuration descriptor itself, the earliest first
abbrev pub faults : ℕ → List ℕ → List DescFault
faults at bytes = each faults_of (pieces at bytes) ++ faults_at_end (at + extent (pieces at bytes)) (rest bytes)

abbrev pub configuration : List Piece → Configuration
configuration ps = record { interfaces = interfaces ps; endpoints = endpoints ps }

abbrev pub read_by : List DescFault → Configuration → Result Configuration DescFault
read_by [] config = Ok config
read_by (fault ∷ _) config = Err fault

-- bLength and wTotalLength
abbrev pub header_length : List ℕ → ℕ
header_length input = byte 0 input

abbrev pub total_length : List ℕ → ℕ
total_length input = word 2 input

-- the bytes from bLength up to wTotalLength; those from there on are ignored
abbrev pub body : List ℕ → List ℕ
body input = drop (header_length input) (take (total_length input) input)

-- what the bytes describe, or the first fault: of the configuration descriptor itself, and then of the earliest piece behind it
abbrev pub reading : List ℕ → Result Configuration DescFault
reading input =
    if nat_lt (length input) 9 then Err (Truncated (length input))
    else if not (byte 1 input == 2) then Err (WrongType 0)
    else if nat_lt (header_length input) 9 || nat_lt (total_length input) (header_length input) then Err (BadLength 0)
    else if nat_lt (length input) (total_length input) then Err (Truncated (length input))
    else read_by (faults (header_length input) (body input)) (configuration (pieces (header_length input) (body input)))
