-- What a line says of a device, by the words behind the device.
use Rattle.std.specs.Prelude.{ℕ, List, [], ◌∷◌, Option, Some, None}
use Rattle.std.specs.Option.{option_map, option_and_then}
use Rattle.std.specs.Result.{result_ok}
use Rattle.hex.specs.Hex.{decode_sized}
use Rattle.usb_scripttext.specs.Number.{address_of, u8_of, u32_of}
use Rattle.usb_devicetext.specs.declared.statement.Awaited.{Awaited}
use Rattle.usb_devicetext.specs.declared.statement.Awaited.TheVariants as awaited
use Rattle.usb_devicetext.specs.declared.statement.Pattern.{Pattern}
use Rattle.usb_devicetext.specs.declared.statement.Statement.{Statement}
use Rattle.usb_devicetext.specs.declared.statement.Statement.TheVariants as says
use Rattle.usb_devicetext.specs.Answer.{answers_of}
use Rattle.usb_devicetext.specs.Text.{text_of}
use Rattle.usb_devicetext.specs.Word.{any_of, index_of, speed_of, word_of}

-- a release, 1.00 where none is said
unfoldable pub release_of : List (List ℕ) → Option ℕ
release_of [] = Some 256
release_of (release ∷ []) = word_of release
release_of _ = None

-- vendor, product and release
unfoldable pub ids_of : List (List ℕ) → Option Statement
ids_of (vendor ∷ product ∷ rest) =
    option_and_then (λ v. option_and_then (λ p. option_map (λ r. says.Ids (record { vendor = v; product = p; release = r })) (release_of rest)) (word_of product)) (word_of vendor)
ids_of _ = None

-- class, subclass and protocol
unfoldable pub class_of : List (List ℕ) → Option Statement
class_of (class ∷ subclass ∷ protocol ∷ []) =
    option_and_then (λ c. option_and_then (λ s. option_map (λ p. says.Class (record { class = c; subclass = s; protocol = p })) (address_of protocol)) (address_of subclass)) (address_of class)
class_of _ = None

-- 18 bytes
unfoldable pub whole_of : List ℕ → Option (List ℕ)
whole_of digits = result_ok (decode_sized digits 18)

-- the device descriptor
unfoldable pub descriptor_of : List (List ℕ) → Option Statement
descriptor_of (digits ∷ []) = option_map says.Descriptor (whole_of digits)
descriptor_of _ = None

-- a string, by its index
unfoldable pub string_line_of : List (List ℕ) → Option Statement
string_line_of (number ∷ words) = option_and_then (λ i. option_map (λ bytes. says.Text (record { index = i; descriptor = bytes })) (text_of words)) (index_of number)
string_line_of _ = None

unfoldable pub speed_line_of : List (List ℕ) → Option Statement
speed_line_of (word ∷ []) = option_map says.Speed (speed_of word)
speed_line_of _ = None

-- which requests: type, request, value and index
unfoldable pub pattern_of : (kind request value index : List ℕ) → Option Pattern
pattern_of kind request value index =
    option_and_then (λ k. option_and_then (λ r. option_and_then (λ v. option_map (λ i. record { kind = k; request = r; value = v; index = i }) (any_of word_of index)) (any_of word_of value)) (any_of address_of request)) (any_of address_of kind)

-- answers to requests
unfoldable pub control_of : List (List ℕ) → Option Statement
control_of (kind ∷ request ∷ value ∷ index ∷ words) =
    option_and_then (λ (p : Pattern). option_map (λ xs. says.Control (record { pattern = p; answers = xs; asked = 0 })) (answers_of p.kind words)) (pattern_of kind request value index)
control_of _ = None

-- the answers of an endpoint from a place on wait for so many of something
abbrev pub gate_with : (ep place : List ℕ) → Option Awaited → (count : List ℕ) → Option Statement
gate_with ep place awaited count =
    option_and_then (λ a. option_and_then (λ e. option_and_then (λ k. option_map (λ n. says.After (record { ep = e; place = k; awaited = a; count = n })) (u32_of count)) (u32_of place)) (address_of ep)) awaited

-- answers that wait: for packets or transfers at an endpoint, or for requests
unfoldable pub gate_of : List (List ℕ) → Option Statement
gate_of (ep ∷ place ∷ other ∷ count ∷ []) = gate_with ep place (option_map awaited.At (address_of other)) count
gate_of (ep ∷ place ∷ kind ∷ request ∷ value ∷ index ∷ count ∷ []) = gate_with ep place (option_map awaited.Requests (pattern_of kind request value index)) count
gate_of _ = None

-- when it is pulled out
unfoldable pub leaves_of : List (List ℕ) → Option Statement
leaves_of (ep ∷ answers ∷ []) = option_and_then (λ e. option_map (λ n. says.Leaves (record { ep = e; answers = n })) (u32_of answers)) (address_of ep)
leaves_of _ = None

unfoldable pub hidden_of : List (List ℕ) → Option Statement
hidden_of [] = Some says.Hidden
hidden_of _ = None

unfoldable pub anew_of : List (List ℕ) → Option Statement
anew_of [] = Some says.Anew
anew_of _ = None

unfoldable pub lasts_of : List (List ℕ) → Option Statement
lasts_of [] = Some says.Lasts
lasts_of _ = None

unfoldable pub driver_of : List (List ℕ) → Option Statement
driver_of (number ∷ []) = option_map says.Driver (u8_of number)
driver_of _ = None
