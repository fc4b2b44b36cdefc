-- Words that spell the numbers of descriptors and requests.
use Rattle.std.specs.Prelude.{ℕ, ◌+◌, ◌*◌, ◌==◌, List, codes, slice_index, Option, Some, None, if◌then◌else◌}
use Rattle.std.specs.Option.{option_map, option_and_then}
use Rattle.std.specs.Result.{result_ok}
use Rattle.std.specs.Str.{bytes_eq}
use Rattle.hex.specs.Hex.{decode_sized}
use Rattle.usb_scripttext.specs.Number.{u8_of}
use Rattle.usb_devicetext.specs.declared.word.Speed.{Speed}
use Rattle.usb_devicetext.specs.declared.word.Speed.TheVariants.{Low, Full, High}

-- the number of four hexadecimal digits, the higher byte first
unfoldable pub word_of : List ℕ → Option ℕ
word_of word = option_map (λ bytes. 256 * slice_index bytes 0 + slice_index bytes 1) (result_ok (decode_sized word 2))

-- a number, or any
abbrev pub any_of : (List ℕ → Option ℕ) → List ℕ → Option (Option ℕ)
any_of f word = if bytes_eq word (codes "*") then Some None else option_map Some (f word)

-- the index of a string: 1 to 255
unfoldable pub index_of : List ℕ → Option ℕ
index_of word = option_and_then (λ i. if i == 0 then None else Some i) (u8_of word)

-- a speed
unfoldable pub speed_of : List ℕ → Option Speed
speed_of word =
    if bytes_eq word (codes "low") then Some Low else
    if bytes_eq word (codes "full") then Some Full else
    if bytes_eq word (codes "high") then Some High else
    None
