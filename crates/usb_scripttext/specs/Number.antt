-- Words that spell numbers and bytes.
use Rattle.std.specs.Prelude.{◌≡◌, ℕ, ◌-◌, ◌^◌, ◌≤◌, nat_le, nat_lt, ◌==◌, ◌↔◌, Bool, not, ◌||◌, length, ◌&&◌, List, slice_index, Option, Some, None, if◌then◌else◌}
use Rattle.std.specs.Option.{option_map}
use Rattle.std.specs.Result.{result_ok}
use Rattle.std.specs.Fmt.{decimal}
use Rattle.std.specs.Str.{bytes_eq}
use Rattle.std.specs.Str.Parse.{digits_value}
use Rattle.hex.specs.Hex.{decode_of, decode_sized}

-- whether a word is the decimal of its value: digits without a sign or a leading zero
unfoldable pub is_decimal : List ℕ → Bool
is_decimal word = bytes_eq word (decimal (digits_value 10 word))

-- whether a word has no sign, and begins with 0 only where that is all
abbrev pub begins_plainly : List ℕ → Bool
begins_plainly word = nat_lt 0 (length word) && not (slice_index word 0 == 43) && (not (slice_index word 0 == 48) || length word == 1)

-- the number of a word: that whose decimal it is, where it is within the limit
unfoldable pub number_of : ℕ → List ℕ → Option ℕ
number_of limit word = if is_decimal word && nat_le (digits_value 10 word) limit then Some (digits_value 10 word) else None

-- the last number of a device
abbrev pub last_device : ℕ
last_device = 3

-- the numbers of devices
abbrev pub device_of : List ℕ → Option ℕ
device_of = number_of last_device

-- numbers of 8 bits
abbrev pub u8_of : List ℕ → Option ℕ
u8_of = number_of (2 ^ 8 - 1)

-- numbers of 32 bits
abbrev pub u32_of : List ℕ → Option ℕ
u32_of = number_of (2 ^ 32 - 1)

-- numbers of 64 bits
abbrev pub u64_of : List ℕ → Option ℕ
u64_of = number_of (2 ^ 64 - 1)

-- the address of an endpoint: the byte of two hexadecimal digits
unfoldable pub address_of : List ℕ → Option ℕ
address_of word = option_map (λ bytes. slice_index bytes 0) (result_ok (decode_sized word 1))

-- bytes: those of pairs of hexadecimal digits
unfoldable pub bytes_of : List ℕ → Option (List ℕ)
bytes_of word = result_ok (decode_of word)

-- a word that is taken is the decimal of its number, and each decimal within the limit is taken
abbrev pub TakesDecimals : ℕ → List ℕ → Type 0
TakesDecimals limit word = (n : ℕ) → number_of limit word ≡ Some n ↔ ((n ≤ limit) × (word ≡ decimal n))
