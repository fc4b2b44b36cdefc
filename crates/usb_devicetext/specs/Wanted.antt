-- What a word of a line has to be.
use Rattle.std.specs.Prelude.{ℕ, Bool, ◌||◌, List, codes, Option, is_some}
use Rattle.std.specs.Option.{option_and_then}
use Rattle.std.specs.Str.{bytes_eq}
use Rattle.usb_scripttext.specs.Number.{address_of, bytes_of, device_of, u8_of, u32_of}
use Rattle.usb_scripttext.specs.Prefix.{behind}
use Rattle.usb_scripttext.specs.Repeats.{one_of}
use Rattle.usb_devicetext.specs.declared.wanted.Wanted.{Wanted}
use Rattle.usb_devicetext.specs.declared.wanted.Wanted.TheVariants as wanted
use Rattle.usb_devicetext.specs.Statement.{whole_of}
use Rattle.usb_devicetext.specs.Word.{any_of, index_of, speed_of, word_of}

-- the bytes of an answer that has some, however many, and however often it stands
abbrev pub data_in : List ℕ → Option (List ℕ)
data_in word = option_and_then bytes_of (behind (codes "d:") (one_of word))

-- not ready, a stall, a broken transaction, however often it stands
abbrev pub is_plain : List ℕ → Bool
is_plain word = bytes_eq (one_of word) (codes "n") || (bytes_eq (one_of word) (codes "s") || bytes_eq (one_of word) (codes "b"))

abbrev pub is_read : List ℕ → Bool
is_read word = is_plain word || is_some (data_in word)

abbrev pub is_write : List ℕ → Bool
is_write word = is_plain word || bytes_eq (one_of word) (codes "a")

-- whether a word is what is wanted
unfoldable pub is_wanted : Wanted → List ℕ → Bool
is_wanted wanted.Device word = is_some (device_of word)
is_wanted wanted.Bytes word = is_some (bytes_of word)
is_wanted wanted.Address word = is_some (address_of word)
is_wanted wanted.Byte word = is_some (address_of word)
is_wanted wanted.Word word = is_some (word_of word)
is_wanted wanted.AnyByte word = is_some (any_of address_of word)
is_wanted wanted.AnyWord word = is_some (any_of word_of word)
is_wanted wanted.Index word = is_some (index_of word)
is_wanted wanted.Speed word = is_some (speed_of word)
is_wanted wanted.Whole word = is_some (whole_of word)
is_wanted wanted.Number word = is_some (u32_of word)
is_wanted wanted.Interface word = is_some (u8_of word)
is_wanted wanted.InAnswer word = is_read word
is_wanted wanted.OutAnswer word = is_write word
is_wanted wanted.ReadAnswer word = is_read word
is_wanted wanted.WriteAnswer word = is_write word
is_wanted wanted.PlainAnswer word = is_plain word

-- in words
unfoldable pub wanted_text : Wanted → List ℕ
wanted_text wanted.Device = codes "a device's number stands here, 0 to 3"
wanted_text wanted.Bytes = codes "bytes stand here: an even number of hexadecimal digits"
wanted_text wanted.Address = codes "an endpoint's address stands here: two hexadecimal digits"
wanted_text wanted.Byte = codes "two hexadecimal digits stand here"
wanted_text wanted.Word = codes "four hexadecimal digits stand here"
wanted_text wanted.AnyByte = codes "two hexadecimal digits stand here, or `*`"
wanted_text wanted.AnyWord = codes "four hexadecimal digits stand here, or `*`"
wanted_text wanted.Index = codes "the index of a string stands here, a decimal number from 1 to 255"
wanted_text wanted.Speed = codes "a speed stands here: `low`, `full` or `high`"
wanted_text wanted.Whole = codes "a device descriptor stands here: 18 bytes, 36 hexadecimal digits"
wanted_text wanted.Number = codes "a decimal number below 2^32 stands here, without leading zeros"
wanted_text wanted.Interface = codes "an interface's number stands here, a decimal number from 0 to 255"
wanted_text wanted.InAnswer = codes "an answer of an IN endpoint is `d:HEX`, `n`, `s` or `b`"
wanted_text wanted.OutAnswer = codes "an answer of an OUT endpoint is `a`, `n`, `s` or `b`"
wanted_text wanted.ReadAnswer = codes "an answer to a request that reads is `d:HEX`, `n`, `s` or `b`"
wanted_text wanted.WriteAnswer = codes "an answer to a request that writes is `a`, `n`, `s` or `b`"
wanted_text wanted.PlainAnswer = codes "an answer to requests of any type is `n`, `s` or `b`"
