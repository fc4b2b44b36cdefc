use Rattle.std.proofs.Common.{◌≡◌, ◌++◌, take}
use Rattle.std.specs.List.{flat_map}
use Rattle.usb_model.specs.Text.{hex_byte}
use Rattle.trace_io.proofs.entry_line.add_bytes.Given as goal

-- the digits of the bytes so far stand behind the text
abbrev pub invariant-loop-byte : goal.invariant-loop-byte
invariant-loop-byte l = l.text.items ≡ l.initial.text.items ++ flat_map hex_byte (take l.byte-index l.bytes)
