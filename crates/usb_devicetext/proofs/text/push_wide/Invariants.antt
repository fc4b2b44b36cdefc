-- The bytes so far stand behind the others.
use Rattle.std.proofs.Common.{◌≡◌, ◌++◌, take}
use Rattle.usb_devicetext.specs.Text.{wide}
use Rattle.usb_devicetext.proofs.text.push_wide.Given as goal

abbrev pub invariant-loop-byte : goal.invariant-loop-byte
invariant-loop-byte l = l.bytes.items ≡ l.initial.bytes.items ++ wide (take l.byte-index l.text)
