-- What is left says the rest of the devices.
use Rattle.std.proofs.Common.{◌≡◌, ◌+◌, drop}
use Rattle.usb_scripttext.specs.Words.{words_of}
use Rattle.usb_devicetext.specs.DeviceText.{spelled_in, with_text}
use Rattle.usb_devicetext.specs.Lines.{from_lines}
use Rattle.usb_devicetext.proofs.complaint.devices_before.Given as goal

abbrev pub invariant-loop-line : goal.invariant-loop-line
invariant-loop-line l = spelled_in (words_of l.lines) ≡ from_lines with_text (l.line-index + 1) l.draft (drop l.line-index (words_of l.lines))
