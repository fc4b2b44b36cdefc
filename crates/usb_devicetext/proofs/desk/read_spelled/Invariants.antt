-- What is left says the rest of the devices.
use Rattle.std.proofs.Common.{◌≡◌, ◌+◌, length, drop}
use Rattle.usb_devicetext.specs.DeviceText.{spelled_of, with_text}
use Rattle.usb_devicetext.specs.Lines.{from_lines, lines_in}
use Rattle.usb_devicetext.proofs.desk.read_spelled.Given as goal

abbrev pub invariant-loop-line : goal.invariant-loop-line
invariant-loop-line l = record {
  counted : l.number ≡ length l.yielded;
  rest : spelled_of l.text ≡ from_lines with_text (length l.yielded + 1) l.draft (drop (length l.yielded) (lines_in l.text));
}
