-- What is left says the rest of what is said once.
use Rattle.std.proofs.Common.{◌≡◌, ◌+◌, length, drop}
use Rattle.usb_devicetext.specs.Lines.{from_lines, lines_in}
use Rattle.usb_devicetext.specs.Sense.{sayings_of, with_text}
use Rattle.usb_devicetext.proofs.desk.read_sayings.Given as goal

abbrev pub invariant-loop-line : goal.invariant-loop-line
invariant-loop-line l = record {
  counted : l.place ≡ length l.yielded;
  rest : sayings_of l.devices l.text ≡ from_lines (with_text l.devices) (length l.yielded + 1) l.sayings (drop (length l.yielded) (lines_in l.text));
}
