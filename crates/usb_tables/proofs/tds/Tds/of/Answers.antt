-- The TDs of a request.
use Rattle.std.proofs.Common.{rules}
use Rattle.usb_tables.proofs.tds.Tds.of.Goals as goal

pub returns : goal.returns
returns c = search rules
