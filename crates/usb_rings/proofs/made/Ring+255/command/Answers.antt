use Rattle.std.proofs.Common.{arith}
use Rattle.usb_rings.proofs.Rings.{made-memory}
use Rattle.usb_rings.proofs.made.Ring+255.command.Goals as goal

pub over-requires : goal.over-requires
over-requires c =
    (omega arith, (omega arith, ((omega arith, omega arith), made-memory 255 256 c.before-base.result c.in_ok-with_link.field-0 (omega arith) (omega arith) c.in_ok-with_link.ensures)))
