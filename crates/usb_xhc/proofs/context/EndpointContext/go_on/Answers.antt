use Rattle.std.proofs.Common.{arith, ap, length}
use Rattle.usb_rings.specs.Line.{contents}
use Rattle.usb_xhc.specs.Context.{Context}
use Rattle.usb_xhc.proofs.Nexts.{within}
use Rattle.usb_xhc.proofs.context.EndpointContext.go_on.Goals as goal

pub pass-requires : goal.pass-requires
pass-requires c =
    let near = within c.args.self.now.ring.line c.args.standing.now.index c.args.standing.now.at c.requires.at in
    let line = ap (λ (x : Context). length (contents x.ring.line)) c.self.view_is in
    omega arith
