use Rattle.std.proofs.Common.{ap, ◌∙◌}
use Rattle.usb_rings.specs.Line.{ahead_of}
use Rattle.usb_xhc.specs.Context.{Context}
use Rattle.usb_xhc.specs.NormalTrbs.{placed, seen}
use Rattle.usb_xhc.proofs.Nexts.{first-read}
use Rattle.usb_xhc.proofs.context.EndpointContext.first.Goals as goal

pub returns : goal.returns
returns c =
    c.placed.ensures ∙ ap placed c.ahead.ensures.value
    ∙ ap (λ (x : Context). seen (ahead_of x.ring.line 0)) c.self.view_is
    ∙ first-read c.args.self.now.ring.line
