use Rattle.std.proofs.Common.{◌≡◌, ◌+◌, arith, ap, ◌∙◌, suc, ℕ}
use Rattle.usb_rings.specs.Line.{ahead_of}
use Rattle.usb_xhc.specs.Context.{Context}
use Rattle.usb_xhc.specs.NormalTrbs.{placed, seen}
use Rattle.usb_xhc.proofs.Nexts.{next-done, next-read}
use Rattle.usb_xhc.proofs.context.EndpointContext.next.Goals as goal

pub returns-then-at-clause-value : goal.returns-then-at-clause-value
returns-then-at-clause-value c = next-done c.args.self.now.ring.line c.args.index c.args.at.now c.requires.at c.if-at.true

pub returns-clause-value : goal.returns-clause-value
returns-clause-value c =
    let count : c.args.index + 1 ≡ suc c.args.index = omega arith in
    c.placed.ensures ∙ ap placed c.ahead.ensures.value
    ∙ ap (λ (x : Context). seen (ahead_of x.ring.line (c.args.index + 1))) c.self.view_is
    ∙ ap (λ (n : ℕ). seen (ahead_of c.args.self.now.ring.line n)) count
    ∙ next-read c.args.self.now.ring.line c.args.index c.args.at.now c.requires.at c.if-at.false
