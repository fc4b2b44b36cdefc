use Rattle.std.proofs.Common.{subst}
use Rattle.usb_core.specs.Senders.{SenderIs}
use Rattle.usb_core.proofs.parts.Parts.completion.Goals as goal

pub unreachable-requires : goal.unreachable-requires
unreachable-requires g c = subst (λ o. SenderIs c.requires.0 c.args.self.now c.requires.1 c.args.code o) c.in_default.is (c.sender.ensures c.requires.0 c.requires.1 c.args.code c.requires.2)
