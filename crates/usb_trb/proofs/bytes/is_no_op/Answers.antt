use Rattle.std.proofs.Common.{ℕ, ap, nat_eq}
use Rattle.usb_trb.proofs.Numbers.{no_op-told}
use Rattle.usb_trb.proofs.bytes.is_no_op.Goals as goal

pub returns-clause-told : goal.returns-clause-told
returns-clause-told c = λ t h w. no_op-told t c.args.bytes.now (nat_eq c.from.result 8) (ap (λ (n : ℕ). nat_eq n 8) c.from.ensures) w
