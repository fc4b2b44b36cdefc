use Rattle.std.proofs.Common.{ap}
use Rattle.usb_model.proofs.request.RequestClone.clone.Goals as goal

pub returns : goal.returns
returns c = record { cases = ap (λ b. record { ep = c.args.self.now.ep; kind = c.args.self.now.kind; flags = c.args.self.now.flags; timeout = c.args.self.now.timeout; body = b }) c.in_ok-clone.ensures.cases }
