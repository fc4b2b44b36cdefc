use Rattle.usb_core.proofs.Asks.{expires_at}
use Rattle.usb_core.proofs.parts.Parts.expires.Goals as goal

pub returns-in-Some : goal.returns-in-Some
returns-in-Some g c = expires_at c.args.self.now c.args.h c.args.n c.home.result c.in-Some.home c.is_askable.result c.in-Some.is c.home.ensures c.is_askable.ensures
