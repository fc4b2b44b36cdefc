-- The first piece of all is the name's first.
use Rattle.std.proofs.Common.{◌≡◌, ◌∷◌, drop}
use Rattle.usb_model.specs.Machine.Turns.{command_effect}
use Rattle.usb_model.specs.World.Shared.{pieces_of}
use Rattle.reference.proofs.Heads.{first_of_name}
use Rattle.reference.proofs.system.System.command_first.Goals as goal

pub returns-clause-effect : goal.returns-clause-effect
unfolding command_effect
returns-clause-effect c =
    let first : pieces_of c.args.h c.args.self.now.orders ≡ c.first-item.result.piece ∷ pieces_of c.args.h (drop 1 c.args.self.now.orders) =
    first_of_name c.args.h c.args.self.now.orders c.first-item.result (rw (← c.as_slice.ensures) c.in-len1-up.len_at_least) (rw (← c.as_slice.ensures) c.first-item.is) c.requires in
    rw first c.in_ok-command_order.ensures.effect
