-- The counts are right with one more.
use Rattle.std.proofs.Common.{◌≡◌, length, nat_eq, ap, ◌∙◌, arith}
use Rattle.std.specs.HashMap.{spare}
use Rattle.std.specs.Map.{lookup}
use Rattle.usb_tables.specs.HandleState.{Kept, callback_in}
use Rattle.usb_tables.proofs.Counts.{counted_put, put_more}
use Rattle.usb_tables.proofs.caller.HandleState.put_callback.Goals as goal

pub invariant_of-self : goal.invariant_of-self
invariant_of-self c =
    let room : spare c.self.inside.running ≡ c.args.self.now.room = ap (λ (k : Kept). k.room) c.self.view_is in
    let absent : lookup (nat_eq c.args.x.n) c.self.inside.running.entries ≡ callback_in c.args.self.now c.args.x.n = ap (λ (k : Kept). callback_in k c.args.x.n) c.self.view_is in
    let more = put_more c.self.inside.running c.insert.new.self c.args.x.n c.args.x c.insert.result (c.insert.ensures.succeeds (omega (arith, room, c.requires.room)))
    c.insert.ensures.old c.insert.ensures.entries (absent ∙ c.requires.absent) in
    let long : length c.self.inside.callbacks ≡ 32 = assumption c.self.told in
    rw c.id_of-id.ensures.value (counted_put c.self.inside.callbacks c.self.inside.running.entries c.insert.new.self.entries c.args.x long more c.self.invariant)
