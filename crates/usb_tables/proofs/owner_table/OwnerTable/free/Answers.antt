-- All places are freed.
use Rattle.std.proofs.Common.{◌≡◌, nat_lt, true, ◌∙◌, arith}
use Rattle.std.proofs.lemmas.Bool.{lt-ltb}
use Rattle.usb_tables.proofs.Owners.{all_freed}
use Rattle.usb_tables.proofs.owner_table.OwnerTable.free.Goals as goal

pub returns : goal.returns
returns c = all_freed c.args.h c.args.self.now c.loop-at.self
    (λ k within. c.loop-at.invariant k ∙ (let past : nat_lt k c.loop-at.at ≡ true = lt-ltb k c.loop-at.at (omega arith) in rw past))
