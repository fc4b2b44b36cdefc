-- All places are freed.
use Rattle.std.proofs.Common.{◌≡◌, nat_lt, true, None, refl, ◌∙◌, arith}
use Rattle.std.proofs.lemmas.Bool.{lt-ltb}
use Rattle.reference.specs.Tables.{freed}
use Rattle.reference.proofs.Tables.{cells_changed}
use Rattle.reference.proofs.table.Table+Option+Name.free.Goals as goal

pub returns : goal.returns
returns c = cells_changed (freed c.args.h) None c.args.self.now c.loop-at.self refl
    (λ k within. c.loop-at.invariant k ∙ (let past : nat_lt k c.loop-at.at ≡ true = lt-ltb k c.loop-at.at (omega arith) in rw past))
