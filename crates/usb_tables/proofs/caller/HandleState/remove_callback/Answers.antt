-- The counts are right with one less.
use Rattle.std.proofs.Common.{◌≡◌, ℕ, ◌+◌, length, arith}
use Rattle.usb_tables.specs.HandleState.{running_of}
use Rattle.usb_tables.proofs.Counts.{count_taken, counted_removed, id-lt, some_counted, taken_less, weight}
use Rattle.usb_tables.proofs.caller.HandleState.remove_callback.Goals as goal
use Rattle.usb_tables.proofs.caller.HandleState.remove_callback.Goals.{After-id_of}

-- what is left, and the transfer that was taken out
less : (c : After-id_of) (id : ℕ) → running_of id c.remove.new.self.entries + weight id c.in_ok-x.x ≡ running_of id c.self.inside.running.entries
less c = taken_less c.self.inside.running.entries c.remove.new.self.entries c.args.n c.in_ok-x.x c.in_ok-x.ensures.value c.remove.ensures.entries

pub overflow_sub-self : goal.overflow_sub-self
overflow_sub-self c =
    let c' = (goal.at.overflow_sub-self c).After-id_of in
    rw c.id_of.ensures.value (some_counted c.self.inside.callbacks c.self.inside.running.entries c.remove.new.self.entries c.in_ok-x.x (less c') c.self.invariant)

pub invariant_of-self-2 : goal.invariant_of-self-2
invariant_of-self-2 c =
    let c' = (goal.at.invariant_of-self-2 c).After-id_of in
    let long : length c.self.inside.callbacks ≡ 32 = assumption c.self.told in
    rw c.id_of.ensures.value (counted_removed c.self.inside.callbacks c.self.inside.running.entries c.remove.new.self.entries c.in_ok-x.x long (less c') c.self.invariant)

pub returns-clause-counts : goal.returns-clause-counts
returns-clause-counts c =
    let c' = (goal.at.returns-clause-counts c).After-id_of in
    let long : length c.self.inside.callbacks ≡ 32 = assumption c.self.told in
    let some = some_counted c.self.inside.callbacks c.self.inside.running.entries c.remove.new.self.entries c.in_ok-x.x (less c') c.self.invariant in
    rw (← c.self.view_is, c.id_of.ensures.value) (count_taken c.self.inside.callbacks _ (omega (arith, id-lt c.in_ok-x.x.request.ep, long)) some)
