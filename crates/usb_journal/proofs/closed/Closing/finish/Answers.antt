use Rattle.usb_journal.proofs.Receipts.{all_stand, claimed_count}
use Rattle.usb_journal.proofs.closed.Closing.finish.Goals as goal

pub returns-clause-found : goal.returns-clause-found
returns-clause-found g c = rw (← c.self.view_is) (all_stand c.self.inside.keeper.entries c.args.receipts.items (rw (← c.take_all.ensures.same.1, ← c.take_all.ensures.taken) c.check.ensures.stand))

pub returns-clause-apart : goal.returns-clause-apart
returns-clause-apart g c = λ p. rw (← claimed_count p c.args.receipts.items, ← c.take_all.ensures.taken) (c.check.ensures.apart p)

pub returns-clause-seen : goal.returns-clause-seen
returns-clause-seen g c = (c.take_all.new.keeper.next, rw (← c.self.view_is, ← c.take_all.ensures.same.1, ← c.take_all.ensures.same.3) c.check.ensures.stood)

pub returns-clause-numbers : goal.returns-clause-numbers
returns-clause-numbers g c = λ n. rw (← c.self.view_is, ← c.take_all.ensures.same.3) (c.check.ensures.numbers n)
