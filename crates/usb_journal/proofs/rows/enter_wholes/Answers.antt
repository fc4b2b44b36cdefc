use Rattle.usb_journal.proofs.InRows.{row_none}
use Rattle.usb_journal.proofs.rows.enter_wholes.Goals as goal

pub returns-in_default-clause-row : goal.returns-in_default-clause-row
returns-in_default-clause-row g c = rw c.in_default.is (row_none c.args.position.now.number c.args.moment c.args.log.now.journal c.args.position.now c.requires.seen)
