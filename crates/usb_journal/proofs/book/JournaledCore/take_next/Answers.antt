use Rattle.usb_journal.proofs.Takings.{put_behind, takes_one}
use Rattle.usb_journal.proofs.book.JournaledCore.take_next.Goals as goal

pub returns-clause-ok : goal.returns-clause-ok
returns-clause-ok g c =
    let e = c.in_ok-_receipt.ensures in
    let t = c.in-Some.next in (
      t,
      put_behind c.args.taken.now.items c.reserve.new.self.items c.push_reserved.new.self.items t c.push_reserved.ensures.items c.reserve.ensures.items,
      (takes_one c.args.self.now c.take.new.self c.args.position.now c.take.new.position c.in_ok-_receipt._receipt c.in_ok-_receipt.next t c.in-Some.is e.receipt e.journal e.entry e.position e.saw e.rest e.carries).0,
    )

pub returns-clause-on : goal.returns-clause-on
returns-clause-on g c =
    let e = c.in_ok-_receipt.ensures in
    (takes_one c.args.self.now c.take.new.self c.args.position.now c.take.new.position c.in_ok-_receipt._receipt c.in_ok-_receipt.next c.in-Some.next c.in-Some.is e.receipt e.journal e.entry e.position e.saw e.rest e.carries).1
