use Rattle.usb_library.proofs.Suits.{none_suit}
use Rattle.usb_library.proofs.library.Library.new.Goals as goal

pub invariant_of-new : goal.invariant_of-new
invariant_of-new g c = none_suit g.P.Whom.Suiting.suits c.in_ok-book.book.core c.in_ok-book.ensures.carries
