-- What the store ends as, where a `&mut` to one of its transfers is returned.
use Rattle.std.specs.Prelude.{ℕ, Option}
use Rattle.std.specs.Borrow.{LendsIf, Fml, RattleType, MutBor}
use Rattle.usb_tables.specs.Store.{Slots, with_transfer}
use Rattle.usb_tables.specs.declared.transfer.Transfer.{Transfer}
use Rattle.usb_tables.specs.contracts.transfer.Transfer.{the_row as the_transfer}
use Rattle.usb_tables.specs.contracts.store.Store.{the_row}

module _ (P : RattleType) (s : MutBor (Slots (Transfer P.Denot))) (key : ℕ) where
  -- once the borrow r ends, the key has what was last written through r; at `None` the store stays as it is
  abbrev pub lends_transfer : Option (MutBor (Transfer P.Denot)) → Fml
  lends_transfer r = LendsIf (the_row P) (the_transfer P) s r (with_transfer s.now key) s.now
