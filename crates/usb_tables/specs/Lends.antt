-- What the transfers in flight end as, where a `&mut` to one of them is returned.
use Rattle.std.specs.Prelude.{ℕ, Option, Some}
use Rattle.std.specs.Borrow.{LendsIf, Fml, RattleType, MutBor}
use Rattle.usb_tables.specs.declared.transfer.Transfer.{Transfer}
use Rattle.usb_tables.specs.contracts.transfer.Transfer.{the_row as the_transfer}
use Rattle.usb_tables.specs.TransfersInFlight.{TransfersInFlight, with_item}
use Rattle.usb_tables.specs.contracts.flights.TransfersInFlight.{the_row}

module _ (P : RattleType) (s : MutBor (TransfersInFlight (Transfer P.Denot))) (d e item : ℕ) where
  -- once the borrow r ends, the item is what was last written through r; at `None` all is as it was
  abbrev pub lends_item : Option (MutBor (Transfer P.Denot)) → Fml
  lends_item r = LendsIf (the_row P) (the_transfer P) s r (λ t. with_item s.now d e item (Some t)) s.now
