-- What a table ends as, where a `&mut` to the value of an endpoint is returned.
use Rattle.std.specs.Prelude.{ℕ, List, slice_set}
use Rattle.std.specs.Borrow.{Lends, Fml, RattleType, MutBor}
use Rattle.usb_tables.specs.ByEndpoint.{lane_at}
use Rattle.usb_tables.specs.contracts.by_endpoint.ByEndpoint.{the_row}

module _ (T : RattleType) (s : MutBor (List T.Denot)) (d e : ℕ) where
  -- once the borrow r ends, the endpoint's value is what was last written through r, and the others are as before
  abbrev pub lends_value : MutBor T.Denot → Fml
  lends_value r = Lends (the_row T) T s r (λ w. slice_set s.now (lane_at d e) w)
