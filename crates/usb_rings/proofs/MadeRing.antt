-- A ring as it is made.
use Rattle.std.proofs.Common.{ℕ, suc, ◌+◌, ◌^◌, ◌≤◌, refl, arith, []}
use Rattle.usb_rings.proofs.Fresh.{length-cleared, memory-cleared}
use Rattle.usb_rings.specs.Line.{places}
use Rattle.usb_rings.specs.View.{made, IsSound}
use Rattle.usb_rings.proofs.ItemsTrbs.{some-places}

-- a ring as it is made is empty
pub sound-cleared : (base : ℕ) → base + 2048 ≤ 2 ^ 64 → IsSound (made base) 0 0 0 []
sound-cleared base h = record {
  base_fits = h;
  place = omega arith;
  left_fits = omega arith;
  held_fits = omega arith;
  counted = refl;
  some = tt;
  left_written = λ q a b. absurd (omega arith);
  held_written = λ q a b. absurd (omega arith);
  size = length-cleared places (suc places) base;
  memory = memory-cleared places (suc places) base some-places (omega arith);
}
