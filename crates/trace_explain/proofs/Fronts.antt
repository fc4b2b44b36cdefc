-- How much full packets in front have.
use Rattle.std.proofs.Common.{◌≡◌, ℕ, ◌-◌, ◌*◌, ◌/◌, ◌≤◌, ◌==◌, zero, suc, Bool, true, false, List, [], ◌∷◌, length, subst, sym, arith}
use Rattle.std.specs.Prelude.{if◌then◌else◌}
use Rattle.std.proofs.Math.Nat.{div-mul-le_self, mul-le-mul_right}
use Rattle.usb_model.specs.declared.response.Response.{Response}
use Rattle.usb_model.specs.declared.response.Response.TheVariants.{Data}
use Rattle.usb_model.specs.Endpoint.Packets.{full_front}

-- there are no more than so many
front_few : (size most : ℕ) (xs : List Response) → length (full_front size most xs) ≤ most
front_few size zero xs = omega arith
front_few size (suc most) [] = omega arith
front_few size (suc most) (Data b ∷ xs) = by_test (length b == size) (front_few size most xs)
  where
    by_test : (t : Bool) → length (full_front size most xs) ≤ most → length (if t then b ∷ full_front size most xs else []) ≤ suc most
    by_test true rest = omega arith
    by_test false rest = omega arith
front_few size (suc most) (_ ∷ xs) = omega arith

-- so many as leave room have no more bytes than there is room
pub front_fits : (n size : ℕ) (xs : List Response) (front : List (List ℕ)) → front ≡ full_front size ((n - 1) / size) xs → length front * size ≤ n
front_fits n size xs front same =
    let few : length front ≤ (n - 1) / size = subst (λ (ps : List (List ℕ)). length ps ≤ (n - 1) / size) (sym same) (front_few size ((n - 1) / size) xs) in
    let less : length front * size ≤ (n - 1) / size * size = mul-le-mul_right size few in
    let whole : (n - 1) / size * size ≤ n - 1 = div-mul-le_self (n - 1) size in
    omega (arith, less, whole)
