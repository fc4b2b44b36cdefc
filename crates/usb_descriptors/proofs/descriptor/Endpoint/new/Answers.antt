-- The mask keeps bit 7 and bits 3 to 0.
use Rattle.std.proofs.Common.{◌≡◌, ℕ, ◌+◌, ◌*◌, ◌/◌, ◌%◌, ◌^◌, ◌<◌, bit_and, sym, ap, ◌∙◌, arith}
use Rattle.std.proofs.lemmas.Nat.{and_block, and_mask}
use Rattle.usb_descriptors.proofs.descriptor.Endpoint.new.Goals as goal

-- an address without its bits 6 to 4
bit_and-plain : (a : ℕ) → a < 256 → bit_and a 143 ≡ a / 128 * 128 + a % 16
bit_and-plain a small =
    let cut : a / 128 * 2 ^ 7 + a % 128 ≡ a = omega arith in
    let high = and_mask (a / 128) 1 in
    let low = and_mask (a % 128) 4 in
    ap (λ n. bit_and n 143) (sym cut) ∙ and_block 7 (a / 128) 1 (a % 128) 15 (omega arith) (omega arith) ∙ omega (arith, high, low)

pub returns-clause-address : goal.returns-clause-address
returns-clause-address c = c.new.ensures ∙ bit_and-plain c.args.address (omega arith)
