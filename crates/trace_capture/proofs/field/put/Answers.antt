-- The first of eight bytes are the lowest.
use Rattle.std.proofs.Common.{◌≡◌, ℕ, ◌-◌, take, ap, arith, ◌∙◌}
use Rattle.std.proofs.lemmas.Grind.{common_steps}
use Rattle.byteorder.specs.Endian.{little_bytes}
use Rattle.byteorder.proofs.Bytes.{take-bytes_low_first}
use Rattle.trace_capture.proofs.field.put.Goals as goal

pub returns : goal.returns
returns c =
    let all : c.args.count - 0 ≡ c.args.count = omega arith in
    let low : take (c.args.count - 0) c.write_u64.new.buf ≡ little_bytes c.args.count c.args.number =
    ap (λ (k : ℕ). take k c.write_u64.new.buf) all ∙ ap (take c.args.count) c.write_u64.ensures ∙ take-bytes_low_first 0 8 c.args.count c.args.number c.requires in
    grind (arith, common_steps, low)
