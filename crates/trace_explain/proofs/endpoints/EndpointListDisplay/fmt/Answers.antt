-- One address more each turn.
use Rattle.std.proofs.Common.{◌≡◌, ◌+◌, ◌-◌, ◌<◌, ◌++◌, ℕ, List, length, ap, sym, ◌∙◌, arith, rules}
use Rattle.std.specs.Fmt.{HasWritten}
use Rattle.std.proofs.Output.{has_written_append}
use Rattle.usb_model.specs.Text.{hex_byte}
use Rattle.trace_explain.proofs.Listed.{row_more}
use Rattle.trace_explain.proofs.endpoints.EndpointListDisplay.fmt.Goals as goal

pub loop-ep-preserved : goal.loop-ep-preserved
loop-ep-preserved g c =
    let eps : List ℕ = c.addresses-addresses.result.now in
    let i : ℕ = c.loop-ep.ep-index in
    let low : i < length eps = c.loop-ep-test.true in
    let left : c.loop-ep.more - 1 ≡ length eps - (i + 1) = omega (arith, c.loop-ep.invariant.left) in
    let more : List ℕ = hex_byte c.ep-item.result ++ c.between-behind.result.now in
    record {
      left = left;
      row = λ plain.
          let before = c.loop-ep.invariant.row plain in
          let written : HasWritten g.W.Write.write_str_gives c.loop-ep.f more c.write.new.self = search rules fits 100 in (
            before.0 ++ more,
            has_written_append _ _ _ _ _ _ before.1 written,
            row_more eps i c.ep-item.result (c.loop-ep.more - 1) before.0 c.between-behind.result.now low c.ep-item.is left c.between-behind.ensures before.2,
          );
    }
