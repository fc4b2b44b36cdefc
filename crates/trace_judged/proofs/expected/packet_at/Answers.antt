-- The packet is among those of a line, or behind them.
use Rattle.std.proofs.Common.{◌≡◌, ℕ, ◌+◌, ◌<◌, ◌≤◌, ◌-◌, List, length, drop, ap, sym, ◌∙◌, arith}
use Rattle.std.specs.Prelude.{slice_get}
use Rattle.usb_scripttext.specs.declared.expected_packet.ExpectedPacket.{ExpectedPacket}
use Rattle.trace_judged.specs.Expected.{expected_at, expected_by}
use Rattle.trace_judged.proofs.Found.{found_here, found_later, found_nowhere}
use Rattle.trace_judged.proofs.expected.packet_at.Goals as goal

pub returns-then-left-packets : goal.returns-then-left-packets
returns-then-left-packets c =
    let line = c.line-item.result in
    let left = c.loop-line.left in
    let short : left < length (expected_by c.args.dev c.args.ep line) = omega (arith, c.if-left-packets.true, ap length c.expected_by-packets.ensures) in
    c.packet_of.ensures
    ∙ (ap (λ (packets : List ExpectedPacket). slice_get packets left) c.expected_by-packets.ensures
    ∙ found_here (expected_by c.args.dev c.args.ep) c.args.lines.now c.args.index c.loop-line.line-index left line c.loop-line-test.true c.line-item.is short c.loop-line.invariant)

pub loop-line-preserved : goal.loop-line-preserved
loop-line-preserved c =
    let line = c.line-item.result in
    let left = c.loop-line.left in
    let lines = c.args.lines.now in
    let long : length (expected_by c.args.dev c.args.ep line) ≤ left = omega (arith, c.if-left-packets.false, ap length c.expected_by-packets.ensures) in
    ap (λ (packets : List ExpectedPacket). slice_get (expected_at (drop (c.loop-line.line-index + 1) lines) c.args.dev c.args.ep) (left - length packets)) c.expected_by-packets.ensures
    ∙ found_later (expected_by c.args.dev c.args.ep) lines c.args.index c.loop-line.line-index left line c.loop-line-test.true c.line-item.is long c.loop-line.invariant
