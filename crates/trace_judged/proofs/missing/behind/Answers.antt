use Rattle.std.proofs.Common.{◌≡◌, ◌-◌, Bor, List, drop, length, take, arith, ap, sym, ◌∙◌}
use Rattle.std.proofs.lemmas.List.{drop-map, length-drop, take_all}
use Rattle.usb_scripttext.specs.declared.expected_packet.ExpectedPacket.{ExpectedPacket}
use Rattle.trace_judged.specs.Expected.{packets_of}
use Rattle.trace_judged.proofs.missing.behind.Goals as goal

pub returns-then-index-packets : goal.returns-then-index-packets
returns-then-index-packets c =
    let i = c.args.index in
    let packets = c.args.packets.now in
    ap packets_of (take_all (length packets - i) (drop i packets) (omega (arith, length-drop i packets)))
    ∙ sym (drop-map (λ (p : Bor ExpectedPacket). p.now) i packets)
