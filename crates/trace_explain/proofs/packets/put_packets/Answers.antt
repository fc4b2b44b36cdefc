use Rattle.std.proofs.Common.{◌≡◌, ℕ, List, [], ◌∷◌, ◌++◌, take, ap, sym, ◌∙◌}
use Rattle.std.specs.List.{flat_map}
use Rattle.std.proofs.lemmas.List.{flat_map_more, take_more}
use Rattle.trace_explain.specs.Packets.{packet_line}
use Rattle.trace_explain.proofs.packets.put_packets.Goals as goal

pub loop-packet-preserved : goal.loop-packet-preserved
loop-packet-preserved c =
    let line = packet_line c.args.ep in
    let i = c.loop-packet.packet-index in
    let packets = c.args.packets.now in
    let packet = c.packet-item.result in
    c.in_ok-put_packet.ensures
    ∙ ap (λ (text : List ℕ). text ++ line packet) c.loop-packet.invariant
    ∙ flat_map_more line c.args.text.now.items (take i packets) packet
    ∙ ap (λ (some : List (List ℕ)). c.args.text.now.items ++ flat_map line some)
    (ap (λ (p : List ℕ). take i packets ++ p ∷ []) c.packet-item.is ∙ sym (take_more packets i packet c.loop-packet-test.true))
