use Rattle.std.proofs.Common.{Bor, rules, tests, ◌∙◌}
use Rattle.std.proofs.lemmas.Iterator.Search.{position_from_yields_List}
use Rattle.std.proofs.lemmas.Iterator.{YieldsList-from_slice}
use Rattle.usb_scripttext.specs.declared.expected_packet.ExpectedPacket.{ExpectedPacket}
use Rattle.trace_judged.specs.Missing.{is_wanted}
use Rattle.trace_judged.proofs.Places.{position_map}
use Rattle.trace_judged.proofs.missing.first_wanted.Goals as goal

pub returns : goal.returns
returns c =
    position_from_yields_List (λ (p : Bor ExpectedPacket). is_wanted p.now) _ _ c.position.result c.position.ensures.ran (YieldsList-from_slice c.args.packets.now cc) (λ x b q k. search (rules, tests))
    ∙ position_map is_wanted (λ (p : Bor ExpectedPacket). p.now) c.args.packets.now
