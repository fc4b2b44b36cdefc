-- A word further each turn.
use Rattle.std.proofs.Common.{◌+◌, ◌++◌, ℕ, List, Bor, drop, arith, sym, ap, ◌∙◌}
use Rattle.std.specs.Prelude.{filter_map}
use Rattle.std.proofs.lemmas.List.{length-map}
use Rattle.usb_scripttext.specs.ExpectedPacket.{expected_packet_of}
use Rattle.trace_scenario.specs.Expectations.{expected_of_plain}
use Rattle.usb_scripttext.specs.Words.{words_of}
use Rattle.trace_scenario.proofs.LinesExpected.{no_more, none_more, some_more, text_at}
use Rattle.trace_scenario.proofs.expectations.expected_of_plain.Goals as goal
use Rattle.trace_scenario.proofs.expectations.expected_of_plain.Goals.{in-Some+in_ok-push, in_default}

pub loop-word-init : goal.loop-word-init
loop-word-init c = ap (λ l. l ++ expected_of_plain (words_of c.args.words.now)) c.new-packets.ensures.items

pub loop-word-preserved : goal.loop-word-preserved
loop-word-preserved c =
    let texts = words_of c.args.words.now in
    let i = c.loop-word.word-index in
    let here = text_at c.args.words.now i _ c.loop-word-test.true in
    elim c.match-branch-2.branch [
      | in-Some+in_ok-push w ↦
          ap (λ l. l ++ filter_map expected_packet_of (drop (i + 1) texts)) (ap (λ p. p.items) w.packets-is ∙ w.in_ok-push.ensures.items)
          ∙ some_more expected_packet_of texts i _ w.in-Some.packet c.loop-word.packets.items (expected_of_plain texts) here (sym c.in_ok-packet.ensures ∙ w.in-Some.is) c.loop-word.invariant
      | in_default w ↦
          ap (λ l. l ++ filter_map expected_packet_of (drop (i + 1) texts)) (ap (λ p. p.items) w.packets-is)
          ∙ none_more expected_packet_of texts i _ c.loop-word.packets.items (expected_of_plain texts) here (sym c.in_ok-packet.ensures ∙ w.in_default.is) c.loop-word.invariant
    ]

pub returns : goal.returns
returns c =
    let texts = words_of c.args.words.now in
    no_more expected_packet_of texts c.loop-word.word-index c.loop-word.packets.items (expected_of_plain texts)
    (omega (arith, length-map c.args.words.now (λ (word : Bor (List ℕ)). word.now), c.loop-word-test.false)) c.loop-word.invariant
