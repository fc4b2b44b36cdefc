-- What is left is what the rest expects.
use Rattle.std.proofs.Common.{◌≡◌, ◌++◌, drop}
use Rattle.std.specs.Prelude.{filter_map}
use Rattle.usb_scripttext.specs.ExpectedPacket.{expected_packet_of}
use Rattle.trace_scenario.specs.Expectations.{expected_of_plain}
use Rattle.usb_scripttext.specs.Words.{words_of}
use Rattle.trace_scenario.proofs.expectations.expected_of_plain.Given as goal

abbrev pub invariant-loop-word : goal.invariant-loop-word
invariant-loop-word l = l.packets.items ++ filter_map expected_packet_of (drop l.word-index (words_of l.words)) ≡ expected_of_plain (words_of l.words)
