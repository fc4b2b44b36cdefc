use Rattle.trace_io.proofs.WordsRead.{alone_asks, both_ask, both_turned_ask, packets_ask, capture_asks, capture_of_a_file_is_bad, check_asks, check_of_a_file_is_bad, devices_ask, devices_scenario_ask, devices_of_a_file_are_bad, draw_asks, handle_64_is_bad, help_asks, help_is_no_word, leading_zeros_ask, left_asks, left_with_a_word_is_bad, live_asks, live_with_a_word_is_bad, no_handle_is_bad, no_rounds_are_bad, no_words_are_bad, part_asks, plus_sign_asks, rounds_ask, run_asks, step_0_is_bad, steps_ask, too_many_are_bad, describe_asks, device_asks, explain_asks, page_asks, test_asks, test_with_a_word_is_bad}
use Rattle.trace_io.proofs.laws.words.Goals as goal

pub returns-clause-run : goal.returns-clause-run
returns-clause-run c = run_asks

pub returns-clause-alone : goal.returns-clause-alone
returns-clause-alone c = alone_asks

pub returns-clause-plus_sign : goal.returns-clause-plus_sign
returns-clause-plus_sign c = plus_sign_asks

pub returns-clause-leading_zeros : goal.returns-clause-leading_zeros
returns-clause-leading_zeros c = leading_zeros_ask

pub returns-clause-help : goal.returns-clause-help
returns-clause-help c = help_asks

pub returns-clause-no_words : goal.returns-clause-no_words
returns-clause-no_words c = no_words_are_bad

pub returns-clause-too_many : goal.returns-clause-too_many
returns-clause-too_many c = too_many_are_bad

pub returns-clause-no_handle : goal.returns-clause-no_handle
returns-clause-no_handle c = no_handle_is_bad

pub returns-clause-handle_64 : goal.returns-clause-handle_64
returns-clause-handle_64 c = handle_64_is_bad

pub returns-clause-no_help : goal.returns-clause-no_help
returns-clause-no_help c = help_is_no_word

pub returns-clause-check : goal.returns-clause-check
returns-clause-check c = check_asks

pub returns-clause-check_of_a_file : goal.returns-clause-check_of_a_file
returns-clause-check_of_a_file c = check_of_a_file_is_bad

pub returns-clause-draw : goal.returns-clause-draw
returns-clause-draw c = draw_asks

pub returns-clause-live : goal.returns-clause-live
returns-clause-live c = live_asks

pub returns-clause-live_with_a_word : goal.returns-clause-live_with_a_word
returns-clause-live_with_a_word c = live_with_a_word_is_bad

pub returns-clause-left : goal.returns-clause-left
returns-clause-left c = left_asks

pub returns-clause-left_with_a_word : goal.returns-clause-left_with_a_word
returns-clause-left_with_a_word c = left_with_a_word_is_bad

pub returns-clause-steps : goal.returns-clause-steps
returns-clause-steps c = steps_ask

pub returns-clause-packets : goal.returns-clause-packets
returns-clause-packets c = packets_ask

pub returns-clause-both : goal.returns-clause-both
returns-clause-both c = both_ask

pub returns-clause-both_turned : goal.returns-clause-both_turned
returns-clause-both_turned c = both_turned_ask

pub returns-clause-rounds : goal.returns-clause-rounds
returns-clause-rounds c = rounds_ask

pub returns-clause-no_rounds : goal.returns-clause-no_rounds
returns-clause-no_rounds c = no_rounds_are_bad

pub returns-clause-part : goal.returns-clause-part
returns-clause-part c = part_asks

pub returns-clause-step_0 : goal.returns-clause-step_0
returns-clause-step_0 c = step_0_is_bad

pub returns-clause-capture : goal.returns-clause-capture
returns-clause-capture c = capture_asks

pub returns-clause-devices : goal.returns-clause-devices
returns-clause-devices c = devices_ask

pub returns-clause-capture_of_a_file : goal.returns-clause-capture_of_a_file
returns-clause-capture_of_a_file c = capture_of_a_file_is_bad

pub returns-clause-devices_of_a_file : goal.returns-clause-devices_of_a_file
returns-clause-devices_of_a_file c = devices_of_a_file_are_bad

pub returns-clause-page : goal.returns-clause-page
returns-clause-page c = page_asks

pub returns-clause-explain : goal.returns-clause-explain
returns-clause-explain c = explain_asks

pub returns-clause-test : goal.returns-clause-test
returns-clause-test c = test_asks

pub returns-clause-device : goal.returns-clause-device
returns-clause-device c = device_asks

pub returns-clause-describe : goal.returns-clause-describe
returns-clause-describe c = describe_asks

pub returns-clause-test_with_a_word : goal.returns-clause-test_with_a_word
returns-clause-test_with_a_word c = test_with_a_word_is_bad

pub returns-clause-devices_of_a_scenario : goal.returns-clause-devices_of_a_scenario
returns-clause-devices_of_a_scenario c = devices_scenario_ask
