-- The words of a line stand between its spaces.
use Rattle.std.proofs.Common.{◌≡◌, ◌==◌, false, IfOk, ap, ◌∙◌, subst, rules, tests}
use Rattle.std.specs.Option.{option_map_or}
use Rattle.std.proofs.lemmas.Iterator.Splits.{YieldsList-from_slice_split}
use Rattle.std.proofs.lemmas.Iterator.Consumers.{map_from_collect}
use Rattle.usb_scripttext.specs.Words.{words_in, words_of}
use Rattle.usb_devicetext.specs.Alone.{is_saying}
use Rattle.usb_devicetext.specs.FormFault.{topic_in}
use Rattle.usb_devicetext.proofs.alone.begins_saying.Goals as goal

pub returns : goal.returns
returns c =
    let text = c.args.text.now in
    let got = map_from_collect c.collect.result c.collect.ensures.ran (YieldsList-from_slice_split {s = c.split.result} _ (λ b. b == 32) text (cc) (cc) (cc) (λ x b q k. search (rules, tests))) in
    let words = ap words_of c.as_slice.ensures.value ∙ subst (λ r. IfOk r (λ w. words_of w.items ≡ words_in text)) c.in_ok-words.was got in
    c.is_said_by.ensures ∙ ap (λ all. option_map_or is_saying (topic_in all) false) words
