-- The words of a line stand between its spaces.
use Rattle.std.proofs.Common.{◌≡◌, IfOk, ap, ◌∙◌, subst, lit<}
use Rattle.std.proofs.lemmas.Iterator.Splits.{YieldsList-from_str_split}
use Rattle.std.proofs.lemmas.Iterator.Consumers.{map_from_collect}
use Rattle.usb_scripttext.specs.Words.{words_of, words_in}
use Rattle.usb_devicetext.proofs.reason.of_text.Goals as goal

pub of_words-requires : goal.of_words-requires
of_words-requires c =
    let text = c.args.text.now in
    let got = map_from_collect c.collect.result c.collect.ensures.ran (YieldsList-from_str_split {s = c.split.result} 32 text (lit< tt) c.split.ensures.text c.split.ensures.has_more c.split.ensures.pattern) in
    ap words_of c.as_slice.ensures.value ∙ subst (λ r. IfOk r (λ w. words_of w.items ≡ words_in text)) c.in_ok-words.was got
