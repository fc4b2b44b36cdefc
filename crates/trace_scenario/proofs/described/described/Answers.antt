-- The words of a line are those between its spaces.
use Rattle.std.proofs.Common.{◌≡◌, Some, IfOk, sym, ap, ◌∙◌, subst, lit<}
use Rattle.std.specs.Option.{option_copied}
use Rattle.std.proofs.lemmas.Iterator.Splits.{YieldsList-from_str_split}
use Rattle.std.proofs.lemmas.Iterator.Consumers.{map_from_collect}
use Rattle.usb_scripttext.specs.Words.{words_of, words_in}
use Rattle.usb_scripttext.specs.Words.{ascii_of}
use Rattle.trace_scenario.proofs.DeviceLines.{described_words}
use Rattle.trace_scenario.proofs.described.described.Goals as goal

pub returns : goal.returns
returns c =
    let text = c.in-Some.text.now in
    let got = map_from_collect c.collect.result c.collect.ensures.ran (YieldsList-from_str_split {s = c.split.result} 32 text (lit< tt) c.split.ensures.text c.split.ensures.has_more c.split.ensures.pattern) in
    let parted : words_of c.as_slice.result.now ≡ words_in text =
    ap words_of c.as_slice.ensures.value
    ∙ subst (λ r. IfOk r (λ w. words_of w.items ≡ words_in text)) c.in_ok-words.was got in
    let is : ascii_of c.args.text.now ≡ Some text = sym c.ascii.ensures ∙ ap option_copied c.in-Some.is in
    subst (λ said. IfOk c.described_by.result (λ found. found ≡ said)) (described_words c.args.line c.args.text.now text (words_of c.as_slice.result.now) is parted) c.described_by.ensures
