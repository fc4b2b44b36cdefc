use Rattle.std.proofs.Common.{◌≡◌, Some, IfOk, sym, ap, ◌∙◌, subst, lit<}
use Rattle.std.specs.Option.{option_copied}
use Rattle.std.specs.Result.{result_ok}
use Rattle.std.proofs.lemmas.Iterator.Splits.{YieldsList-from_str_split}
use Rattle.std.proofs.lemmas.Iterator.Consumers.{map_from_collect}
use Rattle.usb_scripttext.specs.Results.{ReadsAs}
use Rattle.usb_scripttext.specs.Words.{words_of, words_in}
use Rattle.usb_scripttext.specs.Words.{ascii_of}
use Rattle.usb_devicetext.proofs.Texts.{by_words}
use Rattle.usb_devicetext.proofs.line.DeskLine.from_text.Goals as goal

pub returns : goal.returns
returns c =
    let text = c.in_ok-text.text.now in
    let got = map_from_collect c.collect.result c.collect.ensures.ran (YieldsList-from_str_split {s = c.split.result} 32 text (lit< tt) c.split.ensures.text c.split.ensures.has_more c.split.ensures.pattern) in
    let cut : words_of c.as_slice.result.now ≡ words_in text =
    ap words_of c.as_slice.ensures.value
    ∙ subst (λ r. IfOk r (λ w. words_of w.items ≡ words_in text)) c.in_ok-words.was got in
    let is : ascii_of c.args.text.now ≡ Some text =
    sym c.ascii.ensures ∙ ap option_copied (c.ok_or.ensures.ok_part ∙ ap result_ok c.in_ok-text.was) in
    subst (ReadsAs c.read.result) (by_words c.args.text.now text _ is cut) c.read.ensures
