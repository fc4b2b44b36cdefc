-- The lines of a text stand between its line feeds.
use Rattle.std.proofs.Common.{◌≡◌, ◌==◌, IfOk, ap, ◌∙◌, subst, rules, tests}
use Rattle.std.proofs.lemmas.Iterator.Splits.{YieldsList-from_slice_split}
use Rattle.std.proofs.lemmas.Iterator.Consumers.{map_from_collect}
use Rattle.usb_scripttext.specs.Words.{words_of}
use Rattle.usb_devicetext.specs.Lines.{lines_in}
use Rattle.usb_devicetext.proofs.complaint.reason_at.Goals as goal

pub reason_in-requires : goal.reason_in-requires
reason_in-requires c =
    let text = c.args.text.now in
    let got = map_from_collect c.collect.result c.collect.ensures.ran (YieldsList-from_slice_split {s = c.split.result} _ (λ b. b == 10) text (cc) (cc) (cc) (λ x b q k. search (rules, tests))) in
    ap words_of c.as_slice.ensures.value ∙ subst (λ r. IfOk r (λ w. words_of w.items ≡ lines_in text)) c.in_ok-lines.was got
