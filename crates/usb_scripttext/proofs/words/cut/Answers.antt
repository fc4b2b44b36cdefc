-- Each part of a text that is all ASCII is a text.
use Rattle.std.proofs.Common.{◌==◌, length, sym, ◌∙◌, rules, tests}
use Rattle.std.proofs.lemmas.Iterator.Splits.{YieldsList-from_slice_split}
use Rattle.std.proofs.lemmas.Iterator.Consumers.{YieldsList-turn, YieldsList-end}
use Rattle.usb_scripttext.specs.Words.{words_of}
use Rattle.usb_scripttext.proofs.Texts.{cut_whole, word_is_text}
use Rattle.usb_scripttext.proofs.words.cut.Goals as goal

pub from_utf8_unchecked-requires : goal.from_utf8_unchecked-requires
from_utf8_unchecked-requires c =
    let here = YieldsList-turn (YieldsList-from_slice_split {s = c.into_iter-word-iterator.result} _ (λ b. b == 32) c.args.text.now (cc) (cc) (cc) (λ x b q k. search (rules, tests))) c.loop-word.yielded _ c.loop-word.yielded_by _ _ c.in-Some.word c.in-Some.is c.next.ensures.steps in
    word_is_text c.args.text.now (length c.loop-word.yielded) c.in-Some.word.now (sym c.if-not-is_ascii.ensures) here

pub returns : goal.returns
returns c =
    let all = YieldsList-end (YieldsList-from_slice_split {s = c.into_iter-word-iterator.result} _ (λ b. b == 32) c.args.text.now (cc) (cc) (cc) (λ x b q k. search (rules, tests))) c.loop-word.yielded _ c.loop-word.yielded_by _ _ c.in-None.is c.next.ensures.steps in
    cut_whole c.args.text.now (words_of c.loop-word.words.items) (sym c.if-not-is_ascii.ensures) (c.loop-word.invariant ∙ all.0)
