-- The last word fills what is left.
use Rattle.std.proofs.Common.{ℕ, ◌-◌, ◌++◌, List, Bor, arith, length, replicate, ap, ◌∙◌}
use Rattle.std.proofs.lemmas.List.{length-map}
use Rattle.usb_model.specs.Limits.{longest_script}
use Rattle.usb_scripttext.specs.Repeats.{last_of}
use Rattle.usb_scripttext.specs.Words.{words_of}
use Rattle.usb_scripttext.proofs.WrittenOut.{put_more}
use Rattle.usb_scripttext.proofs.repeats.fill.Goals as goal

pub returns : goal.returns
returns c =
    let words = c.args.words.now in
    let long = length-map words.items (λ (word : Bor (List ℕ)). word.now) in
    put_more words.items c.resize.new.self.items c.max.result (longest_script - length (words_of words.items)) words.len c.last_of-last.result c.in_ok-resize.ensures.items words.ok.0
    (omega (arith, long, words.ok.0, c.max.ensures, c.len.ensures))
    ∙ ap (λ w. words_of words.items ++ replicate (longest_script - length (words_of words.items)) w)
    (c.last_of-last.ensures ∙ ap (λ (l : List (Bor (List ℕ))). last_of (words_of l)) c.as_slice.ensures.value)
