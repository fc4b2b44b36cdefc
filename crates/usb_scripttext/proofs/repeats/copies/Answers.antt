-- A word further each turn.
use Rattle.std.proofs.Common.{◌≡◌, ◌++◌, true, false, sym, ◌∙◌}
use Rattle.usb_scripttext.proofs.WrittenOut.{copied_more, still_few, too_many}
use Rattle.usb_scripttext.proofs.repeats.copies.Goals as goal

pub returns-then-not-branch : goal.returns-then-not-branch
returns-then-not-branch c =
    let no : c.in_ok-push_copies.field-0 ≡ false = cc in
    sym (too_many _ _ _ _ c.loop-word-test.true c.loop-word.invariant.0 (sym c.in_ok-push_copies.ensures.fits ∙ no))

pub loop-word-preserved : goal.loop-word-preserved
loop-word-preserved c =
    let yes : c.in_ok-push_copies.field-0 ≡ true = cc in
    let is = c.in_ok-push_copies.ensures.put yes in
    (copied_more _ _ _ _ _ c.loop-word-test.true c.loop-word.invariant.0 is, still_few _ _ _ is (sym c.in_ok-push_copies.ensures.fits ∙ yes))
