-- A word more, behind a space.
use Rattle.usb_devicetext.proofs.Lists.{spaced_more}
use Rattle.usb_devicetext.proofs.text.spaced.Goals as goal

pub loop-word-preserved : goal.loop-word-preserved
loop-word-preserved c = spaced_more c.args.words.now c.loop-word.word-index _ _ _ _ c.loop-word-test.true c.loop-word.invariant c.in_ok-push_wide.ensures c.in_ok-push_wide-2.ensures
