use Rattle.usb_scripttext.proofs.Prefixes.{strips}
use Rattle.usb_scripttext.proofs.prefix.behind.Goals as goal

pub returns : goal.returns
returns c = strips c.args.begin.now c.args.word.now c.strip_prefix.result c.strip_prefix.ensures.cases
