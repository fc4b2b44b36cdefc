use Rattle.usb_scripttext.proofs.Texts.{ascii_tested}
use Rattle.usb_scripttext.proofs.words.is_ascii.Goals as goal

pub returns : goal.returns
returns c = ascii_tested c.is_ascii.result c.args.bytes.now c.is_ascii.ensures.cases
