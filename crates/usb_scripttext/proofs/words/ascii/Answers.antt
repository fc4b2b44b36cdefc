use Rattle.std.proofs.Common.{sym}
use Rattle.usb_scripttext.proofs.Texts.{ascii_taken}
use Rattle.usb_scripttext.proofs.words.ascii.Goals as goal

pub returns-then-is_ascii : goal.returns-then-is_ascii
returns-then-is_ascii c = ascii_taken _ c.args.bytes.now c.from_utf8.result c.ok.result (sym c.if-is_ascii.ensures) c.ok.ensures.value c.from_utf8.ensures.cases
