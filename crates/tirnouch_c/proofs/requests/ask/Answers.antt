-- The device's answer is told.
use Rattle.std.proofs.Common.{◌≡◌, ◌∙◌, ap, sym, rules}
use Rattle.std.specs.Option.{option_copied}
use Rattle.tirnouch_c.proofs.Requested.{asked}
use Rattle.tirnouch_c.proofs.requests.ask.Goals as goal

pub returns : goal.returns
returns c = asked _ _ c.args.dev c.in-Some.device.now c.args.packet.now _ c.bytes_of.result.now c.args.buffer.now c.fill-moved.new.buffer _ c.fill-moved.result (sym c.device.ensures ∙ ap option_copied c.in-Some.is) c.reply-reply.ensures c.bytes_of.ensures.bytes c.fill-moved.ensures.count c.fill-moved.ensures.filled (search rules) (search rules)
