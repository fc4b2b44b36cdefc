-- Those so far.
use Rattle.std.proofs.Common.{◌≡◌, replicate}
use Rattle.usb_model.specs.declared.response.Response.TheVariants.{Ack}
use Rattle.trace_recorded.proofs.packets.acknowledgements.Given as goal

abbrev pub invariant-loop : goal.invariant-loop
invariant-loop l = l.answers ≡ replicate l.counter Ack
