use Rattle.std.proofs.Common.{◌≡◌}
use Rattle.crossbeam_channel.specs.Claims.{IsSeatAt}
use Rattle.crossbeam_channel.specs.Ends.{sends_on}
use Rattle.trace_live.specs.Lines.{known}
use Rattle.trace_live.proofs.queue.send_all.Given as goal

abbrev pub invariant-loop-line : goal.invariant-loop-line
invariant-loop-line g l = IsSeatAt (sends_on l.initial.sender) l.pass × (known l.pass ≡ l.yielded)
