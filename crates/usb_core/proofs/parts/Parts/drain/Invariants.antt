-- So many were drained so far.
use Rattle.refine_core.specs.Payloads.{StillCarries}
use Rattle.usb_core.proofs.Drains.{Drained}
use Rattle.usb_core.proofs.parts.Parts.drain.Given as goal

abbrev pub invariant-loop-done : goal.invariant-loop-done
invariant-loop-done g l = record {
  drained : Drained l.initial.self l.done l.self;
  carries : StillCarries l.initial.self l.self;
}
