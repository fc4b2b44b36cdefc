use Rattle.std.proofs.Common.{◌≡◌, ◌+◌, ◌-◌, ℕ, length}
use Rattle.std.specs.Prelude.{replicate}
use Rattle.usb_model.specs.declared.step.Step.TheVariants.{Serve}
use Rattle.usb_journal.specs.Entered.{IsRow}
use Rattle.usb_journal.proofs.rows.enter_wholes.Given as goal

abbrev pub invariant-loop : goal.invariant-loop
invariant-loop g l = record {
  row : IsRow l.initial.position.number l.fn.moment (replicate l.counter (Serve l.fn.dev l.fn.ep)) (replicate l.counter l.entry) l.initial.log.journal l.initial.position l.log.journal l.position;
  count : length l.log.journal ≡ length l.initial.log.journal + l.counter;
  room : (places : ℕ) → g.J.Recorder.has_room l.initial.log.recorder places 0 → g.J.Recorder.has_room l.log.recorder (places - l.counter) 0;
}
