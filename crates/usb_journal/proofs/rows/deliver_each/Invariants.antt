use Rattle.std.proofs.Common.{◌≡◌, ◌+◌, ◌-◌, length}
use Rattle.std.specs.Prelude.{replicate}
use Rattle.usb_model.specs.declared.step.Step.TheVariants.{Deliver}
use Rattle.usb_journal.specs.Booked.{world_where}
use Rattle.usb_journal.specs.Entered.{DoesRow}
use Rattle.usb_journal.specs.Rows.{are_quiet}
use Rattle.usb_journal.proofs.rows.deliver_each.Given as goal

abbrev pub invariant-loop-done : goal.invariant-loop-done
invariant-loop-done g l = record {
  row : DoesRow g.L.Naming.setup l.fn.moment (replicate l.done Deliver) l.initial.core l.initial.log.journal l.initial.position l.core l.log.journal l.position;
  count : length l.log.journal ≡ length l.initial.log.journal + l.done;
  room : g.J.Recorder.has_room l.log.recorder (l.fn.most - l.done) 0;
  quiet : l.quiet ≡ are_quiet g.L.Naming.setup (world_where g.L.Naming.setup l.initial.log.journal) l.done;
}
