use Rattle.std.proofs.Common.{◌≡◌, ◌+◌, ◌-◌, ◌≤◌, length}
use Rattle.std.specs.Prelude.{replicate}
use Rattle.usb_model.specs.declared.step.Step.TheVariants.{Serve}
use Rattle.usb_model.specs.World.Journal.{run_from}
use Rattle.usb_journal.specs.Booked.{world_where}
use Rattle.usb_journal.specs.Entered.{DoesRow}
use Rattle.usb_journal.specs.Rows.{AreProgress, ends_any}
use Rattle.usb_journal.proofs.rows.serve_each.Given as goal

abbrev pub invariant-loop-count : goal.invariant-loop-count
invariant-loop-count g l = record {
  row : DoesRow g.L.Naming.setup l.fn.moment (replicate l.count (Serve l.fn.dev l.fn.ep)) l.initial.core l.initial.log.journal l.initial.position l.core l.log.journal l.position;
  count : length l.log.journal ≡ length l.initial.log.journal + l.count;
  few : l.count ≤ l.fn.most;
  room : g.J.Recorder.has_room l.log.recorder (l.fn.most - l.count) 0;
  on : AreProgress (run_from g.L.Naming.setup (world_where g.L.Naming.setup l.initial.log.journal) (replicate l.count (Serve l.fn.dev l.fn.ep)));
  ended : l.ended ≡ ends_any (run_from g.L.Naming.setup (world_where g.L.Naming.setup l.initial.log.journal) (replicate l.count (Serve l.fn.dev l.fn.ep)));
}

abbrev pub decreases-loop-count : goal.decreases-loop-count
decreases-loop-count g l = l.fn.most - l.count
