use Rattle.usb_model.specs.declared.step.Step.TheVariants.{Command, Deliver}
use Rattle.std.proofs.Common.{◌≡◌}
use Rattle.usb_core.specs.Public.{does_something}
use Rattle.usb_journal.specs.Booked.{world_where}
use Rattle.usb_library.proofs.CallWakes.{at_ok, event_wakes, of_call}
use Rattle.usb_library.proofs.library.Library.deliver.Goals as goal

pub wake_if-requires : goal.wake_if-requires
wake_if-requires g c =
    let e = c.delivered.ensures in
    let there = c.in_ok-answered in
    let order = at_ok (λ y. y.1 ≡ does_something g.L.Naming.setup (world_where g.L.Naming.setup c.delivered.new.caller.seen) Command) c.delivered.result (there.answered, there.has_order) there.was e.order in
    let last = of_call g.L.Naming.setup Deliver c.args.caller.now c.delivered.new.caller (λ y. y.0.receipt) (λ y. y.0.entry) c.delivered.result (there.answered, there.has_order) there.was e.made e.entry in
    event_wakes g.L.Naming.setup c.delivered.new.caller.seen there.answered.receipt there.answered.entry c.has_changed-changed.result there.has_order c.of_event-work.result last c.has_changed-changed.ensures order c.of_event-work.ensures
