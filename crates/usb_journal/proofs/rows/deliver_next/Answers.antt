use Rattle.std.proofs.Common.{◌∙◌, ap, arith, refl}
use Rattle.std.specs.Prelude.{◌&&◌, not}
use Rattle.usb_model.specs.declared.entry.Entry.{Entry}
use Rattle.usb_model.specs.declared.step.Step.TheVariants.{Command, Deliver}
use Rattle.usb_model.specs.World.{turn}
use Rattle.usb_core.specs.Public.{does_something}
use Rattle.usb_journal.specs.Booked.{world_where}
use Rattle.usb_journal.specs.Rows.{is_settled}
use Rattle.usb_journal.proofs.InRows.{makes_one}
use Rattle.usb_journal.proofs.Replies.{no_bytes_of}
use Rattle.usb_journal.proofs.rows.deliver_next.Goals as goal

pub enter-requires-clause-room : goal.enter-requires-clause-room
enter-requires-clause-room g c =
    let none = no_bytes_of g.L.Naming.setup c.args.log.now.journal c.args.core.now c.deliver-entry.new.self c.deliver-entry.result Deliver refl c.deliver-entry.ensures.turned c.requires.run in
    (c.requires.room.0, 0, c.requires.room.3, c.requires.room.1, omega (arith, none))

pub returns-clause-row : goal.returns-clause-row
returns-clause-row g c =
    makes_one g.L.Naming.setup c.args.moment Deliver c.deliver-entry.result c.number-caller.result c.args.core.now c.args.log.now.journal c.args.position.now c.deliver-entry.new.self c.enter.new.self.journal c.enter.new.position c.enter.result refl refl
    c.deliver-entry.ensures.turned c.number-caller.ensures c.enter.ensures.receipt c.enter.ensures.journal c.enter.ensures.position c.enter.ensures.saw c.deliver-entry.ensures.carries c.requires.run

pub returns-clause-quiet : goal.returns-clause-quiet
returns-clause-quiet g c =
    let setup = g.L.Naming.setup in
    let made = c.deliver-entry.ensures.turned setup (world_where setup c.args.log.now.journal) c.requires.run.1 in
    let order = does_something setup (turn setup (world_where setup c.args.log.now.journal) Deliver).world Command in
    c.leaves_nothing.ensures setup _ made.1 ∙ ap (λ (e : Entry). c.args.quiet && (not (is_settled e.reply) && not order)) made.0
