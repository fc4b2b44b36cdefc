use Rattle.std.proofs.Common.{◌+◌, ◌-◌, refl, subst}
use Rattle.std.specs.Prelude.{replicate}
use Rattle.usb_model.specs.declared.step.Step.TheVariants.{Serve}
use Rattle.usb_core.specs.Public.{burst_entries, whole_entries}
use Rattle.usb_journal.specs.Booked.{world_where}
use Rattle.usb_journal.specs.Entered.{IsRow}
use Rattle.usb_journal.proofs.Bursts.{burst_length, last_bytes}
use Rattle.usb_journal.proofs.InRows.{makes_of}
use Rattle.usb_journal.proofs.rows.serve_row.Goals as goal

pub enter_burst-requires-clause-bytes : goal.enter_burst-requires-clause-bytes
enter_burst-requires-clause-bytes g c =
    let setup = g.L.Naming.setup in
    let w = world_where setup c.args.log.now.journal in
    let b = c.serve_burst-burst.result in
    last_bytes setup w (Serve c.args.dev c.args.ep) (b.full + 1) (whole_entries b.each b.full) b.last refl (c.serve_burst-burst.ensures.turned setup w c.requires.run.1).0

pub returns-clause-row : goal.returns-clause-row
returns-clause-row g c =
    let setup = g.L.Naming.setup in
    let w = world_where setup c.args.log.now.journal in
    let b = c.serve_burst-burst.result in
    let count = burst_length setup w (Serve c.args.dev c.args.ep) b (c.serve_burst-burst.ensures.turned setup w c.requires.run.1).0 in
    makes_of setup c.args.moment (b.full + 1) (Serve c.args.dev c.args.ep) (burst_entries b) c.args.core.now c.args.log.now.journal c.args.position.now c.serve_burst-burst.new.self c.enter_burst.new.log.journal c.enter_burst.new.position refl refl c.serve_burst-burst.ensures.turned
    (subst (λ n. IsRow c.args.position.now.number c.args.moment (replicate n (Serve c.args.dev c.args.ep)) (burst_entries b) c.args.log.now.journal c.args.position.now c.enter_burst.new.log.journal c.enter_burst.new.position) count c.enter_burst.ensures.row)
    c.serve_burst-burst.ensures.carries c.requires.run

pub returns-clause-room : goal.returns-clause-room
returns-clause-room g c =
    let setup = g.L.Naming.setup in
    let w = world_where setup c.args.log.now.journal in
    let b = c.serve_burst-burst.result in
    let count = burst_length setup w (Serve c.args.dev c.args.ep) b (c.serve_burst-burst.ensures.turned setup w c.requires.run.1).0 in
    subst (λ n. g.J.Recorder.has_room c.enter_burst.new.log.recorder (c.args.most - n) 0) count (c.enter_burst.ensures.room c.args.most c.requires.room.1)
