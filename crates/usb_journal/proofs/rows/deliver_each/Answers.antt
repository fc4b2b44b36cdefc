use Rattle.std.proofs.Common.{◌≡◌, ◌∙◌, ◌+◌, ◌-◌, Bool, ap, ap₂, arith, refl, subst, sym}
use Rattle.std.specs.Prelude.{◌&&◌, replicate}
use Rattle.usb_model.specs.declared.step.Step.TheVariants.{Deliver}
use Rattle.usb_model.specs.World.Journal.{run_from}
use Rattle.usb_journal.specs.Booked.{world_where}
use Rattle.usb_journal.specs.Rows.{is_quiet}
use Rattle.usb_journal.proofs.InRows.{makes_count, makes_more, makes_none, quiet_more, world_behind}
use Rattle.usb_journal.proofs.rows.deliver_each.Goals as goal

pub loop-done-init : goal.loop-done-init
loop-done-init g c =
    let all : c.args.most ≡ c.args.most - 0 = omega arith in
    record {
      row = makes_none g.L.Naming.setup c.args.moment c.args.core.now c.args.log.now.journal c.args.position.now c.requires.seen c.requires.run;
      count = omega arith;
      room = subst (λ n. g.J.Recorder.has_room c.args.log.now.recorder n 0) all c.requires.room.1;
      quiet = refl;
    }

pub loop-done-preserved : goal.loop-done-preserved
loop-done-preserved g c =
    let setup = g.L.Naming.setup in
    let w = world_where setup c.args.log.now.journal in
    let n = c.loop-done.done in
    let i = c.loop-done.invariant in
    let d = c.deliver_next-quiet in
    let row = makes_more setup c.args.moment n 1 Deliver c.args.core.now c.args.log.now.journal c.args.position.now c.loop-done.core c.loop-done.log.journal c.loop-done.position d.new.core d.new.log.journal d.new.position i.row d.ensures.row in
    let world = world_behind c.args.position.now.number c.args.moment (replicate n Deliver) (run_from setup w (replicate n Deliver)) c.args.log.now.journal c.args.position.now c.loop-done.log.journal c.loop-done.position i.row.row setup in
    let left : c.args.most - n - 1 ≡ c.args.most - (n + 1) = omega arith in
    record {
      row = row;
      count = makes_count setup c.args.moment (n + 1) Deliver c.args.core.now c.args.log.now.journal c.args.position.now d.new.core d.new.log.journal d.new.position row;
      room = subst (λ k. g.J.Recorder.has_room d.new.log.recorder k 0) left (d.ensures.room (c.args.most - n) i.room);
      quiet = d.ensures.quiet ∙ (ap₂ (λ (a b : Bool). a && b) i.quiet (ap (is_quiet setup) world) ∙ sym (quiet_more setup w n));
    }
