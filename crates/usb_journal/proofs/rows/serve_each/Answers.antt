use Rattle.std.proofs.Common.{◌≡◌, ◌+◌, ◌-◌, arith, subst, sym}
use Rattle.usb_model.specs.declared.step.Step.TheVariants.{Serve}
use Rattle.usb_journal.specs.Booked.{world_where}
use Rattle.usb_journal.proofs.Bursts.{burst_ended, burst_goes_on, burst_halts, burst_stops, none_progress, progress_goes_on}
use Rattle.usb_journal.proofs.InRows.{makes_count, makes_more, makes_none, none_ended}
use Rattle.usb_journal.proofs.rows.serve_each.Goals as goal

pub loop-count-init : goal.loop-count-init
loop-count-init g c =
    let setup = g.L.Naming.setup in
    let all : c.args.most ≡ c.args.most - 0 = omega arith in
    record {
      row = makes_none setup c.args.moment c.args.core.now c.args.log.now.journal c.args.position.now c.requires.seen c.requires.run;
      count = omega arith;
      few = omega arith;
      room = subst (λ n. g.J.Recorder.has_room c.args.log.now.recorder n 0) all c.requires.room.1;
      ended = sym (none_ended setup (world_where setup c.args.log.now.journal));
      on = none_progress setup (world_where setup c.args.log.now.journal);
    }

pub returns-then-may_stop-clause-row : goal.returns-then-may_stop-clause-row
returns-then-may_stop-clause-row g c =
    let l = c.loop-count in
    let s = c.serve_row-burst in
    makes_more g.L.Naming.setup c.args.moment l.count (s.result.full + 1) (Serve c.args.dev c.args.ep) c.args.core.now c.args.log.now.journal c.args.position.now l.core l.log.journal l.position s.new.core s.new.log.journal s.new.position l.invariant.row s.ensures.row

pub returns-then-may_stop-clause-ends : goal.returns-then-may_stop-clause-ends
returns-then-may_stop-clause-ends g c = λ fewer.
    let setup = g.L.Naming.setup in
    let l = c.loop-count in
    let s = c.serve_row-burst in
    let w = world_where setup s.new.log.journal in
    burst_stops setup c.args.moment c.args.dev c.args.ep l.count c.args.core.now c.args.log.now.journal c.args.position.now l.core l.log.journal l.position s.result l.invariant.row s.ensures.entries w (c.may_stop.ensures.stops setup w s.ensures.row.run.1 c.if-may_stop.true)

pub returns-then-may_stop-clause-ended : goal.returns-then-may_stop-clause-ended
returns-then-may_stop-clause-ended g c =
    let l = c.loop-count in
    let s = c.serve_row-burst in
    burst_ended g.L.Naming.setup c.args.moment c.args.dev c.args.ep l.count c.args.core.now c.args.log.now.journal c.args.position.now l.core l.log.journal l.position s.result l.invariant.row s.ensures.entries
    l.ended c.or_ends-ended.result c.or_ends-ended.ensures l.invariant.ended

pub loop-count-preserved-else-may_stop : goal.loop-count-preserved-else-may_stop
loop-count-preserved-else-may_stop g c =
    let setup = g.L.Naming.setup in
    let l = c.loop-count in
    let s = c.serve_row-burst in
    let more = s.result.full + 1 in
    let step = Serve c.args.dev c.args.ep in
    let row = makes_more setup c.args.moment l.count more step c.args.core.now c.args.log.now.journal c.args.position.now l.core l.log.journal l.position s.new.core s.new.log.journal s.new.position l.invariant.row s.ensures.row in
    let left : c.args.most - l.count - more ≡ c.args.most - (l.count + more) = omega arith in
    record {
      row = row;
      count = makes_count setup c.args.moment (l.count + more) step c.args.core.now c.args.log.now.journal c.args.position.now s.new.core s.new.log.journal s.new.position row;
      few = omega (arith, s.ensures.few, c.loop-count-test.true);
      room = subst (λ n. g.J.Recorder.has_room s.new.log.recorder n 0) left s.ensures.room;
      ended = burst_ended setup c.args.moment c.args.dev c.args.ep l.count c.args.core.now c.args.log.now.journal c.args.position.now l.core l.log.journal l.position s.result l.invariant.row s.ensures.entries l.ended c.or_ends-ended.result c.or_ends-ended.ensures l.invariant.ended;
      on = burst_goes_on setup c.args.moment c.args.dev c.args.ep l.count c.args.core.now c.args.log.now.journal c.args.position.now l.core l.log.journal l.position s.result l.invariant.row s.ensures.entries l.invariant.on (c.may_stop.ensures.on c.if-may_stop.false);
    }

pub loop-count-preserved : goal.loop-count-preserved
loop-count-preserved g c =
    let setup = g.L.Naming.setup in
    let l = c.loop-count in
    let s = c.serve_row-burst in
    let more = s.result.full + 1 in
    let step = Serve c.args.dev c.args.ep in
    let row = makes_more setup c.args.moment l.count more step c.args.core.now c.args.log.now.journal c.args.position.now l.core l.log.journal l.position s.new.core s.new.log.journal s.new.position l.invariant.row s.ensures.row in
    let left : c.args.most - l.count - more ≡ c.args.most - (l.count + more) = omega arith in
    record {
      row = row;
      count = makes_count setup c.args.moment (l.count + more) step c.args.core.now c.args.log.now.journal c.args.position.now s.new.core s.new.log.journal s.new.position row;
      few = omega (arith, s.ensures.few, c.loop-count-test.true);
      room = subst (λ n. g.J.Recorder.has_room s.new.log.recorder n 0) left s.ensures.room;
      ended = burst_ended setup c.args.moment c.args.dev c.args.ep l.count c.args.core.now c.args.log.now.journal c.args.position.now l.core l.log.journal l.position s.result l.invariant.row s.ensures.entries l.ended c.or_ends-ended.result c.or_ends-ended.ensures l.invariant.ended;
      on = burst_goes_on setup c.args.moment c.args.dev c.args.ep l.count c.args.core.now c.args.log.now.journal c.args.position.now l.core l.log.journal l.position s.result l.invariant.row s.ensures.entries l.invariant.on (c.may_stop.ensures.on c.if-may_stop.false);
    }

pub returns-then-may_stop-clause-on : goal.returns-then-may_stop-clause-on
returns-then-may_stop-clause-on g c =
    let l = c.loop-count in
    let s = c.serve_row-burst in
    burst_halts g.L.Naming.setup c.args.moment c.args.dev c.args.ep l.count c.args.core.now c.args.log.now.journal c.args.position.now l.core l.log.journal l.position s.result l.invariant.row s.ensures.entries l.invariant.on

pub returns-clause-on : goal.returns-clause-on
returns-clause-on g c = progress_goes_on _ c.loop-count.invariant.on
