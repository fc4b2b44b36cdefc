use Rattle.std.proofs.Common.{◌≡◌, ◌≤◌, ◌+◌, ◌*◌, arith, refl, sym, ap, ◌∙◌}
use Rattle.usb_device.proofs.Skims.{behind_more, none_read, none_whole, read_more, whole_more, none_pipe}
use Rattle.usb_device.proofs.pipe.TablePipe.skim_in.Goals as goal

pub loop-count-init : goal.loop-count-init
loop-count-init c = record {
  whole = none_whole c.args.size c.args.self.now;
  pipe = none_pipe c.args.self.now;
  bytes = none_read c.args.bytes.now.items c.args.self.now;
  capacity = omega arith;
  lent = refl;
  length = omega arith;
}

pub loop-count-preserved : goal.loop-count-preserved
loop-count-preserved c =
    let k = c.loop-count.count in
    let p = c.args.self.now in
    let q = c.loop-count.self in
    let met = c.skim_one_in.ensures.met c.if-not-skim_one_in.false in
    let so_far = c.loop-count.invariant in
    record {
      whole = whole_more c.args.size k p q so_far.pipe so_far.whole met.0;
      pipe = behind_more k p q c.skim_one_in.new.self so_far.pipe met.1;
      bytes = read_more k p q c.args.bytes.now.items c.loop-count.bytes.items c.skim_one_in.new.bytes.items so_far.pipe so_far.bytes met.2;
      capacity = omega (arith, so_far.capacity, c.skim_one_in.ensures.capacity);
      lent = c.skim_one_in.ensures.lent ∙ so_far.lent;
      length = omega (arith, so_far.length, met.3);
    }
