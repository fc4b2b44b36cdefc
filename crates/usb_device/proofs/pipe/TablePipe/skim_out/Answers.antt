use Rattle.std.proofs.Common.{◌≡◌, ◌≤◌, ℕ, List, Some, arith, ap, ◌∙◌}
use Rattle.usb_device.specs.Pipe.{Pipe, pipe_after}
use Rattle.usb_device.specs.Skims.{packet_in}
use Rattle.usb_device.proofs.Skims.{given_more, none_given_pipe, none_taken, same_size, taken_more}
use Rattle.usb_device.proofs.pipe.TablePipe.skim_out.Goals as goal

pub loop-count-init : goal.loop-count-init
loop-count-init c = record {
  taken = none_taken c.args.size c.args.bytes.now c.args.self.now;
  pipe = none_given_pipe c.args.size c.args.bytes.now c.args.self.now;
}

pub skim_one_out-requires : goal.skim_one_out-requires
skim_one_out-requires c =
    let same = ap (λ (p : Pipe). p.size) c.loop-count.invariant.pipe ∙ same_size c.args.size c.args.bytes.now c.loop-count.count c.args.self.now in
    record { size = omega (arith, c.packet_in.ensures.size, c.requires.size, same) }

pub loop-count-preserved : goal.loop-count-preserved
loop-count-preserved c =
    let k = c.loop-count.count in
    let bytes = c.args.bytes.now in
    let q = c.loop-count.self in
    let so_far = c.loop-count.invariant in
    let met = c.skim_one_out.ensures.taken c.if-not-skim_one_out.false in
    let out = met.1 ∙ ap (λ (packet : List ℕ). pipe_after (Some packet) q) c.packet_in.ensures.packet in
    record {
      taken = taken_more c.args.size bytes k c.args.self.now q so_far.pipe so_far.taken met.0;
      pipe = given_more c.args.size bytes k c.args.self.now q c.skim_one_out.new.self so_far.pipe out;
    }
