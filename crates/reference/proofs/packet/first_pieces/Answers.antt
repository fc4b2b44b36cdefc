-- Each turn cuts one piece more.
use Rattle.std.proofs.Common.{◌<◌, arith}
use Rattle.reference.proofs.Walks.{cut_more}
use Rattle.reference.proofs.packet.first_pieces.Goals as goal

pub loop-preserved : goal.loop-preserved
loop-preserved c =
    let more : c.loop.counter < c.args.count = omega arith in
    rw (c.in_ok-push.ensures.items, c.in_ok-first_piece.ensures, c.past-rest.ensures)
    (cut_more c.args.size c.args.count c.loop.counter c.args.bytes.now _ _ more c.loop.invariant)
