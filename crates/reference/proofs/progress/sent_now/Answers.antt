-- The pieces between are those of the request.
use Rattle.reference.proofs.Opens.{pieces_at}
use Rattle.reference.proofs.progress.sent_now.Goals as goal

pub returns-in-Out : goal.returns-in-Out
returns-in-Out c share ps are =
    let moved = rw c.in-Out.is at are in
    let pieces = pieces_at c.args.request.now c.args.size c.args.progress.after c.in-Out.bytes moved.1 in
    let between = rw c.as_slice.ensures at (c.pieces_between.ensures pieces.0 pieces.1) in
    rw (c.in-Out.is, pieces.2) between
