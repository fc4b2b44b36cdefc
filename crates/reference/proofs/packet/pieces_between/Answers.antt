-- The pieces of what is left are those between.
use Rattle.std.proofs.Common.{◌≡◌, ◌*◌, ◌-◌, rules}
use Rattle.std.proofs.lemmas.Result.{IfOk-weaker}
use Rattle.reference.proofs.Pieces.{between}
use Rattle.reference.proofs.packet.pieces_between.Goals as goal

pub returns : goal.returns
returns c k few =
    let front : c.in_ok-front.front ≡ c.args.from * c.args.size = search rules in
    let pieces = rw (c.past.ensures, c.saturating_sub.ensures, front) at c.first_pieces.ensures in
    IfOk-weaker c.first_pieces.result _ _ (λ v all. between c.args.size c.args.from c.args.to k c.args.bytes.now v.items few all) pieces
