-- Packets in a row are turns of the world.
use Rattle.std.proofs.Common.{refl, rules}
use Rattle.tirnouch_c.proofs.Rows.{row_is}
use Rattle.tirnouch_c.proofs.packets.serve_row.Goals as goal

pub returns : goal.returns
returns c =
    let row = row_is c.args.dev c.args.ep c.args.most c.serve_burst-burst.result c.goes_on-further.ensures.0 c.goes_on-further.result c.args.session.now (record c.args.session.now { core = c.serve_burst-burst.new.self }) c.requires c.serve_burst-burst.ensures.turned c.serve_burst-burst.ensures.few c.goes_on-further.ensures.1 c.serve_burst-burst.ensures.carries (refl, refl) in
    search rules
