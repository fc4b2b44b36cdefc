-- The TRBs have the lengths that the definition gives them.
use Rattle.std.proofs.Common.{length, ap, ◌∙◌}
use Rattle.usb_tables.specs.Trbs.{lengths_in}
use Rattle.usb_tables.proofs.Pieces.{normals_at_lengths, normals_at_count, normals_at_some}
use Rattle.usb_tables.proofs.tds.Tds.trbs.Goals as goal

pub returns-clause-lengths : goal.returns-clause-lengths
returns-clause-lengths c = ap lengths_in c.several.ensures ∙ normals_at_lengths c.buffer_of-address.result c.args.self

pub returns-clause-count : goal.returns-clause-count
returns-clause-count c = ap length c.several.ensures ∙ normals_at_count c.buffer_of-address.result c.args.self

pub returns-clause-some : goal.returns-clause-some
returns-clause-some c = rw c.several.ensures (normals_at_some c.buffer_of-address.result c.args.self)
