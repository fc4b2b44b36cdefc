-- What stands at the id of a plain address; none at another.
use Rattle.std.proofs.Common.{sym, ◌∙◌, arith}
use Rattle.usb_tables.proofs.Endpoints.{indexed_none, indexed_is}
use Rattle.usb_tables.proofs.endpoint_table.EndpointTable.get.Goals as goal

pub returns-then-address-ge16 : goal.returns-then-address-ge16
returns-then-address-ge16 c = indexed_none c.args.self.now c.args.dev c.args.ep (omega arith)

pub returns : goal.returns
returns c = c.at.ensures ∙ (rw c.id.ensures (sym (indexed_is c.args.self.now c.args.dev c.args.ep (omega arith) (omega arith))))
