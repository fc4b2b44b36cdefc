-- A configuration's addresses are plain.
use Rattle.usb_tables.proofs.Endpoints.{unnumbered}
use Rattle.usb_tables.proofs.endpoint_table.interface_in.Goals as goal

pub returns-clause-plain : goal.returns-clause-plain
returns-clause-plain c = λ e odd. unnumbered e c.args.config.now.endpoints c.endpoints.ensures.table.numbered odd
