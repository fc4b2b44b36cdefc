use Rattle.std.proofs.Common.{rules}
use Rattle.usb_descriptors.proofs.config.Config.endpoints.Goals as goal

pub returns-clause-value : goal.returns-clause-value
returns-clause-value c = search rules fits 100

pub returns-clause-table : goal.returns-clause-table
returns-clause-table c = search rules fits 100
