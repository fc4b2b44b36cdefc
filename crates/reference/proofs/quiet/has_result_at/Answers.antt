-- The name's pieces are tested where they stand.
use Rattle.usb_model.specs.Machine.{is_result_at}
use Rattle.reference.proofs.OfName.{any_of_name}
use Rattle.reference.proofs.quiet.has_result_at.Goals as goal

pub returns : goal.returns
returns c = rw (any_of_name (is_result_at c.args.ep) c.args.h c.args.results.now) c.is_any_at.ensures
