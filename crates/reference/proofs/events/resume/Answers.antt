use Rattle.std.proofs.Common.{rules}
use Rattle.usb_model.specs.Endpoint.Deliver.{resume}
use Rattle.reference.proofs.events.resume.Goals as goal

pub returns : goal.returns
unfolding resume
returns c = search rules
