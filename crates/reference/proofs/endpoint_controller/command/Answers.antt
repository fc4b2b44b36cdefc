use Rattle.std.proofs.Common.{rules}
use Rattle.usb_model.specs.Endpoint.Command.{command}
use Rattle.reference.proofs.endpoint_controller.command.Goals as goal

pub returns-in_default : goal.returns-in_default
unfolding command
returns-in_default c = search rules fits 100
