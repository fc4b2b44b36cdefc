-- Where memory is refused nothing is tested.
use Rattle.std.proofs.Common.{Err, inl}
use Rattle.trace_io.specs.declared.fault.Fault.TheVariants.{Memory}
use Rattle.trace_command.proofs.input_test.test_input.Goals as goal

pub returns-in_default : goal.returns-in_default
returns-in_default g c = (Err Memory, tt, inl c.status_of.ensures.status)
