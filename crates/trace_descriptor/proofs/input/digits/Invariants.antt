-- With the digits of the rest they are all.
use Rattle.std.proofs.Common.{◌≡◌, ◌++◌, length}
use Rattle.trace_descriptor.specs.Input.{digits}
use Rattle.trace_descriptor.proofs.input.digits.Given as goal

abbrev pub invariant-numbers : goal.invariant-numbers
invariant-numbers l = l.found.items ++ digits l.rest ≡ digits l.fn.text

abbrev pub decreases-numbers : goal.decreases-numbers
decreases-numbers l = length l.rest
