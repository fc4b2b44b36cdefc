-- With the digits of the rest they are all.
use Rattle.std.proofs.Common.{◌≡◌, ◌++◌, length}
use Rattle.std.specs.List.{flat_map}
use Rattle.trace_recorded.specs.DescribedFiles.{digits_at}
use Rattle.trace_recorded.proofs.described_file.digits.Given as goal

abbrev pub invariant-bytes : goal.invariant-bytes
invariant-bytes l = l.found.items ++ flat_map digits_at l.rest ≡ flat_map digits_at l.fn.text

abbrev pub decreases-bytes : goal.decreases-bytes
decreases-bytes l = length l.rest
