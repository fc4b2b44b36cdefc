use Rattle.std.proofs.Common.{rules}
use Rattle.reference.proofs.calls.submit.Goals as goal

pub returns : goal.returns
returns c = search rules fits 100
