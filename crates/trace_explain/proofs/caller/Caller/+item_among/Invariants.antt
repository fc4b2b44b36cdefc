use Rattle.std.proofs.Common.{length}
use Rattle.trace_explain.proofs.caller.Caller.+item_among.Given as goal

-- the endpoints that are left
abbrev pub decreases-item_among : goal.decreases-item_among
decreases-item_among l = length l.infos.now
