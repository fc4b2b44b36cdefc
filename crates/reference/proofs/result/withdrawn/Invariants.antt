use Rattle.std.proofs.Common.{◌≡◌, ◌++◌, drop}
use Rattle.usb_model.specs.Endpoint.Deliver.{withdrawn}
use Rattle.reference.proofs.result.withdrawn.Given as goal

-- the results so far, and those of the transfers that are left
abbrev pub invariant-loop-item : goal.invariant-loop-item
invariant-loop-item l = withdrawn l.size l.line ≡ l.results.items ++ withdrawn l.size (drop l.item-index l.line)
