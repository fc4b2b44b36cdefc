use Rattle.std.proofs.Common.{◌≡◌, drop}
use Rattle.usb_model.specs.Endpoint.Packets.{without_naks}
use Rattle.trace_explain.proofs.answers.first_answer.Given as goal

-- all so far are naks
abbrev pub invariant-loop-i : goal.invariant-loop-i
invariant-loop-i l = without_naks l.share ≡ without_naks (drop l.i l.share)
