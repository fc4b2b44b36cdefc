-- What a stored callback is given, and when its verdict fits.
use Rattle.std.specs.Prelude.{◌<◌, ◌^◌}
use Rattle.usb_model.specs.declared.reply.Returned.{Returned}
use Rattle.usb_model.specs.declared.verdict.Rule.{Rule}
use Rattle.usb_model.specs.declared.verdict.Verdict.{Verdict}
use Rattle.usb_model.specs.World.Plans.{FitsRule}

-- its numbers are in their types' range, as those of each Returned that a program has
abbrev pub InRange : Returned → Type 0
InRange r = (r.h < 64) × (r.n < 2 ^ 64) × (r.ep < 256) × (r.round < 2 ^ 64) × (r.actual < 2 ^ 32)

-- the verdict fits the rule at what came of the transfer
abbrev pub Fits : Rule → Returned → Verdict → Type 0
Fits rule r v = FitsRule rule r.status r.round v
