-- A verdict fits a rule in one way at most, which a ghost field asks of what it keeps.
use Rattle.std.specs.Prelude.{ℕ}
use mathlib.Core.HLevel.{Unit-prop}
use mathlib.Core.Sum.{⊎_set}
use denote.Struct.Props as logic
use Rattle.usb_model.specs.declared.status.Status.{Status}
use Rattle.usb_model.specs.declared.verdict.Rule.{Rule}
use Rattle.usb_model.specs.declared.verdict.Rule.TheVariants.{Free, Again}
use Rattle.usb_model.specs.declared.verdict.Verdict.{Verdict}
use Rattle.usb_model.specs.World.Plans.{FitsRule, verdict_of}

verdict_set : IsSet Verdict
verdict_set = Prim.hlevel (⊎_set, logic.props)

pub FitsRule-prop : (rule : Rule) (status : Status) (round : ℕ) (v : Verdict) → IsProp (FitsRule rule status round v)
FitsRule-prop Free status round v = Unit-prop
FitsRule-prop (Again on rounds) status round v = verdict_set v (verdict_of (Again on rounds) status round)
