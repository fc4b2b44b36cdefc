-- The steps that a handle makes by a call of its own.
use Rattle.std.specs.Prelude.{ℕ, Option, Some, None}
use Rattle.usb_model.specs.declared.step.Step.{Step}
use Rattle.usb_model.specs.declared.step.Step.TheVariants.{Open, Close, Claim, Release, Reset, ClearHalt, Cancel}

-- the handle that makes a step which submits nothing; none of what comes with a payload, and of what workers, clocks and callbacks do
abbrev pub caller_of : Step → Option ℕ
caller_of (Open h dev) = Some h
caller_of (Close h) = Some h
caller_of (Claim h i) = Some h
caller_of (Release h i) = Some h
caller_of (Reset h) = Some h
caller_of (ClearHalt h ep) = Some h
caller_of (Cancel h n) = Some h
caller_of _ = None
