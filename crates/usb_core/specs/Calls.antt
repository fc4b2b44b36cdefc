-- Which steps take memory.
use Rattle.std.specs.Prelude.{Bool, true}
use Rattle.usb_model.specs.declared.step.Step.{Step}
use Rattle.usb_model.specs.declared.step.Step.TheVariants.{Take}
use Rattle.usb_model.specs.Numbers.{takes_payload}

-- the steps that take memory: those with which a payload is kept, and a result that goes out
abbrev pub takes_memory : Step → Bool
takes_memory Take = true
takes_memory step = takes_payload step
