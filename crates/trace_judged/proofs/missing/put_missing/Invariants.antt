use Rattle.std.proofs.Common.{◌≡◌, ◌++◌, take}
use Rattle.std.specs.List.{flat_map}
use Rattle.std.specs.Option.{option_to_list}
use Rattle.reference.specs.System.{world_of}
use Rattle.usb_model.specs.Setup.{endpoints_of}
use Rattle.trace_judged.specs.Missing.{missing_at}
use Rattle.trace_judged.proofs.missing.put_missing.Given as goal

abbrev pub invariant-loop-info : goal.invariant-loop-info
invariant-loop-info l =
    l.missing.items ≡ l.initial.missing.items ++ flat_map (λ info. option_to_list (missing_at l.lines (world_of l.setup l.system) l.dev info.address)) (take l.info-index (endpoints_of l.setup l.dev))
