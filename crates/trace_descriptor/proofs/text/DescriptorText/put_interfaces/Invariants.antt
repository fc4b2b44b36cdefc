-- With the comments on the interfaces that are left they are all.
use Rattle.std.proofs.Common.{◌≡◌, ◌++◌, drop}
use Rattle.std.specs.List.{flat_map}
use Rattle.trace_descriptor.specs.Lines.{interface_comments}
use Rattle.trace_descriptor.proofs.text.DescriptorText.put_interfaces.Given as goal

abbrev pub invariant-loop-number : goal.invariant-loop-number
invariant-loop-number l =
    l.self ++ flat_map (interface_comments l.endpoints l.settings) (drop l.number-index l.numbers) ≡ l.fn.self ++ flat_map (interface_comments l.endpoints l.settings) l.numbers
