use Rattle.std.proofs.Common.{◌≡◌, ◌++◌, take}
use Rattle.std.specs.List.{flat_map}
use Rattle.trace_test.specs.Comparison.{first_text, texts_of}
use Rattle.trace_test.specs.Macros.{part_filled, parts_in}
use Rattle.trace_test.proofs.macros.filled.Given as goal

abbrev pub invariant-loop-part : goal.invariant-loop-part
invariant-loop-part l = l.text.items ≡ first_text (parts_in l.body) ++ flat_map (λ part. part_filled (texts_of l.words) part.now) (take l.part-index l.rest)
