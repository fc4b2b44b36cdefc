-- Part by part.
use Rattle.std.proofs.Common.{◌++◌, ◌∙◌, ap, ap₂, map}
use Rattle.std.specs.List.{filter}
use Rattle.trace_left.specs.Gathered.{by_events, is_of}
use Rattle.trace_left.proofs.Lists.{three_parts}
use Rattle.trace_left.proofs.behind.add_joined.Goals as goal

pub returns : goal.returns
returns c =
    let own = filter (is_of c.args.read.now.h) c.args.waiting.now in
    let old = c.args.left.now.items in
    three_parts old (map (by_events own) c.args.read.now.at_device) own c.args.read.now.callbacks c.add_all.new.left.items c.add_all-2.new.left.items c.add_all-3.new.left.items
    (c.in_ok-add_all.ensures ∙ ap (λ l. old ++ l) (c.as_slice-3.ensures.value ∙ (c.in_ok-at_device.ensures ∙ ap₂ (λ a b. map (by_events a) b) (c.as_slice-2.ensures.value ∙ c.in_ok-own.ensures) c.as_slice.ensures)))
    (c.in_ok-add_all-2.ensures ∙ ap (λ l. c.add_all.new.left.items ++ l) (c.as_slice-4.ensures.value ∙ c.in_ok-own.ensures))
    (c.in_ok-add_all-3.ensures ∙ ap (λ l. c.add_all-2.new.left.items ++ l) c.as_slice-5.ensures)
