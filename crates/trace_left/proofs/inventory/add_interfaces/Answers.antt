-- An interface further each turn.
use Rattle.std.proofs.Common.{◌++◌, ap, get_or, refl, ◌∙◌}
use Rattle.std.proofs.lemmas.List.{take_all}
use Rattle.std.specs.List.{flat_map}
use Rattle.trace_left.specs.Gathered.{held_read}
use Rattle.trace_left.proofs.Lists.{one_further}
use Rattle.trace_left.proofs.inventory.add_interfaces.Goals as goal

pub loop-interface-preserved : goal.loop-interface-preserved
loop-interface-preserved g c = λ setup w shown.
    let i = get_or c.args.interfaces.now c.loop-interface.interface-index 0 in
    one_further (λ i. held_read c.args.h i (w.claims c.args.dev i)) c.args.left.now.items c.loop-interface.left.items c.add_held.new.left.items c.args.interfaces.now c.loop-interface.interface-index i 0 c.loop-interface-test.true refl
    (c.loop-interface.invariant setup w shown) (c.in_ok-add_held.ensures ∙ ap (λ o. c.loop-interface.left.items ++ held_read c.args.h i o) (c.owner.ensures setup w shown))

pub returns : goal.returns
returns g c = λ setup w shown.
    c.loop-interface.invariant setup w shown
    ∙ ap (λ l. c.args.left.now.items ++ flat_map (λ i. held_read c.args.h i (w.claims c.args.dev i)) l) (take_all c.loop-interface.interface-index c.args.interfaces.now c.loop-interface-test.false)
