-- A place further each turn.
use Rattle.std.proofs.Common.{◌++◌, ◌∙◌, ap, arith}
use Rattle.std.proofs.lemmas.List.{take_all}
use Rattle.trace_left.specs.Gathered.{line_read, waits_left}
use Rattle.trace_left.proofs.ReadParts.{one_place}
use Rattle.trace_left.proofs.inventory.add_line.Goals as goal

pub loop-item-preserved : goal.loop-item-preserved
loop-item-preserved g c = λ setup w shown held.
    one_place c.args.h c.args.ep c.args.left.now.items c.loop-item.left.items c.add_waiting.new.left.items (w.endpoints c.args.dev c.args.ep).line c.loop-item.item (omega (arith, c.loop-item-test.true, c.line_len-count.ensures setup w c.args.h shown held))
    (c.loop-item.invariant setup w shown held) (c.in_ok-add_waiting.ensures ∙ ap (λ o. c.loop-item.left.items ++ waits_left c.args.h c.args.ep o) (c.number_at.ensures setup w c.args.h shown held))

pub returns : goal.returns
returns g c = λ setup w shown held.
    let line = (w.endpoints c.args.dev c.args.ep).line in
    c.loop-item.invariant setup w shown held ∙ ap (λ l. c.args.left.now.items ++ line_read c.args.h c.args.ep l) (take_all c.loop-item.item line (omega (arith, c.loop-item-test.false, c.line_len-count.ensures setup w c.args.h shown held)))
