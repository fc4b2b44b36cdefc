use Rattle.std.proofs.Common.{◌≡◌, ◌+◌, ◌-◌, ◌≤◌, ◌∙◌, Some, length, take, drop, sym, ap, arith}
use Rattle.std.proofs.lemmas.List.{length-drop, take_all}
use Rattle.trace_test.proofs.Searches.{parts_found}
use Rattle.trace_test.proofs.parts.parts_around.Goals as goal

pub returns : goal.returns
returns c =
    let at = c.in_ok-at.at in
    let text = c.args.text.now in
    let past = at + length c.args.middle.now in
    let short : length (drop past text) ≤ length text - past = omega (arith, length-drop past text) in
    ap (λ rest. Some (take at text, rest)) (take_all (length text - past) (drop past text) short)
    ∙ sym (parts_found text c.args.middle.now at c.in_ok-at.ensures)
