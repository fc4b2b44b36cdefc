use Rattle.std.proofs.Common.{◌≡◌, ℕ, List, [], ◌∷◌, ◌++◌, take, ap, sym, ◌∙◌}
use Rattle.std.specs.List.{flat_map}
use Rattle.std.proofs.lemmas.List.{flat_map_more, take_more}
use Rattle.trace_judged.specs.declared.missing.MissingPackets.{MissingPackets}
use Rattle.trace_judged.specs.Report.{missing_line}
use Rattle.trace_judged.proofs.told.put_all_missing.Goals as goal

pub loop-m-preserved : goal.loop-m-preserved
loop-m-preserved c =
    let i = c.loop-m.m-index in
    let missing = c.args.missing.now in
    let m = c.m-item.result in
    c.in_ok-put_missing.ensures
    ∙ ap (λ (text : List ℕ). text ++ missing_line m) c.loop-m.invariant
    ∙ flat_map_more missing_line c.args.text.now.items (take i missing) m
    ∙ ap (λ (some : List MissingPackets). c.args.text.now.items ++ flat_map missing_line some)
    (ap (λ (p : MissingPackets). take i missing ++ p ∷ []) c.m-item.is ∙ sym (take_more missing i m c.loop-m-test.true))
