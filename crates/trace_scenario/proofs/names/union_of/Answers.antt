use Rattle.std.proofs.Common.{sym, ◌∙◌, ap, lit<, ◌==◌, ◌+◌, length, drop, arith}
use Rattle.std.specs.Option.{option_map}
use Rattle.std.specs.List.{slice_split}
use Rattle.std.proofs.lemmas.List.{length_push}
use Rattle.std.proofs.lemmas.Iterator.Splits.{YieldsList-from_str_split}
use Rattle.std.proofs.lemmas.Iterator.Consumers.{YieldsList-turn, YieldsList-end}
use Rattle.trace_scenario.specs.Names.{union_from}
use Rattle.trace_scenario.proofs.Unions.{unknown, known, ended}
use Rattle.trace_scenario.proofs.names.union_of.Goals as goal

pub returns-in_err-from_name : goal.returns-in_err-from_name
returns-in_err-from_name g c =
    let t = YieldsList-turn (YieldsList-from_str_split {s = c.into_iter-name-iterator.result} 43 c.args.word.now (lit< tt) (cc) (cc) (cc)) c.loop-name.yielded _ c.loop-name.yielded_by _ _ c.in-Some.name c.in-Some.is c.next.ensures.steps in
    ap (option_map g.F.Flags.set_of) c.from_residual.ensures
    ∙ sym (unknown _ _ _ _ _ t (sym (c.from_name.ensures c.requires) ∙ ap (option_map g.F.Flags.set_of) c.in_err-from_name.was))
    ∙ c.loop-name.invariant

pub loop-name-preserved : goal.loop-name-preserved
loop-name-preserved g c =
    let parts = slice_split (λ b. b == 43) c.args.word.now in
    let t = YieldsList-turn (YieldsList-from_str_split {s = c.into_iter-name-iterator.result} 43 c.args.word.now (lit< tt) (cc) (cc) (cc)) c.loop-name.yielded _ c.loop-name.yielded_by _ _ c.in-Some.name c.in-Some.is c.next.ensures.steps in
    ap (λ k. union_from g.F.Flags.table (g.F.Flags.set_of c.insert.new.self) (drop k parts)) (length_push c.loop-name.yielded c.in-Some.name)
    ∙ ap (λ b. union_from g.F.Flags.table b (drop (length c.loop-name.yielded + 1) parts)) (c.insert.ensures c.requires)
    ∙ sym (known _ _ _ _ _ _ t (sym (c.from_name.ensures c.requires) ∙ ap (option_map g.F.Flags.set_of) c.in_ok-from_name.was))
    ∙ c.loop-name.invariant

pub returns : goal.returns
returns g c =
    let t = YieldsList-end (YieldsList-from_str_split {s = c.into_iter-name-iterator.result} 43 c.args.word.now (lit< tt) (cc) (cc) (cc)) c.loop-name.yielded _ c.loop-name.yielded_by _ _ c.in-None.is c.next.ensures.steps in
    sym (ended g.F.Flags.table (g.F.Flags.set_of c.loop-name.set) (slice_split (λ b. b == 43) c.args.word.now) (length c.loop-name.yielded) (omega (arith, t.1))) ∙ c.loop-name.invariant
