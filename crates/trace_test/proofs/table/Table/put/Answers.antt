use Rattle.std.proofs.Common.{◌≡◌, ◌∙◌, ◌++◌, ◌∷◌, [], ℕ, List, Some, cond, length, sym, ap, subst}
use Rattle.std.specs.Str.{bytes_eq}
use Rattle.std.proofs.lemmas.Map.Text.{hash_map_updates_str}
use Rattle.trace_test.specs.Macros.{Macro}
use Rattle.trace_test.specs.Table.{IsTable, place_of}
use Rattle.trace_test.proofs.MacroTable.{put_stands}
use Rattle.trace_test.proofs.table.Table.put.Goals as goal

pub invariant_of-self-2 : goal.invariant_of-self-2
invariant_of-self-2 c =
    let before = c.self.inside.closed.items in
    let kept : c.reserve.new.self.items ≡ before = c.in_ok-reserve.ensures.items in
    let count : c.len.result ≡ length before = c.len.ensures ∙ (c.reserve.new.self.ok.0 ∙ ap length kept) in
    let all : c.put_last.new.closed.items ≡ before ++ c.args.closed ∷ [] = c.put_last.ensures ∙ ap (λ ms. ms ++ c.args.closed ∷ []) kept in
    let name : c.closed.inside.name.now ≡ c.args.closed.name = cc (ap (λ (m : Macro). m.name) c.closed.view_is) in
    let noted : (q : List ℕ) → place_of c.insert.new.self q ≡ cond (bytes_eq c.closed.inside.name.now q) (Some c.len.result) (place_of c.self.inside.places q) =
    hash_map_updates_str c.closed.inside.name.now c.self.inside.places c.insert.new.self (Some c.len.result) c.in_ok-insert.ensures.updates in
    subst (λ ms. IsTable ms c.insert.new.self) (sym all)
    (put_stands before c.args.closed c.len.result c.self.inside.places c.insert.new.self c.self.invariant count
    (subst (λ (bs : List ℕ). (q : List ℕ) → place_of c.insert.new.self q ≡ cond (bytes_eq bs q) (Some c.len.result) (place_of c.self.inside.places q)) name noted))
