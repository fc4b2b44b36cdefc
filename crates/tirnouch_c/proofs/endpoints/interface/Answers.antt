-- The interface of an index is that of the configuration.
use Rattle.std.proofs.Common.{◌≡◌, ℕ, negsuc, pos, List, Option, Some, ap, refl, subst, sym, ◌∙◌, rules, to_z, of_z, w32}
use Rattle.std.specs.Prelude.{slice_get}
use Rattle.tirnouch_c.specs.Facts.{AnswersWith}
use Rattle.tirnouch_c.proofs.endpoints.interface.Goals as goal

pub returns-in-None : goal.returns-in-None
returns-in-None c = λ setup w shows. subst (λ (o : Option ℕ). AnswersWith o (negsuc 4))
    (sym c.in-None.is ∙ c.number_at.ensures ∙ ap (λ (xs : List ℕ). slice_get xs c.args.i) (c.interfaces_of.ensures setup w shows)) refl

pub returns-in-Some : goal.returns-in-Some
returns-in-Some c = λ setup w shows.
    let is : to_z w32 (of_z w32 c.from.result) ≡ pos c.in-Some.number = search rules in
    subst (λ (o : Option ℕ). AnswersWith o (to_z w32 (of_z w32 c.from.result)))
    (sym c.in-Some.is ∙ c.number_at.ensures ∙ ap (λ (xs : List ℕ). slice_get xs c.args.i) (c.interfaces_of.ensures setup w shows)) is
