-- A text that was read, and whose plan has no such piece, has no such line.
use Rattle.std.proofs.Common.{◌≡◌, ◌∙◌, false, IfSome, ap, subst, sym}
use Rattle.std.specs.List.{list_any}
use Rattle.trace_main.specs.Lived.{is_unlived_piece}
use Rattle.trace_main.specs.Source.{IsReadAs}
use Rattle.trace_main.proofs.Unlived.{text_without}
use Rattle.trace_main.proofs.lived.first_unlived_behind.Goals as goal

pub returns-in-Some : goal.returns-in-Some
returns-in-Some c =
    let read : IsReadAs c.args.text.now c.in-Some.read = subst (λ o. IfSome o (IsReadAs c.args.text.now)) c.in-Some.is c.requires in
    let none : list_any is_unlived_piece c.in-Some.read.scenario.plan ≡ false =
    sym (c.has_unlived.ensures ∙ ap (list_any is_unlived_piece) c.as_slice.ensures) ∙ c.if-not-has_unlived.true in
    sym (text_without c.args.text.now c.in-Some.read.scenario read.scenario none)
