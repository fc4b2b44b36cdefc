-- A byte more, and the end.
use Rattle.std.proofs.Common.{◌<◌, ◌++◌, length, drop, sym, ap, ◌∙◌, append_assoc, append-nil, arith}
use Rattle.std.proofs.lemmas.List.{nil_from_length}
use Rattle.trace_descriptor.specs.Input.{digits, kept}
use Rattle.trace_descriptor.proofs.Digits.{none_left, prefix_next, byte_next}
use Rattle.trace_descriptor.proofs.input.digits.Goals as goal

pub numbers-preserved-then-begins_with_prefix : goal.numbers-preserved-then-begins_with_prefix
numbers-preserved-then-begins_with_prefix c =
    ap (λ t. c.numbers.found.items ++ digits t) c.past-rest.ensures
    ∙ (ap (λ d. c.numbers.found.items ++ d) (sym (prefix_next c.numbers.rest.now (sym c.begins_with_prefix.ensures ∙ c.if-begins_with_prefix.true))) ∙ c.numbers.invariant)

pub numbers-preserved : goal.numbers-preserved
numbers-preserved c =
    let some : 0 < length c.numbers.rest.now = grind arith in
    let next = byte_next c.numbers.rest.now some (sym c.begins_with_prefix.ensures ∙ c.if-begins_with_prefix.false) in
    ap (λ t. c.keep.new.found.items ++ digits t) c.past-rest-else-begins_with_prefix.ensures
    ∙ (ap (λ l. l ++ digits (drop 1 c.numbers.rest.now)) (c.in_ok-keep.ensures ∙ ap (λ b. c.numbers.found.items ++ kept b) c.byte_at.ensures)
    ∙ (append_assoc c.numbers.found.items _ (digits (drop 1 c.numbers.rest.now))
    ∙ (ap (λ d. c.numbers.found.items ++ d) (sym next) ∙ c.numbers.invariant)))

pub returns : goal.returns
returns c =
    let empty = nil_from_length c.numbers.rest.now (grind arith) in
    sym (append-nil c.numbers.found.items) ∙ (ap (λ d. c.numbers.found.items ++ d) (sym (ap digits empty ∙ none_left)) ∙ c.numbers.invariant)
