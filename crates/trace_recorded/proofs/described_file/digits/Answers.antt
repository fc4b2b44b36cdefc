-- A byte more, and the end.
use Rattle.std.proofs.Common.{◌<◌, ◌++◌, length, drop, sym, ap, ◌∙◌, append_assoc, append-nil, arith}
use Rattle.std.specs.List.{flat_map}
use Rattle.std.proofs.lemmas.List.{nil_from_length}
use Rattle.trace_recorded.specs.DescribedFiles.{digits_at}
use Rattle.trace_recorded.proofs.DescribedRead.{digit_next}
use Rattle.trace_recorded.proofs.described_file.digits.Goals as goal

pub bytes-preserved : goal.bytes-preserved
bytes-preserved c =
    let some : 0 < length c.bytes.rest.now = grind arith in
    ap (λ t. c.push_digit.new.found.items ++ flat_map digits_at t) c.past-rest.ensures
    ∙ (ap (λ l. l ++ flat_map digits_at (drop 1 c.bytes.rest.now)) (c.in_ok-push_digit.ensures ∙ ap (λ b. c.bytes.found.items ++ digits_at b) c.byte_or_zero.ensures)
    ∙ (append_assoc c.bytes.found.items _ (flat_map digits_at (drop 1 c.bytes.rest.now))
    ∙ (ap (λ d. c.bytes.found.items ++ d) (sym (digit_next c.bytes.rest.now some)) ∙ c.bytes.invariant)))

pub returns : goal.returns
returns c =
    let empty = nil_from_length c.bytes.rest.now (grind arith) in
    sym (append-nil c.bytes.found.items) ∙ (ap (λ d. c.bytes.found.items ++ d) (sym (ap (flat_map digits_at) empty)) ∙ c.bytes.invariant)
