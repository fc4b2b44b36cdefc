-- As many names as turns, and none has a rule.
use Rattle.std.proofs.Common.{◌≡◌, ℕ, [], length, slice_index_or}
use Rattle.reference.proofs.rule_book.RuleBook.new.Given as goal

abbrev pub invariant-loop : goal.invariant-loop
invariant-loop l = record { count : length l.rules.items ≡ l.counter; none : (h : ℕ) → slice_index_or l.rules.items h [] ≡ [] }
