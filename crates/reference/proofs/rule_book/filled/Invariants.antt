-- As many rules as the count, and each reads as before.
use Rattle.std.proofs.Common.{◌≡◌, ℕ, length}
use Rattle.reference.specs.RuleBooks.{rule_at}
use Rattle.reference.proofs.rule_book.filled.Given as goal

abbrev pub invariant-loop : goal.invariant-loop
invariant-loop l = record { count : length l.rules ≡ l.counter; same : (k : ℕ) → rule_at l.rules k ≡ rule_at l.initial.rules k }
