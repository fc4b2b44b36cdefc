-- Where a text was searched for another: the parts around it.
use Rattle.std.proofs.Common.{◌≡◌, ℕ, ◌+◌, List, length, take, drop, Option, Some, None, sym, ap}
use Rattle.std.specs.Option.{option_map}
use Rattle.memchr.specs.Find.{FindsNeedle}
use Rattle.memchr.proofs.lemmas.ValueLemmas.{FindsNeedle-value}
use Rattle.trace_test.specs.Parts.{parts_around}

-- what was found gives the parts
pub parts_by : (text middle : List ℕ) (at : Option ℕ) → FindsNeedle text middle 0 at → parts_around middle text ≡ option_map (λ n. (take n text, drop (n + length middle) text)) at
parts_by text middle at finds = ap (option_map (λ n. (take n text, drop (n + length middle) text))) (sym (FindsNeedle-value text middle at finds))

pub parts_found : (text middle : List ℕ) (at : ℕ) → FindsNeedle text middle 0 (Some at) → parts_around middle text ≡ Some (take at text, drop (at + length middle) text)
parts_found text middle at finds = parts_by text middle (Some at) finds

pub none_found : (text middle : List ℕ) → FindsNeedle text middle 0 None → parts_around middle text ≡ None
none_found text middle finds = parts_by text middle None finds
