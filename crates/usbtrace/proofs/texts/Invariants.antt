use Rattle.std.proofs.Common.{◌≡◌, ℕ, List, map, take}
use Rattle.std.specs.Prelude.{string_bytes}
use denote.Ref.{Bor}
use Rattle.usbtrace.proofs.texts.Given as goal

abbrev pub invariant-loop-word : goal.invariant-loop-word
invariant-loop-word l = map (λ (text : Bor (List ℕ)). text.now) l.texts.items ≡ map (λ word. string_bytes word) (take l.word-index l.words)
