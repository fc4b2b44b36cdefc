-- Calls of macros: their words, what there is no room for, and what is no number.
use Rattle.std.proofs.Common.{◌≡◌, ℕ, ◌^◌, ◌-◌, ◌<◌, ◌++◌, Bor, List, length, take, drop, true, is_some, Option, Some, None, refl, sym, ap, ◌∙◌, subst, arith, if◌then◌else◌}
use Rattle.std.specs.List.{drop-map, flat_map, take-map}
use Rattle.std.specs.Option.{option_copied}
use Rattle.std.specs.Str.{IsUtf8}
use Rattle.std.proofs.lemmas.Bool.{lt-leb}
use Rattle.std.proofs.lemmas.Fmt.{IsAscii-decimal}
use Rattle.std.proofs.lemmas.Grind.{flat_map-append}
use Rattle.std.proofs.lemmas.List.{length-append, length-map, take-append-drop}
use Rattle.std.proofs.lemmas.List.Folds.{flat_map-map}
use Rattle.std.proofs.lemmas.Str.{IsUtf8-from_ascii}
use Rattle.usb_scripttext.specs.Number.{u32_of}
use Rattle.usb_scripttext.proofs.Numbers.{spelt}
use Rattle.trace_test.specs.Comparison.{texts_of}
use Rattle.trace_test.specs.Macros.{call_words, part_filled, parts_in, star_of, within}

-- where there is no room for a beginning, there is none for all
pub within-none : {X : Type 0} (f : X → List ℕ) (front : List ℕ) (xs : List X) (i room : ℕ) → room < length (front ++ flat_map f (take i xs))
    → within room (front ++ flat_map f xs) ≡ None
within-none f front xs i room more =
    let parts = ap (λ ys. length (flat_map f ys)) (sym (take-append-drop i xs)) ∙ ap length (flat_map-append f (take i xs) (drop i xs)) ∙ length-append (flat_map f (take i xs)) (flat_map f (drop i xs)) in
    let some = length-append front (flat_map f (take i xs)) in
    let all = length-append front (flat_map f xs) in
    rw (lt-leb (length (front ++ flat_map f xs)) room (omega arith)) refl

-- the parts of a body behind its first, as they are lent
pub parts-filled : (words : List (List ℕ)) (parts rest : List (Bor (List ℕ))) (body : List ℕ) → texts_of parts ≡ parts_in body → rest ≡ drop 1 parts
    → flat_map (λ (part : Bor (List ℕ)). part_filled words part.now) rest ≡ flat_map (part_filled words) (drop 1 (parts_in body))
parts-filled words parts rest body are is =
    ap (flat_map (λ (part : Bor (List ℕ)). part_filled words part.now)) is
    ∙ sym (flat_map-map (part_filled words) (λ (part : Bor (List ℕ)). part.now) (drop 1 parts))
    ∙ ap (flat_map (part_filled words)) (sym (drop-map (λ (part : Bor (List ℕ)). part.now) 1 parts) ∙ ap (drop 1) are)

-- the words of a call with a star, as they are lent
pub words-called : (words : List (Bor (List ℕ))) (star : Option (Bor (List ℕ))) → option_copied star ≡ star_of (texts_of words) → is_some star ≡ true
    → texts_of (take (length words - 1) words) ≡ call_words (texts_of words)
words-called words None is some = cc
words-called words (Some digits) is some =
    sym (take-map (λ (word : Bor (List ℕ)). word.now) (length words - 1) words)
    ∙ ap (λ n. take (n - 1) (texts_of words)) (sym (length-map words (λ (word : Bor (List ℕ)). word.now)))
    ∙ ap (λ o. if is_some o then take (length (texts_of words) - 1) (texts_of words) else texts_of words) is

-- what isn't UTF-8 is no number
pub u32-utf8 : (word : List ℕ) → ¬ (IsUtf8 word) → u32_of word ≡ None
u32-utf8 word broken = by_value (u32_of word) refl
  where
    by_value : (n : Option ℕ) → u32_of word ≡ n → u32_of word ≡ None
    by_value None is = is
    by_value (Some n) is =
        let word_of = spelt (2 ^ 32 - 1) n word is in
        absurd (broken (subst IsUtf8 (sym word_of.1) (IsUtf8-from_ascii _ (IsAscii-decimal n (omega (arith, word_of.0))))))
