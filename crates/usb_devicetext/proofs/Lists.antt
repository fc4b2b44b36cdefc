-- Lists that are made piece by piece.
use Rattle.std.proofs.Common.{◌≡◌, ℕ, ◌+◌, ◌<◌, ◌∷◌, ◌++◌, List, [], length, get_or, take, sym, ◌∙◌, ap, arith, append_assoc}
use Rattle.std.specs.List.{flat_map}
use Rattle.std.proofs.lemmas.List.{take_more, flat_map_more, get_or-map, length-map, take-map}
use denote.Ref.{Bor}
use Rattle.usb_scripttext.specs.Words.{words_of}
use Rattle.usb_devicetext.specs.Text.{spaced, wide}

-- one piece more
pub one_more : {X A : Type 0} (f : X → List A) (xs : List X) (i : ℕ) (d : X) → i < length xs → flat_map f (take (i + 1) xs) ≡ flat_map f (take i xs) ++ f (get_or xs i d)
one_more f xs i d low = ap (flat_map f) (take_more xs i d low) ∙ sym (flat_map_more f [] (take i xs) (get_or xs i d))

-- that of a word
pub one_more_word : {A : Type 0} (f : List ℕ → List A) (words : List (Bor (List ℕ))) (i : ℕ) (d : Bor (List ℕ)) → i < length words
    → flat_map f (take (i + 1) (words_of words)) ≡ flat_map f (take i (words_of words)) ++ f (get_or words i d).now
one_more_word f words i d low =
    let long = length-map words (λ (word : Bor (List ℕ)). word.now) in
    one_more f (words_of words) i [] (omega (arith, long)) ∙ ap (λ w. flat_map f (take i (words_of words)) ++ f w) (get_or-map (λ (word : Bor (List ℕ)). word.now) words i d [] low)

-- a word more, behind a space
pub spaced_more : (words : List (Bor (List ℕ))) (i : ℕ) (d : Bor (List ℕ)) (old begun new : List ℕ) → i < length words → old ≡ spaced (take i (words_of words)) → begun ≡ old ++ 32 ∷ 0 ∷ []
    → new ≡ begun ++ wide (get_or words i d).now → new ≡ spaced (take (i + 1) (words_of words))
spaced_more words i d old begun new low so_far space word =
    word ∙ (ap (λ xs. xs ++ wide (get_or words i d).now) (space ∙ ap (λ xs. xs ++ 32 ∷ 0 ∷ []) so_far)
    ∙ (append_assoc (spaced (take i (words_of words))) (32 ∷ 0 ∷ []) (wide (get_or words i d).now) ∙ sym (one_more_word (λ text. 32 ∷ 0 ∷ wide text) words i d low)))

-- the texts of the first words are the first texts
pub front_taken : (words : List (Bor (List ℕ))) (count : ℕ) → words_of (take count words) ≡ take count (words_of words)
front_taken words count = sym (take-map (λ (word : Bor (List ℕ)). word.now) count words)
