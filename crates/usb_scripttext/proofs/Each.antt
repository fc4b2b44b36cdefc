-- What each of some words says, one after another.
use Rattle.std.proofs.Common.{◌≡◌, ℕ, zero, suc, ◌+◌, ◌<◌, List, [], ◌∷◌, ◌++◌, length, get_or, take, Option, Some, None, Result, Ok, Err, refl, sym, ◌∙◌, ap, subst, arith}
use Rattle.std.specs.Option.{option_map, option_and_then}
use Rattle.std.proofs.lemmas.List.{take_more, get_or-map, length-map}
use denote.Ref.{Bor}
use Rattle.usb_scripttext.specs.declared.fault.LineFault.{LineFault}
use Rattle.usb_scripttext.specs.declared.fault.LineFault.TheVariants.{Bad, Memory}
use Rattle.usb_scripttext.specs.Results.{ReadsAs}
use Rattle.usb_scripttext.specs.Words.{words_of}
use Rattle.usb_scripttext.specs.Script.{each_of}

-- nothing follows from nothing
nothing : (A B : Type 0) (o : Option A) → let none : A → Option B = λ x. None in option_and_then none o ≡ None
nothing A B None = refl
nothing A B (Some x) = refl

-- where one says nothing, they say nothing together
pub each-none : {A : Type 0} (f : List ℕ → Option A) (words : List (List ℕ)) (i : ℕ) → i < length words
    → f (get_or words i []) ≡ None → each_of f words ≡ None
unfolding each_of
each-none f [] i low none = absurd (omega arith)
each-none f (word ∷ words) zero low none = ap (option_and_then _) none
each-none {A} f (word ∷ words) (suc i) low none =
    ap (λ r. option_and_then (λ x. option_map (λ xs. x ∷ xs) r) (f word)) (each-none f words i (omega arith) none)
    ∙ nothing A (List A) (f word)

-- one more says one thing more
pub each-push : {A : Type 0} (f : List ℕ → Option A) (words : List (List ℕ)) (word : List ℕ) (xs : List A) (x : A)
    → each_of f words ≡ Some xs → f word ≡ Some x → each_of f (words ++ word ∷ []) ≡ Some (xs ++ x ∷ [])
unfolding each_of
each-push f [] word xs x all one =
    let none : xs ≡ [] = cc in
    ap (option_and_then (λ y. option_map (λ ys. y ∷ ys) (Some []))) one ∙ ap (λ ys. Some (ys ++ x ∷ [])) (sym none)
each-push {A} f (first ∷ words) word xs x all one =
    by_first (f first) refl (each_of f words) refl all (λ ys is. each-push f words word ys x is one)
  where
    by_first : (o : Option A) → f first ≡ o → (r : Option (List A)) → each_of f words ≡ r
        → option_and_then (λ y. option_map (λ ys. y ∷ ys) r) o ≡ Some xs
        → ((ys : List A) → each_of f words ≡ Some ys → each_of f (words ++ word ∷ []) ≡ Some (ys ++ x ∷ []))
        → option_and_then (λ y. option_map (λ ys. y ∷ ys) (each_of f (words ++ word ∷ []))) (f first) ≡ Some (xs ++ x ∷ [])
    by_first None is r rest some further = cc
    by_first (Some y) is None rest some further = cc
    by_first (Some y) is (Some ys) rest some further =
        let whole : xs ≡ y ∷ ys = cc in
        rw (is, further ys rest) (ap (λ zs. Some (zs ++ x ∷ [])) (sym whole))

-- so many words and one more
pub each-more : {A : Type 0} (f : List ℕ → Option A) (words : List (List ℕ)) (i : ℕ) (xs : List A) (x : A)
    → i < length words → each_of f (take i words) ≡ Some xs → f (get_or words i []) ≡ Some x
    → each_of f (take (i + 1) words) ≡ Some (xs ++ x ∷ [])
each-more f words i xs x low all one =
    ap (each_of f) (take_more words i [] low) ∙ each-push f (take i words) (get_or words i []) xs x all one

-- the text of a word at its place
word_at : (words : List (Bor (List ℕ))) (i : ℕ) (d : Bor (List ℕ)) → i < length words
    → get_or (words_of words) i [] ≡ (get_or words i d).now
word_at words i d low = get_or-map (λ (word : Bor (List ℕ)). word.now) words i d [] low

-- the words so far and this one
pub over-more : {A : Type 0} (f : List ℕ → Option A) (words : List (Bor (List ℕ))) (i : ℕ) (d : Bor (List ℕ)) (xs : List A) (x : A)
    → i < length words → each_of f (take i (words_of words)) ≡ Some xs → f (get_or words i d).now ≡ Some x
    → each_of f (take (i + 1) (words_of words)) ≡ Some (xs ++ x ∷ [])
over-more f words i d xs x low all one =
    let long = length-map words (λ (word : Bor (List ℕ)). word.now) in
    each-more f (words_of words) i xs x (omega (arith, long)) all (ap f (word_at words i d low) ∙ one)

-- this word says nothing, so they say nothing together
pub over-none : {A : Type 0} (f : List ℕ → Option A) (words : List (Bor (List ℕ))) (i : ℕ) (d : Bor (List ℕ))
    → i < length words → f (get_or words i d).now ≡ None → each_of f (words_of words) ≡ None
over-none f words i d low none =
    let long = length-map words (λ (word : Bor (List ℕ)). word.now) in
    each-none f (words_of words) i (omega (arith, long)) (ap f (word_at words i d low) ∙ none)

-- no word yet
pub over-start : {A : Type 0} (f : List ℕ → Option A) (xs : List A) → xs ≡ [] → each_of f [] ≡ Some xs
unfolding each_of
over-start f xs none = ap Some (sym none)

-- one word's fault is that of all
pub faults : {A B : Type 0} (r : Result A LineFault) (e : LineFault) (said : Option A) (whole : Option B)
    → ReadsAs r said → r ≡ Err e → (said ≡ None → whole ≡ None) → ReadsAs {T = B} (Err e) whole
faults {A} {B} r (Bad problem) said whole reads is none = none (subst (λ (r : Result A LineFault). ReadsAs r said) is reads)
faults {A} {B} r Memory said whole reads is none = tt

-- what a word says that was read
pub read_as : {A : Type 0} (r : Result A LineFault) (x : A) (said : Option A) → ReadsAs r said → r ≡ Ok x → said ≡ Some x
read_as {A} r x said reads is = subst (λ (r : Result A LineFault). ReadsAs r said) is reads
