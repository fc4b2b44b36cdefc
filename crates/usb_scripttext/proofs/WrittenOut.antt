-- Words that are written out, one after another.
use Rattle.std.proofs.Common.{◌≡◌, ℕ, zero, suc, ◌+◌, ◌-◌, ◌<◌, ◌≤◌, nat_le, Bool, true, false, List, [], ◌∷◌, ◌++◌, length, length-append, get_or, take, drop, replicate, take-append-drop, Option, Some, None, refl, sym, ◌∙◌, ap, subst, arith}
use Rattle.std.specs.Prelude.{if◌then◌else◌}
use Rattle.std.specs.List.{flat_map}
use Rattle.std.proofs.lemmas.Bool.{leb-true, leb-false, lt-leb, le-leb}
use Rattle.std.proofs.lemmas.Grind.{flat_map-append}
use Rattle.std.proofs.lemmas.List.{take_all, take_more, flat_map_more, get_or-map, length-map, length-replicate, map-append, take-map}
use denote.Ref.{Bor}
use Rattle.usb_model.specs.Limits.{longest_script}
use Rattle.usb_scripttext.specs.Repeats.{copies_of, few_of, filled, last_of}
use Rattle.usb_scripttext.specs.Words.{words_of}

-- the texts of so many of one word
words_replicate : (n : ℕ) (word : Bor (List ℕ)) → words_of (replicate n word) ≡ replicate n word.now
words_replicate zero word = refl
words_replicate (suc n) word = ap (λ l. word.now ∷ l) (words_replicate n word)

-- some words and so many of one more
pub put_more : (words new : List (Bor (List ℕ))) (count times len : ℕ) (word : Bor (List ℕ)) → new ≡ take count words ++ replicate (count - len) word → len ≡ length words
    → count ≡ len + times → words_of new ≡ words_of words ++ replicate times word.now
put_more words new count times len word is long sum =
    ap words_of is
    ∙ ap (λ l. words_of (l ++ replicate (count - len) word)) (take_all count words (omega (arith, long, sum)))
    ∙ ap (λ n. words_of (words ++ replicate n word)) (omega (arith, sum))
    ∙ map-append (λ (w : Bor (List ℕ)). w.now) words (replicate times word)
    ∙ ap (λ l. words_of words ++ l) (words_replicate times word)

-- the copies of the words so far, and of one more
pub copied_more : (words : List (Bor (List ℕ))) (i : ℕ) (d : Bor (List ℕ)) (old new : List (List ℕ)) → i < length words → old ≡ flat_map copies_of (take i (words_of words))
    → new ≡ old ++ copies_of (get_or words i d).now → new ≡ flat_map copies_of (take (i + 1) (words_of words))
copied_more words i d old new low so_far more =
    let long = length-map words (λ (word : Bor (List ℕ)). word.now) in
    let here : get_or (words_of words) i [] ≡ (get_or words i d).now = get_or-map (λ (word : Bor (List ℕ)). word.now) words i d [] low in
    more ∙ ap (λ l. l ++ copies_of (get_or words i d).now) so_far
    ∙ ap (λ w. flat_map copies_of (take i (words_of words)) ++ copies_of w) (sym here)
    ∙ flat_map_more copies_of [] (take i (words_of words)) (get_or (words_of words) i [])
    ∙ ap (flat_map copies_of) (sym (take_more (words_of words) i [] (omega (arith, long, low))))

-- they are as few as were judged
pub still_few : (old new : List (Bor (List ℕ))) (copies : List (List ℕ)) → words_of new ≡ words_of old ++ copies → nat_le (length old + length copies) longest_script ≡ true
    → nat_le (length new) longest_script ≡ true
still_few old new copies is few =
    let long : length new ≡ length old + length copies =
    sym (length-map new (λ (w : Bor (List ℕ)). w.now)) ∙ ap length is ∙ length-append (words_of old) copies ∙ ap (λ n. n + length copies) (length-map old (λ (w : Bor (List ℕ)). w.now)) in
    subst (λ n. nat_le n longest_script ≡ true) (sym long) few

-- words that aren't few
none_few : (words : List (List ℕ)) → longest_script < length words → few_of words ≡ None
none_few words many = rw (lt-leb (length words) longest_script many) refl

-- where those so far are too many with one more, all are
pub too_many : (words old : List (Bor (List ℕ))) (i : ℕ) (d : Bor (List ℕ)) → i < length words → words_of old ≡ flat_map copies_of (take i (words_of words))
    → nat_le (length old + length (copies_of (get_or words i d).now)) longest_script ≡ false → few_of (flat_map copies_of (words_of words)) ≡ None
too_many words old i d low so_far many =
    let so_many : flat_map copies_of (take (i + 1) (words_of words)) ≡ words_of old ++ copies_of (get_or words i d).now =
    sym (copied_more words i d (words_of old) (words_of old ++ copies_of (get_or words i d).now) low so_far refl) in
    let parted : flat_map copies_of (words_of words) ≡ (words_of old ++ copies_of (get_or words i d).now) ++ flat_map copies_of (drop (i + 1) (words_of words)) =
    ap (flat_map copies_of) (sym (take-append-drop (i + 1) (words_of words)))
    ∙ flat_map-append copies_of (take (i + 1) (words_of words)) (drop (i + 1) (words_of words))
    ∙ ap (λ l. l ++ flat_map copies_of (drop (i + 1) (words_of words))) so_many in
    let first = length-append (words_of old) (copies_of (get_or words i d).now) in
    let whole = length-append (words_of old ++ copies_of (get_or words i d).now) (flat_map copies_of (drop (i + 1) (words_of words))) in
    let long = length-map old (λ (w : Bor (List ℕ)). w.now) in
    let above = leb-false (length old + length (copies_of (get_or words i d).now)) longest_script many in
    none_few (flat_map copies_of (words_of words)) (omega (arith, ap length parted, first, whole, long, above))

-- all of them, where they are few
pub all_copied : (words old : List (Bor (List ℕ))) (i : ℕ) → length words ≤ i → words_of old ≡ flat_map copies_of (take i (words_of words)) → nat_le (length old) longest_script ≡ true
    → Some (words_of old) ≡ few_of (flat_map copies_of (words_of words))
all_copied words old i end so_far few =
    let long = length-map words (λ (word : Bor (List ℕ)). word.now) in
    let all : words_of old ≡ flat_map copies_of (words_of words) = so_far ∙ ap (flat_map copies_of) (take_all i (words_of words) (omega (arith, long, end))) in
    let count : length (flat_map copies_of (words_of words)) ≡ length old = sym (ap length all) ∙ length-map old (λ (w : Bor (List ℕ)). w.now) in
    rw (count, few) (ap Some all)

-- what is too many stays too many when it is filled up
pub filled_many : (words : List (List ℕ)) → few_of words ≡ None → few_of (filled words) ≡ None
filled_many words none = by_test (nat_le (length words) longest_script) refl none
  where
    by_test : (b : Bool) → nat_le (length words) longest_script ≡ b → (if b then Some words else None) ≡ None → few_of (filled words) ≡ None
    by_test true is none = cc
    by_test false is none =
        let above = leb-false (length words) longest_script is in
        let whole = length-append words (replicate (longest_script - length words) (last_of words)) in
        none_few (filled words) (omega (arith, above, whole))

-- few are filled up to the limit
pub filled_few : (words some : List (List ℕ)) → few_of words ≡ Some some → few_of (filled words) ≡ Some (filled some)
filled_few words some is = by_test (nat_le (length words) longest_script) refl is
  where
    by_test : (b : Bool) → nat_le (length words) longest_script ≡ b → (if b then Some words else None) ≡ Some some → few_of (filled words) ≡ Some (filled some)
    by_test false few is = cc
    by_test true few is =
        let same : words ≡ some = cc in
        let below = leb-true (length words) longest_script few in
        let whole = length-append words (replicate (longest_script - length words) (last_of words)) in
        let more = length-replicate (longest_script - length words) (last_of words) in
        let within : nat_le (length (filled words)) longest_script ≡ true = le-leb (length (filled words)) longest_script (omega (arith, below, whole, more)) in
        rw within (ap (λ l. Some (filled l)) same)

-- the texts of the first words are the first texts
pub front_taken : (words : List (Bor (List ℕ))) (count : ℕ) → words_of (take count words) ≡ take count (words_of words)
front_taken words count = sym (take-map (λ (word : Bor (List ℕ)). word.now) count words)
