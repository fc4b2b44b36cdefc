-- Lists as loops make them.
use Rattle.std.proofs.Common.{◌≡◌, ◌∙◌, ◌==◌, ◌++◌, ◌+◌, ◌<◌, ◌≤◌, ℕ, suc, Bool, true, false, Result, Ok, Err, IfOk, List, [], ◌∷◌, ap, append_assoc, arith, drop, length, slice_index_or, sym, take, append-nil}
use Rattle.std.specs.Prelude.{if◌then◌else◌}
use Rattle.std.specs.List.{filter, flat_map}
use Rattle.std.proofs.lemmas.Grind.{flat_map-append}
use Rattle.std.proofs.lemmas.List.{drop_all, drop_more, take_all, take_more}
use Rattle.std.proofs.lemmas.List.Elements.{filter_more}
use Rattle.usb_model.specs.World.Due.{below}
use Rattle.usb_journal.specs.declared.timer.Timer.{Timer}
use Rattle.usb_journal.specs.Timers.{is_timer_of, stopped, timeout_in}

-- one timer more that may pass a test
pub filter_next : (test : Timer → Bool) (xs : List Timer) (i : ℕ) (x : Timer) (b : Bool) (before after : List Timer) → i < length xs → x ≡ slice_index_or xs i x → b ≡ test x → after ≡ before ++ (if b then x ∷ [] else []) → before ≡ filter test (take i xs) → after ≡ filter test (take (i + 1) xs)
filter_next test xs i x b before after lt item passes made so_far =
    made ∙ (ap (λ l. l ++ (if b then x ∷ [] else [])) so_far ∙ (ap (λ c. filter test (take i xs) ++ (if c then x ∷ [] else [])) passes
    ∙ (ap (λ y. filter test (take i xs) ++ (if test y then y ∷ [] else [])) item ∙ sym (filter_more test xs i x lt))))

-- one name more
pub names_next : (ts : List Timer) (h : ℕ) (before after : List Timer) → after ≡ before ++ filter (λ t. t.h == h) ts → before ≡ flat_map (λ k. filter (λ t. t.h == k) ts) (below h) → after ≡ flat_map (λ k. filter (λ t. t.h == k) ts) (below (h + 1))
names_next ts h before after made so_far =
    made ∙ (ap (λ l. l ++ filter (λ (t : Timer). t.h == h) ts) so_far ∙ (ap (λ l. flat_map (λ k. filter (λ (t : Timer). t.h == k) ts) (below h) ++ l) (sym (append-nil (filter (λ (t : Timer). t.h == h) ts)))
    ∙ (sym (flat_map-append (λ k. filter (λ (t : Timer). t.h == k) ts) (below h) (h ∷ [])) ∙ ap (λ n. flat_map (λ k. filter (λ (t : Timer). t.h == k) ts) (below n)) (let same : suc h ≡ h + 1 = omega arith in same))))

-- a timer that isn't the one that is looked for is passed
pub look_past : (h n : ℕ) (ts : List Timer) (i : ℕ) (x : Timer) → i < length ts → x ≡ slice_index_or ts i x → is_timer_of h n x ≡ false → timeout_in h n ts ≡ timeout_in h n (drop i ts) → timeout_in h n ts ≡ timeout_in h n (drop (i + 1) ts)
look_past h n ts i x lt item other so_far =
    so_far ∙ (ap (timeout_in h n) (drop_more ts i x lt) ∙ (ap (λ y. timeout_in h n (y ∷ drop (i + 1) ts)) (sym item) ∙ ap (λ b. if b then x.timeout else timeout_in h n (drop (i + 1) ts)) other))

-- or found
pub look_found : (h n : ℕ) (ts : List Timer) (i : ℕ) (x : Timer) → i < length ts → x ≡ slice_index_or ts i x → is_timer_of h n x ≡ true → timeout_in h n ts ≡ timeout_in h n (drop i ts) → x.timeout ≡ timeout_in h n ts
look_found h n ts i x lt item its so_far =
    sym (so_far ∙ (ap (timeout_in h n) (drop_more ts i x lt) ∙ (ap (λ y. timeout_in h n (y ∷ drop (i + 1) ts)) (sym item) ∙ ap (λ b. if b then x.timeout else timeout_in h n (drop (i + 1) ts)) its)))

pub look_none : (h n : ℕ) (ts : List Timer) (i : ℕ) → length ts ≤ i → timeout_in h n ts ≡ timeout_in h n (drop i ts) → 0 ≡ timeout_in h n ts
look_none h n ts i past so_far = sym (so_far ∙ ap (timeout_in h n) (drop_all i ts past))

-- what is left without it, so far
pub stop_past : (h n : ℕ) (ts : List Timer) (i : ℕ) (x : Timer) → i < length ts → x ≡ slice_index_or ts i x → is_timer_of h n x ≡ false → stopped h n ts ≡ take i ts ++ stopped h n (drop i ts) → stopped h n ts ≡ take (i + 1) ts ++ stopped h n (drop (i + 1) ts)
stop_past h n ts i x lt item other so_far =
    so_far ∙ (ap (λ l. take i ts ++ stopped h n l) (drop_more ts i x lt) ∙ (ap (λ y. take i ts ++ stopped h n (y ∷ drop (i + 1) ts)) (sym item)
    ∙ (ap (λ b. take i ts ++ (if b then drop (i + 1) ts else x ∷ stopped h n (drop (i + 1) ts))) other
    ∙ (sym (append_assoc (take i ts) (x ∷ []) (stopped h n (drop (i + 1) ts)))
    ∙ (ap (λ y. (take i ts ++ y ∷ []) ++ stopped h n (drop (i + 1) ts)) item ∙ ap (λ l. l ++ stopped h n (drop (i + 1) ts)) (sym (take_more ts i x lt)))))))

pub stop_found : (h n : ℕ) (ts : List Timer) (i : ℕ) (x : Timer) → i < length ts → x ≡ slice_index_or ts i x → is_timer_of h n x ≡ true → stopped h n ts ≡ take i ts ++ stopped h n (drop i ts) → stopped h n ts ≡ take i ts ++ drop (i + 1) ts
stop_found h n ts i x lt item its so_far =
    so_far ∙ (ap (λ l. take i ts ++ stopped h n l) (drop_more ts i x lt) ∙ (ap (λ y. take i ts ++ stopped h n (y ∷ drop (i + 1) ts)) (sym item)
    ∙ ap (λ b. take i ts ++ (if b then drop (i + 1) ts else x ∷ stopped h n (drop (i + 1) ts))) its))

pub stop_none : (h n : ℕ) (ts : List Timer) (i : ℕ) → length ts ≤ i → stopped h n ts ≡ take i ts ++ stopped h n (drop i ts) → stopped h n ts ≡ ts
stop_none h n ts i past so_far = so_far ∙ (ap (λ l. take i ts ++ stopped h n l) (drop_all i ts past) ∙ (append-nil (take i ts) ∙ take_all i ts past))

-- one timer more behind others
pub filter_behind : (test : Timer → Bool) (xs : List Timer) (i : ℕ) (x : Timer) (b : Bool) (first before after : List Timer) → i < length xs → x ≡ slice_index_or xs i x → b ≡ test x → after ≡ before ++ (if b then x ∷ [] else []) → before ≡ first ++ filter test (take i xs) → after ≡ first ++ filter test (take (i + 1) xs)
filter_behind test xs i x b first before after lt item passes made so_far =
    made ∙ (ap (λ l. l ++ (if b then x ∷ [] else [])) so_far ∙ (append_assoc first (filter test (take i xs)) (if b then x ∷ [] else [])
    ∙ ap (λ l. first ++ l) (ap (λ c. filter test (take i xs) ++ (if c then x ∷ [] else [])) passes ∙ (ap (λ y. filter test (take i xs) ++ (if test y then y ∷ [] else [])) item ∙ sym (filter_more test xs i x lt)))))

-- what follows of a result
pub ok_more : {A E : Type 0} {P Q : A → Type 0} (r : Result A E) → ((x : A) → P x → Q x) → IfOk r P → IfOk r Q
ok_more (Ok x) f p = f x p
ok_more (Err e) f p = tt
