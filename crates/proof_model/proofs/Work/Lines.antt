-- What each kind of work does to the transfers in progress in a line.
use Rattle.std.proofs.Common.{◌&&◌, ◌≡◌, ℕ, ◌+◌, ◌≤◌, ◌==◌, Bool, true, false, not, List, [], ◌∷◌, ◌++◌, Option, Some, None, length, map, refl, ap, ap₂, sym, ◌∙◌, arith}
use Rattle.std.specs.Prelude.{if◌then◌else◌, is_some}
use Rattle.std.specs.List.{filter}
use Rattle.std.proofs.lemmas.Bool.{and_parts, not-true}
use Rattle.usb_model.specs.declared.request.Request.{Request}
use Rattle.usb_model.specs.declared.endpoint.Endpoint.{Endpoint}
use Rattle.usb_model.specs.declared.item.Ask.{Ask}
use Rattle.usb_model.specs.declared.item.Ask.TheVariants as ask
use Rattle.usb_model.specs.declared.item.Item.{Item}
use Rattle.usb_model.specs.declared.item.ItemState.{ItemState}
use Rattle.usb_model.specs.declared.item.ItemState.TheVariants.{Waiting, Served, Blank}
use Rattle.usb_model.specs.declared.result.TransferResult.{TransferResult}
use Rattle.usb_model.specs.Endpoint.Status.{is_uncut, status_of, told_status}
use Rattle.usb_model.specs.Endpoint.{is_waiting_state, is_blank_state, is_waiting, is_blank, first_waiting, with_first, past_blanks, is_transfer, in_progress, past_number, live_numbers, new_item, result_of}
use Rattle.usb_model.specs.declared.endpoint_effect.EndpointEffect.{EndpointEffect}
use Rattle.usb_model.specs.Machine.Calls.{with_ask}
use Rattle.usb_model.specs.Endpoint.Deliver.{is_withdrawn, blanked, withdrawn, finished_result}
use Rattle.usb_model.specs.Laws.Cut.{times}
use Rattle.proof_model.proofs.Lists.Times.{times-cons}
use Rattle.proof_model.proofs.Lists.Parts.{IsPart, nothing, skips, keeps, whole}

-- a transfer's number and endpoint
pub record Key : Type 0 where
  pub n : ℕ
  pub ep : ℕ

-- those of an item
abbrev pub key_of : Item → Key
key_of x = record { n = x.n; ep = x.request.ep }

-- those of the transfers in progress, in line order
abbrev pub keys : List Item → List Key
keys [] = []
keys (x ∷ xs) = if is_blank x then keys xs else key_of x ∷ keys xs

-- their numbers are the numbers in progress
pub live_numbers-keys : (line : List Item) → live_numbers line ≡ map (λ k. k.n) (keys line)
unfolding live_numbers
live_numbers-keys [] = refl
live_numbers-keys (x ∷ xs) = by_test (is_blank x) (live_numbers-keys xs)
  where
    by_test : (b : Bool) → live_numbers xs ≡ map (λ k. k.n) (keys xs)
        → (if b then live_numbers xs else x.n ∷ live_numbers xs) ≡ map (λ k. k.n) (if b then keys xs else key_of x ∷ keys xs)
    by_test true e = e
    by_test false e = ap (λ l. x.n ∷ l) e

-- where they are the same, so are the numbers in progress
pub same_lives : (xs ys : List Item) → keys xs ≡ keys ys → live_numbers xs ≡ live_numbers ys
same_lives xs ys e = live_numbers-keys xs ∙ (ap (map (λ k. k.n)) e ∙ sym (live_numbers-keys ys))

-- an item in the place of another with its key, before lines with the same keys
keys_same : (x y : Item) (xs ys : List Item) → is_blank x ≡ is_blank y → key_of x ≡ key_of y → keys xs ≡ keys ys → keys (x ∷ xs) ≡ keys (y ∷ ys)
keys_same x y xs ys b k l = rw b (ap₂ (λ k l. if is_blank y then l else k ∷ l) k l)

-- an item that waits is in progress
pub waits_not_blank : (x : Item) → is_waiting x ≡ true → is_blank x ≡ false
waits_not_blank x e = by_state x.state e
  where
    by_state : (s : ItemState) → is_waiting_state s ≡ true → is_blank_state s ≡ false
    by_state Waiting e = refl
    by_state (Served code) e = refl
    by_state Blank e = absurd cc

-- the item that is served stays in progress
pub keys-with_first : (x y : Item) (line : List Item) → first_waiting line ≡ Some x → key_of y ≡ key_of x → is_blank y ≡ false → keys (with_first y line) ≡ keys line
unfolding first_waiting with_first
keys-with_first x y [] first same live = refl
keys-with_first x y (z ∷ zs) first same live = by_test (is_waiting z) refl first (keys-with_first x y zs)
  where
    by_test : (b : Bool) → is_waiting z ≡ b → (if b then Some z else first_waiting zs) ≡ Some x
        → (first_waiting zs ≡ Some x → key_of y ≡ key_of x → is_blank y ≡ false → keys (with_first y zs) ≡ keys zs)
        → keys (if b then y ∷ zs else z ∷ with_first y zs) ≡ keys (z ∷ zs)
    by_test true e f rest = let is : z ≡ x = cc in keys_same y z zs zs (live ∙ sym (waits_not_blank z e)) (same ∙ ap key_of (sym is)) refl
    by_test false e f rest = keys_same z z (with_first y zs) zs refl refl (rest f same live)

-- an ask changes neither
with_ask_kept : (n : ℕ) (ask : Ask) (x : Item) → (is_blank (with_ask n ask x) ≡ is_blank x) × (key_of (with_ask n ask x) ≡ key_of x)
with_ask_kept n ask x = by_test (x.n == n)
  where
    by_test : (b : Bool) → (is_blank (if b then record x { ask = Some ask } else x) ≡ is_blank x) × (key_of (if b then record x { ask = Some ask } else x) ≡ key_of x)
    by_test true = (refl, refl)
    by_test false = (refl, refl)

-- so does one that is asked to end
pub keys-with_ask : (n : ℕ) (ask : Ask) (line : List Item) → keys (map (with_ask n ask) line) ≡ keys line
keys-with_ask n ask [] = refl
keys-with_ask n ask (x ∷ xs) = keys_same (with_ask n ask x) x (map (with_ask n ask) xs) xs (with_ask_kept n ask x).0 (with_ask_kept n ask x).1 (keys-with_ask n ask xs)

-- no transfer in progress is among the blanks
pub keys-past_blanks : (line : List Item) → keys (past_blanks line) ≡ keys line
unfolding past_blanks
keys-past_blanks [] = refl
keys-past_blanks (x ∷ xs) = by_test (is_blank x) refl (keys-past_blanks xs)
  where
    by_test : (b : Bool) → is_blank x ≡ b → keys (past_blanks xs) ≡ keys xs → keys (if b then past_blanks xs else x ∷ xs) ≡ keys (x ∷ xs)
    by_test true e rest = rest ∙ rw e
    by_test false e rest = refl

-- a submission stands behind all
pub keys-push : (line : List Item) (n : ℕ) (request : Request) (round : ℕ) → keys (line ++ new_item n request round ∷ []) ≡ keys line ++ record { n = n; ep = request.ep } ∷ []
keys-push [] n request round = refl
keys-push (x ∷ xs) n request round = by_test (is_blank x) (keys-push xs n request round)
  where
    by_test : (b : Bool) → keys (xs ++ new_item n request round ∷ []) ≡ keys xs ++ record { n = n; ep = request.ep } ∷ []
        → (if b then keys (xs ++ new_item n request round ∷ []) else key_of x ∷ keys (xs ++ new_item n request round ∷ [])) ≡ (if b then keys xs else key_of x ∷ keys xs) ++ record { n = n; ep = request.ep } ∷ []
    by_test true e = e
    by_test false e = ap (λ l. key_of x ∷ l) e

-- the same of the numbers
pub lives-with_first : (x y : Item) (line : List Item) → first_waiting line ≡ Some x → key_of y ≡ key_of x → is_blank y ≡ false → live_numbers (with_first y line) ≡ live_numbers line
lives-with_first x y line first same live = same_lives (with_first y line) line (keys-with_first x y line first same live)

-- of those that are asked to end
pub lives-with_ask : (n : ℕ) (ask : Ask) (line : List Item) → live_numbers (map (with_ask n ask) line) ≡ live_numbers line
lives-with_ask n ask line = same_lives (map (with_ask n ask) line) line (keys-with_ask n ask line)

-- behind the blanks
pub lives-past_blanks : (line : List Item) → live_numbers (past_blanks line) ≡ live_numbers line
lives-past_blanks line = same_lives (past_blanks line) line (keys-past_blanks line)

-- with a submission behind them
pub lives-push : (line : List Item) (n : ℕ) (request : Request) (round : ℕ) → live_numbers (line ++ new_item n request round ∷ []) ≡ live_numbers line ++ n ∷ []
unfolding live_numbers
lives-push [] n request round = refl
lives-push (x ∷ xs) n request round = by_test (is_blank x) (lives-push xs n request round)
  where
    by_test : (b : Bool) → live_numbers (xs ++ new_item n request round ∷ []) ≡ live_numbers xs ++ n ∷ []
        → (if b then live_numbers (xs ++ new_item n request round ∷ []) else x.n ∷ live_numbers (xs ++ new_item n request round ∷ [])) ≡ (if b then live_numbers xs else x.n ∷ live_numbers xs) ++ n ∷ []
    by_test true e = e
    by_test false e = ap (λ l. x.n ∷ l) e

-- the numbers of results
abbrev pub result_numbers : List TransferResult → List ℕ
result_numbers xs = map (λ x. x.n) xs

-- an item that is withdrawn was in progress
withdrawn_lives : (x : Item) → is_withdrawn x ≡ true → is_blank x ≡ false
withdrawn_lives x e = waits_not_blank x (and_parts (is_waiting x) (is_some x.ask) e).0

-- each transfer that is withdrawn leaves its line, into one result
pub withdrawn_times : (size n : ℕ) (line : List Item) → times n (result_numbers (withdrawn size line)) + times n (live_numbers (map blanked line)) ≡ times n (live_numbers line)
unfolding withdrawn live_numbers
withdrawn_times size n [] = refl
withdrawn_times size n (x ∷ xs) = by_test (is_withdrawn x) (is_blank x) refl refl (withdrawn_times size n xs)
  where
    by_test : (b c : Bool) → is_withdrawn x ≡ b → is_blank x ≡ c
        → times n (result_numbers (withdrawn size xs)) + times n (live_numbers (map blanked xs)) ≡ times n (live_numbers xs)
        → times n (result_numbers (if b then result_of size false 26 x ∷ withdrawn size xs else withdrawn size xs)) + times n (live_numbers ((if b then record x { state = Blank } else x) ∷ map blanked xs)) ≡ times n (if c then live_numbers xs else x.n ∷ live_numbers xs)
    by_test true true e f rest = absurd (cc (withdrawn_lives x e))
    by_test true false e f rest = omega (arith, rest, times-cons n x.n (result_numbers (withdrawn size xs)), times-cons n x.n (live_numbers xs))
    by_test false true e f rest = rw f rest
    by_test false false e f rest = rw f (omega (arith, rest, times-cons n x.n (live_numbers (map blanked xs)), times-cons n x.n (live_numbers xs)))

-- so many results are made as transfers become blanks
pub withdrawn_count : (size : ℕ) (line : List Item) → length (withdrawn size line) + length (live_numbers (map blanked line)) ≡ length (live_numbers line)
unfolding withdrawn live_numbers
withdrawn_count size [] = refl
withdrawn_count size (x ∷ xs) = by_test (is_withdrawn x) (is_blank x) refl refl (withdrawn_count size xs)
  where
    by_test : (b c : Bool) → is_withdrawn x ≡ b → is_blank x ≡ c
        → length (withdrawn size xs) + length (live_numbers (map blanked xs)) ≡ length (live_numbers xs)
        → length (if b then result_of size false 26 x ∷ withdrawn size xs else withdrawn size xs) + length (live_numbers ((if b then record x { state = Blank } else x) ∷ map blanked xs)) ≡ length (if c then live_numbers xs else x.n ∷ live_numbers xs)
    by_test true true e f rest = absurd (cc (withdrawn_lives x e))
    by_test true false e f rest = omega (arith, rest)
    by_test false true e f rest = rw f rest
    by_test false false e f rest = rw f (omega (arith, rest))

-- no more are in progress than are in the line
pub lives_short : (line : List Item) → length (live_numbers line) ≤ length line
unfolding live_numbers
lives_short [] = omega arith
lives_short (x ∷ xs) = by_test (is_blank x) (lives_short xs)
  where
    by_test : (b : Bool) → length (live_numbers xs) ≤ length xs → length (if b then live_numbers xs else x.n ∷ live_numbers xs) ≤ length (x ∷ xs)
    by_test true le = omega (arith, le)
    by_test false le = omega (arith, le)

-- the others stay, in order
pub withdrawn_part : (line : List Item) → IsPart (keys (map blanked line)) (keys line)
withdrawn_part [] = nothing
withdrawn_part (x ∷ xs) = by_test (is_withdrawn x) (is_blank x) refl (withdrawn_part xs)
  where
    by_test : (b c : Bool) → is_blank x ≡ c → IsPart (keys (map blanked xs)) (keys xs)
        → IsPart (keys ((if b then record x { state = Blank } else x) ∷ map blanked xs)) (if c then keys xs else key_of x ∷ keys xs)
    by_test true true e rest = rest
    by_test true false e rest = skips rest
    by_test false true e rest = rw e rest
    by_test false false e rest = rw e (keeps rest)

-- the results that were neither cancelled nor timed out
abbrev pub uncut_keys : List TransferResult → List Key
uncut_keys xs = map (λ x. record { n = x.n; ep = x.request.ep }) (filter (λ x. is_uncut x.status) xs)

-- the status of a transfer that was asked to end and is withdrawn
cut_when_asked : (ask : Option Ask) (b : Bool) (length actual : ℕ) → is_some ask ≡ true → is_uncut (told_status false 26 ask b length actual) ≡ false
unfolding told_status status_of
cut_when_asked None b length actual e = absurd cc
cut_when_asked (Some ask.Cancel) b length actual e = refl
cut_when_asked (Some ask.Time) b length actual e = refl

-- what is withdrawn was cancelled or timed out
pub withdrawn_cut : (size : ℕ) (line : List Item) → uncut_keys (withdrawn size line) ≡ []
unfolding withdrawn
withdrawn_cut size [] = refl
withdrawn_cut size (x ∷ xs) = by_test (is_withdrawn x) refl (withdrawn_cut size xs)
  where
    by_test : (b : Bool) → is_withdrawn x ≡ b → uncut_keys (withdrawn size xs) ≡ []
        → uncut_keys (if b then result_of size false 26 x ∷ withdrawn size xs else withdrawn size xs) ≡ []
    by_test true e rest = rw (cut_when_asked x.ask _ _ _ (and_parts (is_waiting x) (is_some x.ask) e).1) rest
    by_test false e rest = rest

-- the transfer of this number is in progress
it_lives : (n : ℕ) (x : Item) → is_transfer n x ≡ true → is_blank x ≡ false
it_lives n x e = not-true (is_blank x) (and_parts (x.n == n) (not (is_blank x)) e).1

-- the transfer whose end is told leaves, into one result, and with it those before it
pub finished_times : (size : ℕ) (gone : Bool) (code n k : ℕ) (line : List Item)
    → times k (result_numbers (finished_result size gone code (in_progress n line))) + times k (live_numbers (past_number n line)) ≤ times k (live_numbers line)
unfolding past_number in_progress live_numbers
finished_times size gone code n k [] = omega arith
finished_times size gone code n k (x ∷ xs) = by_test (is_transfer n x) (is_blank x) refl refl (finished_times size gone code n k xs)
  where
    by_test : (b c : Bool) → is_transfer n x ≡ b → is_blank x ≡ c
        → times k (result_numbers (finished_result size gone code (in_progress n xs))) + times k (live_numbers (past_number n xs)) ≤ times k (live_numbers xs)
        → times k (result_numbers (finished_result size gone code (if b then Some x else in_progress n xs))) + times k (live_numbers (if b then xs else past_number n xs)) ≤ times k (if c then live_numbers xs else x.n ∷ live_numbers xs)
    by_test true true e f rest = absurd (cc (it_lives n x e))
    by_test true false e f rest = omega (arith, times-cons k x.n [], times-cons k x.n (live_numbers xs))
    by_test false true e f rest = rest
    by_test false false e f rest = omega (arith, rest, times-cons k x.n (live_numbers xs))

-- in the order of the line
pub finished_part : (size : ℕ) (gone : Bool) (code n : ℕ) (line : List Item) → IsPart (uncut_keys (finished_result size gone code (in_progress n line)) ++ keys (past_number n line)) (keys line)
unfolding past_number in_progress
finished_part size gone code n [] = nothing
finished_part size gone code n (x ∷ xs) = by_test (is_transfer n x) (is_blank x) refl refl (finished_part size gone code n xs)
  where
    kept : (b : Bool) → IsPart (map (λ x. record { n = x.n; ep = x.request.ep }) (if b then result_of size gone code x ∷ [] else []) ++ keys xs) (key_of x ∷ keys xs)
    kept true = keeps (whole (keys xs))
    kept false = skips (whole (keys xs))

    by_test : (b c : Bool) → is_transfer n x ≡ b → is_blank x ≡ c
        → IsPart (uncut_keys (finished_result size gone code (in_progress n xs)) ++ keys (past_number n xs)) (keys xs)
        → IsPart (uncut_keys (finished_result size gone code (if b then Some x else in_progress n xs)) ++ keys (if b then xs else past_number n xs)) (if c then keys xs else key_of x ∷ keys xs)
    by_test true true e f rest = absurd (cc (it_lives n x e))
    by_test true false e f rest = kept (is_uncut (result_of size gone code x).status)
    by_test false true e f rest = rest
    by_test false false e f rest = skips rest

-- what a piece of work may do to the transfers at its endpoint: each that leaves the line is in one result, and those not cut come in order
pub record IsSound (e : Endpoint) (d : EndpointEffect) : Type 0 where
  pub once : (n : ℕ) → times n (result_numbers d.results) + times n (live_numbers d.endpoint.line) ≤ times n (live_numbers e.line)
  pub ordered_at : IsPart (uncut_keys d.results ++ keys d.endpoint.line) (keys e.line)

-- work that makes no result, and leaves the line's transfers
pub no_result : (e : Endpoint) (d : EndpointEffect) → d.results ≡ [] → keys d.endpoint.line ≡ keys e.line → IsSound e d
no_result e d none same = record {
  once = λ n. rw (none, same_lives d.endpoint.line e.line same) (omega arith);
  ordered_at = rw (none, same) (whole (keys e.line));
}

-- the item found by a number has that number
pub found_it : (n : ℕ) (line : List Item) (i : Item) → in_progress n line ≡ Some i → is_transfer n i ≡ true
unfolding in_progress
found_it n [] i e = absurd cc
found_it n (x ∷ xs) i e = by_test (is_transfer n x) refl e (found_it n xs i)
  where
    by_test : (b : Bool) → is_transfer n x ≡ b → (if b then Some x else in_progress n xs) ≡ Some i → (in_progress n xs ≡ Some i → is_transfer n i ≡ true) → is_transfer n i ≡ true
    by_test true t e rest = let same : x ≡ i = cc in ap (is_transfer n) (sym same) ∙ t
    by_test false t e rest = rest e

-- what is in progress is among the numbers
pub progress_times : (n : ℕ) (line : List Item) (i : Item) → in_progress n line ≡ Some i → 1 ≤ times n (live_numbers line)
unfolding in_progress live_numbers
progress_times n [] i e = absurd cc
progress_times n (x ∷ xs) i e = by_tests (x.n == n) (is_blank x) refl e (progress_times n xs i)
  where
    by_tests : (b c : Bool) → (x.n == n) ≡ b → (if b && not c then Some x else in_progress n xs) ≡ Some i → (in_progress n xs ≡ Some i → 1 ≤ times n (live_numbers xs)) → 1 ≤ times n (if c then live_numbers xs else x.n ∷ live_numbers xs)
    by_tests true true q e rest = rest e
    by_tests true false q e rest = omega (arith, rw q at (times-cons n x.n (live_numbers xs)))
    by_tests false true q e rest = rest e
    by_tests false false q e rest = omega (arith, rest e, times-cons n x.n (live_numbers xs))
