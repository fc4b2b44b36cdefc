-- What is read of a core, part by part.
use Rattle.std.proofs.Common.{◌≡◌, ◌<◌, ◌++◌, ◌+◌, ◌≤◌, ◌∙◌, ◌⊎◌, inl, inr, ℕ, zero, suc, List, [], ◌∷◌, Option, Some, None, ap, append_assoc, arith, get_or, length, map, refl, sym, take}
use Rattle.std.specs.Prelude.{slice_get}
use Rattle.std.specs.List.{flat_map}
use Rattle.std.specs.Option.{option_map}
use Rattle.std.proofs.lemmas.List.{take_all, take_more}
use Rattle.std.proofs.lemmas.Option.{slice_get_cases}
use Rattle.std.proofs.lemmas.List.{map-append}
use Rattle.usb_model.specs.declared.item.Item.{Item}
use Rattle.usb_model.specs.declared.result.InCallback.{InCallback}
use Rattle.usb_model.specs.declared.result.TransferResult.{TransferResult}
use Rattle.usb_model.specs.declared.shared.Tagged.{Tagged}
use Rattle.usb_model.specs.Machine.Calls.{callback_of}
use Rattle.usb_core.specs.Public.{number_in, waiting_result}
use Rattle.usb_core.specs.declared.inventory.WaitingResult.{WaitingResult}
use Rattle.trace_left.specs.declared.left.Left.{Left}
use Rattle.trace_left.specs.Gathered.{called_at, line_read, result_of, result_told, waits_left}
use Rattle.trace_left.specs.Left.{callback_left, callbacks_below}
use Rattle.trace_left.proofs.Lists.{one_further}

-- a callback by its endpoint
pub called_is : (h n : ℕ) (o : Option InCallback) → called_at h n (option_map (λ x. x.request.ep) o) ≡ callback_left h n o
called_is h n None = refl
called_is h n (Some x) = refl

-- those of one number more
pub callbacks_more : (h n : ℕ) (callbacks : List InCallback) → callbacks_below h callbacks (n + 1) ≡ callbacks_below h callbacks n ++ callback_left h n (callback_of n callbacks)
unfolding callbacks_below
callbacks_more h n callbacks = let more : n + 1 ≡ suc n = omega arith in rw more refl

-- an element within a list
within : {A : Type 0} (xs : List A) (i : ℕ) → i < length xs → (x : A) × (slice_get xs i ≡ Some x) × (x ≡ get_or xs i x)
within {A} xs i low = by_cases (slice_get_cases xs i).1
  where
    by_cases : ((x : A) × (i < length xs) × (slice_get xs i ≡ Some x) × (get_or xs i x ≡ x)) ⊎ ((length xs ≤ i) × (slice_get xs i ≡ None)) → (x : A) × (slice_get xs i ≡ Some x) × (x ≡ get_or xs i x)
    by_cases (inl (x, here, is, at)) = (x, is, sym at)
    by_cases (inr (past, none)) = absurd (omega (arith, low, past))

-- a place of a line more
pub one_place : (h ep : ℕ) (old now new : List Left) (line : List Item) (i : ℕ) → i < length line → now ≡ old ++ line_read h ep (take i line) → new ≡ now ++ waits_left h ep (number_in (slice_get line i)) → new ≡ old ++ line_read h ep (take (i + 1) line)
one_place h ep old now new line i low so_far more =
    let it = within line i low in
    one_further (λ x. waits_left h ep (number_in (Some x))) old now new line i it.0 it.0 low it.2 so_far (more ∙ ap (λ o. now ++ waits_left h ep (number_in o)) it.1)

-- a result more
pub one_result : (old now new : List Left) (results : List (Tagged TransferResult)) (i : ℕ) (o : Option WaitingResult) (x : WaitingResult) → o ≡ option_map waiting_result (slice_get results i) → o ≡ Some x → now ≡ old ++ map result_of (take i results) → new ≡ now ++ result_told x ∷ []
    → new ≡ old ++ map result_of (take (i + 1) results)
one_result old now new results i o x reads there so_far more = by_cases (slice_get_cases results i).1
  where
    by_cases : ((t : Tagged TransferResult) × (i < length results) × (slice_get results i ≡ Some t) × (get_or results i t ≡ t)) ⊎ ((length results ≤ i) × (slice_get results i ≡ None)) → new ≡ old ++ map result_of (take (i + 1) results)
    by_cases (inl (t, low, is, at)) =
        let same : waiting_result t ≡ x = cc (there, reads, is) in
        more ∙ (ap (λ l. l ++ result_told x ∷ []) so_far ∙ (ap (λ y. (old ++ map result_of (take i results)) ++ result_told y ∷ []) (sym same)
        ∙ (append_assoc old (map result_of (take i results)) (result_of t ∷ []) ∙ ap (λ l. old ++ l) (sym (ap (map result_of) (take_more results i t low ∙ ap (λ y. take i results ++ y ∷ []) at) ∙ map-append result_of (take i results) (t ∷ []))))))
    by_cases (inr (past, none)) = absurd (cc (there, reads, none))

-- they are all
pub all_results : (old now : List Left) (results : List (Tagged TransferResult)) (i : ℕ) (o : Option WaitingResult) → o ≡ option_map waiting_result (slice_get results i) → o ≡ None → now ≡ old ++ map result_of (take i results) → now ≡ old ++ map result_of results
all_results old now results i o reads none so_far = by_cases (slice_get_cases results i).1
  where
    by_cases : ((t : Tagged TransferResult) × (i < length results) × (slice_get results i ≡ Some t) × (get_or results i t ≡ t)) ⊎ ((length results ≤ i) × (slice_get results i ≡ None)) → now ≡ old ++ map result_of results
    by_cases (inl (t, low, is, at)) = absurd (cc (none, reads, is))
    by_cases (inr (past, gone)) = so_far ∙ ap (λ l. old ++ map result_of l) (take_all i results past)
