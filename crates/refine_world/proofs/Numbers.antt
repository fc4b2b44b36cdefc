-- The numbers of transfers in a core that shows a world: each stands once in its line, and none of a result that waits is in its callback.
use Rattle.std.proofs.Common.{Bool, List, None, Some, [], ap, ap₂, arith, false, inl, inr, length, map, not, refl, subst, suc, sym, true, zero, ℕ, ◌+◌, ◌<◌, ◌≤◌, ◌==◌, ◌∙◌, ◌∷◌, ◌≡◌, ◌⊎◌}
use Rattle.std.specs.Prelude.{if◌then◌else◌, slice_get}
use Rattle.std.specs.List.{count_by}
use Rattle.std.proofs.lemmas.Bool.{cases_lt, eqb-true}
use Rattle.std.proofs.lemmas.Option.{same_Some}
use Rattle.usb_model.specs.declared.item.Item.{Item}
use Rattle.usb_model.specs.declared.result.InCallback.{InCallback}
use Rattle.usb_model.specs.declared.result.TransferResult.{TransferResult}
use Rattle.usb_model.specs.Endpoint.{is_blank, live_numbers}
use Rattle.usb_model.specs.Laws.Bounds.{IsWithinBounds, line_at}
use Rattle.usb_model.specs.Laws.Cut.{times}
use Rattle.usb_model.specs.Laws.Places.{InNoPlace, InOnePlace, numbers_at, numbers_called}
use Rattle.usb_model.specs.Machine.Calls.{callback_of}
use Rattle.usb_model.specs.Machine.{Machine, endpoint_at, is_result_at}
use Rattle.usb_model.specs.Setup.{Setup, packet_size_of}
use Rattle.usb_model.specs.World.Journal.{entries}
use Rattle.usb_model.specs.World.Shared.{pieces_of}
use Rattle.usb_model.specs.World.{World, holder, machine_of}
use Rattle.proof_model.proofs.Bound.Gone.{live_once}
use Rattle.proof_model.proofs.Bounds.Runs.{keeps_bounds}
use Rattle.proof_model.proofs.Places.Placed.{IsPlaced}
use Rattle.proof_model.proofs.Places.Runs.{kept_at}
use Rattle.proof_model.proofs.Lists.Pieces.{same_name}
use Rattle.proof_model.proofs.Lists.Times.{count-cons, times-cons, times_here}
use Rattle.usb_model.specs.Kept.{KeptTransfer}
use Rattle.refine_world.specs.Known.{FewPlaces, NotYetCalled, NumbersOnce}
use Rattle.refine_world.specs.Lively.{IsFine}
use Rattle.refine_world.specs.ShownEndpoint.{AllKept}
use Rattle.refine_world.specs.Shows.{Core, Shows}
use Rattle.refine_world.proofs.Bounds.{as_long}
use Rattle.refine_world.proofs.WholeSteps.{same_holder}
use Rattle.refine_world.proofs.Links.{end_there, known, machine_parts}

-- the numbers in progress of a line as it is kept
abbrev kept_numbers : List KeptTransfer → List ℕ
kept_numbers [] = []
kept_numbers (y ∷ ys) = if y.blank then kept_numbers ys else y.n ∷ kept_numbers ys

-- they are those of the line that is shown
kept_live : (size : ℕ) (xs : List Item) (ys : List KeptTransfer) → AllKept size xs ys → kept_numbers ys ≡ live_numbers xs
unfolding live_numbers
kept_live size [] [] k = refl
kept_live size [] (y ∷ ys) k = absurd k
kept_live size (x ∷ xs) [] k = absurd k
kept_live size (x ∷ xs) (y ∷ ys) k = by_blank (is_blank x) refl (kept_live size xs ys k.1)
  where
    by_blank : (b : Bool) → is_blank x ≡ b → kept_numbers ys ≡ live_numbers xs → (if y.blank then kept_numbers ys else y.n ∷ kept_numbers ys) ≡ (if b then live_numbers xs else x.n ∷ live_numbers xs)
    by_blank true is rest = let blank : y.blank ≡ true = k.0.blank ∙ is in rw blank rest
    by_blank false is rest = let blank : y.blank ≡ false = k.0.blank ∙ is in rw blank (ap₂ (λ n l. n ∷ l) (k.0.live is).n rest)

-- there are as many as transfers that are not withdrawn
count_live : (ys : List KeptTransfer) → count_by (λ (y : KeptTransfer). not y.blank) ys ≡ length (kept_numbers ys)
count_live [] = refl
count_live (y ∷ ys) = count-cons (λ (y : KeptTransfer). not y.blank) y ys ∙ by_blank y.blank (count_live ys)
  where
    by_blank : (b : Bool) → count_by (λ (y : KeptTransfer). not y.blank) ys ≡ length (kept_numbers ys) → (if not b then 1 else 0) + count_by (λ (y : KeptTransfer). not y.blank) ys ≡ length (if b then kept_numbers ys else y.n ∷ kept_numbers ys)
    by_blank true e = omega (arith, e)
    by_blank false e = omega (arith, e)

-- a transfer in progress has its number among them
number_there : (ys : List KeptTransfer) (i : ℕ) (y : KeptTransfer) → slice_get ys i ≡ Some y → y.blank ≡ false → 1 ≤ times y.n (kept_numbers ys)
number_there [] i y there live = absurd cc
number_there (z ∷ zs) zero y there live =
    let same : z ≡ y = same_Some z y there in
    let blank : z.blank ≡ false = ap (λ t. t.blank) same ∙ live in
    rw blank (omega (arith, times_here y.n z.n (kept_numbers zs) (ap (λ t. t.n) same)))
number_there (z ∷ zs) (suc i) y there live = by_blank z.blank (number_there zs i y there live)
  where
    by_blank : (b : Bool) → 1 ≤ times y.n (kept_numbers zs) → 1 ≤ times y.n (if b then kept_numbers zs else z.n ∷ kept_numbers zs)
    by_blank true le = le
    by_blank false le = omega (arith, le, times-cons y.n z.n (kept_numbers zs))

-- the first has a number that no other has, where this stands once
no_other : (z : KeptTransfer) (zs : List KeptTransfer) (j : ℕ) (x y : KeptTransfer) → times y.n (kept_numbers (z ∷ zs)) ≤ 1 → z ≡ x → x.blank ≡ false → x.n ≡ y.n → slice_get zs j ≡ Some y → y.blank ≡ false → ⊥
no_other z zs j x y once is live same there other =
    let blank : z.blank ≡ false = ap (λ t. t.blank) is ∙ live in
    let one : times y.n (z.n ∷ kept_numbers zs) ≤ 1 = subst (λ b. times y.n (if b then kept_numbers zs else z.n ∷ kept_numbers zs) ≤ 1) blank once in
    omega (arith, one, times_here y.n z.n (kept_numbers zs) (ap (λ t. t.n) is ∙ same), number_there zs j y there other)

-- behind the first each number stands no more often
no_more : (n : ℕ) (z : KeptTransfer) (zs : List KeptTransfer) → times n (kept_numbers (z ∷ zs)) ≤ 1 → times n (kept_numbers zs) ≤ 1
no_more n z zs once = by_blank z.blank once
  where
    by_blank : (b : Bool) → times n (if b then kept_numbers zs else z.n ∷ kept_numbers zs) ≤ 1 → times n (kept_numbers zs) ≤ 1
    by_blank true le = le
    by_blank false le = omega (arith, le, times-cons n z.n (kept_numbers zs))

-- where each number stands once, a number names one place
same_place : (ys : List KeptTransfer) (i j : ℕ) (x y : KeptTransfer) → ((n : ℕ) → times n (kept_numbers ys) ≤ 1) → slice_get ys i ≡ Some x → slice_get ys j ≡ Some y → x.blank ≡ false → y.blank ≡ false → x.n ≡ y.n → i ≡ j
same_place [] i j x y once a b p q same = absurd cc
same_place (z ∷ zs) zero zero x y once a b p q same = refl
same_place (z ∷ zs) zero (suc j) x y once a b p q same = absurd (no_other z zs j x y (once y.n) (same_Some z x a) p same b q)
same_place (z ∷ zs) (suc i) zero x y once a b p q same = absurd (no_other z zs i y x (once x.n) (same_Some z y b) q (sym same) a p)
same_place (z ∷ zs) (suc i) (suc j) x y once a b p q same = ap suc (same_place zs i j x y (λ n. no_more n z zs (once n)) a b p q same)

-- each number of a handle is in one place, in every world that is shown
placed : (setup : Setup) (w : World) (c : Core) (s : Shows setup w c) (h : ℕ) → IsPlaced (machine_of setup h w) (numbers_called (entries setup s.steps h))
placed setup w c s h = subst (λ u. IsPlaced (machine_of setup h u) (numbers_called (entries setup s.steps h))) (sym s.reached) (kept_at setup h s.steps).placed

-- in every core that shows a world
pub numbers_once : (setup : Setup) → IsFine setup → NumbersOnce setup
numbers_once setup fine w c s h d e i j x y holds a b p q same =
    let there : holder setup w.claims d e ≡ Some h = sym (same_holder setup w c s d e) ∙ holds in
    let end : endpoint_at (machine_of setup h w) e ≡ Some (w.endpoints d e) = end_there setup w h d e (known setup w c s fine h d e there).device there in
    let numbers : kept_numbers (c.endpoints d e).line ≡ live_numbers (w.endpoints d e).line = kept_live (packet_size_of setup d e) (w.endpoints d e).line (c.endpoints d e).line (s.endpoints h d e there).kept in
    let once : (n : ℕ) → times n (kept_numbers (c.endpoints d e).line) ≤ 1 =
    λ n. subst (λ l. times n l ≤ 1) (sym numbers) (subst (λ o. times n (numbers_at o) ≤ 1) end (live_once n e (machine_of setup h w) (numbers_called (entries setup s.steps h)) (placed setup w c s h))) in
    same_place (c.endpoints d e).line i j x y once a b p q same

-- a number that stands nowhere is in no callback
no_callback : (n : ℕ) (xs : List InCallback) → times n (map (λ x. x.n) xs) ≡ 0 → callback_of n xs ≡ None
unfolding callback_of
no_callback n [] none = refl
no_callback n (x ∷ xs) none = by_test (x.n == n) refl (no_callback n xs (omega (arith, none, times-cons n x.n (map (λ (x : InCallback). x.n) xs))))
  where
    by_test : (b : Bool) → (x.n == n) ≡ b → callback_of n xs ≡ None → (if b then Some x else callback_of n xs) ≡ None
    by_test true is rest = absurd (omega (arith, none, times_here n x.n (map (λ (x : InCallback). x.n) xs) (eqb-true x.n n is)))
    by_test false is rest = rest

-- a number whose result waits is in no callback
waits_uncalled : (m : Machine) (called : List ℕ) (n : ℕ) → IsPlaced m called → 1 ≤ times n (map (λ x. x.n) m.results) → times n (map (λ x. x.n) m.handle.in_callbacks) ≡ 0
waits_uncalled m called n placed waits = by_order (cases_lt n m.handle.next_number)
  where
    in_one : InOnePlace n m called → times n (map (λ x. x.n) m.handle.in_callbacks) ≡ 0
    in_one p = omega (arith, p.once, p.in_callback, waits)

    in_none : InNoPlace n m called → times n (map (λ x. x.n) m.handle.in_callbacks) ≡ 0
    in_none p = p.in_no_callback

    by_order : (n < m.handle.next_number) ⊎ (m.handle.next_number ≤ n) → times n (map (λ x. x.n) m.handle.in_callbacks) ≡ 0
    by_order (inl lt) = in_one (placed.given n lt)
    by_order (inr le) = in_none (placed.not_given n le)

-- in every core that shows a world
pub not_yet_called : (setup : Setup) → NotYetCalled setup
not_yet_called setup w c s x xs is =
    let m : Machine = machine_of setup x.name w in
    let parts = machine_parts setup x.name w in
    let results : m.results ≡ x.piece ∷ pieces_of x.name xs = parts.3 ∙ (ap (pieces_of x.name) (sym s.results ∙ is) ∙ rw (same_name x.name) refl) in
    let waits : 1 ≤ times x.piece.n (map (λ (r : TransferResult). r.n) m.results) =
    subst (λ l. 1 ≤ times x.piece.n (map (λ (r : TransferResult). r.n) l)) (sym results) (omega (arith, times_here x.piece.n x.piece.n (map (λ (r : TransferResult). r.n) (pieces_of x.name xs)) refl)) in
    let handle : m.handle ≡ c.names x.name = parts.0 ∙ sym (ap (λ names. names x.name) s.names) in
    subst (λ v. callback_of x.piece.n v.in_callbacks ≡ None) handle
    (no_callback x.piece.n m.handle.in_callbacks (waits_uncalled m (numbers_called (entries setup s.steps x.name)) x.piece.n (placed setup w c s x.name) waits))

-- the bounds of a handle's machine, in every world that is shown
within : (setup : Setup) (w : World) (c : Core) (s : Shows setup w c) (h : ℕ) → IsWithinBounds (machine_of setup h w)
within setup w c s h = subst (λ u. IsWithinBounds (machine_of setup h u)) (sym s.reached) (keeps_bounds setup s.steps h)

-- in every core that shows a world
pub few_places : (setup : Setup) → IsFine setup → FewPlaces setup
few_places setup fine w c s h d e holds =
    let there : holder setup w.claims d e ≡ Some h = sym (same_holder setup w c s d e) ∙ holds in
    let m : Machine = machine_of setup h w in
    let end : endpoint_at m e ≡ Some (w.endpoints d e) = end_there setup w h d e (known setup w c s fine h d e there).device there in
    let kept = (s.endpoints h d e there).kept in
    let results : m.results ≡ pieces_of h c.results = (machine_parts setup h w).3 ∙ ap (pieces_of h) (sym s.results) in
    let b = within setup w c s h in
    let line : length (w.endpoints d e).line ≤ 16 = subst (λ o. length (line_at o) ≤ 16) end (b.line e) in
    let few : count_by (is_result_at e) m.results + length (live_numbers (w.endpoints d e).line) ≤ 16 = subst (λ o. count_by (is_result_at e) m.results + length (numbers_at o) ≤ 16) end (b.results e) in (
      omega (arith, line, as_long (packet_size_of setup d e) (w.endpoints d e).line (c.endpoints d e).line kept),
      omega (arith, few, ap (count_by (is_result_at e)) results, count_live (c.endpoints d e).line, ap length (kept_live (packet_size_of setup d e) (w.endpoints d e).line (c.endpoints d e).line kept)),
    )
