-- Each endpoint of a device is rewound, one after another.
use Rattle.std.proofs.Common.{Bool, true, false, ◌*◌, ◌%◌, ◌/◌, ◌≤◌, length-set, ◌≡◌, ℕ, zero, suc, ◌+◌, ◌<◌, refl, ap, sym, subst, ◌∙◌, arith, List, [], ◌∷◌, ◌++◌, length, map, take, drop}
use Rattle.std.specs.Prelude.{nat_le, get_or, slice_get, slice_set, Some, if◌then◌else◌}
use Rattle.std.proofs.lemmas.Bool.{leb-false, leb-true}
use Rattle.usb_model.specs.Setup.{endpoint_id}
use Rattle.usb_device.specs.Pipe.{IsLawful, Pipe, no_pipe, pipe_at, rewound}
use Rattle.std.specs.Option.{unwrap_or}
use Rattle.std.proofs.lemmas.Option.{same_Some}
use Rattle.usb_xhc.specs.Slots.{DeviceSlot}

module _ {A : Type 0} (f : A → A) where
  -- so many of a list were changed
  abbrev pub changed_to : ℕ → List A → List A
  changed_to k xs = map f (take k xs) ++ drop k xs

  -- one more
  pub change_next : (xs : List A) (k : ℕ) (z : A) → k < length xs → slice_set (changed_to k xs) k (f (unwrap_or (slice_get (changed_to k xs) k) z)) ≡ changed_to (suc k) xs
  change_next [] k z within = absurd (omega (arith, within))
  change_next (x ∷ xs) zero z within = refl
  change_next (x ∷ xs) (suc k) z within = ap (λ (l : List A). f x ∷ l) (change_next xs k z (omega (arith, within)))

  -- one more, in a list that changed so far
  pub change_at : (xs now : List A) (k : ℕ) (d y : A) → k < length xs → now ≡ changed_to k xs → y ≡ f (get_or now k d) → slice_set now k y ≡ changed_to (k + 1) xs
  change_at xs now k d y within so_far is =
      let next : suc k ≡ k + 1 = omega arith in
      ap (slice_set now k) is
      ∙ (ap (λ (l : List A). slice_set l k (f (get_or l k d))) so_far
      ∙ (there xs k within ∙ ap (λ (n : ℕ). changed_to n xs) next))
    where
      there : (l : List A) (n : ℕ) → n < length l → slice_set (changed_to n l) n (f (get_or (changed_to n l) n d)) ≡ changed_to (suc n) l
      there [] n below = absurd (omega (arith, below))
      there (x ∷ l) zero below = refl
      there (x ∷ l) (suc n) below = ap (λ (m : List A). f x ∷ m) (there l n (omega (arith, below)))

  -- as many as before
  pub changed_length : (xs : List A) (k : ℕ) → length (changed_to k xs) ≡ length xs
  changed_length [] zero = refl
  changed_length [] (suc k) = refl
  changed_length (x ∷ xs) zero = refl
  changed_length (x ∷ xs) (suc k) = ap suc (changed_length xs k)

  -- all of them
  pub changed_all : (xs : List A) (k : ℕ) → length xs ≡ k → changed_to k xs ≡ map f xs
  changed_all [] zero same = refl
  changed_all [] (suc k) same = absurd (omega (arith, same))
  changed_all (x ∷ xs) zero same = absurd (omega (arith, same))
  changed_all (x ∷ xs) (suc k) same = ap (λ (l : List A). f x ∷ l) (changed_all xs k (omega (arith, same)))

-- the endpoint of an id has it
pub id_address : (id : ℕ) → id < 32 → endpoint_id (id / 2 + 128 * (id % 2)) ≡ id
id_address id below = by_test (nat_le 128 (id / 2 + 128 * (id % 2))) refl
  where
    by_test : (b : Bool) → nat_le 128 (id / 2 + 128 * (id % 2)) ≡ b → 2 * ((id / 2 + 128 * (id % 2)) % 16) + (if b then 1 else 0) ≡ id
    by_test true t = let above = leb-true 128 (id / 2 + 128 * (id % 2)) t in omega arith
    by_test false t = let low = leb-false 128 (id / 2 + 128 * (id % 2)) t in omega arith

-- one endpoint more is rewound
pub rewinds_next : (old now new : List Pipe) (id ep : ℕ) → id < 32 → ep ≡ id / 2 + 128 * (id % 2) → now ≡ changed_to rewound id old → IsLawful new → new ≡ slice_set now (endpoint_id ep) (rewound (pipe_at now ep)) → new ≡ changed_to rewound (id + 1) old
rewinds_next old now new id ep below is so_far lawful set =
    let at : endpoint_id ep ≡ id = ap endpoint_id is ∙ id_address id below in
    let as_long : length now ≡ 32 = sym (length-set now (endpoint_id ep) (rewound (pipe_at now ep))) ∙ ap length (sym set) ∙ lawful.all in
    let before : length old ≡ 32 = sym (changed_length rewound old id) ∙ ap length (sym so_far) ∙ as_long in
    let next : id + 1 ≡ suc id = omega arith in
    set
    ∙ ap (λ (k : ℕ). slice_set now k (rewound (unwrap_or (slice_get now k) no_pipe))) at
    ∙ ap (λ (l : List Pipe). slice_set l id (rewound (unwrap_or (slice_get l id) no_pipe))) so_far
    ∙ change_next rewound old id no_pipe (omega (arith, below, before))
    ∙ ap (λ (k : ℕ). changed_to rewound k old) (sym next)

-- all are
pub rewinds_all : (old now : List Pipe) (id : ℕ) → 32 ≤ id → id ≤ 32 → now ≡ changed_to rewound id old → IsLawful now → now ≡ map rewound old
rewinds_all old now id low high so_far lawful =
    let before : length old ≡ id = sym (changed_length rewound old id) ∙ ap length (sym so_far) ∙ (lawful.all ∙ omega arith) in
    so_far ∙ changed_all rewound old id before

-- one slot more keeps its device's law
pub laws_next : (now : List DeviceSlot) (k : ℕ) (y : DeviceSlot) → IsLawful y.pipes → ((d : ℕ) (s : DeviceSlot) → d < k → slice_get now d ≡ Some s → IsLawful s.pipes)
    → (d : ℕ) (s : DeviceSlot) → d < k + 1 → slice_get (slice_set now k y) d ≡ Some s → IsLawful s.pipes
laws_next [] k y lawful before d s below there = absurd cc
laws_next (x ∷ xs) zero y lawful before zero s below there = subst (λ (t : DeviceSlot). IsLawful t.pipes) (same_Some y s there) lawful
laws_next (x ∷ xs) zero y lawful before (suc d) s below there = absurd (omega (arith, below))
laws_next (x ∷ xs) (suc k) y lawful before zero s below there = before zero s (omega arith) there
laws_next (x ∷ xs) (suc k) y lawful before (suc d) s below there = laws_next xs k y lawful (λ e t low h. before (suc e) t (omega (arith, low)) h) d s (omega (arith, below)) there
