-- One turn more of a loop that puts something behind a list for each value of another.
use Rattle.std.proofs.Common.{◌≡◌, ℕ, suc, ◌+◌, ◌<◌, ◌≤◌, List, [], ◌∷◌, ◌++◌, length, drop, map, get_or, refl, ap, sym, ◌∙◌, append_assoc, append-nil, arith}
use Rattle.std.specs.List.{flat_map}
use Rattle.std.proofs.lemmas.List.{at_drop_more, at_drop_all}
use Rattle.trace_recorded.specs.declared.device.OtherTransfer.{OtherTransfer}
use Rattle.trace_recorded.specs.Lines.{other_note, other_notes}

pub joined_next : {A B : Type 0} (f : A → List B) (out more all : List B) (xs : List A) (i : ℕ) (x : A) → i < length xs → x ≡ get_or xs i x → more ≡ out ++ f x → out ++ flat_map f (drop i xs) ≡ all
    → more ++ flat_map f (drop (i + 1) xs) ≡ all
joined_next f out more all xs i x less item next so_far =
    ap (λ b. b ++ flat_map f (drop (i + 1) xs)) (next ∙ ap (λ y. out ++ f y) item)
    ∙ (append_assoc out (f (get_or xs i x)) (flat_map f (drop (i + 1) xs))
    ∙ (sym (at_drop_more (λ l. out ++ flat_map f l) xs i x less) ∙ so_far))

pub joined_end : {A B : Type 0} (f : A → List B) (out all : List B) (xs : List A) (i : ℕ) → length xs ≤ i → out ++ flat_map f (drop i xs) ≡ all → out ≡ all
joined_end f out all xs i past so_far = sym (append-nil out) ∙ (sym (at_drop_all (λ l. out ++ flat_map f l) xs i past) ∙ so_far)

-- the same of a loop that changes each value, taken out of a list of which some are left
pub mapped_next : {A B : Type 0} (f : A → B) (out more all : List B) (x : A) (left rest : List A) → left ≡ x ∷ rest → more ≡ out ++ f x ∷ [] → out ++ map f left ≡ all → more ++ map f rest ≡ all
mapped_next f out more all x left rest is next so_far =
    ap (λ b. b ++ map f rest) next ∙ (append_assoc out (f x ∷ []) (map f rest) ∙ (ap (λ l. out ++ map f l) (sym is) ∙ so_far))

pub mapped_end : {A B : Type 0} (f : A → B) (out all : List B) (left : List A) → left ≡ [] → out ++ map f left ≡ all → out ≡ all
mapped_end f out all left none so_far = sym (append-nil out) ∙ (ap (λ l. out ++ map f l) (sym none) ∙ so_far)

-- the same of a loop that puts something behind for each value, taken out of a list of which some are left
pub poured_next : {A B : Type 0} (f : A → List B) (out more all : List B) (x : A) (left rest : List A) → left ≡ x ∷ rest → more ≡ out ++ f x → out ++ flat_map f left ≡ all → more ++ flat_map f rest ≡ all
poured_next f out more all x left rest is next so_far =
    ap (λ b. b ++ flat_map f rest) next ∙ (append_assoc out (f x) (flat_map f rest) ∙ (ap (λ l. out ++ flat_map f l) (sym is) ∙ so_far))

pub poured_end : {A B : Type 0} (f : A → List B) (out all : List B) (left : List A) → left ≡ [] → out ++ flat_map f left ≡ all → out ≡ all
poured_end f out all left none so_far = sym (append-nil out) ∙ (ap (λ l. out ++ flat_map f l) (sym none) ∙ so_far)

-- the notes of endpoints below an address
pub notes_none : (out : List ℕ) (others : List OtherTransfer) → out ≡ out ++ other_notes others 0
unfolding other_notes
notes_none out others = sym (append-nil out)

next_note : (others : List OtherTransfer) (ep : ℕ) → other_notes others (suc ep) ≡ other_notes others ep ++ other_note others ep
unfolding other_notes
next_note others ep = refl

pub notes_more : (begun out more : List ℕ) (others : List OtherTransfer) (ep : ℕ) → out ≡ begun ++ other_notes others ep → more ≡ out ++ other_note others ep → more ≡ begun ++ other_notes others (ep + 1)
notes_more begun out more others ep so_far next =
    let one : ep + 1 ≡ suc ep = omega arith in
    next ∙ (ap (λ t. t ++ other_note others ep) so_far
    ∙ (append_assoc begun (other_notes others ep) (other_note others ep)
    ∙ ap (λ t. begun ++ t) (sym (next_note others ep) ∙ ap (other_notes others) (sym one))))
