-- Dequeue goes on in parts.
use Rattle.std.proofs.Common.{◌≡◌, ℕ, zero, suc, ◌+◌, ◌-◌, ◌%◌, refl, ap, sym, ◌∙◌, arith, List, [], ◌∷◌, ◌++◌, length, drop}
use Rattle.std.proofs.lemmas.List.{drop-drop, length-drop}
use Rattle.usb_trb.specs.declared.kind.TrbKind.{TrbKind}
use Rattle.usb_rings.specs.Line.{Line, all_of, contents, moved, no_ops, advanced}
use Rattle.usb_xhc.specs.Ahead.{trbs_ahead, past}

module _ {A : Type 0} where
  -- two lists without their first elements
  pub drop-both : (n : ℕ) (xs ys : List A) → drop n xs ++ drop (n - length xs) ys ≡ drop n (xs ++ ys)
  drop-both zero xs ys =
      let none : 0 - length xs ≡ 0 = omega arith in
      ap (λ (k : ℕ). xs ++ drop k ys) none
  drop-both (suc n) [] ys =
      let all : suc n - 0 ≡ suc n = omega arith in
      ap (λ (k : ℕ). drop k ys) all
  drop-both (suc n) (x ∷ xs) ys =
      let less : suc n - suc (length xs) ≡ n - length xs = omega arith in
      ap (λ (k : ℕ). drop n xs ++ drop k ys) less ∙ drop-both n xs ys

-- what stands before the controller once dequeue went on
pub contents-moved : (l : Line) (n : ℕ) → contents (moved l n) ≡ drop n (contents l)
contents-moved l n =
    ap (λ (xs : List TrbKind). drop n l.gone ++ xs) (sym (drop-drop (n - length l.gone) l.passed (all_of l.items)))
    ∙ drop-both n l.gone (drop l.passed (all_of l.items))

-- on by some, and by more
pub moved-moved : (l : Line) (a b : ℕ) → moved (moved l a) b ≡ moved l (a + b)
moved-moved l a b =
    let dequeue : ((l.dequeue + a) % 254 + b) % 254 ≡ (l.dequeue + (a + b)) % 254 = omega arith in
    let passed : l.passed + (a - length l.gone) + (b - length (drop a l.gone)) ≡ l.passed + ((a + b) - length l.gone) = omega (arith, length-drop a l.gone) in
    rw (dequeue, passed, drop-drop b a l.gone) refl

-- past all TRBs of a transfer but the last, and then past that and the No Ops behind it
pub past-is : (l : Line) (n : ℕ) → length (trbs_ahead l) ≡ suc n → advanced (moved l n) ≡ past l
past-is l n h =
    let rest : drop 1 (contents (moved l n)) ≡ drop (length (trbs_ahead l)) (contents l) =
    ap (drop 1) (contents-moved l n) ∙ drop-drop 1 n (contents l) ∙ ap (λ (k : ℕ). drop k (contents l)) (omega arith) in
    moved-moved l n (suc (no_ops (drop 1 (contents (moved l n)))))
    ∙ ap (λ (xs : List TrbKind). moved l (n + suc (no_ops xs))) rest
    ∙ ap (moved l) (omega arith)
