-- What is kept of each name, where a result is made.
use Rattle.std.proofs.Common.{◌≡◌, ℕ, ◌+◌, ◌==◌, ◌&&◌, Bool, true, false, refl, ap, sym, ◌∙◌, arith, List, [], ◌∷◌, ◌++◌, ◌⊎◌, inl, inr, eq-eqb, ne_eqb}
use Rattle.std.specs.Prelude.{cond, count_by, if◌then◌else◌}
use Rattle.std.proofs.lemmas.Bool.{cases_eq}
use Rattle.std.proofs.lemmas.List.Sums.{sum_by-append}
use Rattle.usb_model.specs.declared.handle.Handle.{Handle}
use Rattle.usb_model.specs.declared.result.TransferResult.{TransferResult}
use Rattle.usb_model.specs.declared.shared.Tagged.{Tagged}
use Rattle.usb_model.specs.Machine.{is_result_at}
use Rattle.usb_model.specs.Setup.{endpoint_id}
use Rattle.usb_model.specs.World.Shared.{pieces_of, tagged}
use Rattle.proof_model.proofs.Lists.Pieces.{pieces_of-append}
use Rattle.usb_tables.specs.Holders.{Holding, device_of}
use Rattle.usb_tables.specs.Tables.{is_plain}
use Rattle.usb_tables.specs.HandleState.{Kept as HandleState}
use Rattle.usb_tables.specs.HandleStates.{SameCallbacks, SameCounts, SameNumbers, is_there, results_at}
use Rattle.refine_rings.proofs.Ids.{same_id}
use Rattle.refine_core.specs.State.{KeepsName, State}

-- plain addresses are the same just where their ids are
pub same_by_id : (e ep : ℕ) → is_plain e ≡ true → is_plain ep ≡ true → (endpoint_id e == endpoint_id ep) ≡ (e == ep)
same_by_id e ep p q = by_case (cases_eq e ep)
  where
    by_case : (e ≡ ep) ⊎ (e ≡ ep → ⊥) → (endpoint_id e == endpoint_id ep) ≡ (e == ep)
    by_case (inl same) = eq-eqb (endpoint_id e) (endpoint_id ep) (ap endpoint_id same) ∙ sym (eq-eqb e ep same)
    by_case (inr other) = ne_eqb (endpoint_id e) (endpoint_id ep) (λ same. other (same_id e ep p q same)) ∙ sym (ne_eqb e ep other)

-- as many of two lists as of each
pub count_append : {X : Type 0} (p : X → Bool) (xs ys : List X) → count_by p (xs ++ ys) ≡ count_by p xs + count_by p ys
count_append p xs ys = sum_by-append (λ x. cond (p x) 1 0) xs ys

-- of one
pub count_one : {X : Type 0} (p : X → Bool) (x : X) → count_by p (x ∷ []) ≡ (if p x then 1 else 0)
count_one p x = by_test (p x)
  where
    by_test : (t : Bool) → 0 + cond t 1 0 ≡ (if t then 1 else 0)
    by_test true = refl
    by_test false = refl

-- a result that is made counts at its endpoint
pub counted_more : (callers now : List HandleState) (h e g ep : ℕ) (results : List (Tagged TransferResult)) (r : TransferResult) → is_plain e ≡ true → is_plain ep ≡ true → r.request.ep ≡ e
    → results_at now g (endpoint_id ep) ≡ (if is_there h (endpoint_id e) g (endpoint_id ep) then results_at callers g (endpoint_id ep) + 1 else results_at callers g (endpoint_id ep))
    → count_by (is_result_at ep) (pieces_of g results) ≡ results_at callers g (endpoint_id ep)
    → count_by (is_result_at ep) (pieces_of g (results ++ tagged h (r ∷ []))) ≡ results_at now g (endpoint_id ep)
counted_more callers now h e g ep results r plain also at made is =
    ap (count_by (is_result_at ep)) (pieces_of-append g results (tagged h (r ∷ []))) ∙ count_append (is_result_at ep) (pieces_of g results) (pieces_of g (tagged h (r ∷ [])))
    ∙ by_name (h == g) ∙ sym made
  where
    before : ℕ
    before = results_at callers g (endpoint_id ep)

    same : (r.request.ep == ep) ≡ (endpoint_id e == endpoint_id ep)
    same = ap (λ (n : ℕ). n == ep) at ∙ sym (same_by_id e ep plain also)

    one : count_by (is_result_at ep) (r ∷ []) ≡ (if endpoint_id e == endpoint_id ep then 1 else 0)
    one = count_one (is_result_at ep) r ∙ ap (λ (t : Bool). if t then 1 else 0) same

    by_test : (t : Bool) → (endpoint_id e == endpoint_id ep) ≡ t → count_by (is_result_at ep) (pieces_of g results) + count_by (is_result_at ep) (r ∷ []) ≡ (if t then before + 1 else before)
    by_test true test =
        let counts : count_by (is_result_at ep) (r ∷ []) ≡ 1 = one ∙ ap (λ (t : Bool). if t then 1 else 0) test in
        omega (arith, is, counts)
    by_test false test =
        let counts : count_by (is_result_at ep) (r ∷ []) ≡ 0 = one ∙ ap (λ (t : Bool). if t then 1 else 0) test in
        omega (arith, is, counts)

    by_name : (b : Bool) → count_by (is_result_at ep) (pieces_of g results) + count_by (is_result_at ep) (if b then r ∷ [] else []) ≡ (if b && (endpoint_id e == endpoint_id ep) then before + 1 else before)
    by_name true = by_test (endpoint_id e == endpoint_id ep) refl
    by_name false = omega (arith, is)

module _ {P : Type 0} where
  -- a name, where a result of name h is made at endpoint e
  pub name_made : (old new : State P) (h e g : ℕ) (x : Handle) (results : List (Tagged TransferResult)) (r : TransferResult) → is_plain e ≡ true → r.request.ep ≡ e → new.claims ≡ old.claims
      → ((k id : ℕ) → results_at new.callers k id ≡ (if is_there h (endpoint_id e) k id then results_at old.callers k id + 1 else results_at old.callers k id))
      → SameNumbers old.callers new.callers → SameCallbacks old.callers new.callers → SameCounts old.callers new.callers
      → KeepsName old g x (pieces_of g results) → KeepsName new g x (pieces_of g (results ++ tagged h (r ∷ [])))
  name_made old new h e g x results r plain at claims made numbers callbacks counts is = record {
    device = is.device ∙ ap (λ (v : Holding). device_of v g) (sym claims);
    number = is.number ∙ sym (numbers g);
    callback = λ n. is.callback n ∙ sym (callbacks g n);
    called = λ ep also. is.called ep also ∙ sym (counts g (endpoint_id ep));
    waiting = λ ep also. counted_more old.callers new.callers h e g ep results r plain also at (made g (endpoint_id ep)) (is.waiting ep also);
    plain = is.plain;
  }
