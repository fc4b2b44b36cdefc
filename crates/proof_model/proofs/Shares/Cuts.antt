-- A share with one more answer fits what came of its transfer.
use Rattle.std.proofs.Common.{Bool, List, Some, [], ap, ap₂, arith, false, length, refl, subst, sym, true, ℕ, ◌++◌, ◌||◌, ◌∙◌, ◌∷◌, ◌≡◌, ◌≢◌, ◌≤◌}
use Rattle.std.proofs.lemmas.List.Folds.{list_any-append}
use Rattle.usb_model.specs.declared.response.Response.{Response}
use Rattle.usb_model.specs.declared.request.Request.{Request}
use Rattle.usb_model.specs.Laws.Cut.{IsOpen, Part, has_stall, is_stall}
use Rattle.usb_model.specs.declared.outcome.Outcome.{Outcome}
use Rattle.usb_model.specs.Endpoint.Packets.{Ends, EndsAt, IsOpenAt, open_with, outcome}
use Rattle.proof_model.proofs.Shares.OpenShares.{open_before, open_if, open_no_stall, outcome_nothing}

-- a shorter beginning of a share that at most one answer joined is a beginning of the share before
shorter : (share next front back : List Response) → length next ≤ 1 → share ++ next ≡ front ++ back → back ≢ [] → (more : List Response) × (share ≡ front ++ more)
shorter share next [] back one e some = (share, refl)
shorter (z ∷ zs) next (f ∷ front) back one e some =
    let tails : zs ++ next ≡ front ++ back = cc in
    let heads : z ≡ f = cc in
    let r = shorter zs next front back one tails some in
    (r.0, ap₂ (λ a l. a ∷ l) heads r.1)
shorter [] [] (f ∷ front) back one e some = absurd cc
shorter [] (y ∷ []) (f ∷ front) back one e some = absurd (some (none_behind front back tail))
  where
    tail : front ++ back ≡ []
    tail = cc

    none_behind : (xs ys : List Response) → xs ++ ys ≡ [] → ys ≡ []
    none_behind [] ys q = q
    none_behind (x ∷ xs) ys q = absurd cc
shorter [] (y ∷ k ∷ next) (f ∷ front) back one e some = absurd (omega (arith, one))

-- an open share that the next answer ends
pub ends_now : (request : Request) (size : ℕ) (share next : List Response) (o : Outcome) (code : ℕ) → length next ≤ 1 → IsOpenAt (outcome request size share false) → outcome request size (share ++ next) false ≡ Some o → o.code ≡ Some code
    → Ends request size (share ++ next) code
ends_now request size share next o code one op is ended = record {
  whole = subst (λ r. EndsAt r code) (sym is) ended;
  first = λ front back split some. let r = shorter share next front back one split some in open_before request size front r.0 (subst (λ l. IsOpenAt (outcome request size l false)) r.1 op);
}

-- no answers are an open share, also behind a stall
pub open_untouched : (size : ℕ) (behind : Bool) (x : Part) → x.share ≡ [] → IsOpen size behind x
open_untouched size true x none = none
open_untouched size false x none = open_if (outcome x.request size x.share false) (open_with []) (ap (λ l. outcome x.request size l false) none ∙ outcome_nothing x.request size) refl

-- behind an open share there is a stall where there was one before it
pub open_flag : (size : ℕ) (behind : Bool) (x : Part) → IsOpen size behind x → (behind || has_stall x.share) ≡ behind
open_flag size true x op = refl
open_flag size false x op = open_no_stall x.request size x.share op

-- a stall behind some answers, or among those before
pub stall-append : (behind : Bool) (xs ys : List Response) → (behind || has_stall (xs ++ ys)) ≡ ((behind || has_stall xs) || has_stall ys)
stall-append true xs ys = refl
stall-append false xs ys = list_any-append is_stall xs ys
