-- What the next answer of a device makes of a transfer that waits.
use Rattle.std.proofs.Common.{Bool, List, None, Some, [], ap, append-nil, arith, drop, false, inl, inr, length, not, refl, sym, take, true, ℕ, ◌++◌, ◌==◌, ◌∙◌, ◌∷◌, ◌≡◌, ◌≤◌}
use Rattle.std.specs.Prelude.{MatchBool, if◌then◌else◌, unwrap_or}
use Rattle.std.proofs.lemmas.Bool.{and_parts}
use Rattle.std.specs.List.{list_all}
use Rattle.usb_model.specs.declared.response.Response.TheVariants.{Ack, Broken, Data, Nak, Stall}
use Rattle.usb_model.specs.declared.response.Response.{Response}
use Rattle.usb_model.specs.declared.request.Request.{Request}
use Rattle.usb_model.specs.Laws.Cut.{HasSize, has_stall, is_empty_packet}
use Rattle.usb_model.specs.Direction.{is_of_direction, IsBody}
use Rattle.usb_model.specs.declared.outcome.Outcome.{Outcome}
use Rattle.usb_model.specs.Endpoint.Packets.{Ends, IsOpenAt, ended_with, open_with, outcome}
use Rattle.usb_model.specs.Endpoint.Serve.{acknowledged, is_no_packet, next_answer, serve, serve_by, serve_first, serve_gone}
use Rattle.proof_model.proofs.Shares.Cuts.{ends_now}
use Rattle.proof_model.proofs.Shares.Next.{IsNext, next_same, next_there_sized}
use Rattle.proof_model.proofs.Shares.More.{IsSized, sized_all}
use Rattle.proof_model.proofs.Shares.OpenShares.{open_at, open_if, halted_outcome}
use Rattle.std.proofs.lemmas.Option.{same_Some}
use Rattle.usb_model.specs.Endpoint.Serve as service
use Rattle.std.proofs.Math.Seq.{drop-nil}

-- the answer that is taken now
abbrev next_by : Bool → List Response → List Response
next_by halted left = if halted then [] else take 1 left

-- the answer that is served is the first of those left
pub next_split : (halted : Bool) (left : List Response) → left ≡ next_by halted left ++ drop (length (next_by halted left)) left
next_split true left = refl
next_split false [] = refl
next_split false (y ∷ ys) = refl

-- the answers left are of the endpoint's direction still
pub next_kinds : (inward halted : Bool) (left : List Response) → list_all (is_of_direction inward) left ≡ true → list_all (is_of_direction inward) (drop (length (next_by halted left)) left) ≡ true
next_kinds inward true left k = k
next_kinds inward false [] k = k
next_kinds inward false (y ∷ ys) k = (and_parts (is_of_direction inward y) (list_all (is_of_direction inward) ys) k).1

-- an answer that is served is a stall or not
pub next_stall : (halted : Bool) (left : List Response) → has_stall (next_by halted left) ≡ service.is_stall (next_by halted left)
next_stall true left = refl
next_stall false [] = refl
next_stall false (Nak ∷ ys) = refl
next_stall false (Ack ∷ ys) = refl
next_stall false (Data b ∷ ys) = refl
next_stall false (Stall ∷ ys) = refl
next_stall false (Broken ∷ ys) = refl

-- the packets that a share moved
abbrev pub moved : Request → ℕ → List Response → List (List ℕ)
moved request size share = (unwrap_or (outcome request size share false) (open_with [])).packets

-- what the next answer makes of a transfer that waits
pub record AfterServe (size : ℕ) (halted : Bool) (request : Request) (share next : List Response) : Type 0 where
  pub result : Outcome
  pub there : outcome request size (share ++ next) halted ≡ Some result
  pub open_still : result.code ≡ None → MatchBool halted (share ++ next ≡ []) (IsOpenAt (outcome request size (share ++ next) false))
  pub finishes : (code : ℕ) → result.code ≡ Some code → MatchBool halted ((share ++ next ≡ []) × (code ≡ 6)) (Ends request size (share ++ next) code)
  pub uncut : (code : ℕ) → result.code ≡ Some code → (code == 26) ≡ false
  pub grows : moved request size (share ++ next) ≡ moved request size share ++ drop (length (moved request size share)) result.packets

-- a device that isn't halted: the outcome with the next answer
after_next : (size : ℕ) (request : Request) (share next : List Response) (o p : Outcome) → length next ≤ 1 → outcome request size share false ≡ Some o → o.code ≡ None → outcome request size (share ++ next) false ≡ Some p → IsNext o p
    → AfterServe size false request share next
after_next size request share next o p short was op is n = record {
  result = p;
  there = is;
  open_still = λ e. open_if (outcome request size (share ++ next) false) p is e;
  finishes = λ code e. ends_now request size share next p code short (open_if (outcome request size share false) o was op) is e;
  uncut = n.finishes;
  grows =
      ap (λ r. (unwrap_or r (open_with [])).packets) is
      ∙ (n.grows ∙ sym (ap (λ r. (unwrap_or r (open_with [])).packets ++ drop (length (unwrap_or r (open_with [])).packets) p.packets) was));
}

-- an answer that is no empty packet may come at any size
no_empty_sized : (size : ℕ) (y : Response) → not (is_empty_packet y) ≡ true → IsSized size y
no_empty_sized size (Data []) e = absurd cc
no_empty_sized size (Data (b ∷ bs)) e = omega arith
no_empty_sized size Nak e = tt
no_empty_sized size Ack e = tt
no_empty_sized size Stall e = tt
no_empty_sized size Broken e = tt

-- so the first of these may
first_sized : (size : ℕ) (y : Response) (ys : List Response) → HasSize size (y ∷ ys) → IsSized size y
first_sized size y ys (inl some) = sized_all size y some
first_sized size y ys (inr none) = no_empty_sized size y (and_parts (not (is_empty_packet y)) (list_all (λ x. not (is_empty_packet x)) ys) none).0

-- one more answer to an open share: what it makes of its transfer
pub after_serve : (size : ℕ) (inward halted : Bool) (left : List Response) (request : Request) (share : List Response) → HasSize size left → IsBody inward request.body → list_all (is_of_direction inward) left ≡ true
    → MatchBool halted (share ≡ []) (IsOpenAt (outcome request size share false)) → AfterServe size halted request share (next_by halted left)
after_serve size inward true left request share some body kinds none = record {
  result = ended_with [] 6;
  there = ap (λ l. outcome request size l true) empty ∙ halted_outcome request size;
  open_still = λ e. absurd cc;
  finishes = λ code e. (empty, sym (same_Some 6 code e));
  uncut = λ code e. ap (λ k. k == 26) (sym (same_Some 6 code e));
  grows = ap (moved request size) (append-nil share) ∙ (sym (append-nil (moved request size share)) ∙ ap (λ l. moved request size share ++ l) (sym (drop-nil (length (moved request size share)))));
}
  where
    empty : share ++ [] ≡ []
    empty = append-nil share ∙ none
after_serve size inward false [] request share some body kinds op =
    let o = open_at (outcome request size share false) op in
    after_next size request share [] o.0 o.0 (omega arith) o.1 o.2 (ap (λ l. outcome request size l false) (append-nil share) ∙ o.1) (next_same o.0 o.2)
after_serve size inward false (y ∷ ys) request share some body kinds op =
    let o = open_at (outcome request size share false) op in
    let r = next_there_sized inward request size share y o.0 (first_sized size y ys some) body (and_parts (is_of_direction inward y) (list_all (is_of_direction inward) ys) kinds).0 o.1 o.2 in
    after_next size request share (y ∷ []) o.0 r.0 (omega arith) o.1 o.2 r.1 r.2
