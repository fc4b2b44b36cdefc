-- What comes of the share of a transfer to the device is its outcome.
use Rattle.std.proofs.Common.{◌≡◌, ℕ, ◌+◌, ◌<◌, ◌≤◌, ◌==◌, Bool, true, false, List, [], ◌∷◌, ◌++◌, length, take, drop, length-drop, length-append, Some, None, refl, ap, sym, ◌∙◌, append-nil, arith}
use Rattle.std.specs.Prelude.{if◌then◌else◌, nat_lt, replicate}
use Rattle.std.proofs.lemmas.Bool.{eqb-true, eq-eqb, ltb-true, lt-ltb, le-ltb}
use Rattle.std.proofs.lemmas.List.{take-append-drop, take_all, length-take-le}
use Rattle.std.proofs.lemmas.Option.{same_Some}
use Rattle.usb_model.specs.declared.response.Response.{Response}
use Rattle.usb_model.specs.declared.response.Response.TheVariants.{Data, Ack, Nak, Stall, Broken}
use Rattle.usb_model.specs.declared.request.Body.TheVariants.{Out}
use Rattle.usb_model.specs.declared.request.Request.{Request}
use Rattle.usb_model.specs.declared.outcome.Outcome.{Outcome}
use Rattle.usb_model.specs.Endpoint.Packets.{open_with, ended_with, moved_by, packets_by, acks, sent_with}
use Rattle.proof_model.proofs.Shares.OpenShares.{acks_split, sent_behind}
use Rattle.proof_laws.specs.Outcomes.{SendsOn, Sends}

-- the first of so many packets
take_front : (sent left : List (List ℕ)) → take (length sent) (sent ++ left) ≡ sent
take_front [] left = refl
take_front (p ∷ sent) left = ap (λ l. p ∷ l) (take_front sent left)

-- packets are left just where fewer were sent
some_left : (all : List (List ℕ)) (j : ℕ) → drop j all ≡ [] → j < length all → ⊥
some_left all j none less = omega (arith, length-drop j all, ap (λ l. length l) none, less)

none_left : (all : List (List ℕ)) (j : ℕ) (p : List ℕ) (ps : List (List ℕ)) → drop j all ≡ p ∷ ps → j ≡ length all → ⊥
none_left all j p ps more same = omega (arith, length-drop j all, ap (λ l. length l) more, same)

-- what a transfer has behind j acknowledgements is what it comes to
sends_on : (all left : List (List ℕ)) (j : ℕ) (behind : List Response) (o : Outcome) → drop j all ≡ left → sent_with all j behind ≡ Some o → (j ≤ length all) × SendsOn (take j all) left behind o
sends_on all left j [] o is e = by_tests (nat_lt j (length all)) refl (j == length all) refl left is e
  where
    by_tests : (p : Bool) → nat_lt j (length all) ≡ p → (q : Bool) → (j == length all) ≡ q → (l : List (List ℕ)) → drop j all ≡ l
        → (if p then Some (open_with (take j all)) else (if q then Some (ended_with all 1) else None)) ≡ Some o → (j ≤ length all) × SendsOn (take j all) l [] o
    by_tests true p q is_q [] d f = absurd (some_left all j d (ltb-true j (length all) p))
    by_tests true p q is_q (x ∷ l) d f = (omega (arith, ltb-true j (length all) p), sym (same_Some (open_with (take j all)) o f))
    by_tests false p true is_q [] d f =
        let whole : j ≡ length all = eqb-true j (length all) is_q in
        (omega (arith, whole), sym (same_Some (ended_with all 1) o f) ∙ ap (λ l. ended_with l 1) (sym (take_all j all (omega (arith, whole)))))
    by_tests false p true is_q (x ∷ l) d f = absurd (none_left all j x l d (eqb-true j (length all) is_q))
    by_tests false p false is_q l d f = absurd cc
sends_on all left j (Stall ∷ []) o is e = by_test (nat_lt j (length all)) refl left is e
  where
    by_test : (p : Bool) → nat_lt j (length all) ≡ p → (l : List (List ℕ)) → drop j all ≡ l
        → (if p then Some (ended_with (take j all) 6) else None) ≡ Some o → (j ≤ length all) × SendsOn (take j all) l (Stall ∷ []) o
    by_test true p [] d f = absurd (some_left all j d (ltb-true j (length all) p))
    by_test true p (x ∷ l) d f = (omega (arith, ltb-true j (length all) p), sym (same_Some (ended_with (take j all) 6) o f))
    by_test false p l d f = absurd cc
sends_on all left j (Broken ∷ []) o is e = by_test (nat_lt j (length all)) refl left is e
  where
    by_test : (p : Bool) → nat_lt j (length all) ≡ p → (l : List (List ℕ)) → drop j all ≡ l
        → (if p then Some (ended_with (take j all) 4) else None) ≡ Some o → (j ≤ length all) × SendsOn (take j all) l (Broken ∷ []) o
    by_test true p [] d f = absurd (some_left all j d (ltb-true j (length all) p))
    by_test true p (x ∷ l) d f = (omega (arith, ltb-true j (length all) p), sym (same_Some (ended_with (take j all) 4) o f))
    by_test false p l d f = absurd cc
sends_on all left j (Nak ∷ xs) o is e = absurd cc
sends_on all left j (Ack ∷ xs) o is e = absurd cc
sends_on all left j (Data b ∷ xs) o is e = absurd cc
sends_on all left j (Stall ∷ x ∷ xs) o is e = absurd cc
sends_on all left j (Broken ∷ x ∷ xs) o is e = absurd cc

pub sends_if_moved : (request : Request) (size : ℕ) (bytes : List ℕ) (xs : List Response) (o : Outcome)
    → moved_by request size (Out bytes) xs ≡ Some o → Sends (packets_by request size (Out bytes)) xs o
sends_if_moved request size bytes xs o e =
    let all : List (List ℕ) = packets_by request size (Out bytes) in
    let r = sends_on all (drop (acks xs) all) (acks xs) (drop (acks xs) xs) o refl e in
    let many : length (take (acks xs) all) ≡ acks xs = length-take-le (acks xs) all r.0 in
    record {
      sent = take (acks xs) all;
      left = drop (acks xs) all;
      behind = drop (acks xs) xs;
      packets = sym (take-append-drop (acks xs) all);
      answers = acks_split xs ∙ ap (λ k. replicate k Ack ++ drop (acks xs) xs) (sym many);
      comes = r.1;
    }

-- what it comes to it has
moved_on : (sent left : List (List ℕ)) (behind : List Response) (o : Outcome) → SendsOn sent left behind o
    → sent_with (sent ++ left) (length sent + acks behind) (drop (acks behind) behind) ≡ Some o
moved_on sent [] [] o c =
    let none : nat_lt (length sent + 0) (length (sent ++ [])) ≡ false = le-ltb (length sent + 0) (length (sent ++ [])) (omega (arith, length-append sent [])) in
    let whole : (length sent + 0 == length (sent ++ [])) ≡ true = eq-eqb (length sent + 0) (length (sent ++ [])) (omega (arith, length-append sent [])) in
    rw (none, whole) (ap (λ l. Some (ended_with l 1)) (append-nil sent) ∙ ap Some (sym c))
moved_on sent (p ∷ left) [] o c =
    let some : nat_lt (length sent + 0) (length (sent ++ p ∷ left)) ≡ true = lt-ltb (length sent + 0) (length (sent ++ p ∷ left)) (omega (arith, length-append sent (p ∷ left))) in
    let same : length sent + 0 ≡ length sent = omega arith in
    rw some (ap (λ k. Some (open_with (take k (sent ++ p ∷ left)))) same ∙ (ap (λ l. Some (open_with l)) (take_front sent (p ∷ left)) ∙ ap Some (sym c)))
moved_on sent (p ∷ left) (Stall ∷ []) o c =
    let some : nat_lt (length sent + 0) (length (sent ++ p ∷ left)) ≡ true = lt-ltb (length sent + 0) (length (sent ++ p ∷ left)) (omega (arith, length-append sent (p ∷ left))) in
    let same : length sent + 0 ≡ length sent = omega arith in
    rw some (ap (λ k. Some (ended_with (take k (sent ++ p ∷ left)) 6)) same ∙ (ap (λ l. Some (ended_with l 6)) (take_front sent (p ∷ left)) ∙ ap Some (sym c)))
moved_on sent (p ∷ left) (Broken ∷ []) o c =
    let some : nat_lt (length sent + 0) (length (sent ++ p ∷ left)) ≡ true = lt-ltb (length sent + 0) (length (sent ++ p ∷ left)) (omega (arith, length-append sent (p ∷ left))) in
    let same : length sent + 0 ≡ length sent = omega arith in
    rw some (ap (λ k. Some (ended_with (take k (sent ++ p ∷ left)) 4)) same ∙ (ap (λ l. Some (ended_with l 4)) (take_front sent (p ∷ left)) ∙ ap Some (sym c)))
moved_on sent [] (x ∷ xs) o c = absurd c
moved_on sent (p ∷ left) (Nak ∷ xs) o c = absurd c
moved_on sent (p ∷ left) (Ack ∷ xs) o c = absurd c
moved_on sent (p ∷ left) (Data b ∷ xs) o c = absurd c
moved_on sent (p ∷ left) (Stall ∷ x ∷ xs) o c = absurd c
moved_on sent (p ∷ left) (Broken ∷ x ∷ xs) o c = absurd c

pub moved_if_sends : (request : Request) (size : ℕ) (bytes : List ℕ) (xs : List Response) (o : Outcome)
    → Sends (packets_by request size (Out bytes)) xs o → moved_by request size (Out bytes) xs ≡ Some o
moved_if_sends request size bytes xs o r =
    ap (moved_by request size (Out bytes)) r.answers
    ∙ (sent_behind request size (length r.sent) bytes r.behind
    ∙ (ap (λ l. sent_with l (length r.sent + acks r.behind) (drop (acks r.behind) r.behind)) r.packets
    ∙ moved_on r.sent r.left r.behind o r.comes))
