-- One more answer of the endpoint's direction: an open share has an outcome with it, and no packet that moved is lost.
use Rattle.std.proofs.Common.{Bool, List, None, Option, Some, [], ap, append-nil, drop, false, length, min, refl, sym, take, true, ℕ, ◌*◌, ◌++◌, ◌+◌, ◌-◌, ◌<◌, ◌==◌, ◌∙◌, ◌∷◌, ◌≡◌, not}
use Rattle.std.specs.Prelude.{if◌then◌else◌, nat_lt}
use Rattle.std.proofs.Math.Seq.{drop-append_seam, take-append-add}
use Rattle.std.proofs.lemmas.List.{take-append-drop}
use Rattle.usb_model.specs.declared.response.Response.TheVariants.{Ack, Broken, Data, Nak, Stall}
use Rattle.usb_model.specs.declared.response.Response.{Response}
use Rattle.usb_model.specs.declared.request.Body.TheVariants.{In, Out}
use Rattle.usb_model.specs.declared.request.Body.{Body}
use Rattle.usb_model.specs.declared.request.Request.{Request}
use Rattle.usb_model.specs.Direction.{is_of_direction, IsBody}
use Rattle.usb_model.specs.declared.outcome.Outcome.{Outcome}
use Rattle.usb_model.specs.Endpoint.Packets.{ended_with, open_with, outcome, packets_by, without_naks}
use Rattle.proof_model.proofs.Shares.More.{IsSized, next_of, one_more_sized, read_next, sent_next, sized_all}
use Rattle.proof_model.proofs.Shares.OpenShares.{IsWhole, open_whole}
use Rattle.std.proofs.lemmas.Option.{same_Some}
use Rattle.std.proofs.lemmas.Bool.{or_parts}
use Rattle.usb_model.specs.Machine.Calls.{is_bad_body}
use Rattle.usb_model.specs.Setup.{is_in}

-- the outcome after an answer has the packets of that before it, and perhaps more; a device's end is no withdrawal
pub record IsNext (before after : Outcome) : Type 0 where
  pub grows : after.packets ≡ before.packets ++ drop (length before.packets) after.packets
  pub finishes : (code : ℕ) → after.code ≡ Some code → (code == 26) ≡ false

-- equal codes are equally 26
same_code : (a b : ℕ) → ◌≡◌ {A = Option ℕ} (Some a) (Some b) → (a == 26) ≡ false → (b == 26) ≡ false
same_code a b e is = ap (λ k. k == 26) (sym (same_Some a b e)) ∙ is

-- what was appended is what is behind
grows_by : (ps more after : List (List ℕ)) → after ≡ ps ++ more → after ≡ ps ++ drop (length ps) after
grows_by ps more after e = e ∙ ap (λ l. ps ++ l) (sym (ap (drop (length ps)) e ∙ drop-append_seam ps more))

-- it moves nothing and finishes nothing
pub next_same : (o : Outcome) → o.code ≡ None → IsNext o o
next_same o open_code = record { grows = grows_by o.packets [] o.packets (sym (append-nil o.packets)); finishes = λ code e. absurd (cc (open_code, e)) }

-- it finishes the transfer
next_ended : (o : Outcome) (code : ℕ) → (code == 26) ≡ false → IsNext o (ended_with o.packets code)
next_ended o code is = record { grows = grows_by o.packets [] o.packets (sym (append-nil o.packets)); finishes = λ k e. same_code code k e is }

-- a packet joins, and perhaps finishes the transfer
next_packet : (o : Outcome) (b : List ℕ) (code : Option ℕ) → ((k : ℕ) → code ≡ Some k → (k == 26) ≡ false) → IsNext o (record { packets = o.packets ++ b ∷ []; code = code })
next_packet o b code is = record { grows = grows_by o.packets (b ∷ []) (o.packets ++ b ∷ []) refl; finishes = is }

-- one more packet read
next_read : (n size : ℕ) (o : Outcome) (b : List ℕ) → IsNext o (read_next n size o.packets b)
next_read n size o b = by_tests (nat_lt (min size (n - length o.packets * size)) (length b)) (length o.packets * size + length b == n) (nat_lt (length b) size)
  where
    by_tests : (p q r : Bool) → IsNext o (if p then ended_with o.packets 3 else (if q then ended_with (o.packets ++ b ∷ []) 1 else (if r then ended_with (o.packets ++ b ∷ []) 13 else open_with (o.packets ++ b ∷ []))))
    by_tests true q r = next_ended o 3 refl
    by_tests false true r = next_packet o b (Some 1) (λ k e. same_code 1 k e refl)
    by_tests false false true = next_packet o b (Some 13) (λ k e. same_code 13 k e refl)
    by_tests false false false = next_packet o b None (λ k e. absurd cc)

-- one more packet sent
next_sent : (all : List (List ℕ)) (o : Outcome) → o.packets ≡ take (length o.packets) all → IsNext o (sent_next all (length o.packets))
next_sent all o is = by_test (length o.packets + 1 == length all)
  where
    rest : List (List ℕ)
    rest = drop (length o.packets) all

    split : all ≡ o.packets ++ rest
    split = sym (take-append-drop (length o.packets) all) ∙ ap (λ l. l ++ rest) (sym is)

    by_test : (t : Bool) → IsNext o (if t then ended_with all 1 else open_with (take (length o.packets + 1) all))
    by_test true = record { grows = grows_by o.packets rest all split; finishes = λ k e. same_code 1 k e refl }
    by_test false = record {
      grows = grows_by o.packets (take 1 rest) _ (ap (take (length o.packets + 1)) split ∙ take-append-add o.packets rest 1);
      finishes = λ k e. absurd cc;
    }

-- one more answer of the endpoint's direction
next_by : (inward : Bool) (request : Request) (size : ℕ) (body : Body) (xs : List Response) (y : Response) (o : Outcome) → IsBody inward body → is_of_direction inward y ≡ true → o.code ≡ None → IsWhole request size body xs o.packets
    → (p : Outcome) × (next_of request size body o y ≡ Some p) × IsNext o p
next_by inward request size body xs Nak o b k op w = (o, refl, next_same o op)
next_by inward request size body xs Stall o b k op w = (ended_with o.packets 6, refl, next_ended o 6 refl)
next_by inward request size body xs Broken o b k op w = (ended_with o.packets 4, refl, next_ended o 4 refl)
next_by inward request size (In n) xs (Data bytes) o b k op w = (read_next n size o.packets bytes, refl, next_read n size o bytes)
next_by true request size (Out all) xs (Data bytes) o b k op w = absurd b
next_by false request size (Out all) xs (Data bytes) o b k op w = absurd cc
next_by true request size (In n) xs Ack o b k op w = absurd cc
next_by false request size (In n) xs Ack o b k op w = absurd b
next_by inward request size (Out bytes) xs Ack o b k op w = let all : List (List ℕ) = packets_by request size (Out bytes) in (sent_next all (length o.packets), refl, next_sent all o w.packets)

-- so an open share has an outcome with one more answer, which may come at this size
pub next_there_sized : (inward : Bool) (request : Request) (size : ℕ) (share : List Response) (y : Response) (o : Outcome) → IsSized size y → IsBody inward request.body → is_of_direction inward y ≡ true → outcome request size share false ≡ Some o → o.code ≡ None
    → (p : Outcome) × (outcome request size (share ++ y ∷ []) false ≡ Some p) × IsNext o p
next_there_sized inward request size share y o some b k e op =
    let r = next_by inward request size request.body (without_naks share) y o b k op (open_whole request size share o e op) in
    (r.0, one_more_sized request size share y o some e op ∙ r.1, r.2)

-- and at a size of at least 1
pub next_there : (inward : Bool) (request : Request) (size : ℕ) (share : List Response) (y : Response) (o : Outcome) → 0 < size → IsBody inward request.body → is_of_direction inward y ≡ true → outcome request size share false ≡ Some o → o.code ≡ None
    → (p : Outcome) × (outcome request size (share ++ y ∷ []) false ≡ Some p) × IsNext o p
next_there inward request size share y o some b k e op = next_there_sized inward request size share y o (sized_all size y some) b k e op

-- what is submitted goes in the endpoint's direction
pub good_body : (ep : ℕ) (body : Body) → is_bad_body ep body ≡ false → IsBody (is_in ep) body
good_body ep (In n) e = by_test (is_in ep) (or_parts (not (is_in ep)) (nat_lt 262144 n) e).0
  where
    by_test : (b : Bool) → not b ≡ false → IsBody b (In n)
    by_test true q = tt
    by_test false q = absurd cc
good_body ep (Out bytes) e = by_test (is_in ep) (or_parts (is_in ep) (nat_lt 262144 (length bytes)) e).0
  where
    by_test : (b : Bool) → b ≡ false → IsBody b (Out bytes)
    by_test true q = absurd cc
    by_test false q = tt
