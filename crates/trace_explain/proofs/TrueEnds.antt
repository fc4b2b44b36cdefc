-- How a transfer is said to end is true.
use Rattle.std.proofs.Common.{◌≡◌, ℕ, ◌+◌, ◌-◌, ◌*◌, ◌/◌, ◌<◌, ◌≤◌, ◌==◌, nat_lt, Bool, true, false, List, [], ◌∷◌, ◌++◌, length, take, drop, Option, Some, None, refl, sym, ap, subst, ◌∙◌, arith}
use Rattle.std.specs.Prelude.{◌≢◌, min, if◌then◌else◌}
use Rattle.std.specs.List.{concat}
use Rattle.std.specs.Option.{option_and_then, option_map, option_map_or}
use Rattle.std.proofs.lemmas.Bool.{eqb-true, eqb-false, ltb-true, ltb-false}
use Rattle.std.proofs.lemmas.List.{take-append-drop}
use Rattle.std.proofs.lemmas.Option.{same_Some}
use Rattle.usb_model.specs.declared.endpoint.Endpoint.{Endpoint}
use Rattle.usb_model.specs.declared.item.Item.{Item}
use Rattle.usb_model.specs.declared.outcome.Outcome.{Outcome}
use Rattle.usb_model.specs.declared.request.Body.{Body}
use Rattle.usb_model.specs.declared.request.Body.TheVariants.{In, Out}
use Rattle.usb_model.specs.declared.request.Request.{Request}
use Rattle.usb_model.specs.declared.response.Response.{Response}
use Rattle.usb_model.specs.declared.response.Response.TheVariants as response
use Rattle.usb_model.specs.Completion.{babble_detected, short_packet, stall_error, success, transaction_error}
use Rattle.usb_model.specs.Endpoint.Packets.{acks, count_of, ended_with, front_of, moved_by, open_with, outcome, packets_by, read_with, sent_with, without_naks}
use Rattle.usb_model.specs.Endpoint.Serve.{next_answer}
use Rattle.usb_model.specs.Requests.{adds_zero_packet, is_read, length_of}
use Rattle.proof_laws.proofs.CutPackets.{cuts_into_packets}
use Rattle.trace_explain.specs.declared.ends.End.{End}
use Rattle.trace_explain.specs.declared.ends.End.TheVariants.{Whole, Short, Stall, Broken, Babble}
use Rattle.trace_explain.specs.declared.sentence.TransferEnd.{TransferEnd}
use Rattle.trace_explain.specs.declared.sentence.TransferEnd.TheVariants as ending
use Rattle.trace_explain.specs.Endings.{answer_end, end_by, end_of, ending_of}
use Rattle.trace_explain.specs.Truth.{EndingBy, moved_by_answers}
use Rattle.trace_explain.proofs.Fronts.{front_fits}
use Rattle.trace_explain.proofs.FullFronts.{front_bytes, one_packet_more}

-- a read, or a write, of n bytes ended so, when so many had moved, behind these answers
module _ (n size : ℕ) (reads : Bool) (xs : List Response) where
  abbrev EndIs : (moved : ℕ) → End → Type 0
  EndIs moved Whole = size ≢ 0 → moved ≡ n
  EndIs moved (Short some) = (moved ≡ some) × (some < n) × (reads ≡ true)
  EndIs moved Stall = (front : List Response) × (xs ≡ front ++ response.Stall ∷ [])
  EndIs moved Broken = (front : List Response) × (xs ≡ front ++ response.Broken ∷ [])
  EndIs moved Babble = (b : List ℕ) × (front : List Response) × (xs ≡ front ++ response.Data b ∷ []) × (min size (n - moved) < length b)

  abbrev CodeIs : (moved : ℕ) → Option ℕ → Type 0
  CodeIs moved None = Unit {0}
  CodeIs moved (Some code) = EndIs moved (end_by moved code)

  abbrev OutcomeIs : Option Outcome → Type 0
  OutcomeIs None = Unit {0}
  OutcomeIs (Some o) = CodeIs (count_of o) o.code

  by_test : (b : Bool) (x y : Option Outcome) → (b ≡ true → OutcomeIs x) → (b ≡ false → OutcomeIs y) → OutcomeIs (if b then x else y)
  by_test true x y p q = p refl
  by_test false x y p q = q refl

-- a packet that fits, and ends a read before its end
fits_short : (n size full bytes : ℕ) → full ≤ n → nat_lt (min size (n - full)) bytes ≡ false → (full + bytes == n) ≡ false → full + bytes < n
fits_short n size full bytes inside fits isnt =
    let small : bytes ≤ min size (n - full) = ltb-false (min size (n - full)) bytes fits in
    let other : full + bytes ≢ n = eqb-false (full + bytes) n isnt in
    omega (arith, inside, small, other)

read_is : (n size : ℕ) (xs pre : List Response) (front : List (List ℕ)) (rest : List Response) → xs ≡ pre ++ rest → length (concat front) ≡ length front * size → length front * size ≤ n → OutcomeIs n size true xs (read_with n size front rest)
read_is n size xs pre front [] is full inside = tt
read_is n size xs pre front (response.Stall ∷ []) is full inside = (pre, is)
read_is n size xs pre front (response.Broken ∷ []) is full inside = (pre, is)
read_is n size xs pre front (response.Data b ∷ []) is full inside =
    by_test n size true xs (nat_lt (min size (n - length front * size)) (length b)) (Some (ended_with front babble_detected)) _
    (λ over. (b, pre, is, subst (λ k. min size (n - k) < length b) (sym full) (ltb-true (min size (n - length front * size)) (length b) over)))
    (λ fits.
    by_test n size true xs (length front * size + length b == n) (Some (ended_with (front ++ b ∷ []) success)) _ (λ whole some. moved ∙ eqb-true (length front * size + length b) n whole)
    (λ isnt.
    by_test n size true xs (nat_lt (length b) size) (Some (ended_with (front ++ b ∷ []) short_packet)) None (λ short. (refl, subst (λ k. k < n) (sym moved) (fits_short n size (length front * size) (length b) inside fits isnt), refl))
    (λ no. tt)))
  where
    moved : length (concat (front ++ b ∷ [])) ≡ length front * size + length b
    moved = one_packet_more front b ∙ ap (λ k. k + length b) full
read_is n size xs pre front (response.Ack ∷ rest) is full inside = tt
read_is n size xs pre front (response.Nak ∷ rest) is full inside = tt
read_is n size xs pre front (response.Stall ∷ x ∷ rest) is full inside = tt
read_is n size xs pre front (response.Broken ∷ x ∷ rest) is full inside = tt
read_is n size xs pre front (response.Data b ∷ x ∷ rest) is full inside = tt

sent_is : (n size : ℕ) (xs pre : List Response) (all : List (List ℕ)) (j : ℕ) (rest : List Response) → xs ≡ pre ++ rest → (size ≢ 0 → length (concat all) ≡ n) → OutcomeIs n size false xs (sent_with all j rest)
sent_is n size xs pre all j [] is joined =
    by_test n size false xs (nat_lt j (length all)) (Some (open_with (take j all))) _ (λ less. tt)
    (λ more. by_test n size false xs (j == length all) (Some (ended_with all success)) None (λ whole. joined) (λ no. tt))
sent_is n size xs pre all j (response.Stall ∷ []) is joined = by_test n size false xs (nat_lt j (length all)) (Some (ended_with (take j all) stall_error)) None (λ less. (pre, is)) (λ no. tt)
sent_is n size xs pre all j (response.Broken ∷ []) is joined = by_test n size false xs (nat_lt j (length all)) (Some (ended_with (take j all) transaction_error)) None (λ less. (pre, is)) (λ no. tt)
sent_is n size xs pre all j (response.Data b ∷ rest) is joined = tt
sent_is n size xs pre all j (response.Ack ∷ rest) is joined = tt
sent_is n size xs pre all j (response.Nak ∷ rest) is joined = tt
sent_is n size xs pre all j (response.Stall ∷ x ∷ rest) is joined = tt
sent_is n size xs pre all j (response.Broken ∷ x ∷ rest) is joined = tt

moved_is : (request : Request) (size : ℕ) (body : Body) (xs : List Response) → OutcomeIs (length_of body) size (is_read body) xs (moved_by request size body xs)
moved_is request size (In n) xs =
    let front : List (List ℕ) = front_of n size xs in
    read_is n size xs (take (length front) xs) front (drop (length front) xs) (sym (take-append-drop (length front) xs)) (front_bytes size ((n - 1) / size) xs) (front_fits n size xs front refl)
moved_is request size (Out bytes) xs =
    sent_is (length bytes) size xs (take (acks xs) xs) (packets_by request size (Out bytes)) (acks xs) (drop (acks xs) xs) (sym (take-append-drop (acks xs) xs))
    (λ some. ap length (cuts_into_packets (adds_zero_packet request) size bytes (omega (arith, some))).joined)

-- what is said of an end at endpoint ep
abbrev said : ℕ → Bool → Request → End → TransferEnd
said ep halted request Whole = ending.Whole (length_of request.body)
said ep halted request (Short moved) = ending.Short moved (length_of request.body)
said ep halted request Stall = if halted then ending.Halted ep else ending.Stall ep
said ep halted request Broken = ending.Broken ep
said ep halted request Babble = ending.Babble ep

-- is true where the end is
said_true : (request : Request) (size ep : ℕ) (share : List Response) (halted : Bool) (moved : ℕ) → moved_by_answers request size share halted ≡ moved → (end : End) → EndIs (length_of request.body) size (is_read request.body) (without_naks share) moved end
    → EndingBy request size share halted (said ep halted request end)
said_true request size ep share halted moved is Whole e = (refl, λ some. is ∙ e some)
said_true request size ep share halted moved is (Short some) e = (refl, is ∙ e.0, e.1, e.2)
said_true request size ep share true moved is Stall e = refl
said_true request size ep share false moved is Stall e = (refl, e)
said_true request size ep share halted moved is Broken e = e
said_true request size ep share halted moved is Babble e = (e.0, (e.1, e.2), subst (λ k. min size (length_of request.body - k) < length e.0) (sym is) e.3)

by_outcome : (request : Request) (size ep : ℕ) (share : List Response) (halted : Bool) (o : Option Outcome) → outcome request size share halted ≡ o → OutcomeIs (length_of request.body) size (is_read request.body) (without_naks share) o
    → (end : End) → option_and_then end_of o ≡ Some end → EndingBy request size share halted (said ep halted request end)
by_outcome request size ep share halted None is holds end e = absurd cc
by_outcome request size ep share halted (Some o) is holds end e = by_code o.code holds e
  where
    by_code : (code : Option ℕ) → CodeIs (length_of request.body) size (is_read request.body) (without_naks share) (count_of o) code → option_map (end_by (count_of o)) code ≡ Some end → EndingBy request size share halted (said ep halted request end)
    by_code None h q = absurd cc
    by_code (Some code) h q =
        said_true request size ep share halted (count_of o) (ap (λ p. option_map_or count_of p 0) is) end
        (subst (EndIs (length_of request.body) size (is_read request.body) (without_naks share) (count_of o)) (same_Some (end_by (count_of o) code) end q) h)

by_share : (request : Request) (size ep : ℕ) (share : List Response) (halted : Bool) (end : End) → option_and_then end_of (outcome request size share halted) ≡ Some end → EndingBy request size share halted (said ep halted request end)
unfolding outcome
by_share request size ep [] true end e = subst (λ x. EndingBy request size [] true (said ep true request x)) (same_Some Stall end e) refl
by_share request size ep [] false end e = by_outcome request size ep [] false (moved_by request size request.body (without_naks [])) refl (moved_is request size request.body (without_naks [])) end e
by_share request size ep (x ∷ xs) true end e = by_outcome request size ep (x ∷ xs) true (moved_by request size request.body (without_naks (x ∷ xs))) refl (moved_is request size request.body (without_naks (x ∷ xs))) end e
by_share request size ep (x ∷ xs) false end e = by_outcome request size ep (x ∷ xs) false (moved_by request size request.body (without_naks (x ∷ xs))) refl (moved_is request size request.body (without_naks (x ∷ xs))) end e

-- how a served transfer is said to end is true
pub ends_true : (size ep : ℕ) (e : Endpoint) (x : Item) (end : End) → answer_end size e x ≡ Some end → EndingBy x.request size (x.share ++ next_answer e) e.device_halted (ending_of ep e x end)
unfolding answer_end
ends_true size ep e x Whole is = by_share x.request size ep (x.share ++ next_answer e) e.device_halted Whole is
ends_true size ep e x (Short moved) is = by_share x.request size ep (x.share ++ next_answer e) e.device_halted (Short moved) is
ends_true size ep e x Stall is = by_share x.request size ep (x.share ++ next_answer e) e.device_halted Stall is
ends_true size ep e x Broken is = by_share x.request size ep (x.share ++ next_answer e) e.device_halted Broken is
ends_true size ep e x Babble is = by_share x.request size ep (x.share ++ next_answer e) e.device_halted Babble is
