-- What a device answers: the reason told is of the reply's sort, and an end's of its completion code.
use Rattle.std.proofs.Common.{◌≡◌, ℕ, ◌+◌, ◌-◌, ◌*◌, ◌==◌, nat_lt, Bool, true, false, List, [], ◌∷◌, ◌++◌, length, take, drop, Option, Some, None, refl, ap, ◌∙◌}
use Rattle.std.specs.Prelude.{if◌then◌else◌, min}
use Rattle.std.specs.Option.{option_and_then, option_map, unwrap_or}
use Rattle.usb_model.specs.declared.endpoint.Endpoint.{Endpoint}
use Rattle.usb_model.specs.declared.endpoint.EndpointState.{EndpointState}
use Rattle.usb_model.specs.declared.endpoint.EndpointState.TheVariants.{Running, Stopped, Halted}
use Rattle.usb_model.specs.declared.item.Item.{Item}
use Rattle.usb_model.specs.declared.outcome.Outcome.{Outcome}
use Rattle.usb_model.specs.declared.reply.Reply.TheVariants as reply
use Rattle.usb_model.specs.declared.request.Body.{Body}
use Rattle.usb_model.specs.declared.request.Body.TheVariants.{In, Out}
use Rattle.usb_model.specs.declared.request.Request.{Request}
use Rattle.usb_model.specs.declared.response.Response.{Response}
use Rattle.usb_model.specs.declared.response.Response.TheVariants as response
use Rattle.usb_model.specs.Completion.{success, babble_detected, transaction_error, stall_error, short_packet}
use Rattle.usb_model.specs.Endpoint.{first_waiting, outcome_of}
use Rattle.usb_model.specs.Endpoint.Packets.{IsOpenAt, acks, count_of, ended_with, front_of, moved_by, open_with, outcome, packets_by, read_with, sent_with, without_naks}
use Rattle.usb_model.specs.Endpoint.Serve.{is_no_packet, next_answer, serve, serve_by, serve_first, serve_gone}
use Rattle.trace_explain.specs.declared.ends.End.{End}
use Rattle.trace_explain.specs.declared.ends.End.TheVariants.{Whole, Short, Stall, Broken, Babble}
use Rattle.trace_explain.specs.declared.sentence.TransferEnd.TheVariants as ending
use Rattle.trace_explain.specs.declared.sentence.Reason.TheVariants.{Nak}
use Rattle.trace_explain.specs.Endings.{answer_end, answer_reason, end_by, end_of, ending_of, unready_by}
use Rattle.trace_explain.specs.Turns.{first_reason}
use Rattle.trace_explain.specs.Sorts.{End as Ends, code_of, sort_of, sort_of_reply}

-- a transfer that stays open by the answer that it takes doesn't end by it
pub no_end : (size : ℕ) (e : Endpoint) (x : Item) → IsOpenAt (outcome x.request size (x.share ++ next_answer e) e.device_halted) → answer_end size e x ≡ None
unfolding answer_end
no_end size e x open_at = by_outcome (outcome x.request size (x.share ++ next_answer e) e.device_halted) open_at
  where
    by_outcome : (o : Option Outcome) → IsOpenAt o → option_and_then end_of o ≡ None
    by_outcome None is_open = absurd is_open
    by_outcome (Some o) is_open = rw is_open refl

-- the completion code of an end
abbrev code_of_end : End → ℕ
code_of_end Whole = success
code_of_end (Short moved) = short_packet
code_of_end Stall = stall_error
code_of_end Broken = transaction_error
code_of_end Babble = babble_detected

-- a code that an end may have
abbrev IsKnown : Option ℕ → Type 0
IsKnown None = Unit {0}
IsKnown (Some code) = (moved : ℕ) → code_of_end (end_by moved code) ≡ code

-- an outcome whose code an end may have
abbrev IsKnownOf : Option Outcome → Type 0
IsKnownOf None = Unit {0}
IsKnownOf (Some o) = IsKnown o.code

either_known : (b : Bool) (x y : Option Outcome) → IsKnownOf x → IsKnownOf y → IsKnownOf (if b then x else y)
either_known true x y p q = p
either_known false x y p q = q

-- a read ends with such a code
read_known : (n size : ℕ) (front : List (List ℕ)) (rest : List Response) → IsKnownOf (read_with n size front rest)
read_known n size front [] = tt
read_known n size front (response.Stall ∷ []) = λ moved. refl
read_known n size front (response.Broken ∷ []) = λ moved. refl
read_known n size front (response.Data b ∷ []) =
    either_known (nat_lt (min size (n - length front * size)) (length b)) (Some (ended_with front babble_detected)) _ (λ moved. refl)
    (either_known (length front * size + length b == n) (Some (ended_with (front ++ b ∷ []) success)) _ (λ moved. refl)
    (either_known (nat_lt (length b) size) (Some (ended_with (front ++ b ∷ []) short_packet)) None (λ moved. refl) tt))
read_known n size front (response.Ack ∷ xs) = tt
read_known n size front (response.Nak ∷ xs) = tt
read_known n size front (response.Stall ∷ x ∷ xs) = tt
read_known n size front (response.Broken ∷ x ∷ xs) = tt
read_known n size front (response.Data b ∷ x ∷ xs) = tt

-- as does a write
sent_known : (all : List (List ℕ)) (j : ℕ) (rest : List Response) → IsKnownOf (sent_with all j rest)
sent_known all j [] =
    either_known (nat_lt j (length all)) (Some (open_with (take j all))) _ tt
    (either_known (j == length all) (Some (ended_with all success)) None (λ moved. refl) tt)
sent_known all j (response.Stall ∷ []) = either_known (nat_lt j (length all)) (Some (ended_with (take j all) stall_error)) None (λ moved. refl) tt
sent_known all j (response.Broken ∷ []) = either_known (nat_lt j (length all)) (Some (ended_with (take j all) transaction_error)) None (λ moved. refl) tt
sent_known all j (response.Data b ∷ xs) = tt
sent_known all j (response.Ack ∷ xs) = tt
sent_known all j (response.Nak ∷ xs) = tt
sent_known all j (response.Stall ∷ x ∷ xs) = tt
sent_known all j (response.Broken ∷ x ∷ xs) = tt

moved_known : (request : Request) (size : ℕ) (body : Body) (xs : List Response) → IsKnownOf (moved_by request size body xs)
moved_known request size (In n) xs = read_known n size (front_of n size xs) (drop (length (front_of n size xs)) xs)
moved_known request size (Out bytes) xs = sent_known (packets_by request size (Out bytes)) (acks xs) (drop (acks xs) xs)

-- so does every transfer
outcome_known : (request : Request) (size : ℕ) (share : List Response) (halted : Bool) → IsKnownOf (outcome request size share halted)
unfolding outcome
outcome_known request size [] true = λ moved. refl
outcome_known request size [] false = moved_known request size request.body (without_naks [])
outcome_known request size (x ∷ xs) true = moved_known request size request.body (without_naks (x ∷ xs))
outcome_known request size (x ∷ xs) false = moved_known request size request.body (without_naks (x ∷ xs))

-- in words it has the same code
ending_known : (ep : ℕ) (e : Endpoint) (x : Item) (end : End) → code_of (ending_of ep e x end) ≡ code_of_end end
ending_known ep e x Whole = refl
ending_known ep e x (Short moved) = refl
ending_known ep e x Stall = by_halt e.device_halted
  where
    by_halt : (b : Bool) → code_of (if b then ending.Halted ep else ending.Stall ep) ≡ stall_error
    by_halt true = refl
    by_halt false = refl
ending_known ep e x Broken = refl
ending_known ep e x Babble = refl

-- no packet, or one that needs no reason
packet_told : (ep n k : ℕ) (halted : Bool) (answers : List Response) → sort_of (option_map (λ u. Nak u) (unready_by ep halted answers)) ≡ sort_of_reply (if is_no_packet answers then reply.Nak n else reply.Moved n k)
packet_told ep n k true [] = refl
packet_told ep n k false [] = refl
packet_told ep n k true (response.Nak ∷ xs) = refl
packet_told ep n k false (response.Nak ∷ xs) = refl
packet_told ep n k true (response.Data b ∷ xs) = refl
packet_told ep n k false (response.Data b ∷ xs) = refl
packet_told ep n k true (response.Ack ∷ xs) = refl
packet_told ep n k false (response.Ack ∷ xs) = refl
packet_told ep n k true (response.Stall ∷ xs) = refl
packet_told ep n k false (response.Stall ∷ xs) = refl
packet_told ep n k true (response.Broken ∷ xs) = refl
packet_told ep n k false (response.Broken ∷ xs) = refl

-- the answer, by the outcome that it makes
by_code : (ep : ℕ) (e : Endpoint) (x : Item) (before after : Outcome) (moved : ℕ) (code : Option ℕ) → IsKnown code
    → sort_of (answer_reason ep e x (option_map (end_by moved) code)) ≡ sort_of_reply (serve_by e x before after code).reply
unfolding serve_by
by_code ep e x before after moved None known = packet_told ep x.n (count_of after - count_of before) e.device_halted (next_answer e)
by_code ep e x before after moved (Some code) known = ap (λ k. Ends k) (ending_known ep e x (end_by moved code) ∙ known moved)

by_outcome : (ep : ℕ) (e : Endpoint) (x : Item) (before : Outcome) (o : Option Outcome) → IsKnownOf o
    → let after = unwrap_or o (open_with []) in sort_of (answer_reason ep e x (option_and_then end_of o)) ≡ sort_of_reply (serve_by e x before after after.code).reply
by_outcome ep e x before None known = by_code ep e x before (open_with []) 0 None tt
by_outcome ep e x before (Some o) known = by_code ep e x before o (count_of o) o.code known

by_first : (size dev ep : ℕ) (gone : Bool) (e : Endpoint) (state : EndpointState) (o : Option Item) → sort_of (first_reason size dev ep gone e state o) ≡ sort_of_reply (serve_first size gone e state o).reply
unfolding serve_first serve_gone answer_end
by_first size dev ep true e Running (Some x) = refl
by_first size dev ep false e Running (Some x) = by_outcome ep e x (outcome_of size x) (outcome x.request size (x.share ++ next_answer e) e.device_halted) (outcome_known x.request size (x.share ++ next_answer e) e.device_halted)
by_first size dev ep true e Running None = refl
by_first size dev ep false e Running None = refl
by_first size dev ep true e Stopped None = refl
by_first size dev ep false e Stopped None = refl
by_first size dev ep true e Stopped (Some x) = refl
by_first size dev ep false e Stopped (Some x) = refl
by_first size dev ep true e Halted None = refl
by_first size dev ep false e Halted None = refl
by_first size dev ep true e Halted (Some x) = refl
by_first size dev ep false e Halted (Some x) = refl

-- a device answers at an endpoint
pub served_told : (size dev ep : ℕ) (gone : Bool) (e : Endpoint) → sort_of (first_reason size dev ep gone e e.state (first_waiting e.line)) ≡ sort_of_reply (serve size gone e).reply
unfolding serve
served_told size dev ep gone e = by_first size dev ep gone e e.state (first_waiting e.line)
