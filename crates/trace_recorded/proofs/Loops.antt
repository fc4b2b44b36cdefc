-- One turn more of the loops over packets.
use Rattle.std.proofs.Common.{◌≡◌, ℕ, zero, suc, ◌+◌, ◌-◌, ◌<◌, min, List, [], ◌∷◌, ◌++◌, map, take, drop, refl, ap, sym, ◌∙◌, append_assoc, append-nil, arith}
use Rattle.std.specs.Prelude.{replicate}
use Rattle.usb_model.specs.declared.response.Response.{Response}
use Rattle.usb_model.specs.declared.response.Response.TheVariants.{Data, Ack}
use Rattle.trace_recorded.specs.declared.answer.RecordedAnswer.{RecordedAnswer}
use Rattle.trace_recorded.specs.declared.answer.RecordedAnswer.TheVariants.{Taken}
use Rattle.trace_recorded.specs.Answers.{front_packets}
use Rattle.trace_recorded.specs.Written.{written_bytes, written_packets}

-- one acknowledgement more
next_ack : (j : ℕ) → replicate (suc j) Ack ≡ replicate j Ack ++ Ack ∷ []
next_ack zero = refl
next_ack (suc j) = ap (λ l. Ack ∷ l) (next_ack j)

pub ack_more : (j : ℕ) → replicate (j + 1) Ack ≡ replicate j Ack ++ Ack ∷ []
ack_more j =
    let e : j + 1 ≡ suc j = omega arith in
    ap (λ i. replicate i Ack) e ∙ next_ack j

-- these answers, and then the packets of what is left, are all
abbrev pub IsCutSoFar : (size count : ℕ) (bytes : List ℕ) (answers : List Response) (i : ℕ) (rest : List ℕ) → Type 0
IsCutSoFar size count bytes answers i rest = answers ++ map Data (front_packets size (count - i) rest) ≡ map Data (front_packets size count bytes)

-- at the beginning there is none
pub cut_none : (size count : ℕ) (bytes : List ℕ) → IsCutSoFar size count bytes [] 0 bytes
cut_none size count bytes = ap (λ k. map Data (front_packets size k bytes)) (let e : count - 0 ≡ count = omega arith in e)

-- one packet more
pub cut_more : (size count i : ℕ) (bytes : List ℕ) (answers : List Response) (rest : List ℕ) → i < count → IsCutSoFar size count bytes answers i rest
    → IsCutSoFar size count bytes (answers ++ Data (take size rest) ∷ []) (i + 1) (drop size rest)
cut_more size count i bytes answers rest more so_far =
    let one : suc (count - (i + 1)) ≡ count - i = omega arith in
    append_assoc answers (Data (take size rest) ∷ []) (map Data (front_packets size (count - (i + 1)) (drop size rest)))
    ∙ (ap (λ k. answers ++ map Data (front_packets size k rest)) one ∙ so_far)

-- at the end they are all
pub cut_all : (size count : ℕ) (bytes : List ℕ) (answers : List Response) (rest : List ℕ) → IsCutSoFar size count bytes answers count rest → answers ≡ map Data (front_packets size count bytes)
cut_all size count bytes answers rest so_far =
    let none : count - count ≡ 0 = omega arith in
    sym (append-nil answers) ∙ (ap (λ k. answers ++ map Data (front_packets size k rest)) (sym none) ∙ so_far)

-- the same of packets that were written, of which so many bytes are left
abbrev pub AreWrittenSoFar : (size count asked : ℕ) (bytes : List ℕ) (answers : List RecordedAnswer) (i left : ℕ) (rest : List ℕ) → Type 0
AreWrittenSoFar size count asked bytes answers i left rest = answers ++ written_packets size (count - i) left rest ≡ written_packets size count asked bytes

pub written_none : (size count asked : ℕ) (bytes : List ℕ) → AreWrittenSoFar size count asked bytes [] 0 asked bytes
written_none size count asked bytes = ap (λ k. written_packets size k asked bytes) (let e : count - 0 ≡ count = omega arith in e)

pub written_more : (size count asked i left : ℕ) (bytes : List ℕ) (answers : List RecordedAnswer) (rest : List ℕ) → i < count → AreWrittenSoFar size count asked bytes answers i left rest
    → AreWrittenSoFar size count asked bytes (answers ++ Taken (written_bytes (min size left) rest) ∷ []) (i + 1) (left - size) (drop size rest)
written_more size count asked i left bytes answers rest more so_far =
    let one : suc (count - (i + 1)) ≡ count - i = omega arith in
    append_assoc answers (Taken (written_bytes (min size left) rest) ∷ []) (written_packets size (count - (i + 1)) (left - size) (drop size rest))
    ∙ (ap (λ k. answers ++ written_packets size k left rest) one ∙ so_far)

pub written_all : (size count asked left : ℕ) (bytes : List ℕ) (answers : List RecordedAnswer) (rest : List ℕ) → AreWrittenSoFar size count asked bytes answers count left rest → answers ≡ written_packets size count asked bytes
written_all size count asked left bytes answers rest so_far =
    let none : count - count ≡ 0 = omega arith in
    sym (append-nil answers) ∙ (ap (λ k. answers ++ written_packets size k left rest) (sym none) ∙ so_far)
