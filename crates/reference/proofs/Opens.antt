-- Answers that are alike leave a transfer open, and tell how far it came.
use Rattle.std.proofs.Common.{◌≡◌, ℕ, ◌-◌, ◌*◌, ◌/◌, ◌<◌, ◌≤◌, zero, suc, Bool, true, false, Option, Some, None, List, [], ◌∷◌, ◌++◌, length, map, take, drop, refl, sym, ap, ◌∙◌, subst, length-take-le, arith}
use Rattle.std.specs.Prelude.{replicate, nat_le, slice_index_or, IfSome, IsSome}
use Rattle.std.specs.Bool.{then_some}
use Rattle.std.proofs.lemmas.Bool.{leb-true}
use Rattle.std.specs.List.{AllByRecursion, concat}
use Rattle.usb_model.specs.declared.response.Response.{Response}
use Rattle.usb_model.specs.declared.response.Response.TheVariants.{Ack, Data}
use Rattle.usb_model.specs.declared.request.Body.{Body}
use Rattle.usb_model.specs.declared.request.Body.TheVariants.{In, Out}
use Rattle.usb_model.specs.declared.request.Request.{Request}
use Rattle.usb_model.specs.declared.endpoint.Endpoint.{Endpoint}
use Rattle.usb_model.specs.declared.item.Item.{Item}
use Rattle.usb_model.specs.declared.share.Alike.TheVariants.{Nothing, Packets, Acks}
use Rattle.usb_model.specs.Alike.{AreAlike}
use Rattle.usb_model.specs.Endpoint.Packets.{cut, full_packets, moved_by, open_with, outcome, packets_by, pieces, without_naks, IsOpenAt}
use Rattle.usb_model.specs.Endpoint.Serve.{next_answer}
use Rattle.usb_model.specs.Requests.{adds_zero_packet}
use Rattle.usb_model.proofs.CutPackets.{length_cut}
use Rattle.proof_model.proofs.Shares.Outcome.{outcome_is}
use Rattle.proof_model.proofs.Shares.OpenShares.{IsWhole, full_count, open_if_whole}
use Rattle.reference.specs.declared.progress.Progress.{Progress}
use Rattle.reference.specs.Progress.{AreMoved, GoesOn, HasMoved}

-- a whole share is open
open_whole : (request : Request) (size : ℕ) (share : List Response) (ps : List (List ℕ)) → IsWhole request size request.body (without_naks share) ps
    → outcome request size share false ≡ Some (open_with ps)
open_whole request size share ps whole = outcome_is request size share ∙ open_if_whole request size request.body (without_naks share) ps whole

-- a write has a packet
some_packet : (request : Request) (size : ℕ) (bytes : List ℕ) → 0 < length (packets_by request size (Out bytes))
unfolding pieces
some_packet request size bytes = omega (arith, length_cut size (full_packets (adds_zero_packet request) (length bytes) size) bytes)

-- packets of a read
pub read : (request : Request) (size count n : ℕ) (share : List Response) → request.body ≡ In n → count ≤ (n - 1) / size → AreAlike (Packets size count) (without_naks share)
    → HasMoved request size share count
read request size count n share body few all =
    let ps : List (List ℕ) = all.0 in
    let room : length ps ≤ (n - 1) / size = omega (arith, few, all.3) in (
      ps,
      open_whole request size share ps (rw body (record { answers = all.1; full = all.2; room = room })),
      rw body (all.1, all.3, full_count size ps all.2 ∙ ap (λ k. k * size) all.3),
    )

-- acknowledgements of a write
pub sent : (request : Request) (size count : ℕ) (bytes : List ℕ) (share : List Response) → request.body ≡ Out bytes → count < length (packets_by request size (Out bytes))
    → AreAlike (Acks count) (without_naks share) → HasMoved request size share count
sent request size count bytes share body few all =
    let packets : List (List ℕ) = packets_by request size (Out bytes) in
    let many : length (take count packets) ≡ count = length-take-le count packets (omega (arith, few)) in (
      take count packets,
      open_whole request size share (take count packets)
          (rw body (record { answers = all ∙ ap (λ k. replicate k Ack) (sym many); packets = ap (λ k. take k packets) (sym many); room = omega (arith, few, many) })),
      rw body (refl, few),
    )

-- none of either
pub none_moved : (request : Request) (size : ℕ) (share : List Response) → AreAlike Nothing (without_naks share) → HasMoved request size share 0
none_moved request size share none = by_body request.body refl
  where
    by_body : (body : Body) → request.body ≡ body → HasMoved request size share 0
    by_body (In n) same = read request size 0 n share same (omega arith) ([], none, tt, refl)
    by_body (Out bytes) same = sent request size 0 bytes share same (some_packet request size bytes) none

-- the packets of a write, of which so many moved, are its bytes in pieces
pub pieces_at : (request : Request) (size after : ℕ) (bytes : List ℕ) → after < length (packets_by request size (Out bytes))
    → (k : ℕ) × (after ≤ suc k) × (packets_by request size (Out bytes) ≡ cut size k bytes)
unfolding pieces
pieces_at request size after bytes few =
    let k : ℕ = full_packets (adds_zero_packet request) (length bytes) size in
    (k, omega (arith, few, length_cut size k bytes), refl)

-- the first of some answers, and the rest
pub first_of : (xs : List Response) (x : Response) → 1 ≤ length xs → x ≡ slice_index_or xs 0 x → (rest : List Response) × (xs ≡ x ∷ rest)
first_of [] x some same = absurd (omega (arith, some))
first_of (y ∷ xs) x some same = (xs, ap (λ z. z ∷ xs) (sym same))

-- an answer that comes to a transfer that is open before it and behind it
pub goes_on : (size : ℕ) (e : Endpoint) (x : Item) (answer : Response) (rest : List Response) (before after : ℕ) (result : Option Progress) → e.device_halted ≡ false → e.script_left ≡ answer ∷ rest
    → HasMoved x.request size x.share before → HasMoved x.request size (x.share ++ answer ∷ []) after
    → result ≡ then_some (nat_le before after) (record { before = before; after = after }) → IfSome result (GoesOn size e x)
goes_on size e x answer rest before after result runs comes was is same = rw same (by_order (nat_le before after) refl)
  where
    next : next_answer e ≡ answer ∷ []
    next = rw (runs, comes) refl

    by_order : (b : Bool) → nat_le before after ≡ b → IfSome (then_some b (record { before = before; after = after })) (GoesOn size e x)
    by_order true rises = record {
      runs = runs;
      comes = (answer, rest, comes);
      rises = leb-true before after rises;
      was = was;
      is = rw next is;
    }
    by_order false rises = tt

-- and so it stays open
pub stays : (size : ℕ) (e : Endpoint) (x : Item) (progress : Option Progress) → IfSome progress (GoesOn size e x) → IsSome progress
    → IsOpenAt (outcome x.request size (x.share ++ next_answer e) e.device_halted)
stays size e x None goes some = absurd cc
stays size e x (Some progress) goes some =
    subst (λ b. IsOpenAt (outcome x.request size (x.share ++ next_answer e) b)) (sym goes.runs) (subst IsOpenAt (sym goes.is.1) refl)
