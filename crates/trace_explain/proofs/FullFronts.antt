-- How a read ends, by the number of its full packets.
use Rattle.std.proofs.Common.{◌≡◌, ℕ, ◌+◌, ◌-◌, ◌*◌, ◌/◌, ◌<◌, ◌≤◌, ◌==◌, nat_lt, zero, suc, Bool, true, false, List, [], ◌∷◌, ◌++◌, length, drop, Some, None, refl, sym, ap, ◌∙◌, arith, length-append}
use Rattle.std.specs.Prelude.{if◌then◌else◌, min}
use Rattle.std.specs.List.{concat}
use Rattle.std.specs.Option.{option_and_then}
use Rattle.std.proofs.lemmas.List.{drop-drop}
use Rattle.std.proofs.lemmas.Bool.{eqb-true}
use Rattle.usb_model.specs.declared.request.Body.TheVariants.{In}
use Rattle.usb_model.specs.declared.request.Request.{Request}
use Rattle.usb_model.specs.Completion.{success, babble_detected, short_packet}
use Rattle.trace_explain.specs.declared.ends.End.TheVariants.{Whole, Short, Babble}
use Rattle.trace_explain.proofs.Fronts.{front_fits}
use Rattle.usb_model.specs.declared.response.Response.{Response}
use Rattle.usb_model.specs.declared.response.Response.TheVariants as response
use Rattle.usb_model.specs.Endpoint.Packets.{ended_with, front_of, full_front, moved_by, read_with}
use Rattle.trace_explain.specs.Endings.{end_of}
use Rattle.trace_explain.specs.Ends.{read_end}

-- so many full packets stand in front of the answers xs, no more than so many, perhaps with more of them in ys behind
pub record IsFront (size most : ℕ) (xs : List Response) (count : ℕ) (ys : List Response) : Type 0 where
  pub all : length (full_front size most xs) ≡ count + length (full_front size (most - count) ys)
  pub behind : ys ≡ drop count xs
  pub room : count ≤ most

-- at the beginning there are none
pub front_none : (size most : ℕ) (xs : List Response) → IsFront size most xs 0 xs
front_none size most xs =
    let whole : most - 0 ≡ most = omega arith in
    record { all = rw whole (omega arith); behind = refl; room = omega arith }

-- one more
pub front_more : {size most : ℕ} {xs ys : List Response} {count : ℕ} {x : Response} {zs : List Response} → IsFront size most xs count ys → count < most → ys ≡ x ∷ zs
    → ((k : ℕ) (l : List Response) → length (full_front size (suc k) (x ∷ l)) ≡ suc (length (full_front size k l))) → IsFront size most xs (count + 1) zs
front_more {size} {most} {xs} {ys} {count} {x} {zs} f room next full =
    let one : most - count ≡ suc (most - (count + 1)) = omega arith in
    let step : length (full_front size (most - count) ys) ≡ suc (length (full_front size (most - (count + 1)) zs)) = rw (one, next) (full (most - (count + 1)) zs) in
    record {
      all = omega (arith, f.all, step);
      behind = sym (sym (drop-drop 1 count xs) ∙ ap (drop 1) (sym f.behind ∙ next));
      room = omega arith;
    }

-- no more of them stand in front than these
pub front_ends : {size most : ℕ} {xs ys : List Response} {count : ℕ} → IsFront size most xs count ys → length (full_front size (most - count) ys) ≡ 0 → count ≡ length (full_front size most xs)
front_ends f none = omega (arith, f.all, none)

-- no answer is left
pub front_over : {size most : ℕ} {xs ys : List Response} {count : ℕ} → IsFront size most xs count ys → ys ≡ [] → count ≡ length (full_front size most xs)
front_over {size} {most} {count = count} f over = front_ends f (rw over (by_number (most - count)))
  where
    by_number : (n : ℕ) → length (full_front size n []) ≡ 0
    by_number zero = refl
    by_number (suc n) = refl

-- no full packet comes next
pub front_stops : {size most : ℕ} {xs ys : List Response} {count : ℕ} {x : Response} {zs : List Response} → IsFront size most xs count ys → count < most → ys ≡ x ∷ zs
    → ((k : ℕ) (l : List Response) → length (full_front size (suc k) (x ∷ l)) ≡ 0) → count ≡ length (full_front size most xs)
front_stops {size} {most} {xs} {ys} {count} {x} {zs} f room next none =
    let one : most - count ≡ suc (most - (count + 1)) = omega arith in
    front_ends f (rw (one, next) (none (most - (count + 1)) zs))

-- no more are asked for
pub front_full : {size most : ℕ} {xs ys : List Response} {count : ℕ} → IsFront size most xs count ys → most ≤ count → count ≡ length (full_front size most xs)
front_full {size} {most} {ys = ys} {count = count} f full =
    let none : most - count ≡ 0 = omega arith in
    front_ends f (rw none refl)

-- full packets have as many bytes as their number says
pub front_bytes : (size most : ℕ) (xs : List Response) → length (concat (full_front size most xs)) ≡ length (full_front size most xs) * size
front_bytes size zero xs = omega arith
front_bytes size (suc most) [] = omega arith
front_bytes size (suc most) (response.Data b ∷ xs) = by_test (front_bytes size most xs) (length b == size) refl
  where
    by_test : length (concat (full_front size most xs)) ≡ length (full_front size most xs) * size → (t : Bool) → (length b == size) ≡ t → length (concat (if t then b ∷ full_front size most xs else [])) ≡ length (if t then b ∷ full_front size most xs else []) * size
    by_test rest true e = let same : length b ≡ size = eqb-true (length b) size e in rw (length-append b (concat (full_front size most xs))) (omega (arith, same, rest))
    by_test rest false e = omega arith
front_bytes size (suc most) (_ ∷ xs) = omega arith

-- a packet more has its bytes more
pub one_packet_more : (front : List (List ℕ)) (b : List ℕ) → length (concat (front ++ b ∷ [])) ≡ length (concat front) + length b
one_packet_more [] b = rw length-append (omega arith)
one_packet_more (x ∷ front) b = let rest = one_packet_more front b in rw (length-append x (concat (front ++ b ∷ [])), length-append x (concat front)) (omega (arith, rest))

-- how a read ends by its front, where that is of full packets
read_ends : (n size : ℕ) (front : List (List ℕ)) (rest : List Response) → length (concat front) ≡ length front * size → option_and_then end_of (read_with n size front rest) ≡ read_end n size (length front) rest
read_ends n size front [] full = refl
read_ends n size front (response.Stall ∷ []) full = refl
read_ends n size front (response.Broken ∷ []) full = refl
read_ends n size front (response.Data b ∷ []) full = by_babble (nat_lt (min size (n - length front * size)) (length b))
  where
    moved : length (concat (front ++ b ∷ [])) ≡ length front * size + length b
    moved = one_packet_more front b ∙ ap (λ k. k + length b) full

    by_short : (t : Bool) → option_and_then end_of (if t then Some (ended_with (front ++ b ∷ []) short_packet) else None) ≡ (if t then Some (Short (length front * size + length b)) else None)
    by_short true = ap (λ k. Some (Short k)) moved
    by_short false = refl

    by_whole : (t : Bool) → option_and_then end_of (if t then Some (ended_with (front ++ b ∷ []) success) else if nat_lt (length b) size then Some (ended_with (front ++ b ∷ []) short_packet) else None)
        ≡ (if t then Some Whole else if nat_lt (length b) size then Some (Short (length front * size + length b)) else None)
    by_whole true = refl
    by_whole false = by_short (nat_lt (length b) size)

    by_babble : (t : Bool) → option_and_then end_of (if t then Some (ended_with front babble_detected) else if length front * size + length b == n then Some (ended_with (front ++ b ∷ []) success) else if nat_lt (length b) size then Some (ended_with (front ++ b ∷ []) short_packet) else None)
        ≡ (if t then Some Babble else if length front * size + length b == n then Some Whole else if nat_lt (length b) size then Some (Short (length front * size + length b)) else None)
    by_babble true = refl
    by_babble false = by_whole (length front * size + length b == n)
read_ends n size front (response.Ack ∷ xs) full = refl
read_ends n size front (response.Nak ∷ xs) full = refl
read_ends n size front (response.Stall ∷ x ∷ xs) full = refl
read_ends n size front (response.Broken ∷ x ∷ xs) full = refl
read_ends n size front (response.Data b ∷ x ∷ xs) full = refl

-- the same of the answers xs
pub read_by_number : (request : Request) (n size full : ℕ) (xs rest : List Response) → full ≡ length (front_of n size xs) → rest ≡ drop full xs
    → read_end n size full rest ≡ option_and_then end_of (moved_by request size (In n) xs)
read_by_number request n size full xs rest number behind =
    let front : List (List ℕ) = front_of n size xs in
    ap (read_end n size full) (behind ∙ ap (λ k. drop k xs) number)
    ∙ ap (λ k. read_end n size k (drop (length front) xs)) number
    ∙ sym (read_ends n size front (drop (length front) xs) (front_bytes size ((n - 1) / size) xs))

-- full packets that leave room have no more bytes than there is room
pub full_fits : (n size full : ℕ) (xs : List Response) → full ≡ length (full_front size ((n - 1) / size) xs) → full * size ≤ n
full_fits n size full xs number = rw number (front_fits n size xs (full_front size ((n - 1) / size) xs) refl)
