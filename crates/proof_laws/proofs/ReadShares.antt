-- What comes of a read's share is its outcome.
use Rattle.std.proofs.Common.{◌≡◌, ℕ, ◌+◌, ◌-◌, ◌*◌, ◌/◌, ◌<◌, ◌≤◌, ◌==◌, ◌⊎◌, zero, suc, min, Bool, true, false, List, [], ◌∷◌, ◌++◌, length, drop, Some, None, refl, ap, sym, ◌∙◌, inl, inr, append-nil, arith}
use Rattle.std.specs.Prelude.{if◌then◌else◌, nat_lt}
use Rattle.std.specs.List.{AllByRecursion}
use Rattle.std.proofs.lemmas.Bool.{eqb-true, eqb-false, eq-eqb, ne_eqb, ltb-true, ltb-false, lt-ltb, le-ltb}
use Rattle.std.proofs.lemmas.Nat.{le-div}
use Rattle.std.proofs.lemmas.Option.{same_Some}
use Rattle.std.proofs.Math.Nat.{div-mul-le_self, div-le_self, mul-le-mul_right}
use Rattle.usb_model.specs.declared.response.Response.{Response}
use Rattle.usb_model.specs.declared.response.Response.TheVariants.{Data, Ack, Nak, Stall, Broken}
use Rattle.usb_model.specs.declared.request.Body.TheVariants.{In}
use Rattle.usb_model.specs.declared.request.Request.{Request}
use Rattle.usb_model.specs.declared.outcome.Outcome.{Outcome}
use Rattle.usb_model.specs.Endpoint.Packets.{open_with, ended_with, moved_by, full_front, front_of, read_with}
use Rattle.proof_model.proofs.Shares.OpenShares.{front_split, front_full, read_behind, no_front}
use Rattle.proof_model.proofs.Shares.More.{room_behind}
use Rattle.proof_laws.specs.Outcomes.{LeaveRoom, ReadsOn, Reads}

-- no more whole packets than there is room for a byte behind leave room
leave_room : (n size : ℕ) (front : List (List ℕ)) → AllByRecursion (λ b. length b ≡ size) front → length front ≤ (n - 1) / size → LeaveRoom n size front
leave_room n size [] whole few = record { whole = whole; room = inl refl }
leave_room n size (b ∷ front) whole few =
    let up : suc (length front) * size ≤ (n - 1) / size * size = mul-le-mul_right size few in
    let below : (n - 1) / size * size ≤ n - 1 = div-mul-le_self (n - 1) size in
    let some : (n - 1) / size ≤ n - 1 = div-le_self (n - 1) size in
    record { whole = whole; room = inr (omega (arith, up, below, some, few)) }

-- and the other way round
few_whole : (n size : ℕ) (front : List (List ℕ)) → 0 < size → LeaveRoom n size front → length front ≤ (n - 1) / size
few_whole n size front some w = by_room w.room
  where
    by_room : (front ≡ []) ⊎ (length front * size < n) → length front ≤ (n - 1) / size
    by_room (inl none) = omega (arith, ap (λ l. length l) none)
    by_room (inr less) = le-div (length front) (n - 1) size some (omega (arith, less))

-- the bytes that moved are at most n
no_more : (n size : ℕ) (front : List (List ℕ)) → LeaveRoom n size front → length front * size ≤ n
no_more n size front w = by_room w.room
  where
    by_room : (front ≡ []) ⊎ (length front * size < n) → length front * size ≤ n
    by_room (inl none) = omega (arith, ap (λ l. length l * size) none)
    by_room (inr less) = omega (arith, less)

-- what a read has is what it comes to
reads_on : (n size : ℕ) (front : List (List ℕ)) (behind : List Response) (o : Outcome) → LeaveRoom n size front → read_with n size front behind ≡ Some o → ReadsOn n size front behind o
reads_on n size front [] o w e = sym (same_Some (open_with front) o e)
reads_on n size front (Stall ∷ []) o w e = sym (same_Some (ended_with front 6) o e)
reads_on n size front (Broken ∷ []) o w e = sym (same_Some (ended_with front 4) o e)
reads_on n size front (Data b ∷ []) o w e =
    by_tests (nat_lt (min size (n - length front * size)) (length b)) refl (length front * size + length b == n) refl (nat_lt (length b) size) refl e
  where
    most : length front * size ≤ n
    most = no_more n size front w

    long : min size (n - length front * size) < length b → (t : Bool) → nat_lt size (length b) ≡ t → (size < length b) ⊎ (n < length front * size + length b)
    long more true is = inl (ltb-true size (length b) is)
    long more false is = inr (omega (arith, more, ltb-false size (length b) is, most))

    by_tests : (p : Bool) → nat_lt (min size (n - length front * size)) (length b) ≡ p → (q : Bool) → (length front * size + length b == n) ≡ q → (r : Bool) → nat_lt (length b) size ≡ r
        → (if p then Some (ended_with front 3) else (if q then Some (ended_with (front ++ b ∷ []) 1) else (if r then Some (ended_with (front ++ b ∷ []) 13) else None))) ≡ Some o
        → ReadsOn n size front (Data b ∷ []) o
    by_tests true p q is_q r is_r f =
        inl (long (ltb-true (min size (n - length front * size)) (length b) p) (nat_lt size (length b)) refl, sym (same_Some (ended_with front 3) o f))
    by_tests false p true is_q r is_r f =
        inr (inl (omega (arith, ltb-false (min size (n - length front * size)) (length b) p), eqb-true (length front * size + length b) n is_q, sym (same_Some (ended_with (front ++ b ∷ []) 1) o f)))
    by_tests false p false is_q true is_r f =
        inr (inr (ltb-true (length b) size is_r, omega (arith, ltb-false (min size (n - length front * size)) (length b) p, most, eqb-false (length front * size + length b) n is_q), sym (same_Some (ended_with (front ++ b ∷ []) 13) o f)))
    by_tests false p false is_q false is_r f = absurd cc
reads_on n size front (Nak ∷ xs) o w e = absurd cc
reads_on n size front (Ack ∷ xs) o w e = absurd cc
reads_on n size front (Data b ∷ x ∷ xs) o w e = absurd cc
reads_on n size front (Stall ∷ x ∷ xs) o w e = absurd cc
reads_on n size front (Broken ∷ x ∷ xs) o w e = absurd cc

pub reads_if_moved : (request : Request) (n size : ℕ) (xs : List Response) (o : Outcome) → moved_by request size (In n) xs ≡ Some o → Reads n size xs o
reads_if_moved request n size xs o e =
    let f = front_full size ((n - 1) / size) xs in
    let room : LeaveRoom n size (front_of n size xs) = leave_room n size (front_of n size xs) f.0 f.1 in
    record {
      front = front_of n size xs;
      behind = drop (length (front_of n size xs)) xs;
      room = room;
      answers = front_split size ((n - 1) / size) xs;
      comes = reads_on n size (front_of n size xs) (drop (length (front_of n size xs)) xs) o room e;
    }

-- what it comes to it has
moved_on : (n size : ℕ) (front : List (List ℕ)) (behind : List Response) (o : Outcome) → 0 < size → LeaveRoom n size front → ReadsOn n size front behind o
    → (full_front size ((n - 1) / size - length front) behind ≡ []) × (read_with n size front behind ≡ Some o)
moved_on n size front [] o some w c = (no_front size ((n - 1) / size - length front), ap Some (sym c))
moved_on n size front (Stall ∷ []) o some w c = (no_stall ((n - 1) / size - length front), ap Some (sym c))
  where
    no_stall : (k : ℕ) → full_front size k (Stall ∷ []) ≡ []
    no_stall zero = refl
    no_stall (suc k) = refl
moved_on n size front (Broken ∷ []) o some w c = (no_failure ((n - 1) / size - length front), ap Some (sym c))
  where
    no_failure : (k : ℕ) → full_front size k (Broken ∷ []) ≡ []
    no_failure zero = refl
    no_failure (suc k) = refl
moved_on n size front (Data b ∷ []) o some w c = by_end c
  where
    most : length front * size ≤ n
    most = no_more n size front w

    -- no room for a whole packet, or the packet isn't whole
    stops : (k : ℕ) → k ≡ (n - 1) / size - length front → (n ≤ length front * size + size) ⊎ (length b ≡ size → ⊥) → full_front size k (Data b ∷ []) ≡ []
    stops zero is why = refl
    stops (suc k) is (inr apart) = rw (ne_eqb (length b) size apart) refl
    stops (suc k) is (inl full) =
        let more : length front * size + size < n = room_behind n size (length front) (omega (arith, is)) in
        absurd (omega (arith, more, full))

    whole : (length b ≡ size → n ≤ length front * size + size) → (t : Bool) → (length b == size) ≡ t → (n ≤ length front * size + size) ⊎ (length b ≡ size → ⊥)
    whole last true is = inl (last (eqb-true (length b) size is))
    whole last false is = inr (eqb-false (length b) size is)

    too_long : (size < length b) ⊎ (n < length front * size + length b) → nat_lt (min size (n - length front * size)) (length b) ≡ true
    too_long (inl long) = lt-ltb (min size (n - length front * size)) (length b) (omega (arith, long))
    too_long (inr long) = lt-ltb (min size (n - length front * size)) (length b) (omega (arith, long, most))

    no_last : (size < length b) ⊎ (n < length front * size + length b) → length b ≡ size → n ≤ length front * size + size
    no_last (inl long) same = absurd (omega (arith, long, same))
    no_last (inr long) same = omega (arith, long, same)

    by_end : ReadsOn n size front (Data b ∷ []) o → (full_front size ((n - 1) / size - length front) (Data b ∷ []) ≡ []) × (read_with n size front (Data b ∷ []) ≡ Some o)
    by_end (inl (long, is)) =
        (stops ((n - 1) / size - length front) refl (whole (no_last long) (length b == size) refl), rw (too_long long) (ap Some (sym is)))
    by_end (inr (inl (fits, all, is))) =
        let p : nat_lt (min size (n - length front * size)) (length b) ≡ false = le-ltb (min size (n - length front * size)) (length b) (omega (arith, fits, all)) in
        (stops ((n - 1) / size - length front) refl (whole (λ same. omega (arith, same, all)) (length b == size) refl), rw (p, eq-eqb (length front * size + length b) n all) (ap Some (sym is)))
    by_end (inr (inr (short, less, is))) =
        let p : nat_lt (min size (n - length front * size)) (length b) ≡ false = le-ltb (min size (n - length front * size)) (length b) (omega (arith, short, less)) in
        let q : (length front * size + length b == n) ≡ false = ne_eqb (length front * size + length b) n (λ z. omega (arith, z, less)) in
        (stops ((n - 1) / size - length front) refl (inr (λ same. omega (arith, same, short))), rw (p, q, lt-ltb (length b) size short) (ap Some (sym is)))
moved_on n size front (Nak ∷ xs) o some w c = absurd c
moved_on n size front (Ack ∷ xs) o some w c = absurd c
moved_on n size front (Data b ∷ x ∷ xs) o some w c = absurd c
moved_on n size front (Stall ∷ x ∷ xs) o some w c = absurd c
moved_on n size front (Broken ∷ x ∷ xs) o some w c = absurd c

pub moved_if_reads : (request : Request) (n size : ℕ) (xs : List Response) (o : Outcome) → 0 < size → Reads n size xs o → moved_by request size (In n) xs ≡ Some o
moved_if_reads request n size xs o some r =
    let left : ℕ = (n - 1) / size - length r.front in
    let few : length r.front ≤ (n - 1) / size = few_whole n size r.front some r.room in
    let m = moved_on n size r.front r.behind o some r.room r.comes in
    ap (moved_by request size (In n)) r.answers
    ∙ (read_behind n size left r.front r.behind request r.room.whole (omega (arith, few))
    ∙ (ap (λ l. read_with n size (r.front ++ l) (drop (length l) r.behind)) m.0
    ∙ (ap (λ l. read_with n size l r.behind) (append-nil r.front) ∙ m.1)))
