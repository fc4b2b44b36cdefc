-- Whole packets in a row at a slot's endpoint: behind so many of them the slot is that of before, with another pipe and another context there.
use Rattle.std.proofs.Common.{◌≡◌, ℕ, zero, suc, ◌+◌, ◌-◌, ◌*◌, ◌<◌, ◌≤◌, refl, ap, sym, subst, ◌∙◌, arith, List, [], ◌∷◌, ◌++◌, length, take, drop, min, Some, None, true, false, Bool, ◌&&◌, not, if◌then◌else◌, append-nil, append_assoc}
use Rattle.std.specs.Prelude.{IfSome, Option, is_some, nat_lt, option_map, slice_get, slice_index_or, slice_set}
use Rattle.std.specs.Option.{option_and_then, option_map_or, unwrap_or}
use Rattle.std.proofs.lemmas.Bool.{and_parts, ltb-false, ltb-true}
use Rattle.std.proofs.Math.Nat.{mul-le-mul_right}
use Rattle.std.proofs.Math.Seq.{drop-nil}
use Rattle.std.proofs.lemmas.List.{drop-take}
use Rattle.usb_model.specs.Setup.{endpoint_id}
use Rattle.usb_device.specs.Pipe.{Pipe, answer_of, bytes_after, is_ack, no_pipe, packet_of, pipe_after, pipe_at}
use Rattle.usb_device.specs.Skims.{are_taken, are_whole, is_whole, packet_in, pipe_behind, pipe_given, read_in}
use Rattle.usb_xhc.specs.declared.trb_at.TrbAt.{TrbAt}
use Rattle.usb_xhc.specs.Context.{Context}
use Rattle.usb_xhc.specs.Transaction.{Served, offset_by, packet_out, packet_room, working}
use Rattle.usb_xhc.specs.Slots.{DeviceSlot, asks, context_of, read_after, sends, serving, serving_at, slot_after}
use Rattle.usb_xhc.specs.Skims.{AreWhole, MovesWhole, read_skimmed, skipped, slot_skimmed}
use Rattle.usb_xhc.proofs.Skims.{Moves, first-of, inside-skipped, left_by, one-more, served-inside, size-skipped, stepped, stepped-skipped, taken-moves, whole-joins, whole-moves, whole-room, within-skipped, working-skipped}

-- what stands at a place is put there
pipe-same : (xs : List Pipe) (i : ℕ) → slice_set xs i (unwrap_or (slice_get xs i) no_pipe) ≡ xs
pipe-same [] i = refl
pipe-same (x ∷ xs) zero = refl
pipe-same (x ∷ xs) (suc i) = ap (λ (ys : List Pipe). x ∷ ys) (pipe-same xs i)

-- the same of the contexts
context-same : (xs : List (Option Context)) (i : ℕ) (c : Context) → slice_index_or xs i None ≡ Some c → slice_set xs i (Some c) ≡ xs
context-same [] i c h = refl
context-same (x ∷ xs) zero c h = ap (λ (y : Option Context). y ∷ xs) (sym h)
context-same (x ∷ xs) (suc i) c h = ap (λ (ys : List (Option Context)). x ∷ ys) (context-same xs i c h)

-- what was put at a place stands there
pipe-put : (xs : List Pipe) (i : ℕ) (p q : Pipe) → slice_get xs i ≡ Some p → unwrap_or (slice_get (slice_set xs i q) i) no_pipe ≡ q
pipe-put [] i p q h = absurd cc
pipe-put (x ∷ xs) zero p q h = refl
pipe-put (x ∷ xs) (suc i) p q h = pipe-put xs i p q h

-- the same of the contexts
pub context-put : (xs : List (Option Context)) (i : ℕ) (c d : Context) → slice_index_or xs i None ≡ Some c → slice_index_or (slice_set xs i (Some d)) i None ≡ Some d
context-put [] i c d h = absurd cc
context-put (x ∷ xs) zero c d h = refl
context-put (x ∷ xs) (suc i) c d h = context-put xs i c d h

-- and is gone, once something else is put there
pub put-again : {X : Type 0} (xs : List X) (i : ℕ) (x y : X) → slice_set (slice_set xs i x) i y ≡ slice_set xs i y
put-again [] i x y = refl
put-again (z ∷ xs) zero x y = refl
put-again {X = X} (z ∷ xs) (suc i) x y = ap (λ (ys : List X). z ∷ ys) (put-again xs i x y)

-- an endpoint that isn't there has no packet
there-by-packet : (pipes : List Pipe) (ep size : ℕ) → Moves size (answer_of (pipe_at pipes ep)) → slice_get pipes (endpoint_id ep) ≡ Some (pipe_at pipes ep)
there-by-packet pipes ep size moves = by_pipe (slice_get pipes (endpoint_id ep)) moves
  where
    by_pipe : (o : Option Pipe) → Moves size (answer_of (unwrap_or o no_pipe)) → o ≡ Some (unwrap_or o no_pipe)
    by_pipe None m =
        let no : true ≡ false = m.some in
        absurd cc
    by_pipe (Some p) m = refl

-- an endpoint of a device that is there, and the first TRB of the transfer that it serves
pub record Serves (s : DeviceSlot) (ep : ℕ) (c : Context) (t : TrbAt) : Type 0 where
  pub there : s.gone ≡ false
  pub context : context_of s ep ≡ Some c
  pub first : working c ≡ Some t

-- one whole packet there, inside the first TRB
pub record IsInside (s : DeviceSlot) (ep : ℕ) (c : Context) (t : TrbAt) : Type 0 where
  pub serves : Serves s ep c t
  pub some : 0 < c.size
  pub fits : c.within + c.size < t.trb.length
  pub moves : Moves c.size (answer_of (pipe_at s.pipes ep))

-- what it leaves
serving-inside : (s : DeviceSlot) (ep : ℕ) (c : Context) (t : TrbAt) → IsInside s ep c t → serving s ep ≡ Some (left_by c false (stepped c))
serving-inside s ep c t h =
    ap (option_and_then (λ (x : Context). serving_at s.gone x (answer_of (pipe_at s.pipes ep)) (working x))) h.serves.context
    ∙ ap (λ (g : Bool). serving_at g c (answer_of (pipe_at s.pipes ep)) (working c)) h.serves.there
    ∙ ap (serving_at false c (answer_of (pipe_at s.pipes ep))) h.serves.first
    ∙ ap (λ (v : Served). Some v) (served-inside c t (answer_of (pipe_at s.pipes ep)) (first-of c t h.serves.first) h.fits h.some h.moves)

-- the device is asked
is-asked : (s : DeviceSlot) (ep : ℕ) (c : Context) (t : TrbAt) → Serves s ep c t → asks s ep ≡ true
is-asked s ep c t h =
    ap (λ (g : Bool). not g && is_some (option_and_then working (context_of s ep))) h.there
    ∙ ap (λ (x : Option Context). is_some (option_and_then working x)) h.context
    ∙ ap (λ (x : Option TrbAt). is_some x) h.first

-- the slot with another pipe and another context at an endpoint
abbrev pub slot_at : DeviceSlot → (ep : ℕ) → Context → Pipe → DeviceSlot
slot_at s ep c p = record s { pipes = slice_set s.pipes (endpoint_id ep) p; contexts = slice_set s.contexts (endpoint_id ep) (Some c) }

-- so the slot behind it has the next pipe and the next context there
slot-inside : (s : DeviceSlot) (ep : ℕ) (c : Context) (t : TrbAt) (out : Option (List ℕ)) → IsInside s ep c t → slot_after s ep out ≡ slot_at s ep (stepped c) (pipe_after out (pipe_at s.pipes ep))
slot-inside s ep c t out h =
    ap (λ (b : Bool). record s { pipes = if b then put else s.pipes; contexts = option_map_or (λ x. slice_set s.contexts (endpoint_id ep) (Some x.context)) (serving s ep) s.contexts }) (is-asked s ep c t h.serves)
    ∙ ap (λ (v : Option Served). record s { pipes = put; contexts = option_map_or (λ x. slice_set s.contexts (endpoint_id ep) (Some x.context)) v s.contexts }) (serving-inside s ep c t h)
  where
    put : List Pipe
    put = slice_set s.pipes (endpoint_id ep) (pipe_after out (pipe_at s.pipes ep))

-- a slot with another pipe and context, and then with others again
slot-again : (s : DeviceSlot) (ep : ℕ) (c d : Context) (p q : Pipe) → slot_at (slot_at s ep c p) ep d q ≡ slot_at s ep d q
slot-again s ep c d p q =
    ap (λ (xs : List Pipe). record s { pipes = xs; contexts = slice_set (slice_set s.contexts (endpoint_id ep) (Some c)) (endpoint_id ep) (Some d) }) (put-again s.pipes (endpoint_id ep) p q)
    ∙ ap (λ (xs : List (Option Context)). record s { pipes = slice_set s.pipes (endpoint_id ep) q; contexts = xs }) (put-again s.contexts (endpoint_id ep) (Some c) (Some d))

-- packets in a row: the pipes at the endpoint, each behind the packet before it
pub record Row (s : DeviceSlot) (ep : ℕ) (c : Context) (t : TrbAt) (out : DeviceSlot → Option (List ℕ)) (pipe : ℕ → Pipe) (k : ℕ) : Type 0 where
  pub serves : Serves s ep c t
  pub some : 0 < c.size
  pub fits : c.within + k * c.size < t.trb.length
  pub first : pipe 0 ≡ pipe_at s.pipes ep
  pub next : (i : ℕ) → i < k → pipe (suc i) ≡ pipe_after (out (slot_at s ep (skipped c i) (pipe i))) (pipe i)
  pub moves : (i : ℕ) → i < k → Moves c.size (answer_of (pipe i))

module _ (s : DeviceSlot) (ep : ℕ) (c : Context) (t : TrbAt) (out : DeviceSlot → Option (List ℕ)) (pipe : ℕ → Pipe) (k : ℕ) (row : Row s ep c t out pipe k) where
  -- the slot behind so many of them
  abbrev behind : ℕ → DeviceSlot
  behind i = slot_at s ep (skipped c i) (pipe i)

  -- the endpoint still serves the same TRB
  row-serves : (i : ℕ) → Serves (behind i) ep (skipped c i) t
  row-serves i = record {
    there = row.serves.there;
    context = context-put s.contexts (endpoint_id ep) c (skipped c i) row.serves.context;
    first = working-skipped c i ∙ row.serves.first;
  }

  -- and has the pipe that was put there
  row-pipe : (i : ℕ) → i < k → pipe_at (behind i).pipes ep ≡ pipe i
  row-pipe i before =
      pipe-put s.pipes (endpoint_id ep) (pipe_at s.pipes ep) (pipe i)
      (there-by-packet s.pipes ep c.size (subst (λ (p : Pipe). Moves c.size (answer_of p)) row.first (row.moves 0 (omega (arith, before)))))

  -- the next packet is inside the TRB
  row-inside : (i : ℕ) → i < k → IsInside (behind i) ep (skipped c i) t
  row-inside i before = record {
    serves = row-serves i;
    some = omega (arith, row.some, size-skipped c i);
    fits = inside-skipped c t k i row.fits before;
    moves = subst (λ (n : ℕ). Moves n (answer_of (pipe_at (behind i).pipes ep))) (sym (size-skipped c i))
        (subst (λ (p : Pipe). Moves c.size (answer_of p)) (sym (row-pipe i before)) (row.moves i before));
  }

  -- one packet more
  row-step : (i : ℕ) → i < k → slot_after (behind i) ep (out (behind i)) ≡ behind (suc i)
  row-step i before =
      slot-inside (behind i) ep (skipped c i) t (out (behind i)) (row-inside i before)
      ∙ slot-again s ep (skipped c i) (stepped (skipped c i)) (pipe i) (pipe_after (out (behind i)) (pipe_at (behind i).pipes ep))
      ∙ ap (λ (x : Context). slot_at s ep x (pipe_after (out (behind i)) (pipe_at (behind i).pipes ep))) (stepped-skipped c i)
      ∙ ap (slot_at s ep (skipped c (suc i))) (ap (pipe_after (out (behind i))) (row-pipe i before) ∙ sym (row.next i before))

  -- none of them
  row-none : s ≡ behind 0
  row-none =
      sym (ap (λ (xs : List Pipe). record s { pipes = xs; contexts = slice_set s.contexts (endpoint_id ep) (Some c) })
      (ap (slice_set s.pipes (endpoint_id ep)) row.first ∙ pipe-same s.pipes (endpoint_id ep))
      ∙ ap (λ (xs : List (Option Context)). record s { contexts = xs }) (context-same s.contexts (endpoint_id ep) c row.serves.context))

  -- so many of them
  pub row-at : (i : ℕ) → i ≤ k → slot_skimmed out ep i s ≡ behind i
  unfolding slot_skimmed
  row-at zero few = row-none
  row-at (suc i) few = ap (λ (x : DeviceSlot). slot_after x ep (out x)) (row-at i (omega (arith, few))) ∙ row-step i (omega (arith, few))

  -- each is whole
  pub row-whole : AreWhole out ep k s
  row-whole = λ i before.
      subst (λ (x : DeviceSlot). MovesWhole x ep) (sym (row-at i (omega (arith, before))))
      (skipped c i, left_by (skipped c i) false (stepped (skipped c i)), (row-serves i).context, serving-inside (behind i) ep (skipped c i) t (row-inside i before), refl, refl)

-- what is asked of the TRB that it serves
pub asked-of : (P : Context → TrbAt → Type 0) (s : DeviceSlot) (ep : ℕ) (c : Context) (t : TrbAt) → Serves s ep c t → IfSome (context_of s ep) (λ x. IfSome (working x) (λ f. P x f)) → P c t
asked-of P s ep c t h r =
    subst (λ (o : Option TrbAt). IfSome o (λ f. P c f)) h.first
    (subst (λ (o : Option Context). IfSome o (λ x. IfSome (working x) (λ f. P x f))) h.context r)

-- each of those in a row is
each-whole : (size k i : ℕ) (p : Pipe) → are_whole size k p ≡ true → i < k → is_whole size (answer_of (pipe_behind i p)) ≡ true
unfolding are_whole
each-whole size zero i p h before = absurd (omega (arith, before))
each-whole size (suc k) i p h before = by_test (nat_lt i k) refl (λ earlier. each-whole size k i p parts.0 earlier)
  where
    parts : (are_whole size k p ≡ true) × (is_whole size (answer_of (pipe_behind k p)) ≡ true)
    parts = and_parts (are_whole size k p) (is_whole size (answer_of (pipe_behind k p))) h

    by_test : (b : Bool) → nat_lt i k ≡ b → (i < k → is_whole size (answer_of (pipe_behind i p)) ≡ true) → is_whole size (answer_of (pipe_behind i p)) ≡ true
    by_test true e rest = rest (ltb-true i k e)
    by_test false e rest =
        let last : k ≡ i = omega (arith, before, ltb-false i k e) in
        subst (λ (n : ℕ). is_whole size (answer_of (pipe_behind n p)) ≡ true) last parts.1

-- and each of those that are taken
each-taken : (size : ℕ) (bytes : List ℕ) (k i : ℕ) (p : Pipe) → are_taken size bytes k p ≡ true → i < k → is_ack (answer_of (pipe_given size bytes i p)) ≡ true
unfolding are_taken
each-taken size bytes zero i p h before = absurd (omega (arith, before))
each-taken size bytes (suc k) i p h before = by_test (nat_lt i k) refl (λ earlier. each-taken size bytes k i p parts.0 earlier)
  where
    parts : (are_taken size bytes k p ≡ true) × (is_ack (answer_of (pipe_given size bytes k p)) ≡ true)
    parts = and_parts (are_taken size bytes k p) (is_ack (answer_of (pipe_given size bytes k p))) h

    by_test : (b : Bool) → nat_lt i k ≡ b → (i < k → is_ack (answer_of (pipe_given size bytes i p)) ≡ true) → is_ack (answer_of (pipe_given size bytes i p)) ≡ true
    by_test true e rest = rest (ltb-true i k e)
    by_test false e rest =
        let last : k ≡ i = omega (arith, before, ltb-false i k e) in
        subst (λ (n : ℕ). is_ack (answer_of (pipe_given size bytes n p)) ≡ true) last parts.1

-- packets from the device in a row
abbrev pub none_sent : DeviceSlot → Option (List ℕ)
none_sent s = None

-- where each is met by a whole packet they are in a row
pub row-in : (s : DeviceSlot) (ep : ℕ) (c : Context) (t : TrbAt) (k : ℕ) → Serves s ep c t → 0 < c.size → c.within + k * c.size < t.trb.length → are_whole c.size k (pipe_at s.pipes ep) ≡ true
    → Row s ep c t none_sent (λ i. pipe_behind i (pipe_at s.pipes ep)) k
unfolding pipe_behind
row-in s ep c t k serves some fits whole = record {
  serves = serves;
  some = some;
  fits = fits;
  first = refl;
  next = λ i before. refl;
  moves = λ i before. whole-moves c.size (answer_of (pipe_behind i (pipe_at s.pipes ep))) (each-whole c.size k i (pipe_at s.pipes ep) whole before);
}

-- the bytes of one join the others
read-inside : (s : DeviceSlot) (ep : ℕ) (c : Context) (t : TrbAt) (bytes : List ℕ) → Serves s ep c t → c.within + c.size < t.trb.length → is_whole c.size (answer_of (pipe_at s.pipes ep)) ≡ true
    → read_after s ep bytes ≡ bytes ++ packet_of (answer_of (pipe_at s.pipes ep))
read-inside s ep c t bytes serves fits whole =
    ap (λ (b : Bool). if b then bytes_after (answer_of (pipe_at s.pipes ep)) (option_map_or (λ x. packet_room x) (context_of s ep) 0) bytes else bytes) (is-asked s ep c t serves)
    ∙ ap (λ (o : Option Context). bytes_after (answer_of (pipe_at s.pipes ep)) (option_map_or (λ x. packet_room x) o 0) bytes) serves.context
    ∙ ap (λ (n : ℕ). bytes_after (answer_of (pipe_at s.pipes ep)) n bytes) (whole-room c t (first-of c t serves.first) fits)
    ∙ whole-joins c.size (answer_of (pipe_at s.pipes ep)) bytes whole

-- those of all
row-read : (s : DeviceSlot) (ep : ℕ) (c : Context) (t : TrbAt) (k : ℕ) (bytes : List ℕ) → Serves s ep c t → 0 < c.size → c.within + k * c.size < t.trb.length → are_whole c.size k (pipe_at s.pipes ep) ≡ true
    → (i : ℕ) → i ≤ k → read_skimmed ep i s bytes ≡ bytes ++ read_in i (pipe_at s.pipes ep)
unfolding read_skimmed read_in
row-read s ep c t k bytes serves some fits whole zero few = sym (append-nil bytes)
row-read s ep c t k bytes serves some fits whole (suc i) few =
    ap (read_after (slot_skimmed none_sent ep i s) ep) (row-read s ep c t k bytes serves some fits whole i (omega (arith, few)))
    ∙ ap (λ (x : DeviceSlot). read_after x ep (bytes ++ read_in i p)) (row-at s ep c t none_sent (λ n. pipe_behind n p) k row i (omega (arith, few)))
    ∙ read-inside (behind s ep c t none_sent (λ n. pipe_behind n p) k row i) ep (skipped c i) t (bytes ++ read_in i p) (row-serves s ep c t none_sent (λ n. pipe_behind n p) k row i)
    (inside-skipped c t k i fits (omega (arith, few))) (subst (λ (n : ℕ). is_whole n (answer_of (pipe_at (behind s ep c t none_sent (λ n. pipe_behind n p) k row i).pipes ep)) ≡ true) (sym (size-skipped c i)) (ap (λ (q : Pipe). is_whole c.size (answer_of q)) here ∙ each-whole c.size k i p whole (omega (arith, few))))
    ∙ ap (λ (q : Pipe). (bytes ++ read_in i p) ++ packet_of (answer_of q)) here
    ∙ append_assoc bytes (read_in i p) (packet_of (answer_of (pipe_behind i p)))
  where
    p : Pipe
    p = pipe_at s.pipes ep

    row : Row s ep c t none_sent (λ n. pipe_behind n p) k
    row = row-in s ep c t k serves some fits whole

    here : pipe_at (behind s ep c t none_sent (λ n. pipe_behind n p) k row i).pipes ep ≡ pipe_behind i p
    here = row-pipe s ep c t none_sent (λ n. pipe_behind n p) k row i (omega (arith, few))

-- there are 32 ids
few_ids : (ep : ℕ) → endpoint_id ep < 32
few_ids ep = grind arith

-- what was read at a place that there is stands there
read-at : (xs : List (Option Context)) (i : ℕ) (o : Option Context) → i < length xs → o ≡ slice_index_or xs i o → slice_index_or xs i None ≡ o
read-at [] i o lt h = absurd (omega (arith, lt))
read-at (x ∷ xs) zero o lt h = sym h
read-at (x ∷ xs) (suc i) o lt h = read-at xs i o (omega (arith, lt)) h

-- an endpoint of a slot, as it was read
pub serves-from : (r s : DeviceSlot) (ep i : ℕ) (o : Option Context) (c : Context) (t : TrbAt) → r ≡ s → length r.contexts ≡ 32 → i ≡ endpoint_id ep → o ≡ slice_index_or r.contexts i o → o ≡ Some c
    → working c ≡ Some t → r.gone ≡ false → Serves s ep c t
serves-from r s ep i o c t same all at value some first there =
    subst (λ (x : DeviceSlot). Serves x ep c t) same
    (record {
      there = there;
      context = ap (λ (n : ℕ). slice_index_or r.contexts n None) (sym at) ∙ read-at r.contexts i o (omega (arith, at, few_ids ep, all)) value ∙ some;
      first = first;
    })

-- at most so many packets fit, and at least one, where a byte is left behind more
pub few-fit : (size within bytes whole most few : ℕ) → (0 < whole → within + whole * size < bytes) → few ≡ min whole most → (few ≡ 0 → ⊥) → within + few * size < bytes
few-fit size within bytes whole most few fits least some =
    let less : few * size ≤ whole * size = mul-le-mul_right size (omega (arith, least)) in
    omega (arith, less, fits (some-whole least some))
  where
    some-whole : few ≡ min whole most → (few ≡ 0 → ⊥) → 0 < whole
    some-whole least some = omega (arith, least, some)

-- so a packet has bytes
pub few-some : (size whole most few : ℕ) → (0 < whole → 0 < size) → few ≡ min whole most → (few ≡ 0 → ⊥) → 0 < size
few-some size whole most few has least some = has (omega (arith, least, some))

-- and so do fewer
pub fewer-fit : (size within bytes few k : ℕ) → within + few * size < bytes → k ≤ few → within + k * size < bytes
fewer-fit size within bytes few k fits less =
    let packets : k * size ≤ few * size = mul-le-mul_right size less in
    omega (arith, packets, fits)

-- a slot of these
abbrev pub slot_of : List Pipe → Bool → List (Option Context) → DeviceSlot
slot_of pipes gone contexts = record { pipes = pipes; gone = gone; contexts = contexts }

-- the slot as it is left
pub slot-left : (s : DeviceSlot) (ep : ℕ) (c : Context) (p : Pipe) (pipes : List Pipe) (gone : Bool) (contexts : List (Option Context)) → pipes ≡ slice_set s.pipes (endpoint_id ep) p → gone ≡ s.gone
    → contexts ≡ slice_set s.contexts (endpoint_id ep) (Some c) → slot_of pipes gone contexts ≡ slot_at s ep c p
slot-left s ep c p pipes gone contexts a b d =
    ap (λ (x : List Pipe). slot_of x gone contexts) a
    ∙ ap (λ (x : Bool). slot_of (slice_set s.pipes (endpoint_id ep) p) x contexts) b
    ∙ ap (λ (x : List (Option Context)). slot_of (slice_set s.pipes (endpoint_id ep) p) s.gone x) d

-- the first of the first
take-fewer : (xs : List ℕ) (n m : ℕ) → n ≤ m → take n (take m xs) ≡ take n xs
take-fewer xs zero m less = refl
take-fewer xs (suc n) zero less = absurd (omega (arith, less))
take-fewer [] (suc n) (suc m) less = refl
take-fewer (x ∷ xs) (suc n) (suc m) less = ap (λ (ys : List ℕ). x ∷ ys) (take-fewer xs n m (omega (arith, less)))

-- what stands so many behind what stands so many behind
drop-more : (xs : List ℕ) (a n : ℕ) → drop n (drop a xs) ≡ drop (a + n) xs
drop-more xs zero n =
    let sum : n ≡ 0 + n = omega arith in
    ap (λ (m : ℕ). drop m xs) sum
drop-more [] (suc a) n = drop-nil {A = ℕ} n ∙ sym (drop-nil {A = ℕ} (suc a + n))
drop-more (x ∷ xs) (suc a) n =
    let sum : suc (a + n) ≡ suc a + n = omega arith in
    drop-more xs a n ∙ ap (λ (m : ℕ). drop m (x ∷ xs)) sum

-- a piece of what was handed on
piece : (bytes : List ℕ) (a n m size : ℕ) → n + size ≤ m → take size (drop n (take m (drop a bytes))) ≡ take size (drop (a + n) bytes)
piece bytes a n m size less =
    let parts : m ≡ n + (m - n) = omega (arith, less) in
    ap (λ (x : ℕ). take size (drop n (take x (drop a bytes)))) parts
    ∙ ap (take size) (drop-take n (m - n) (drop a bytes))
    ∙ take-fewer (drop n (drop a bytes)) size (m - n) (omega (arith, less))
    ∙ ap (take size) (drop-more bytes a n)

-- the packet that is sent where so many moved is that of this number among those handed on
sent-is : (s : DeviceSlot) (ep : ℕ) (c : Context) (t : TrbAt) (few i : ℕ) (bytes : List ℕ) (p : Pipe) → Serves s ep c t → 0 < c.size → c.within + few * c.size < t.trb.length → i < few
    → sends (slot_at s ep (skipped c i) p) ep bytes ≡ Some (packet_in c.size (take (few * c.size) (drop (offset_by t.trb c.within) bytes)) i)
sent-is s ep c t few i bytes p serves some fits before =
    ap (option_and_then (λ (x : Context). option_map (λ f. packet_out x f.trb bytes) (working x))) (context-put s.contexts (endpoint_id ep) c d serves.context)
    ∙ ap (option_map (λ (f : TrbAt). packet_out d f.trb bytes)) first
    ∙ ap (λ (n : ℕ). Some (take n (drop (offset_by t.trb d.within) bytes))) (whole-room d t (first-of d t first) (inside-skipped c t few i fits before) ∙ size-skipped c i)
    ∙ ap (λ (n : ℕ). Some (take c.size (drop n bytes))) on
    ∙ ap (λ (xs : List ℕ). Some xs) (sym (piece bytes (offset_by t.trb c.within) (i * c.size) (few * c.size) c.size next))
  where
    d : Context
    d = skipped c i

    first : working d ≡ Some t
    first = working-skipped c i ∙ serves.first

    on : offset_by t.trb d.within ≡ offset_by t.trb c.within + i * c.size
    on = omega (arith, within-skipped c i)

    next : i * c.size + c.size ≤ few * c.size
    next =
        let more : suc i * c.size ≤ few * c.size = mul-le-mul_right c.size (omega (arith, before)) in
        omega (arith, more, one-more i c.size)

-- packets to the device in a row
pub row-out : (s : DeviceSlot) (ep : ℕ) (c : Context) (t : TrbAt) (few k : ℕ) (bytes handed : List ℕ) → Serves s ep c t → 0 < c.size → c.within + few * c.size < t.trb.length → k ≤ few
    → handed ≡ take (few * c.size) (drop (offset_by t.trb c.within) bytes) → are_taken c.size handed k (pipe_at s.pipes ep) ≡ true
    → Row s ep c t (λ x. sends x ep bytes) (λ i. pipe_given c.size handed i (pipe_at s.pipes ep)) k
unfolding pipe_given
row-out s ep c t few k bytes handed serves some fits less are taken = record {
  serves = serves;
  some = some;
  fits = fewer-fit c.size c.within t.trb.length few k fits less;
  first = refl;
  next = λ i before.
      ap (λ (x : Option (List ℕ)). pipe_after x (pipe_given c.size handed i (pipe_at s.pipes ep)))
      (ap (λ (xs : List ℕ). Some (packet_in c.size xs i)) are ∙ sym (sent-is s ep c t few i bytes (pipe_given c.size handed i (pipe_at s.pipes ep)) serves some fits (omega (arith, before, less))));
  moves = λ i before. taken-moves c.size (answer_of (pipe_given c.size handed i (pipe_at s.pipes ep))) (each-taken c.size handed k i (pipe_at s.pipes ep) taken before);
}

-- the bytes of all, where the device had them join
pub read-left : (r s : DeviceSlot) (ep : ℕ) (c : Context) (t : TrbAt) (k : ℕ) (bytes new : List ℕ) → r ≡ s → Serves s ep c t → 0 < c.size → c.within + k * c.size < t.trb.length
    → are_whole c.size k (pipe_at s.pipes ep) ≡ true → new ≡ bytes ++ read_in k (pipe_at r.pipes ep) → new ≡ read_skimmed ep k s bytes
read-left r s ep c t k bytes new same serves some fits whole joined =
    joined
    ∙ ap (λ (x : DeviceSlot). bytes ++ read_in k (pipe_at x.pipes ep)) same
    ∙ sym (row-read s ep c t k bytes serves some fits whole k (omega arith))
