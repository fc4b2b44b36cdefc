-- Transactions in a row: none, and one more.
use Rattle.std.proofs.Common.{◌≡◌, ◌∙◌, ◌+◌, ◌<◌, ℕ, zero, suc, List, [], ◌∷◌, ◌++◌, length, Bool, true, false, Option, Some, None, get_or, slice_get, slice_set, refl, sym, ap, arith, append-nil, append_assoc}
use Rattle.std.specs.Option.{unwrap_or}
use Rattle.std.specs.List.{list_all}
use Rattle.usb_model.specs.Direction.{is_of_direction}
use Rattle.usb_model.specs.Setup.{endpoint_id, is_in}
use Rattle.std.proofs.lemmas.Bool.{and_from}
use Rattle.usb_device.specs.Pipe.{IsLawful, Pipe, answer_of, is_ack, no_pipe, packet_of, pipe_after, pipe_at}
use Rattle.usb_device.specs.Skims.{are_taken, are_whole, is_whole, packet_in, pipe_behind, pipe_given, read_in}

-- what stands at a place is put there
set_same : {X : Type 0} (xs : List X) (i : ℕ) (d : X) → xs ≡ slice_set xs i (unwrap_or (slice_get xs i) d)
set_same [] i d = refl
set_same (x ∷ xs) zero d = refl
set_same (x ∷ xs) (suc i) d = ap (λ ys. x ∷ ys) (set_same xs i d)

-- another endpoint with the same script, put in its place, leaves all scripts
scripts_same : (xs : List Pipe) (i j : ℕ) (q : Pipe) → q.script ≡ (unwrap_or (slice_get xs i) no_pipe).script
    → (unwrap_or (slice_get (slice_set xs i q) j) no_pipe).script ≡ (unwrap_or (slice_get xs j) no_pipe).script
scripts_same [] i j q same = refl
scripts_same (x ∷ xs) zero zero q same = same
scripts_same (x ∷ xs) zero (suc j) q same = refl
scripts_same (x ∷ xs) (suc i) zero q same = refl
scripts_same (x ∷ xs) (suc i) (suc j) q same = scripts_same xs i j q same

as_many : (xs : List Pipe) (i : ℕ) (q : Pipe) → length (slice_set xs i q) ≡ length xs
as_many [] i q = refl
as_many (x ∷ xs) zero q = refl
as_many (x ∷ xs) (suc i) q = ap (λ (n : ℕ). suc n) (as_many xs i q)

-- what stands at a place that there is
found_at : (xs : List Pipe) (i : ℕ) (x d : Pipe) → i < length xs → get_or xs i x ≡ unwrap_or (slice_get xs i) d
found_at [] i x d lt = absurd (omega (arith, lt))
found_at (y ∷ ys) zero x d lt = refl
found_at (y ∷ ys) (suc i) x d lt = found_at ys i x d (omega (arith, lt))

few_ids : (ep : ℕ) → endpoint_id ep < 32
few_ids ep = grind arith

-- the endpoint at the place of this id
pub is_at : (pipes : List Pipe) (ep i : ℕ) (x : Pipe) → IsLawful pipes → i ≡ endpoint_id ep → x ≡ get_or pipes i x → x ≡ pipe_at pipes ep
is_at pipes ep i x h same at =
    at ∙ ap (λ (j : ℕ). get_or pipes j x) same ∙ found_at pipes (endpoint_id ep) x no_pipe (omega (arith, few_ids ep, h.all))

-- and so a lawful device
pub still_lawful : (pipes : List Pipe) (ep : ℕ) (q : Pipe) → IsLawful pipes → q.script ≡ (pipe_at pipes ep).script → IsLawful (slice_set pipes (endpoint_id ep) q)
still_lawful pipes ep q h same = record {
  all = as_many pipes (endpoint_id ep) q ∙ h.all;
  fit = λ e. ap (list_all (is_of_direction (is_in e))) (scripts_same pipes (endpoint_id ep) (endpoint_id e) q same) ∙ h.fit e;
}

-- each of none is whole, and taken
pub none_whole : (size : ℕ) (p : Pipe) → are_whole size 0 p ≡ true
unfolding are_whole
none_whole size p = refl

pub none_taken : (size : ℕ) (bytes : List ℕ) (p : Pipe) → are_taken size bytes 0 p ≡ true
unfolding are_taken
none_taken size bytes p = refl

-- none leaves the endpoints as they are
pub none_behind : (pipes : List Pipe) (ep : ℕ) → pipes ≡ slice_set pipes (endpoint_id ep) (pipe_behind 0 (pipe_at pipes ep))
unfolding pipe_behind
none_behind pipes ep = set_same pipes (endpoint_id ep) no_pipe

pub none_given : (size : ℕ) (bytes : List ℕ) (pipes : List Pipe) (ep : ℕ) → pipes ≡ slice_set pipes (endpoint_id ep) (pipe_given size bytes 0 (pipe_at pipes ep))
unfolding pipe_given
none_given size bytes pipes ep = set_same pipes (endpoint_id ep) no_pipe

pub none_pipe : (p : Pipe) → p ≡ pipe_behind 0 p
unfolding pipe_behind
none_pipe p = refl

pub none_given_pipe : (size : ℕ) (bytes : List ℕ) (p : Pipe) → p ≡ pipe_given size bytes 0 p
unfolding pipe_given
none_given_pipe size bytes p = refl

-- and reads nothing
pub none_read : (bytes : List ℕ) (p : Pipe) → bytes ≡ bytes ++ read_in 0 p
unfolding read_in
none_read bytes p = sym (append-nil bytes)

one_more : (k : ℕ) → k + 1 ≡ suc k
one_more k = omega arith

-- the endpoint behind one more, with what came before
pub behind_more : (k : ℕ) (p q r : Pipe) → q ≡ pipe_behind k p → r ≡ pipe_after None q → r ≡ pipe_behind (k + 1) p
unfolding pipe_behind
behind_more k p q r at now = now ∙ ap (pipe_after None) at ∙ ap (λ (n : ℕ). pipe_behind n p) (sym (one_more k))

pub whole_more : (size k : ℕ) (p q : Pipe) → q ≡ pipe_behind k p → are_whole size k p ≡ true → is_whole size (answer_of q) ≡ true → are_whole size (k + 1) p ≡ true
unfolding are_whole
whole_more size k p q at before now =
    ap (λ (n : ℕ). are_whole size n p) (one_more k)
    ∙ and_from (are_whole size k p) (is_whole size (answer_of (pipe_behind k p))) before (ap (λ (x : Pipe). is_whole size (answer_of x)) (sym at) ∙ now)

pub read_more : (k : ℕ) (p q : Pipe) (old mid new : List ℕ) → q ≡ pipe_behind k p → mid ≡ old ++ read_in k p → new ≡ mid ++ packet_of (answer_of q) → new ≡ old ++ read_in (k + 1) p
unfolding read_in
read_more k p q old mid new at before now =
    now ∙ ap (λ (bs : List ℕ). bs ++ packet_of (answer_of q)) before ∙ append_assoc old (read_in k p) (packet_of (answer_of q))
    ∙ ap (λ (x : Pipe). old ++ (read_in k p ++ packet_of (answer_of x))) at ∙ ap (λ (n : ℕ). old ++ read_in n p) (sym (one_more k))

pub given_more : (size : ℕ) (bytes : List ℕ) (k : ℕ) (p q r : Pipe) → q ≡ pipe_given size bytes k p → r ≡ pipe_after (Some (packet_in size bytes k)) q → r ≡ pipe_given size bytes (k + 1) p
unfolding pipe_given
given_more size bytes k p q r at now = now ∙ ap (pipe_after (Some (packet_in size bytes k))) at ∙ ap (λ (n : ℕ). pipe_given size bytes n p) (sym (one_more k))

pub taken_more : (size : ℕ) (bytes : List ℕ) (k : ℕ) (p q : Pipe) → q ≡ pipe_given size bytes k p → are_taken size bytes k p ≡ true → is_ack (answer_of q) ≡ true → are_taken size bytes (k + 1) p ≡ true
unfolding are_taken
taken_more size bytes k p q at before now =
    ap (λ (n : ℕ). are_taken size bytes n p) (one_more k)
    ∙ and_from (are_taken size bytes k p) (is_ack (answer_of (pipe_given size bytes k p))) before (ap (λ (x : Pipe). is_ack (answer_of x)) (sym at) ∙ now)

after_size : (out : Option (List ℕ)) (p : Pipe) → (pipe_after out p).size ≡ p.size
after_size out p = by_halt p.halted refl where
  by_halt : (h : Bool) → p.halted ≡ h → (pipe_after out p).size ≡ p.size
  by_halt true is = rw is refl
  by_halt false is = rw is refl

after_script : (out : Option (List ℕ)) (p : Pipe) → (pipe_after out p).script ≡ p.script
after_script out p = by_halt p.halted refl where
  by_halt : (h : Bool) → p.halted ≡ h → (pipe_after out p).script ≡ p.script
  by_halt true is = rw is refl
  by_halt false is = rw is refl

-- its script stays
pub script_behind : (k : ℕ) (p : Pipe) → (pipe_behind k p).script ≡ p.script
unfolding pipe_behind
script_behind zero p = refl
script_behind (suc k) p = after_script None (pipe_behind k p) ∙ script_behind k p

pub script_given : (size : ℕ) (bytes : List ℕ) (k : ℕ) (p : Pipe) → (pipe_given size bytes k p).script ≡ p.script
unfolding pipe_given
script_given size bytes zero p = refl
script_given size bytes (suc k) p = after_script (Some (packet_in size bytes k)) (pipe_given size bytes k p) ∙ script_given size bytes k p

-- an endpoint takes packets as long as it took before
pub same_size : (size : ℕ) (bytes : List ℕ) (k : ℕ) (p : Pipe) → (pipe_given size bytes k p).size ≡ p.size
unfolding pipe_given
same_size size bytes zero p = refl
same_size size bytes (suc k) p = after_size (Some (packet_in size bytes k)) (pipe_given size bytes k p) ∙ same_size size bytes k p
