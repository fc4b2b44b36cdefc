-- Loops of the plain program over packets and answers: one turn more.
use Rattle.std.proofs.Common.{◌≡◌, ℕ, ◌+◌, ◌-◌, ◌<◌, ◌≤◌, zero, suc, List, [], ◌∷◌, ◌++◌, length, take, drop, refl, sym, ap, ap₂, ◌∙◌, append_assoc, append-nil, arith}
use Rattle.std.proofs.lemmas.List.{drop-drop, length_push}
use Rattle.usb_model.specs.declared.response.Response.{Response}
use Rattle.usb_model.specs.declared.response.Response.TheVariants.{Ack}
use Rattle.usb_model.specs.Endpoint.Packets.{cut, acks, full_front}

-- the first of the pieces, and c more of them
next_piece : (size c k : ℕ) (bytes : List ℕ) → c ≤ k → take (suc c) (cut size k bytes) ≡ take size bytes ∷ take c (cut size (k - 1) (drop size bytes))
next_piece size zero zero bytes few = refl
next_piece size (suc c) zero bytes few = absurd (omega (arith, few))
next_piece size c (suc k) bytes few = let e : suc k - 1 ≡ k = omega arith in rw e refl

-- the first `count` pieces, however many there are: these are done, and then come the first pieces of what is left
abbrev pub IsCutSoFar : (size count : ℕ) (bytes : List ℕ) (done : List (List ℕ)) (i : ℕ) (rest : List ℕ) → Type 0
IsCutSoFar size count bytes done i rest = (k : ℕ) → count ≤ suc k → take count (cut size k bytes) ≡ done ++ take (count - i) (cut size (k - i) rest)

-- at the beginning none is done
pub cut_none : (size count : ℕ) (bytes : List ℕ) → IsCutSoFar size count bytes [] 0 bytes
cut_none size count bytes k few =
    let whole : count - 0 ≡ count = omega arith in
    let all : k - 0 ≡ k = omega arith in
    rw (whole, all) refl

-- one piece more is cut
pub cut_more : (size count i : ℕ) (bytes : List ℕ) (done : List (List ℕ)) (rest : List ℕ) → i < count → IsCutSoFar size count bytes done i rest
    → IsCutSoFar size count bytes (done ++ take size rest ∷ []) (i + 1) (drop size rest)
cut_more size count i bytes done rest more so_far k few =
    let one : count - i ≡ suc (count - (i + 1)) = omega arith in
    let fewer : k - i - 1 ≡ k - (i + 1) = omega arith in
    so_far k few
    ∙ ap (λ n. done ++ take n (cut size (k - i) rest)) one
    ∙ ap (λ l. done ++ l) (next_piece size (count - (i + 1)) (k - i) rest (omega arith))
    ∙ ap (λ n. done ++ take size rest ∷ take (count - (i + 1)) (cut size n (drop size rest))) fewer
    ∙ sym (append_assoc done (take size rest ∷ []) (take (count - (i + 1)) (cut size (k - (i + 1)) (drop size rest))))

-- at the end all are
pub cut_all : (size count : ℕ) (bytes : List ℕ) (done : List (List ℕ)) (rest : List ℕ) → IsCutSoFar size count bytes done count rest → (k : ℕ) → count ≤ suc k → done ≡ take count (cut size k bytes)
cut_all size count bytes done rest so_far k few =
    let over : count - count ≡ 0 = omega arith in
    sym (so_far k few ∙ ap (λ n. done ++ take n (cut size (k - count) rest)) over ∙ append-nil done)

-- behind the first of what is left
drop_next : (n : ℕ) (l : List Response) (y : Response) (m : List Response) → drop n l ≡ y ∷ m → m ≡ drop (n + 1) l
drop_next n l y m e =
    let two : drop 1 (drop n l) ≡ drop (n + 1) l = drop-drop 1 n l in
    sym (ap (drop 1) e) ∙ two

-- these packets stand in front of the answers xs, full and no more than so many, and ys behind them
pub record IsFront (size most : ℕ) (xs : List Response) (front : List (List ℕ)) (ys : List Response) : Type 0 where
  pub all : full_front size most xs ≡ front ++ full_front size (most - length front) ys
  pub behind : ys ≡ drop (length front) xs
  pub room : length front ≤ most

-- at the beginning there are none
pub front_none : (size most : ℕ) (xs : List Response) → IsFront size most xs [] xs
front_none size most xs =
    let whole : most ≡ most - 0 = omega arith in
    record { all = ap (λ n. full_front size n xs) whole; behind = refl; room = omega arith }

-- what is to come, where there is room for one more
next_room : (most : ℕ) (front : List (List ℕ)) → length front < most → most - length front ≡ suc (most - (length front + 1))
next_room most front room = omega arith

-- one full packet more
pub front_more : {size most : ℕ} {xs ys : List Response} {front : List (List ℕ)} {x : Response} {zs : List Response} {b : List ℕ} → IsFront size most xs front ys
    → length front < most → ys ≡ x ∷ zs → ((k : ℕ) (l : List Response) → full_front size (suc k) (x ∷ l) ≡ b ∷ full_front size k l)
    → IsFront size most xs (front ++ b ∷ []) zs
front_more {size} {most} {xs} {ys} {front} {x} {zs} {b} f room next full =
    let more : length (front ++ b ∷ []) ≡ length front + 1 = length_push front b in
    record {
      all = f.all ∙ ap₂ (λ n l. front ++ full_front size n l) (next_room most front room) next
          ∙ ap (λ l. front ++ l) (full (most - (length front + 1)) zs)
          ∙ sym (append_assoc front (b ∷ []) (full_front size (most - (length front + 1)) zs))
          ∙ ap (λ n. (front ++ b ∷ []) ++ full_front size (most - n) zs) (sym more);
      behind = drop_next (length front) xs x zs (sym f.behind ∙ next) ∙ ap (λ n. drop n xs) (sym more);
      room = omega (arith, more);
    }

-- nothing joins them
front_ends : {size most : ℕ} {xs ys : List Response} {front : List (List ℕ)} → IsFront size most xs front ys
    → full_front size (most - length front) ys ≡ [] → front ≡ full_front size most xs
front_ends {size} {most} {xs} {ys} {front} f none = sym (f.all ∙ ap (λ l. front ++ l) none ∙ append-nil front)

-- no more are asked for
pub front_full : {size most : ℕ} {xs ys : List Response} {front : List (List ℕ)} → IsFront size most xs front ys → most ≤ length front → front ≡ full_front size most xs
front_full {size} {most} {xs} {ys} {front} f full =
    let none : most - length front ≡ 0 = omega arith in
    front_ends f (ap (λ n. full_front size n ys) none)

-- no answer is left
pub front_over : {size most : ℕ} {xs ys : List Response} {front : List (List ℕ)} → IsFront size most xs front ys → ys ≡ [] → front ≡ full_front size most xs
front_over {size} {most} {xs} {ys} {front} f over = front_ends f (ap (λ l. full_front size (most - length front) l) over ∙ by_number (most - length front))
  where
    by_number : (n : ℕ) → full_front size n [] ≡ []
    by_number zero = refl
    by_number (suc n) = refl

-- no full packet comes next
pub front_stops : {size most : ℕ} {xs ys : List Response} {front : List (List ℕ)} {x : Response} {zs : List Response} → IsFront size most xs front ys → length front < most
    → ys ≡ x ∷ zs → ((k : ℕ) (l : List Response) → full_front size (suc k) (x ∷ l) ≡ []) → front ≡ full_front size most xs
front_stops {size} {most} {xs} {ys} {front} {x} {zs} f room next none =
    front_ends f (ap₂ (λ n l. full_front size n l) (next_room most front room) next ∙ none (most - (length front + 1)) zs)

-- so many acknowledgements stand in front of the answers xs, perhaps with more behind them in ys
pub record IsAcks (xs : List Response) (count : ℕ) (ys : List Response) : Type 0 where
  pub all : acks xs ≡ count + acks ys
  pub behind : ys ≡ drop count xs

-- one more
pub acks_more : {xs ys zs : List Response} {count : ℕ} → IsAcks xs count ys → ys ≡ Ack ∷ zs → IsAcks xs (count + 1) zs
acks_more {xs} {ys} {zs} {count} f next =
    let one : acks ys ≡ suc (acks zs) = ap acks next in
    record {
      all = omega (arith, f.all, one);
      behind = drop_next count xs Ack zs (sym f.behind ∙ next);
    }
