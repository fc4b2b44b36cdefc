-- What a kept place stands for, as bytes come behind those that it has.
use Rattle.std.proofs.Common.{◌≡◌, ◌∙◌, ◌+◌, ◌<◌, ◌≤◌, ◌++◌, ℕ, List, [], ◌∷◌, None, Some, ap, arith, drop, get_or, length, length-drop, map, option_map, refl, slice_get, subst, suc, sym, take, zero}
use Rattle.std.proofs.lemmas.Option.{slice_get-get_or, slice_get-map, slice_get_past}
use Rattle.std.proofs.lemmas.List.{drop-append-le, drop-take, drop_at, length-map, length-take-le, map-append, take-append-le, take-take, take_all, take_at}
use Rattle.std.specs.Prelude.{IfSome}
use Rattle.usb_model.specs.declared.status.Status.{Status}
use Rattle.usb_recorder.specs.declared.kept.LongEntry.{LongEntry}
use Rattle.usb_recorder.specs.declared.place.Place.{Place}
use Rattle.usb_recorder.specs.declared.short.ResultTail.{ResultTail}
use Rattle.usb_recorder.specs.declared.short.PackedEntry.{PackedEntry}
use Rattle.usb_recorder.specs.declared.short.PackedEntry.TheVariants as short
use Rattle.usb_recorder.specs.Kept.{AreAmong, AreThere, AreWithin, IsThere, called, found, part, place_in, place_of, reply_of, result_with, step_of}

-- a part of the first n bytes is told by these
part_same : (n : ℕ) (xs ys : List ℕ) (from count : ℕ) → from + count ≤ n → take n xs ≡ take n ys → part xs from count ≡ part ys from count
part_same n xs ys from count le same =
    sym (drop-take from count xs)
    ∙ (ap (drop from) (sym (take-take (from + count) n xs le) ∙ (ap (take (from + count)) same ∙ take-take (from + count) n ys le)) ∙ drop-take from count ys)

-- the place with these bytes
abbrev pub whole : LongEntry → (sent given : List ℕ) → Place
whole k sent given = record { step = step_of k.asked sent; caller = k.caller; entry = record { owner = k.owner; reply = reply_of k.replied given }; moment = k.moment }

-- so is a place whose bytes stand there
pub place_same : (n : ℕ) (xs ys : List ℕ) (k : LongEntry) → k.from + k.sent + k.given ≤ n → take n xs ≡ take n ys → place_of xs k ≡ place_of ys k
place_same n xs ys k le same =
    ap (λ sent. whole k sent (part xs (k.from + k.sent) k.given)) (part_same n xs ys k.from k.sent (omega (arith, le)) same)
    ∙ ap (λ given. whole k (part ys k.from k.sent) given) (part_same n xs ys (k.from + k.sent) k.given le same)

-- so is one that is found
found_same : (n : ℕ) (xs ys : List ℕ) (ks : List LongEntry) (at : ℕ) → AreWithin n ks → take n xs ≡ take n ys → found xs (slice_get ks at) ≡ found ys (slice_get ks at)
found_same n xs ys [] at within same = refl
found_same n xs ys (k ∷ ks) zero within same = place_same n xs ys k within.0 same
found_same n xs ys (k ∷ ks) (suc at) within same = found_same n xs ys ks at within.1 same

-- and one of a result
called_same : (n : ℕ) (xs ys : List ℕ) (h ep : ℕ) (status : Status) (caller moment m : ℕ) (rs : List ResultTail) (at : ℕ) → AreAmong n rs → take n xs ≡ take n ys
    → called xs h ep status caller moment m (slice_get rs at) ≡ called ys h ep status caller moment m (slice_get rs at)
called_same n xs ys h ep status caller moment m [] at among same = refl
called_same n xs ys h ep status caller moment m (r ∷ rs) zero among same = ap (result_with h ep status caller moment m r) (part_same n xs ys r.from r.count among.0 same)
called_same n xs ys h ep status caller moment m (r ∷ rs) (suc at) among same = called_same n xs ys h ep status caller moment m rs at among.1 same

-- and whichever it is
short_same : (n : ℕ) (xs ys : List ℕ) (rs : List ResultTail) (ks : List LongEntry) (s : PackedEntry) → AreAmong n rs → AreWithin n ks → take n xs ≡ take n ys → place_in xs rs ks s ≡ place_in ys rs ks s
short_same n xs ys rs ks (short.Bulk h ep flags count timeout caller moment m) among within same = refl
short_same n xs ys rs ks (short.Interrupt h ep flags count timeout caller moment m) among within same = refl
short_same n xs ys rs ks (short.Moved h dev ep count caller moment m) among within same = refl
short_same n xs ys rs ks (short.Ended h dev ep code caller moment m) among within same = refl
short_same n xs ys rs ks (short.Finished h caller moment m) among within same = refl
short_same n xs ys rs ks (short.Stopped h caller moment m) among within same = refl
short_same n xs ys rs ks (short.Renewed h caller moment m number) among within same = refl
short_same n xs ys rs ks (short.Called h ep status caller moment m at) among within same = called_same n xs ys h ep status caller moment m rs at among same
short_same n xs ys rs ks (short.Long at) among within same = found_same n xs ys ks at within same

-- and all of them
pub places_same : (n : ℕ) (xs ys : List ℕ) (rs : List ResultTail) (ks : List LongEntry) (ss : List PackedEntry) → AreAmong n rs → AreWithin n ks → take n xs ≡ take n ys → map (place_in xs rs ks) ss ≡ map (place_in ys rs ks) ss
places_same n xs ys rs ks [] among within same = refl
places_same n xs ys rs ks (s ∷ ss) among within same =
    ap (λ p. p ∷ map (place_in xs rs ks) ss) (short_same n xs ys rs ks s among within same) ∙ ap (λ l. place_in ys rs ks s ∷ l) (places_same n xs ys rs ks ss among within same)

-- the first of these are those
abbrev Begin : {A : Type 0} → (longer xs : List A) → Type 0
Begin longer xs = (i : ℕ) → i < length xs → slice_get longer i ≡ slice_get xs i

front : {A : Type 0} (xs ys : List A) (i : ℕ) → i < length xs → slice_get (xs ++ ys) i ≡ slice_get xs i
front [] ys i lt = absurd (omega (arith, lt))
front (x ∷ xs) ys zero lt = refl
front (x ∷ xs) ys (suc i) lt = front xs ys i (omega (arith, lt))

-- what is pushed stands behind them
seam : {A : Type 0} (xs : List A) (x : A) → slice_get (xs ++ x ∷ []) (length xs) ≡ Some x
seam [] x = refl
seam (y ∷ ys) x = seam ys x

begin_push : {A : Type 0} (xs : List A) (x : A) → Begin (xs ++ x ∷ []) xs
begin_push xs x = λ i lt. front xs (x ∷ []) i lt

begin_same : {A : Type 0} (xs : List A) → Begin xs xs
begin_same xs = λ i lt. refl

-- a place that stands elsewhere stands there where more come behind
short_more : (bytes : List ℕ) (rs' rs : List ResultTail) (ks' ks : List LongEntry) (s : PackedEntry) → Begin rs' rs → Begin ks' ks → IsThere (length rs) (length ks) s → place_in bytes rs' ks' s ≡ place_in bytes rs ks s
short_more bytes rs' rs ks' ks (short.Bulk h ep flags count timeout caller moment m) rests longs there = refl
short_more bytes rs' rs ks' ks (short.Interrupt h ep flags count timeout caller moment m) rests longs there = refl
short_more bytes rs' rs ks' ks (short.Moved h dev ep count caller moment m) rests longs there = refl
short_more bytes rs' rs ks' ks (short.Ended h dev ep code caller moment m) rests longs there = refl
short_more bytes rs' rs ks' ks (short.Finished h caller moment m) rests longs there = refl
short_more bytes rs' rs ks' ks (short.Stopped h caller moment m) rests longs there = refl
short_more bytes rs' rs ks' ks (short.Renewed h caller moment m number) rests longs there = refl
short_more bytes rs' rs ks' ks (short.Called h ep status caller moment m at) rests longs there = ap (called bytes h ep status caller moment m) (rests at there)
short_more bytes rs' rs ks' ks (short.Long at) rests longs there = ap (found bytes) (longs at there)

places_more : (bytes : List ℕ) (rs' rs : List ResultTail) (ks' ks : List LongEntry) (ss : List PackedEntry) → Begin rs' rs → Begin ks' ks → AreThere (length rs) (length ks) ss → map (place_in bytes rs' ks') ss ≡ map (place_in bytes rs ks) ss
places_more bytes rs' rs ks' ks [] rests longs there = refl
places_more bytes rs' rs ks' ks (s ∷ ss) rests longs there =
    ap (λ p. p ∷ map (place_in bytes rs' ks') ss) (short_more bytes rs' rs ks' ks s rests longs there.0) ∙ ap (λ l. place_in bytes rs ks s ∷ l) (places_more bytes rs' rs ks' ks ss rests longs there.1)

-- they stand among more, too
there_one : (a b m n : ℕ) (s : PackedEntry) → a ≤ m → b ≤ n → IsThere a b s → IsThere m n s
there_one a b m n (short.Bulk h ep flags count timeout caller moment k) le le' there = tt
there_one a b m n (short.Interrupt h ep flags count timeout caller moment k) le le' there = tt
there_one a b m n (short.Moved h dev ep count caller moment k) le le' there = tt
there_one a b m n (short.Ended h dev ep code caller moment k) le le' there = tt
there_one a b m n (short.Finished h caller moment k) le le' there = tt
there_one a b m n (short.Stopped h caller moment k) le le' there = tt
there_one a b m n (short.Renewed h caller moment k number) le le' there = tt
there_one a b m n (short.Called h ep status caller moment k at) le le' there = omega (arith, le, there)
there_one a b m n (short.Long at) le le' there = omega (arith, le', there)

pub there_more : (a b m n : ℕ) (ss : List PackedEntry) → a ≤ m → b ≤ n → AreThere a b ss → AreThere m n ss
there_more a b m n [] le le' there = tt
there_more a b m n (s ∷ ss) le le' there = (there_one a b m n s le le' there.0, there_more a b m n ss le le' there.1)

pub there_push : (m n : ℕ) (ss : List PackedEntry) (s : PackedEntry) → AreThere m n ss → IsThere m n s → AreThere m n (ss ++ s ∷ [])
there_push m n [] s there here = (here, tt)
there_push m n (x ∷ xs) s there here = (there.0, there_push m n xs s there.1 here)

-- they stand among more bytes, too
pub within_more : (m n : ℕ) (ks : List LongEntry) → m ≤ n → AreWithin m ks → AreWithin n ks
within_more m n [] le within = tt
within_more m n (k ∷ ks) le within = (omega (arith, le, within.0), within_more m n ks le within.1)

pub within_push : (n : ℕ) (ks : List LongEntry) (k : LongEntry) → AreWithin n ks → k.from + k.sent + k.given ≤ n → AreWithin n (ks ++ k ∷ [])
within_push n [] k within le = (le, tt)
within_push n (x ∷ xs) k within le = (within.0, within_push n xs k within.1 le)

pub among_more : (m n : ℕ) (rs : List ResultTail) → m ≤ n → AreAmong m rs → AreAmong n rs
among_more m n [] le among = tt
among_more m n (r ∷ rs) le among = (omega (arith, le, among.0), among_more m n rs le among.1)

pub among_push : (n : ℕ) (rs : List ResultTail) (r : ResultTail) → AreAmong n rs → r.from + r.count ≤ n → AreAmong n (rs ++ r ∷ [])
among_push n [] r among le = (le, tt)
among_push n (x ∷ xs) r among le = (among.0, among_push n xs r among.1 le)

-- and so does one that is found
pub within_found : (n : ℕ) (ks : List LongEntry) (at : ℕ) → AreWithin n ks → IfSome (slice_get ks at) (λ k. k.from + k.sent + k.given ≤ n)
within_found n [] at within = tt
within_found n (k ∷ ks) zero within = within.0
within_found n (k ∷ ks) (suc at) within = within_found n ks at within.1

pub among_found : (n : ℕ) (rs : List ResultTail) (at : ℕ) → AreAmong n rs → IfSome (slice_get rs at) (λ r. r.from + r.count ≤ n)
among_found n [] at among = tt
among_found n (r ∷ rs) zero among = among.0
among_found n (r ∷ rs) (suc at) among = among_found n rs at among.1

-- a place whose bytes are the last ones: behind those that are used, and then these
pub last_place : (bytes given : List ℕ) (used : ℕ) (k : LongEntry) → used ≤ length bytes → k.from ≡ used → used + k.sent ≡ length bytes → k.given ≡ length given → place_of (bytes ++ given) k ≡ whole k (drop used bytes) given
last_place bytes given used k le from sent count =
    ap (λ b. whole k b (part (bytes ++ given) (k.from + k.sent) k.given)) sent_is ∙ ap (whole k (drop used bytes)) given_is
  where
    rest : length (drop used bytes) ≡ k.sent
    rest = omega (arith, length-drop used bytes, le, sent)

    sent_is : part (bytes ++ given) k.from k.sent ≡ drop used bytes
    sent_is = subst (λ n. take k.sent (drop n (bytes ++ given)) ≡ drop used bytes) (sym from) (ap (take k.sent) (drop-append-le used bytes given le) ∙ take_at (drop used bytes) given k.sent rest)

    behind : length bytes ≡ k.from + k.sent
    behind = omega (arith, from, sent)

    given_is : part (bytes ++ given) (k.from + k.sent) k.given ≡ given
    given_is = ap (take k.given) (drop_at bytes given (k.from + k.sent) behind) ∙ take_all k.given given (omega (arith, count))

-- more bytes behind those that are used leave them
pub used_same : (used : ℕ) (bytes sent : List ℕ) → used ≤ length bytes → take used (take used bytes ++ sent) ≡ take used bytes
used_same used bytes sent le =
    let fits : used ≤ length (take used bytes) = omega (arith, le, length-take-le used bytes le) in take-append-le used (take used bytes) sent fits ∙ take-take used used bytes (omega arith)

-- one short place more
pub short_kept : (bytes : List ℕ) (rs : List ResultTail) (ks : List LongEntry) (ss : List PackedEntry) (s : PackedEntry) (journal : List Place) (p : Place) → map (place_in bytes rs ks) ss ≡ journal → place_in bytes rs ks s ≡ p
    → map (place_in bytes rs ks) (ss ++ s ∷ []) ≡ journal ++ p ∷ []
short_kept bytes rs ks ss s journal p before is = map-append (place_in bytes rs ks) ss (s ∷ []) ∙ (ap (λ l. l ++ place_in bytes rs ks s ∷ []) before ∙ ap (λ q. journal ++ q ∷ []) is)

-- those before it, where more bytes come behind, and more that stands elsewhere
before_it : (bytes given : List ℕ) (used : ℕ) (rs' rs : List ResultTail) (ks' ks : List LongEntry) (ss : List PackedEntry) → used ≤ length bytes → AreAmong used rs → AreWithin used ks → AreThere (length rs) (length ks) ss → Begin rs' rs → Begin ks' ks
    → map (place_in (bytes ++ given) rs' ks') ss ≡ map (place_in bytes rs ks) ss
before_it bytes given used rs' rs ks' ks ss le among within there rests longs = places_more (bytes ++ given) rs' rs ks' ks ss rests longs there ∙ places_same used (bytes ++ given) bytes rs ks ss among within (take-append-le used bytes given le)

-- one long place more, with its bytes
pub long_kept : (bytes given : List ℕ) (used : ℕ) (rs : List ResultTail) (ks : List LongEntry) (ss : List PackedEntry) (k : LongEntry) → used ≤ length bytes → AreAmong used rs → AreWithin used ks → AreThere (length rs) (length ks) ss
    → k.from ≡ used → used + k.sent ≡ length bytes → k.given ≡ length given → map (place_in (bytes ++ given) rs (ks ++ k ∷ [])) (ss ++ short.Long (length ks) ∷ []) ≡ map (place_in bytes rs ks) ss ++ whole k (drop used bytes) given ∷ []
long_kept bytes given used rs ks ss k le among within there from sent count =
    short_kept (bytes ++ given) rs (ks ++ k ∷ []) ss (short.Long (length ks)) (map (place_in bytes rs ks) ss) (whole k (drop used bytes) given)
    (before_it bytes given used rs rs (ks ++ k ∷ []) ks ss le among within there (begin_same rs) (begin_push ks k))
    (ap (found (bytes ++ given)) (seam ks k) ∙ last_place bytes given used k le from sent count)

-- one result more, with its bytes
pub result_kept : (bytes given : List ℕ) (used : ℕ) (rs : List ResultTail) (ks : List LongEntry) (ss : List PackedEntry) (h ep : ℕ) (status : Status) (caller moment m : ℕ) (r : ResultTail) → used ≤ length bytes → AreAmong used rs → AreWithin used ks
    → AreThere (length rs) (length ks) ss → r.from ≡ length bytes → r.count ≡ length given
    → map (place_in (bytes ++ given) (rs ++ r ∷ []) ks) (ss ++ short.Called h ep status caller moment m (length rs) ∷ []) ≡ map (place_in bytes rs ks) ss ++ result_with h ep status caller moment m r given ∷ []
result_kept bytes given used rs ks ss h ep status caller moment m r le among within there from count =
    short_kept (bytes ++ given) (rs ++ r ∷ []) ks ss (short.Called h ep status caller moment m (length rs)) (map (place_in bytes rs ks) ss) (result_with h ep status caller moment m r given)
    (before_it bytes given used (rs ++ r ∷ []) rs ks ks ss le among within there (begin_push rs r) (begin_same ks))
    (ap (called (bytes ++ given) h ep status caller moment m) (seam rs r) ∙ ap (result_with h ep status caller moment m r) its)
  where
    its : part (bytes ++ given) r.from r.count ≡ given
    its = ap (take r.count) (drop_at bytes given r.from (sym from)) ∙ take_all r.count given (omega (arith, count))

-- what stands at a place
pub place_at : (bytes : List ℕ) (rs : List ResultTail) (ks : List LongEntry) (ss : List PackedEntry) (i : ℕ) (s : PackedEntry) → i < length ss → s ≡ get_or ss i s → Some (place_in bytes rs ks s) ≡ slice_get (map (place_in bytes rs ks) ss) i
place_at bytes rs ks ss i s lt is =
    sym (slice_get-map (place_in bytes rs ks) ss i ∙ (ap (option_map (place_in bytes rs ks)) (slice_get-get_or ss i s lt) ∙ ap (λ x. Some (place_in bytes rs ks x)) (sym is)))

-- and behind the last
pub place_past : (bytes : List ℕ) (rs : List ResultTail) (ks : List LongEntry) (ss : List PackedEntry) (i : ℕ) → length ss ≤ i → None ≡ slice_get (map (place_in bytes rs ks) ss) i
place_past bytes rs ks ss i le = sym (slice_get_past (map (place_in bytes rs ks) ss) i (let same = length-map ss (place_in bytes rs ks) in omega (arith, le, same)))
