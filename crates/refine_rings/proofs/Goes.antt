-- The controller goes on in its transfer, or past it, and stands where the kept endpoint says.
use Rattle.std.proofs.Common.{◌≡◌, ℕ, zero, suc, ◌+◌, ◌-◌, ◌<◌, ◌≤◌, refl, ap, ap₂, sym, subst, subst₂, ◌∙◌, arith, List, [], ◌∷◌, ◌++◌, length, take, drop, Some, true, false, Bool}
use Rattle.std.specs.Prelude.{nat_lt, ◌||◌, if◌then◌else◌}
use Rattle.std.proofs.lemmas.Bool.{lt-ltb}
use Rattle.std.proofs.lemmas.List.{length-drop}
use Rattle.std.proofs.lemmas.Option.{same_Some}
use Rattle.usb_trb.specs.declared.kind.TrbKind.{TrbKind}
use Rattle.usb_trb.specs.declared.kind.Normal.{Normal as NormalTrb}
use Rattle.usb_model.specs.Stands.{Stand, length_at, total}
use Rattle.usb_model.specs.Kept.{InRow, KeptEndpoint, KeptTransfer, first_place}
use Rattle.usb_model.specs.Events.{covers, find_at, past_at, past_kept_blanks}
use Rattle.usb_model.specs.Packets.{put_at, room_at, sent_before, walk}
use Rattle.usb_rings.specs.Line.{Line, all_of, contents, moved, no_ops}
use Rattle.usb_xhc.specs.Ahead.{lengths, past, trbs_ahead}
use Rattle.usb_xhc.specs.Context.{Context, gone_on, gone_past, stand_by}
use Rattle.refine_rings.specs.Line.{AllItems, IsLine}
use Rattle.refine_rings.specs.Endpoint.{IsBegun, IsContext, Stands}
use Rattle.refine_rings.specs.EndpointLaws.{HasTrbsOf, HaveTrbsOf}
use Rattle.refine_rings.proofs.Changes.{moves}
use Rattle.refine_rings.proofs.Contents.{blanks_span, contents_at}
use Rattle.refine_rings.proofs.Fronts.{IsFront, length_drop_at, lengths_ahead, same_walk, within_total}
use Rattle.refine_rings.proofs.Hosts.{found_same, line_same, spans_of}
use Rattle.refine_rings.proofs.Lines.{Found, covered, covers_is, drop_past, row_below, starts_behind}
use Rattle.usb_model.proofs.Stands as standing

-- another item with the same TRBs in its place
trbs_refl : (ys : List KeptTransfer) → HaveTrbsOf ys ys
trbs_refl [] = tt
trbs_refl (y ∷ ys) = (record { place = refl; lengths = refl; blank = refl; request = refl }, trbs_refl ys)

pub put_same : (ys : List KeptTransfer) (p : ℕ) (y z : KeptTransfer) → find_at p ys ≡ Some y → HasTrbsOf y z → HaveTrbsOf ys (put_at p z ys)
unfolding find_at put_at
put_same [] p y z h same = tt
put_same (x ∷ xs) p y z h same = by_test (covers p x) refl h (put_same xs p y z)
  where
    by_test : (b : Bool) → covers p x ≡ b → (if b then Some x else find_at p xs) ≡ Some y → (find_at p xs ≡ Some y → HasTrbsOf y z → HaveTrbsOf xs (put_at p z xs))
        → HaveTrbsOf (x ∷ xs) (if b then z ∷ xs else x ∷ put_at p z xs)
    by_test true e g rest =
        let it : y ≡ x = sym (same_Some x y g) in
        (subst (λ (u : KeptTransfer). HasTrbsOf u z) it same, trbs_refl xs)
    by_test false e g rest = (record { place = refl; lengths = refl; blank = refl; request = refl }, rest g same)

-- a transfer is found at each of its places
pub found_within : (ys : List KeptTransfer) (end p q : ℕ) (y : KeptTransfer) → InRow ys end → find_at p ys ≡ Some y → y.place ≤ q → q < y.place + length y.lengths → find_at q ys ≡ Some y
unfolding find_at
found_within [] end p q y row h low high = absurd cc
found_within (x ∷ xs) end p q y row h low high = by_test (covers p x) refl h (found_within xs end p q y row.1)
  where
    here : (t : Bool) → covers q x ≡ t → x ≡ y → (if t then Some x else find_at q xs) ≡ Some y
    here true e same = ap Some same
    here false e same = let yes : covers q x ≡ true = subst (λ (u : KeptTransfer). covers q u ≡ true) (sym same) (covers_is q y low high) in absurd cc

    later : (t : Bool) → covers q x ≡ t → first_place xs end ≤ y.place → find_at q xs ≡ Some y → (if t then Some x else find_at q xs) ≡ Some y
    later true e behind g = absurd (omega (arith, behind, low, (covered q x e).1, row.0))
    later false e behind g = g

    by_test : (b : Bool) → covers p x ≡ b → (if b then Some x else find_at p xs) ≡ Some y → (find_at p xs ≡ Some y → y.place ≤ q → q < y.place + length y.lengths → find_at q xs ≡ Some y)
        → (if covers q x then Some x else find_at q xs) ≡ Some y
    by_test true e g rest = here (covers q x) refl (same_Some x y g)
    by_test false e g rest = later (covers q x) refl (starts_behind xs end p y row.1 g) (rest g low high)

-- the line behind a place, or behind blanks, begins no earlier
past_later : (ys : List KeptTransfer) (end p : ℕ) → InRow ys end → first_place ys end ≤ first_place (past_at p ys) end
unfolding past_at
past_later [] end p row = omega arith
past_later (y ∷ ys) end p row = by_test (covers p y) (past_later ys end p row.1)
  where
    by_test : (b : Bool) → first_place ys end ≤ first_place (past_at p ys) end → y.place ≤ first_place (if b then ys else past_at p ys) end
    by_test true rest = omega (arith, row.0)
    by_test false rest = omega (arith, row.0, rest)

blanks_later : (ys : List KeptTransfer) (end : ℕ) → InRow ys end → first_place ys end ≤ first_place (past_kept_blanks ys) end
unfolding past_kept_blanks
blanks_later [] end row = omega arith
blanks_later (y ∷ ys) end row = by_test y.blank (blanks_later ys end row.1)
  where
    by_test : (b : Bool) → first_place ys end ≤ first_place (past_kept_blanks ys) end → y.place ≤ first_place (if b then past_kept_blanks ys else y ∷ ys) end
    by_test true rest = omega (arith, row.0, rest)
    by_test false rest = omega arith

-- what is found behind a transfer is found in the line behind it
found_next : (y : KeptTransfer) (ys : List KeptTransfer) (end q : ℕ) (z : KeptTransfer) → InRow (y ∷ ys) end → find_at q (y ∷ ys) ≡ Some z → first_place ys end ≤ q → find_at q ys ≡ Some z
unfolding find_at
found_next y ys end q z row h le = by_test (covers q y) refl h
  where
    by_test : (b : Bool) → covers q y ≡ b → (if b then Some y else find_at q ys) ≡ Some z → find_at q ys ≡ Some z
    by_test true e g = absurd (omega (arith, le, (covered q y e).1, row.0))
    by_test false e g = g

into_past : (ys : List KeptTransfer) (end p q : ℕ) (z : KeptTransfer) → InRow ys end → find_at q ys ≡ Some z → first_place (past_at p ys) end ≤ q → find_at q (past_at p ys) ≡ Some z
unfolding past_at
into_past [] end p q z row h le = h
into_past (y ∷ ys) end p q z row h le = by_test (covers p y) le (into_past ys end p q z row.1)
  where
    by_test : (b : Bool) → first_place (if b then ys else past_at p ys) end ≤ q → (find_at q ys ≡ Some z → first_place (past_at p ys) end ≤ q → find_at q (past_at p ys) ≡ Some z)
        → find_at q (if b then ys else past_at p ys) ≡ Some z
    by_test true near rest = found_next y ys end q z row h near
    by_test false near rest = rest (found_next y ys end q z row h (omega (arith, near, past_later ys end p row.1))) near

into_blanks : (ys : List KeptTransfer) (end q : ℕ) (z : KeptTransfer) → InRow ys end → find_at q ys ≡ Some z → first_place (past_kept_blanks ys) end ≤ q → find_at q (past_kept_blanks ys) ≡ Some z
unfolding past_kept_blanks
into_blanks [] end q z row h le = h
into_blanks (y ∷ ys) end q z row h le = by_test y.blank le (into_blanks ys end q z row.1)
  where
    by_test : (b : Bool) → first_place (if b then past_kept_blanks ys else y ∷ ys) end ≤ q → (find_at q ys ≡ Some z → first_place (past_kept_blanks ys) end ≤ q → find_at q (past_kept_blanks ys) ≡ Some z)
        → find_at q (if b then past_kept_blanks ys else y ∷ ys) ≡ Some z
    by_test true near rest = rest (found_next y ys end q z row h (omega (arith, near, blanks_later ys end row.1))) near
    by_test false near rest = h

-- the line behind blanks has items as the line had
blanks_items : (size : ℕ) (ys : List KeptTransfer) (kss : List (List TrbKind)) (end : ℕ) → AllItems size ys kss → InRow ys end → (rest : List (List TrbKind)) × AllItems size (past_kept_blanks ys) rest × InRow (past_kept_blanks ys) end
unfolding past_kept_blanks
blanks_items size [] kss end items row = (kss, items, row)
blanks_items size (y ∷ ys) [] end items row = absurd items
blanks_items size (y ∷ ys) (ks ∷ kss) end items row = by_test y.blank (blanks_items size ys kss end items.1 row.1)
  where
    by_test : (b : Bool) → ((rest : List (List TrbKind)) × AllItems size (past_kept_blanks ys) rest × InRow (past_kept_blanks ys) end)
        → (rest : List (List TrbKind)) × AllItems size (if b then past_kept_blanks ys else y ∷ ys) rest × InRow (if b then past_kept_blanks ys else y ∷ ys) end
    by_test true rest = rest
    by_test false rest = (ks ∷ kss, items, row)

-- what is found where a line begins begins there
starts : (size : ℕ) (ys : List KeptTransfer) (kss : List (List TrbKind)) (end : ℕ) (z : KeptTransfer) → AllItems size ys kss → find_at (first_place ys end) ys ≡ Some z → z.place ≡ first_place ys end
unfolding find_at
starts size [] kss end z items h = absurd cc
starts size (y ∷ ys) [] end z items h = absurd items
starts size (y ∷ ys) (ks ∷ kss) end z items h =
    let yes : covers y.place y ≡ true = covers_is y.place y (omega arith) (omega (arith, items.0.some)) in
    let same : y ≡ z = same_Some y z (ap (λ (t : Bool). if t then Some y else find_at y.place ys) (sym yes) ∙ h) in
    ap (λ (x : KeptTransfer). x.place) (sym same)

-- so at the place behind a line's blanks, which is no later than the line's end
pub starts_blanks : (size : ℕ) (ys : List KeptTransfer) (kss : List (List TrbKind)) (end : ℕ) (z : KeptTransfer) → AllItems size ys kss → InRow ys end → find_at (first_place (past_kept_blanks ys) end) ys ≡ Some z
    → z.place ≡ first_place (past_kept_blanks ys) end
starts_blanks size ys kss end z items row h =
    let r = blanks_items size ys kss end items row in
    starts size (past_kept_blanks ys) r.0 end z r.1 (into_blanks ys end (first_place (past_kept_blanks ys) end) z row h (omega arith))

pub blanks_below : (size : ℕ) (ys : List KeptTransfer) (kss : List (List TrbKind)) (end : ℕ) → AllItems size ys kss → InRow ys end → first_place (past_kept_blanks ys) end ≤ end
blanks_below size ys kss end items row = row_below (past_kept_blanks ys) end (blanks_items size ys kss end items row).2

-- where the next transfer begins, behind the one at a place and the blanks behind that
abbrev pub next_place : List KeptTransfer → ℕ → ℕ → ℕ
next_place line end p = first_place (past_kept_blanks (past_at p line)) end

-- what is found there begins there
pub starts_next : (size : ℕ) (line : List KeptTransfer) (kss : List (List TrbKind)) (end p : ℕ) (y z : KeptTransfer) → InRow line end → (f : Found size line kss end p y) → find_at (next_place line end p) line ≡ Some z → z.place ≡ next_place line end p
starts_next size line kss end p y z row f h =
    let r = blanks_items size (past_at p line) f.rest end f.items f.row in
    let behind = into_past line end p (next_place line end p) z row h (blanks_later (past_at p line) end f.row) in
    starts size (past_kept_blanks (past_at p line)) r.0 end z r.1 (into_blanks (past_at p line) end (next_place line end p) z f.row behind (omega arith))

-- past the transfer, and the No Ops behind it, the controller stands there
pub past_is : (c : Context) (b : KeptEndpoint) (y : KeptTransfer) → IsContext c b → IsFront c b y → IsLine c.size (past c.ring.line) b.line b.end (next_place b.line b.end b.dequeue)
past_is c b y is f =
    let l : Line = c.ring.line in
    let i : ℕ = b.dequeue - y.place in
    let n : ℕ = length (trbs_ahead l) in
    let n_is : n ≡ length y.lengths - i = length_lengths (trbs_ahead l) ∙ ap length (lengths_ahead c b y f) ∙ length-drop i y.lengths in
    let left : length (drop i f.found.ks) ≡ n = length-drop i f.found.ks ∙ (ap (λ m. m - i) f.found.is_item.count ∙ sym n_is) in
    let behind : drop n (contents l) ≡ all_of f.found.rest =
    ap (drop n) (contents_at c.size l b.line b.end b.dequeue y is.ring f.found)
    ∙ ap (λ m. drop m (drop i f.found.ks ++ all_of f.found.rest)) (let more : n ≡ length (drop i f.found.ks) + 0 = omega (arith, left) in more)
    ∙ drop_past (drop i f.found.ks) (all_of f.found.rest) 0 in
    let blank = blanks_span c.size (past_at b.dequeue b.line) f.found.rest b.end f.found.items f.found.row in
    let next = f.found.next in
    let low = f.found.low in
    let high = f.found.high in
    let there : b.dequeue + (n + no_ops (drop n (contents l))) ≡ next_place b.line b.end b.dequeue = omega (arith, n_is, low, high, blank, next, ap no_ops behind) in
    let r = blanks_items c.size (past_at b.dequeue b.line) f.found.rest b.end f.found.items f.found.row in
    subst (λ m. IsLine c.size (past l) b.line b.end m) there
    (moves c.size l b.line b.end b.dequeue (n + no_ops (drop n (contents l))) is.ring (omega (arith, there, row_below (past_kept_blanks (past_at b.dequeue b.line)) b.end r.2)))
  where
    length_lengths : (ts : List NormalTrb) → length ts ≡ length (lengths ts)
    length_lengths [] = refl
    length_lengths (t ∷ ts) = ap suc (length_lengths ts)

pub goes_past : (c : Context) (b : KeptEndpoint) (y : KeptTransfer) (line : List KeptTransfer) → IsContext c b → IsFront c b y → HaveTrbsOf b.line line
    → Stands (gone_past c) line b.end (next_place b.line b.end b.dequeue) 0 b.state
goes_past c b y line is f same = record {
  ring = line_same c.size (past c.ring.line) b.line line b.end (next_place b.line b.end b.dequeue) same (past_is c b y is f);
  runs = is.runs;
  partly = refl;
  front = λ z h.
      let r = found_same b.line line (next_place b.line b.end b.dequeue) z (spans_of b.line line same) h in
      let at = starts_next c.size b.line c.ring.line.items b.end b.dequeue y r.0 is.ring.row f.found r.1 in
      let none : next_place b.line b.end b.dequeue - z.place ≡ 0 = omega (arith, r.2, at) in
      record {
        begun = ap (λ n. nat_lt 0 (total (take n z.lengths) + 0)) (sym none);
        fits = omega arith;
      };
  rests = λ e. (refl, refl);
}

-- some bytes on
pub goes_on : (c : Context) (b : KeptEndpoint) (y : KeptTransfer) (k : ℕ) (line : List KeptTransfer) → IsContext c b → IsFront c b y → find_at b.dequeue b.line ≡ Some y → k ≤ room_at b y → HaveTrbsOf b.line line
    → Stands (gone_on c k) line b.end (b.dequeue + (walk b y k).index) (walk b y k).within b.state
goes_on c b y k line is f h le same =
    let i : ℕ = b.dequeue - y.place in
    let ls : List ℕ = drop i y.lengths in
    let inner = within_total c b y is h in
    let some : 0 < length ls = omega (arith, length-drop i y.lengths, f.found.low, f.found.high) in
    let s : standing.Stands ls (b.within + k) (walk b y k) = standing.stands_some ls (b.within + k) some (omega (arith, le, inner)) in
    let inside : b.dequeue + (walk b y k).index < y.place + length y.lengths = omega (arith, s.inside, length-drop i y.lengths, f.found.low, f.found.high) in
    let behind = starts_behind b.line b.end b.dequeue y is.ring.row h in
    let ends : y.place + length y.lengths ≤ b.end = omega (arith, row_below (past_at b.dequeue b.line) b.end f.found.row, f.found.next) in
    let same_place = same_walk c b y k is f in
    record {
      ring = line_same c.size (moved c.ring.line (stand_by c k).index) b.line line b.end (b.dequeue + (walk b y k).index) same
          (subst (λ (n : ℕ). IsLine c.size (moved c.ring.line n) b.line b.end (b.dequeue + (walk b y k).index)) (ap (λ (t : Stand). t.index) (sym same_place))
          (moves c.size c.ring.line b.line b.end b.dequeue (walk b y k).index is.ring (omega (arith, inside, ends))));
      runs = is.runs;
      partly = ap (λ (t : Stand). t.within) same_place;
      front = λ z g.
          let r = found_same b.line line (b.dequeue + (walk b y k).index) z (spans_of b.line line same) g in
          let there = found_within b.line b.end b.dequeue (b.dequeue + (walk b y k).index) y is.ring.row h (omega (arith, f.found.low)) inside in
          let it : r.0 ≡ y = same_Some r.0 y (sym r.1 ∙ there) in
          begun_at z (r.2 ∙ ap (λ (x : KeptTransfer). x.place) it) (r.3 ∙ ap (λ (x : KeptTransfer). x.lengths) it) s;
      rests = λ e. absurd (omega (arith, e, inside, ends));
    }
  where
    either : (n m : ℕ) → (nat_lt 0 n || nat_lt 0 m) ≡ nat_lt 0 (n + m)
    either zero m = ap (nat_lt 0) (let same : m ≡ 0 + m = omega arith in same)
    either (suc n) m = ap (λ (t : Bool). t || nat_lt 0 m) (lt-ltb 0 (suc n) (omega arith)) ∙ sym (lt-ltb 0 (suc n + m) (omega arith))

    begun_at : (z : KeptTransfer) → z.place ≡ y.place → z.lengths ≡ y.lengths → standing.Stands (drop (b.dequeue - y.place) y.lengths) (b.within + k) (walk b y k)
        → IsBegun (gone_on c k) (b.dequeue + (walk b y k).index) (walk b y k).within z
    begun_at z place long s =
        let i : ℕ = b.dequeue - y.place in
        let on : b.dequeue + (walk b y k).index - z.place ≡ i + (walk b y k).index = omega (arith, place, f.found.low) in
        let before : total (take (i + (walk b y k).index) y.lengths) ≡ total (take i y.lengths) + total (take (walk b y k).index (drop i y.lengths)) = total_take y.lengths i (walk b y k).index in
        let moved_is : sent_before b y + k ≡ total (take (b.dequeue + (walk b y k).index - z.place) z.lengths) + (walk b y k).within =
        let same_total : total (take (b.dequeue + (walk b y k).index - z.place) z.lengths) ≡ total (take (i + (walk b y k).index) y.lengths) = ap₂ (λ (n : ℕ) (xs : List ℕ). total (take n xs)) on long in
        omega (arith, same_total, before, s.before) in
        record {
          begun = ap (λ (t : Bool). t || nat_lt 0 k) (is.front y h).begun ∙ either (sent_before b y) k ∙ ap (nat_lt 0) moved_is;
          fits = subst₂ (λ (n : ℕ) (xs : List ℕ). (walk b y k).within ≤ length_at xs n) (sym on) (sym long) (omega (arith, s.some_left, length_drop_at y.lengths i (walk b y k).index));
        }
      where
        none : (n : ℕ) → total (take n []) ≡ 0
        none zero = refl
        none (suc n) = refl

        total_take : (xs : List ℕ) (i j : ℕ) → total (take (i + j) xs) ≡ total (take i xs) + total (take j (drop i xs))
        total_take xs zero j = (let same : 0 + j ≡ j = omega arith in ap (λ (n : ℕ). total (take n xs)) same) ∙ omega arith
        total_take [] (suc i) j = none (suc i + j) ∙ omega (arith, none j)
        total_take (x ∷ xs) (suc i) j = ap (λ n. total (take n (x ∷ xs))) (let more : suc i + j ≡ suc (i + j) = omega arith in more) ∙ omega (arith, total_take xs i j)
