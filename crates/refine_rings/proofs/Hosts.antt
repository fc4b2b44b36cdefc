-- What the host does at an endpoint leaves it a kept one.
use Rattle.std.proofs.Common.{◌≡◌, ℕ, zero, suc, ◌+◌, ◌-◌, ◌<◌, ◌≤◌, refl, ap, ap₂, sym, subst, subst₂, ◌∙◌, arith, List, [], ◌∷◌, ◌++◌, length, take, drop, Some, None, true, false, Bool, inl, inr, ◌⊎◌}
use Rattle.std.specs.Prelude.{nat_le, nat_lt, ◌&&◌, replicate, slice_get, slice_set, if◌then◌else◌}
use Rattle.std.proofs.lemmas.Bool.{cases_lt}
use Rattle.usb_model.specs.declared.request.Request.{Request}
use Rattle.usb_model.specs.Limits.{most_bytes}
use Rattle.usb_model.specs.Requests.{length_of}
use Rattle.usb_trb.specs.declared.kind.TrbKind.{TrbKind}
use Rattle.usb_trb.specs.declared.kind.TrbKind.TheVariants.{NoOp}
use Rattle.usb_model.specs.Stands.{length_at, total}
use Rattle.usb_model.specs.Kept.{InRow, KeptEndpoint, KeptTransfer, first_place, trbs_of}
use Rattle.usb_model.specs.Events.{covers, find_at}
use Rattle.usb_model.specs.Joins.{joined, new_kept}
use Rattle.usb_tables.specs.Tds.{tds_of}
use Rattle.usb_tables.specs.Trbs.{buffer_of, normals_of}
use Rattle.usb_tables.proofs.Pieces.{normals_at_count}
use Rattle.usb_rings.specs.Line.{Line, normals, used}
use Rattle.usb_xhc.specs.Context.{Context}
use Rattle.usb_xhc.specs.Host.{with_ring, with_pushed, with_blank, without_first}
use Rattle.refine_rings.specs.Line.{AllItems, IsItem, IsLine}
use Rattle.refine_rings.specs.Endpoint.{IsBegun, IsContext}
use Rattle.refine_rings.specs.EndpointLaws.{HasTrbsOf, HaveTrbsOf}
use Rattle.refine_rings.proofs.Trbs.{normals_count, some_trbs}
use Rattle.refine_rings.proofs.Lines.{covered, none_before}
use Rattle.refine_rings.proofs.Changes as change
use Rattle.refine_rings.proofs.Contents.{in_use}

-- lines whose transfers stand at the same places
abbrev pub HaveSpansOf : List KeptTransfer → List KeptTransfer → Type 0
HaveSpansOf [] [] = Unit {0}
HaveSpansOf (y ∷ ys) (z ∷ zs) = ((z.place ≡ y.place) × (z.lengths ≡ y.lengths)) × HaveSpansOf ys zs
HaveSpansOf _ _ = ⊥

-- what is found at a place in the one is found in the other
pub found_same : (ys zs : List KeptTransfer) (p : ℕ) (z : KeptTransfer) → HaveSpansOf ys zs → find_at p zs ≡ Some z
    → (y : KeptTransfer) × (find_at p ys ≡ Some y) × (z.place ≡ y.place) × (z.lengths ≡ y.lengths)
unfolding find_at
found_same [] [] p z same h = absurd cc
found_same [] (x ∷ xs) p z same h = absurd same
found_same (y ∷ ys) [] p z same h = absurd same
found_same (y ∷ ys) (x ∷ xs) p z same h = by_test (covers p x) refl h (found_same ys xs p z same.1)
  where
    spans_so : covers p y ≡ covers p x
    spans_so =
        ap (λ (n : ℕ). nat_le n p && nat_lt p (n + length y.lengths)) (sym same.0.0)
        ∙ ap (λ (ls : List ℕ). nat_le x.place p && nat_lt p (x.place + length ls)) (sym same.0.1)

    Old : Type 0
    Old = (u : KeptTransfer) × (find_at p (y ∷ ys) ≡ Some u) × (z.place ≡ u.place) × (z.lengths ≡ u.lengths)

    by_test : (b : Bool) → covers p x ≡ b → (if b then Some x else find_at p xs) ≡ Some z
        → (find_at p xs ≡ Some z → (u : KeptTransfer) × (find_at p ys ≡ Some u) × (z.place ≡ u.place) × (z.lengths ≡ u.lengths)) → Old
    by_test true e g rest =
        let it : x ≡ z = cc in
        let here : find_at p (y ∷ ys) ≡ Some y = rw (spans_so ∙ e) refl in
        (y, here, ap (λ (t : KeptTransfer). t.place) (sym it) ∙ same.0.0, ap (λ (t : KeptTransfer). t.lengths) (sym it) ∙ same.0.1)
    by_test false e g rest =
        let r = rest g in
        let past : find_at p (y ∷ ys) ≡ Some r.0 = rw (spans_so ∙ e) r.1 in
        (r.0, past, r.2, r.3)

-- what has begun in the one has begun in the other
begun_same : (c : Context) (dequeue within : ℕ) (y z : KeptTransfer) → z.place ≡ y.place → z.lengths ≡ y.lengths → IsBegun c dequeue within y → IsBegun c dequeue within z
begun_same c dequeue within y z e f is = record {
  begun = is.begun ∙ ap₂ (λ (n : ℕ) (ls : List ℕ). nat_lt 0 (total (take (dequeue - n) ls) + within)) (sym e) (sym f);
  fits = subst₂ (λ (n : ℕ) (ls : List ℕ). within ≤ length_at ls (dequeue - n)) (sym e) (sym f) is.fits;
}

-- asks, bytes and what is told change no TRB
pub spans_of : (ys zs : List KeptTransfer) → HaveTrbsOf ys zs → HaveSpansOf ys zs
spans_of [] [] same = tt
spans_of [] (z ∷ zs) same = absurd same
spans_of (y ∷ ys) [] same = absurd same
spans_of (y ∷ ys) (z ∷ zs) same = ((same.0.place, same.0.lengths), spans_of ys zs same.1)

pub first_same : (ys zs : List KeptTransfer) (end : ℕ) → HaveSpansOf ys zs → first_place zs end ≡ first_place ys end
first_same [] [] end same = refl
first_same [] (z ∷ zs) end same = absurd same
first_same (y ∷ ys) [] end same = absurd same
first_same (y ∷ ys) (z ∷ zs) end same = same.0.0

row_same : (ys zs : List KeptTransfer) (end : ℕ) → HaveSpansOf ys zs → InRow ys end → InRow zs end
row_same [] [] end same row = tt
row_same [] (z ∷ zs) end same row = absurd same
row_same (y ∷ ys) [] end same row = absurd same
row_same (y ∷ ys) (z ∷ zs) end same row =
    (first_same ys zs end same.1 ∙ row.0 ∙ ap₂ (λ (n : ℕ) (ls : List ℕ). n + length ls) (sym same.0.0) (sym same.0.1), row_same ys zs end same.1 row.1)

item_same : (size : ℕ) (y z : KeptTransfer) (ks : List TrbKind) → HasTrbsOf y z → IsItem size y ks → IsItem size z ks
item_same size y z ks same is = record {
  some = omega (arith, is.some, ap length same.lengths);
  count = is.count ∙ ap length (sym same.lengths);
  sent = λ e.
      let s = is.sent (sym same.blank ∙ e) in
      record {
        key = s.key;
        trbs = s.trbs ∙ ap (λ (r : Request). normals (normals_of s.key (tds_of size r))) (sym same.request);
        lengths = same.lengths ∙ (s.lengths ∙ ap (trbs_of size) (sym same.request));
        few = subst (λ (r : Request). length_of r.body ≤ most_bytes) (sym same.request) s.few;
      };
  blank = λ e. is.blank (sym same.blank ∙ e) ∙ ap (λ (ls : List ℕ). replicate (length ls) NoOp) (sym same.lengths);
}

items_same : (size : ℕ) (ys zs : List KeptTransfer) (kss : List (List TrbKind)) → HaveTrbsOf ys zs → AllItems size ys kss → AllItems size zs kss
items_same size [] [] kss same items = items
items_same size [] (z ∷ zs) kss same items = absurd same
items_same size (y ∷ ys) [] kss same items = absurd same
items_same size (y ∷ ys) (z ∷ zs) [] same items = absurd items
items_same size (y ∷ ys) (z ∷ zs) (ks ∷ kss) same items = (item_same size y z ks same.0 items.0, items_same size ys zs kss same.1 items.1)

pub line_same : (size : ℕ) (l : Line) (ys zs : List KeptTransfer) (end dequeue : ℕ) → HaveTrbsOf ys zs → IsLine size l ys end dequeue → IsLine size l zs end dequeue
line_same size l ys zs end dequeue same is =
    let first = first_same ys zs end (spans_of ys zs same) in
    record {
      items = items_same size ys zs l.items same is.items;
      row = row_same ys zs end (spans_of ys zs same) is.row;
      below = is.below;
      few = omega (arith, is.few, first);
      stands = is.stands;
      between = omega (arith, is.between, first);
      whole = is.whole;
    }

pub keeps : (c : Context) (b : KeptEndpoint) (line : List KeptTransfer) → IsContext c b → HaveTrbsOf b.line line → IsContext c (record b { line = line })
keeps c b line is same = record {
  ring = line_same c.size c.ring.line b.line line b.end b.dequeue same is.ring;
  runs = is.runs;
  partly = is.partly;
  front = λ z h.
      let r = found_same b.line line b.dequeue z (spans_of b.line line same) h in
      begun_same c b.dequeue b.within r.0 z r.2 r.3 (is.front r.0 r.1);
  rests = is.rests;
}

-- a withdrawn transfer stands where it stood
spans_set : (ys : List KeptTransfer) (i : ℕ) (y : KeptTransfer) → slice_get ys i ≡ Some y → HaveSpansOf ys (slice_set ys i (record y { blank = true }))
spans_set [] i y h = tt
spans_set (z ∷ zs) zero y h =
    let same : y ≡ z = cc in
    ((ap (λ (x : KeptTransfer). x.place) same, ap (λ (x : KeptTransfer). x.lengths) same), spans_refl zs)
  where
    spans_refl : (xs : List KeptTransfer) → HaveSpansOf xs xs
    spans_refl [] = tt
    spans_refl (x ∷ xs) = ((refl, refl), spans_refl xs)
spans_set (z ∷ zs) (suc i) y h = ((refl, refl), spans_set zs i y h)

pub blanks : (c : Context) (b : KeptEndpoint) (i : ℕ) (y : KeptTransfer) → IsContext c b → slice_get b.line i ≡ Some y
    → IsContext (with_ring c (with_blank c.ring i)) (record b { line = slice_set b.line i (record y { blank = true }) })
blanks c b i y is h = record {
  ring = change.blanks c.size c.ring.line b.line b.end b.dequeue i y is.ring h;
  runs = is.runs;
  partly = is.partly;
  front = λ z g.
      let r = found_same b.line (slice_set b.line i (record y { blank = true })) b.dequeue z (spans_set b.line i y h) g in
      let k = begun_same c b.dequeue b.within r.0 z r.2 r.3 (is.front r.0 r.1) in
      record { begun = k.begun; fits = k.fits };
  rests = is.rests;
}

-- what is found behind the first is found among all
found_drop : (ys : List KeptTransfer) (end p k : ℕ) (y : KeptTransfer) → InRow ys end → find_at p (drop k ys) ≡ Some y → find_at p ys ≡ Some y
unfolding find_at
found_drop ys end p zero y row h = h
found_drop [] end p (suc k) y row h = h
found_drop (z ∷ zs) end p (suc k) y row h = by_test (covers p z) refl (found_drop zs end p k y row.1 h)
  where
    later : find_at p zs ≡ Some y → (p < first_place zs end) ⊎ (first_place zs end ≤ p) → first_place zs end ≤ p
    later g (inl less) = let none = none_before zs end p row.1 less in absurd cc
    later g (inr le) = le

    by_test : (b : Bool) → covers p z ≡ b → find_at p zs ≡ Some y → (if b then Some z else find_at p zs) ≡ Some y
    by_test true e g = absurd (omega (arith, later g (cases_lt p (first_place zs end)), (covered p z e).1, row.0))
    by_test false e g = g

pub drops : (c : Context) (b : KeptEndpoint) (k : ℕ) → IsContext c b → k ≤ length b.line → IsContext (with_ring c (without_first c.ring k)) (record b { line = drop k b.line })
drops c b k is le = record {
  ring = change.drops c.size c.ring.line b.line b.end b.dequeue k is.ring;
  runs = is.runs;
  partly = is.partly;
  front = λ z g.
      let f = is.front z (found_drop b.line b.end b.dequeue k z is.ring.row g) in
      record { begun = f.begun; fits = f.fits };
  rests = is.rests;
}

-- what is found in a line with one transfer more is that one or another
found_push : (ys : List KeptTransfer) (y z : KeptTransfer) (p : ℕ) → find_at p (ys ++ y ∷ []) ≡ Some z → (find_at p ys ≡ Some z) ⊎ ((y ≡ z) × (y.place ≤ p))
unfolding find_at
found_push [] y z p h = by_test (covers p y) refl h
  where
    by_test : (b : Bool) → covers p y ≡ b → (if b then Some y else None) ≡ Some z → (None ≡ Some z) ⊎ ((y ≡ z) × (y.place ≤ p))
    by_test true e g =
        let same : y ≡ z = cc in
        inr (same, (covered p y e).0)
    by_test false e g = absurd cc
found_push (x ∷ xs) y z p h = by_test (covers p x) refl h (found_push xs y z p)
  where
    by_test : (b : Bool) → covers p x ≡ b → (if b then Some x else find_at p (xs ++ y ∷ [])) ≡ Some z
        → (find_at p (xs ++ y ∷ []) ≡ Some z → (find_at p xs ≡ Some z) ⊎ ((y ≡ z) × (y.place ≤ p))) → ((if b then Some x else find_at p xs) ≡ Some z) ⊎ ((y ≡ z) × (y.place ≤ p))
    by_test true e g rest = inl g
    by_test false e g rest = rest g

-- one that joins took nothing yet
new_begun : (c : Context) (b : KeptEndpoint) (y : KeptTransfer) → y.place ≡ b.end → IsContext c b → b.end ≤ b.dequeue → IsBegun c b.dequeue b.within y
new_begun c b y at is le =
    let e : b.dequeue ≡ b.end = omega (arith, le, is.ring.below) in
    let none : b.dequeue - y.place ≡ 0 = omega (arith, at, e) in
    let r = is.rests e in
    record {
      begun = r.1 ∙ ap₂ (λ (n m : ℕ). nat_lt 0 (total (take n y.lengths) + m)) (sym none) (sym r.0);
      fits = omega (arith, r.0);
    }

pub pushes : (c : Context) (b : KeptEndpoint) (key n : ℕ) (request : Request) (round : ℕ) → IsContext c b → length_of request.body ≤ most_bytes → used c.ring.line + length (trbs_of c.size request) ≤ 126
    → IsContext (with_ring c (with_pushed c.ring (normals (normals_of key (tds_of c.size request))))) (joined c.size b n request round)
pushes c b key n request round is few room =
    let y : KeptTransfer = new_kept c.size b.end n request round in
    let count : length (normals (normals_of key (tds_of c.size request))) ≡ length (trbs_of c.size request) =
    normals_count (normals_of key (tds_of c.size request)) ∙ normals_at_count (buffer_of key) (tds_of c.size request) in
    let some : 0 < length (trbs_of c.size request) = some_trbs c.size request in
    record {
      ring = change.pushes c.size c.ring.line b.line b.end b.dequeue y (normals (normals_of key (tds_of c.size request))) is.ring
          (record { some = some; count = count; sent = λ e. record { key = key; trbs = refl; lengths = refl; few = few }; blank = λ e. absurd cc })
          refl (omega (arith, room, in_use c.size c.ring.line b.line b.end b.dequeue is.ring));
      runs = is.runs;
      partly = is.partly;
      front = λ z g. by_place z (found_push b.line y z b.dequeue g);
      rests = λ e. absurd (omega (arith, e, some, is.ring.below));
    }
  where
    by_place : (z : KeptTransfer) → (find_at b.dequeue b.line ≡ Some z) ⊎ ((new_kept c.size b.end n request round ≡ z) × (b.end ≤ b.dequeue))
        → IsBegun (with_ring c (with_pushed c.ring (normals (normals_of key (tds_of c.size request))))) b.dequeue b.within z
    by_place z (inl old) =
        let f = is.front z old in
        record { begun = f.begun; fits = f.fits }
    by_place z (inr new) =
        let f = subst (λ (x : KeptTransfer). IsBegun c b.dequeue b.within x) new.0 (new_begun c b (new_kept c.size b.end n request round) refl is new.1) in
        record { begun = f.begun; fits = f.fits }
