-- What stands before the controller.
use Rattle.std.proofs.Common.{◌≡◌, ℕ, zero, suc, ◌+◌, ◌-◌, ◌<◌, ◌≤◌, refl, ap, sym, ◌∙◌, arith, List, [], ◌∷◌, ◌++◌, length, length-append, drop, true, false, Bool, if◌then◌else◌, inl, inr, ◌⊎◌}
use Rattle.std.specs.Prelude.{min, replicate}
use Rattle.std.proofs.lemmas.List.{drop-map, length-drop, nil_from_length}
use Rattle.std.proofs.lemmas.Bool.{cases_lt}
use Rattle.usb_trb.specs.declared.kind.Normal.{Normal as NormalTrb}
use Rattle.usb_trb.specs.declared.kind.TrbKind.{TrbKind}
use Rattle.usb_trb.specs.declared.kind.TrbKind.TheVariants.{Normal, NoOp}
use Rattle.usb_model.specs.Kept.{InRow, KeptTransfer, first_place}
use Rattle.usb_model.specs.Events.{past_kept_blanks}
use Rattle.usb_tables.specs.Tds.{tds_of}
use Rattle.usb_tables.specs.Trbs.{normals_of, buffer_of}
use Rattle.usb_rings.specs.Line.{Line, all_of, contents, no_ops, normals, used}
use Rattle.usb_xhc.specs.Ahead.{ahead, trbs_ahead}
use Rattle.refine_rings.specs.Line.{AllItems, IsLine, IsSent}
use Rattle.refine_rings.proofs.Trbs.{ahead_whole, ends_drop, normals_count, normals_end}
use Rattle.refine_rings.proofs.Lines.{Found, spans}

-- where nothing of no item stands, so many TRBs of items are passed
pub record Passed (l : Line) (line : List KeptTransfer) (end dequeue : ℕ) : Type 0 where
  pub gone : l.gone ≡ []
  pub passed : l.passed ≡ dequeue - first_place line end

pub passed_items : (size : ℕ) (l : Line) (line : List KeptTransfer) (end dequeue : ℕ) → IsLine size l line end dequeue → first_place line end ≤ dequeue → Passed l line end dequeue
passed_items size l line end dequeue is le = by_count (cases_lt 0 l.passed)
  where
    by_count : (0 < l.passed) ⊎ (l.passed ≤ 0) → Passed l line end dequeue
    by_count (inl some) =
        let none = is.whole some in
        record { gone = none; passed = omega (arith, is.between, ap length none) }
    by_count (inr none) =
        let empty : length l.gone ≡ 0 = omega (arith, is.between, none, le) in
        record { gone = nil_from_length l.gone empty; passed = omega (arith, is.between, none, empty, le) }

-- as many TRBs as places
pub contents_count : (size : ℕ) (l : Line) (line : List KeptTransfer) (end dequeue : ℕ) → IsLine size l line end dequeue → dequeue + length (contents l) ≡ end
contents_count size l line end dequeue is = by_count (cases_lt 0 l.passed)
  where
    span : first_place line end + length (all_of l.items) ≡ end
    span = spans size line l.items end is.items is.row

    by_count : (0 < l.passed) ⊎ (l.passed ≤ 0) → dequeue + length (contents l) ≡ end
    by_count (inl some) =
        omega (arith, span, is.between, is.below, ap length (is.whole some), length-append l.gone (drop l.passed (all_of l.items)), length-drop l.passed (all_of l.items))
    by_count (inr none) =
        omega (arith, span, is.between, is.below, none, length-append l.gone (drop l.passed (all_of l.items)), length-drop l.passed (all_of l.items))

-- the places in use are those from the dequeue place or the first item on
pub in_use : (size : ℕ) (l : Line) (line : List KeptTransfer) (end dequeue : ℕ) → IsLine size l line end dequeue → used l + min dequeue (first_place line end) ≡ end
in_use size l line end dequeue is = by_count (cases_lt 0 l.passed)
  where
    span : first_place line end + length (all_of l.items) ≡ end
    span = spans size line l.items end is.items is.row

    by_count : (0 < l.passed) ⊎ (l.passed ≤ 0) → used l + min dequeue (first_place line end) ≡ end
    by_count (inl some) = omega (arith, span, is.between, ap length (is.whole some))
    by_count (inr none) = omega (arith, span, is.between, none)

-- at the end of the line nothing does
pub contents_end : (size : ℕ) (l : Line) (line : List KeptTransfer) (end dequeue : ℕ) → IsLine size l line end dequeue → dequeue ≡ end → contents l ≡ []
contents_end size l line end dequeue is e = nil_from_length (contents l) (omega (arith, e, contents_count size l line end dequeue is))

-- at a transfer, its TRBs from the dequeue place on, and the items behind it
pub contents_at : (size : ℕ) (l : Line) (line : List KeptTransfer) (end dequeue : ℕ) (y : KeptTransfer) → IsLine size l line end dequeue → (f : Found size line l.items end dequeue y)
    → contents l ≡ drop (dequeue - y.place) f.ks ++ all_of f.rest
contents_at size l line end dequeue y is f =
    let p = passed_items size l line end dequeue is (omega (arith, f.low, f.first)) in
    ap (λ (g : List TrbKind). g ++ drop l.passed (all_of l.items)) p.gone ∙ ap (λ n. drop n (all_of l.items)) p.passed ∙ f.ahead

-- those of a transfer in progress are what the controller serves
pub trbs_at : (size : ℕ) (l : Line) (line : List KeptTransfer) (end dequeue : ℕ) (y : KeptTransfer) → IsLine size l line end dequeue → (f : Found size line l.items end dequeue y) → (s : IsSent size y f.ks)
    → trbs_ahead l ≡ drop (dequeue - y.place) (normals_of s.key (tds_of size y.request))
trbs_at size l line end dequeue y is f s =
    let ts : List NormalTrb = normals_of s.key (tds_of size y.request) in
    let i : ℕ = dequeue - y.place in
    let same : drop i f.ks ≡ normals (drop i ts) = ap (λ ks. drop i ks) s.trbs ∙ drop-map Normal i ts in
    let many : length ts ≡ length y.lengths = sym (normals_count ts) ∙ ap length (sym s.trbs) ∙ f.is_item.count in
    ap ahead (contents_at size l line end dequeue y is f ∙ ap (λ (ks : List TrbKind). ks ++ all_of f.rest) same)
    ∙ ahead_whole (drop i ts) (all_of f.rest) (ends_drop ts i (normals_end (buffer_of s.key) (tds_of size y.request)) (omega (arith, f.low, f.high, many)))

-- the No Ops in front are the TRBs of blanks
no_ops_more : (n : ℕ) (ks : List TrbKind) → no_ops (replicate n NoOp ++ ks) ≡ n + no_ops ks
no_ops_more zero ks = omega arith
no_ops_more (suc n) ks = ap suc (no_ops_more n ks) ∙ omega arith

none_in_front : (ts : List NormalTrb) (ks : List TrbKind) → 0 < length (normals ts) → no_ops (normals ts ++ ks) ≡ 0
none_in_front [] ks some = absurd (omega (arith, some))
none_in_front (t ∷ ts) ks some = refl

pub blanks_span : (size : ℕ) (ys : List KeptTransfer) (kss : List (List TrbKind)) (end : ℕ) → AllItems size ys kss → InRow ys end
    → first_place ys end + no_ops (all_of kss) ≡ first_place (past_kept_blanks ys) end
unfolding past_kept_blanks
blanks_span size [] [] end items row = omega arith
blanks_span size [] (ks ∷ kss) end items row = absurd items
blanks_span size (y ∷ ys) [] end items row = absurd items
blanks_span size (y ∷ ys) (ks ∷ kss) end items row = by_test y.blank refl (blanks_span size ys kss end items.1 row.1)
  where
    by_test : (b : Bool) → y.blank ≡ b → first_place ys end + no_ops (all_of kss) ≡ first_place (past_kept_blanks ys) end
        → y.place + no_ops (ks ++ all_of kss) ≡ first_place (if b then past_kept_blanks ys else y ∷ ys) end
    by_test true e rest =
        let blanks = ap (λ l. no_ops (l ++ all_of kss)) (items.0.blank e) ∙ no_ops_more (length y.lengths) (all_of kss) in
        omega (arith, rest, row.0, blanks)
    by_test false e rest =
        let s = items.0.sent e in
        let some : 0 < length (normals (normals_of s.key (tds_of size y.request))) = omega (arith, items.0.some, items.0.count, ap length s.trbs) in
        let none = ap (λ l. no_ops (l ++ all_of kss)) s.trbs ∙ none_in_front (normals_of s.key (tds_of size y.request)) (all_of kss) some in
        omega (arith, none)
