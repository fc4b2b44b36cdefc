-- Where the ledger of an endpoint holds, its account is a cut of its script.
use Rattle.std.proofs.Common.{Bool, List, [], ap, arith, false, inl, inr, map, refl, subst, sym, true, ℕ, ◌++◌, ◌∙◌, ◌∷◌, ◌<◌, ◌≡◌, ◌≤◌}
use Rattle.std.specs.Prelude.{if◌then◌else◌}
use Rattle.std.proofs.lemmas.List.{map-append}
use Rattle.std.specs.List.{AllByRecursion, flat_map}
use Rattle.usb_model.specs.declared.response.Response.{Response}
use Rattle.usb_model.specs.declared.endpoint.Endpoint.{Endpoint}
use Rattle.usb_model.specs.declared.item.ItemState.TheVariants.{Blank, Served, Waiting}
use Rattle.usb_model.specs.declared.item.ItemState.{ItemState}
use Rattle.usb_model.specs.Laws.Account.{Account}
use Rattle.usb_model.specs.Laws.Cut.{AllTold, Ended, Fate, IsCut, Part, ToldBy, Waits, Withdrawn, numbers_of, parts_of, times}
use Rattle.usb_model.specs.Endpoint.{is_blank, is_blank_state, live_numbers}
use Rattle.proof_model.proofs.Cut.Ledger.{IsAccepted, accepted_cell, GoneTold, GoneToldBy, HoldsAt, IsFate, IsRow, Row, RowToldBy, all_cells, all_parts, item_of, numbers, part_of, parts_of_cells}
use Rattle.proof_model.proofs.Lists.Parts.{each_weaker}
use Rattle.proof_model.proofs.Lists.Times.{StandOnce, distinct_once, times_here, times_past, times-append, times-cons}

-- the numbers in progress are among those of the line
pub live_less : (n : ℕ) (rows : List Row) → times n (live_numbers (map item_of rows)) ≤ times n (numbers (map part_of rows))
unfolding live_numbers
live_less n [] = omega arith
live_less n (r ∷ rows) = by_test (is_blank r.item) (live_less n rows)
  where
    by_test : (b : Bool) → times n (live_numbers (map item_of rows)) ≤ times n (numbers (map part_of rows)) → times n (if b then live_numbers (map item_of rows) else r.item.n ∷ live_numbers (map item_of rows)) ≤ times n (numbers (map part_of (r ∷ rows)))
    by_test true rest = omega (arith, rest, times-cons n r.item.n (numbers (map part_of rows)))
    by_test false rest = omega (arith, rest, times-cons n r.item.n (numbers (map part_of rows)), times-cons n r.item.n (live_numbers (map item_of rows)))

-- an item of another number is passed
live_past : (n : ℕ) (r : Row) (rows : List Row) → (r.item.n ≡ n → ⊥) → times n (live_numbers (map item_of (r ∷ rows))) ≡ times n (live_numbers (map item_of rows))
unfolding live_numbers
live_past n r rows differ = by_test (is_blank r.item)
  where
    by_test : (b : Bool) → times n (if b then live_numbers (map item_of rows) else r.item.n ∷ live_numbers (map item_of rows)) ≡ times n (live_numbers (map item_of rows))
    by_test true = refl
    by_test false = times_past n r.item.n (live_numbers (map item_of rows)) differ

-- an item is in progress once, but for a blank
live_here : (r : Row) (rows : List Row) → times r.item.n (numbers (map part_of rows)) ≡ 0 → times r.item.n (live_numbers (map item_of (r ∷ rows))) ≡ (if is_blank r.item then 0 else 1)
unfolding live_numbers
live_here r rows none = by_test (is_blank r.item)
  where
    rest : times r.item.n (live_numbers (map item_of rows)) ≡ 0
    rest = omega (arith, none, live_less r.item.n rows)

    by_test : (b : Bool) → times r.item.n (if b then live_numbers (map item_of rows) else r.item.n ∷ live_numbers (map item_of rows)) ≡ (if b then 0 else 1)
    by_test true = rest
    by_test false = omega (arith, rest, times_here r.item.n r.item.n (live_numbers (map item_of rows)) refl)

-- what is told of an item of the line
told_row : (size : ℕ) (inward : Bool) (a : Account) (r : Row) (live : ℕ) → live ≡ (if is_blank r.item then 0 else 1) → IsRow size inward a r → ToldBy size a live (part_of r) r.fate
told_row size inward a r live is row = by_state r.item.state is row.fate
  where
    by_state : (s : ItemState) → live ≡ (if is_blank_state s then 0 else 1) → IsFate s r.fate → ToldBy size a live (part_of r) r.fate
    by_state Waiting l f = let t : RowToldBy size a r Waits = subst (RowToldBy size a r) f row.told in subst (ToldBy size a live (part_of r)) (sym f) (l, t.0)
    by_state (Served code) l f = let t : RowToldBy size a r (Ended code f.0) = subst (RowToldBy size a r) f.1 row.told in subst (ToldBy size a live (part_of r)) (sym f.1) (inl (l, t))
    by_state Blank l f =
        let t : RowToldBy size a r (Withdrawn f.0) = subst (RowToldBy size a r) f.1 row.told in
        subst (ToldBy size a live (part_of r)) (sym f.1) (l, t.0, t.1, t.2)

-- the transfers in the line are told by their rows
told_rows : (size : ℕ) (inward : Bool) (a : Account) (live : List ℕ) (rows : List Row) → StandOnce (numbers (map part_of rows)) → ((n : ℕ) → 1 ≤ times n (numbers (map part_of rows)) → times n live ≡ times n (live_numbers (map item_of rows)))
    → AllByRecursion (IsRow size inward a) rows → AllTold size a live (map part_of rows)
told_rows size inward a live [] d same rows = tt
told_rows size inward a live (r ∷ rs) d same rows = (
  told_row size inward a r (times r.item.n live) (same r.item.n (omega (arith, times_here r.item.n r.item.n (numbers (map part_of rs)) refl)) ∙ live_here r rs d.0) rows.0,
  told_rows size inward a live rs d.1 (λ n some.
      let differ : r.item.n ≡ n → ⊥ = λ e. omega (arith, some, ap (λ k. times k (numbers (map part_of rs))) e, d.0) in
      same n (omega (arith, some, times-cons n r.item.n (numbers (map part_of rs)))) ∙ live_past n r rs differ) rows.1,
)

-- and of what left it
told_gone : (size : ℕ) (a : Account) (x : Part) (live : ℕ) → live ≡ 0 → (f : Fate) → GoneToldBy size a x f → ToldBy size a live x f
told_gone size a x live none Waits t = absurd t
told_gone size a x live none (Ended code gone) t = inr (none, t.0, t.1, t.2)
told_gone size a x live none (Withdrawn ask) t = (none, t.0, t.1, t.2)

-- every transfer of the ledger is told, those that left the line too
told_all : (size : ℕ) (inward : Bool) (a : Account) (gone : List Part) (rows : List Row) → AllByRecursion (GoneTold size a) gone → StandOnce (numbers (gone ++ map part_of rows)) → AllByRecursion (IsRow size inward a) rows
    → AllTold size a (live_numbers (map item_of rows)) (gone ++ map part_of rows)
told_all size inward a [] rows t d each = told_rows size inward a (live_numbers (map item_of rows)) rows d (λ n some. refl) each
told_all size inward a (x ∷ gone) rows t d each =
    let joined : numbers (gone ++ map part_of rows) ≡ numbers gone ++ numbers (map part_of rows) = map-append (λ p. p.n) gone (map part_of rows) in
    let none : times x.n (live_numbers (map item_of rows)) ≡ 0 = omega (arith, d.0, ap (times x.n) joined, times-append x.n (numbers gone) (numbers (map part_of rows)), live_less x.n rows) in
    (told_gone size a x (times x.n (live_numbers (map item_of rows))) none x.fate t.0, told_all size inward a gone rows t.1 d.1 each)

-- the cut law
pub cut_if_holds : (size : ℕ) (inward : Bool) (next : ℕ) (script : List Response) (a : Account) (e : Endpoint) → HoldsAt size inward next script a e
    → AllByRecursion (λ x. IsAccepted a x.result.n) a.made → AllByRecursion (λ x. IsAccepted a x.n) a.asked → IsCut size script a e
cut_if_holds size inward next script a e h results asks =
    let same = parts_of_cells h.gone h.rows in
    record {
      cells = all_cells h.gone h.rows;
      all = h.all;
      numbers = rw same (distinct_once (numbers (all_parts h.gone h.rows)) h.distinct);
      shares = rw same h.shares;
      fits = h.fits;
      ended = rw same h.ended;
      told = rw (same, ← h.is_line) (told_all size inward a (flat_map parts_of h.gone) h.rows h.gone_told h.distinct h.each_row);
      packets = rw same h.packets;
      results = each_weaker (λ x. IsAccepted a x.result.n) (λ x. 0 < times x.result.n (numbers_of (all_cells h.gone h.rows))) a.made (λ x lt. accepted_cell a (all_cells h.gone h.rows) x.result.n h.all lt) results;
      asks = each_weaker (λ x. IsAccepted a x.n) (λ x. 0 < times x.n (numbers_of (all_cells h.gone h.rows))) a.asked (λ x lt. accepted_cell a (all_cells h.gone h.rows) x.n h.all lt) asks;
    }
