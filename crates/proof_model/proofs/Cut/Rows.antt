-- One row of a ledger is replaced, and what is told of the others stays.
use Rattle.std.proofs.Common.{Bool, List, Option, [], ap, append-nil, append_assoc, ap₂, arith, false, inl, inr, map, refl, subst, sym, ℕ, ◌++◌, ◌+◌, ◌<◌, ◌==◌, ◌||◌, ◌∙◌, ◌∷◌, ◌≡◌, ◌≤◌, ◌⊎◌}
use Rattle.std.proofs.lemmas.Bool.{cases_lt, ne_eqb}
use Rattle.std.proofs.lemmas.Grind.{flat_map-append}
use Rattle.std.proofs.lemmas.List.{map-append}
use Rattle.std.proofs.lemmas.List.Elements.{filter-append}
use Rattle.std.specs.List.{AllByRecursion, filter, flat_map}
use Rattle.usb_model.specs.declared.response.Response.{Response}
use Rattle.usb_model.specs.declared.item.Ask.{Ask}
use Rattle.usb_model.specs.declared.item.Item.{Item}
use Rattle.usb_model.specs.declared.item.ItemState.{ItemState}
use Rattle.usb_model.specs.Laws.Account.{Accepted, Account, Asked, End, Made}
use Rattle.usb_model.specs.Laws.Cut.{AllFit, Cell, Cleared, Ended, Fate, FitsFate, Of, Part, Waits, Withdrawn, asks_of, has_stall, made_of, parts_of, times}
use Rattle.usb_model.specs.Endpoint.{fresh}
use Rattle.proof_model.proofs.Cut.Ledger.{GoneTold, GoneToldBy, Holds, IsFresh, IsQuiet, IsRow, Row, RowToldBy, all_cells, all_parts, cell_of, numbers, part_of, stalled}
use Rattle.proof_model.proofs.Lists.Times.{StandOnce, distinct_mid, each_apart, times_here, times-append}
use Rattle.proof_model.proofs.Lists.Parts.{each_behind, each_front}

-- an account with more in each list
abbrev pub with_more : Account → List Accepted → List Asked → List End → List Made → Account
with_more a accepted asked ended made = record { accepted = a.accepted ++ accepted; asked = a.asked ++ asked; ended = a.ended ++ ended; made = a.made ++ made }

-- a row with another share, state, ask and fate
abbrev pub with_row : Row → List Response → ItemState → Option Ask → Fate → Row
with_row r share state ask fate = record { item = record r.item { share = share; state = state; ask = ask }; fate = fate }

-- lists in the middle of which one element is replaced
pub map_mid : {A B : Type 0} (f : A → B) (xs : List A) (x y : A) (ys : List A) → f y ≡ f x → map f (xs ++ y ∷ ys) ≡ map f (xs ++ x ∷ ys)
map_mid f [] x y ys e = ap (λ k. k ∷ map f ys) e
map_mid f (z ∷ zs) x y ys e = ap (λ l. f z ∷ l) (map_mid f zs x y ys e)

-- one element replaced, of the same image
pub flat_mid_same : {A B : Type 0} (f : A → List B) (xs : List A) (x y : A) (ys : List A) → f y ≡ f x → flat_map f (xs ++ y ∷ ys) ≡ flat_map f (xs ++ x ∷ ys)
flat_mid_same f xs x y ys e = flat_map-append f xs (y ∷ ys) ∙ (ap (λ k. flat_map f xs ++ (k ++ flat_map f ys)) e ∙ sym (flat_map-append f xs (x ∷ ys)))

-- one element replaced, of a longer image, and none behind it has any
pub flat_mid_more : {A B : Type 0} (f : A → List B) (xs : List A) (x y : A) (ys : List A) (more : List B) → f y ≡ f x ++ more → flat_map f ys ≡ [] → flat_map f (xs ++ y ∷ ys) ≡ flat_map f (xs ++ x ∷ ys) ++ more
flat_mid_more f xs x y ys more e none =
    flat_map-append f xs (y ∷ ys)
    ∙ (ap₂ (λ k l. flat_map f xs ++ (k ++ l)) e none
    ∙ (ap (λ l. flat_map f xs ++ l) (append-nil (f x ++ more))
    ∙ (sym (append_assoc (flat_map f xs) (f x) more)
    ∙ ap (λ l. l ++ more) (ap (λ l. flat_map f xs ++ l) (sym (append-nil (f x)) ∙ ap (λ l. f x ++ l) (sym none)) ∙ sym (flat_map-append f xs (x ∷ ys))))))

-- cells and parts with a row in the middle
pub cells_mid : (gone : List Cell) (front back : List Row) (r : Row) → all_cells gone (front ++ r ∷ back) ≡ all_cells gone front ++ cell_of r ∷ map cell_of back
cells_mid gone front back r = ap (λ l. gone ++ l) (map-append cell_of front (r ∷ back)) ∙ sym (append_assoc gone (map cell_of front) (map cell_of (r ∷ back)))

-- the parts about one row
pub parts_mid : (gone : List Cell) (front back : List Row) (r : Row) → all_parts gone (front ++ r ∷ back) ≡ all_parts gone front ++ part_of r ∷ map part_of back
parts_mid gone front back r = ap (λ l. flat_map parts_of gone ++ l) (map-append part_of front (r ∷ back)) ∙ sym (append_assoc (flat_map parts_of gone) (map part_of front) (map part_of (r ∷ back)))

-- what fits, in two
pub stalled-append : (behind : Bool) (xs ys : List Cell) → stalled behind (xs ++ ys) ≡ stalled (stalled behind xs) ys
stalled-append behind [] ys = refl
stalled-append behind (Of x ∷ xs) ys = stalled-append (behind || has_stall x.share) xs ys
stalled-append behind (Cleared ∷ xs) ys = stalled-append false xs ys

-- what fits fits at its front
pub fits_front : (size : ℕ) (behind : Bool) (xs ys : List Cell) → AllFit size behind (xs ++ ys) → AllFit size behind xs
fits_front size behind [] ys f = tt
fits_front size behind (Of x ∷ xs) ys f = (f.0, fits_front size (behind || has_stall x.share) xs ys f.1)
fits_front size behind (Cleared ∷ xs) ys f = fits_front size false xs ys f

-- what fits fits behind its front
pub fits_behind : (size : ℕ) (behind : Bool) (xs ys : List Cell) → AllFit size behind (xs ++ ys) → AllFit size (stalled behind xs) ys
fits_behind size behind [] ys f = f
fits_behind size behind (Of x ∷ xs) ys f = fits_behind size (behind || has_stall x.share) xs ys f.1
fits_behind size behind (Cleared ∷ xs) ys f = fits_behind size false xs ys f

-- a front that fits, and what fits behind it
pub fits_join : (size : ℕ) (behind : Bool) (xs ys : List Cell) → AllFit size behind xs → AllFit size (stalled behind xs) ys → AllFit size behind (xs ++ ys)
fits_join size behind [] ys f g = g
fits_join size behind (Of x ∷ xs) ys f g = (f.0, fits_join size (behind || has_stall x.share) xs ys f.1 g)
fits_join size behind (Cleared ∷ xs) ys f g = fits_join size false xs ys f g

-- two accounts tell the same but of one number
pub record TellsSame (k : ℕ) (a a' : Account) : Type 0 where
  pub made : (n : ℕ) → (n ≡ k → ⊥) → made_of n a'.made ≡ made_of n a.made
  pub asked : (n : ℕ) → (n ≡ k → ⊥) → asks_of n a'.asked ≡ asks_of n a.asked

-- what has one number only is not found by another
none_of_other : {A : Type 0} (number : A → ℕ) (k n : ℕ) (xs : List A) → (n ≡ k → ⊥) → AllByRecursion (λ x. number x ≡ k) xs → filter (λ x. number x == n) xs ≡ []
none_of_other number k n [] differ e = refl
none_of_other number k n (x ∷ xs) differ e = rw (ne_eqb (number x) n (λ q. differ (sym q ∙ e.0))) (none_of_other number k n xs differ e.1)

-- what is appended and fails a test is not found by it
filter_more : {A : Type 0} (test : A → Bool) (xs ys : List A) → filter test ys ≡ [] → filter test (xs ++ ys) ≡ filter test xs
filter_more test xs ys none = filter-append test xs ys ∙ (ap (λ l. filter test xs ++ l) none ∙ append-nil (filter test xs))

-- what is added of one number says nothing of the others
pub tells_same : (k : ℕ) (a : Account) (accepted : List Accepted) (asked : List Asked) (ended : List End) (made : List Made) → AllByRecursion (λ q. q.n ≡ k) asked → AllByRecursion (λ m. m.result.n ≡ k) made → TellsSame k a (with_more a accepted asked ended made)
tells_same k a accepted asked ended made qs ms = record {
  made = λ n differ. filter_more (λ m. m.result.n == n) a.made made (none_of_other (λ m. m.result.n) k n made differ ms);
  asked = λ n differ. filter_more (λ q. q.n == n) a.asked asked (none_of_other (λ q. q.n) k n asked differ qs);
}

-- so what is told of another number stays
gone_told_kept : (size k : ℕ) (a a' : Account) (x : Part) → TellsSame k a a' → (x.n ≡ k → ⊥) → (f : Fate) → GoneToldBy size a x f → GoneToldBy size a' x f
gone_told_kept size k a a' x s differ Waits t = t
gone_told_kept size k a a' x s differ (Ended code gone) t = (t.0, t.1, s.made x.n differ ∙ t.2)
gone_told_kept size k a a' x s differ (Withdrawn ask) t = (t.0, s.made x.n differ ∙ t.1, s.asked x.n differ ∙ t.2)

-- a row of another number is told as before
row_told_kept : (size k : ℕ) (a a' : Account) (r : Row) → TellsSame k a a' → (r.item.n ≡ k → ⊥) → (f : Fate) → RowToldBy size a r f → RowToldBy size a' r f
row_told_kept size k a a' r s differ Waits t = (s.made r.item.n differ ∙ t.0, s.asked r.item.n differ ∙ t.1)
row_told_kept size k a a' r s differ (Ended code gone) t = s.made r.item.n differ ∙ t
row_told_kept size k a a' r s differ (Withdrawn ask) t = (t.0, s.made r.item.n differ ∙ t.1, s.asked r.item.n differ ∙ t.2)

-- transfers of other numbers that left are told as before
pub parts_kept : (size k : ℕ) (a a' : Account) (gone : List Part) → TellsSame k a a' → times k (numbers gone) ≡ 0 → AllByRecursion (GoneTold size a) gone → AllByRecursion (GoneTold size a') gone
parts_kept size k a a' gone s none t = each_apart (GoneTold size a) (GoneTold size a') (λ x. x.n) k gone none (λ x differ told. gone_told_kept size k a a' x s differ x.fate told) t

-- the numbers of rows are their items'
row_number : (rows : List Row) → numbers (map part_of rows) ≡ map (λ r. r.item.n) rows
row_number [] = refl
row_number (r ∷ rows) = ap (λ l. r.item.n ∷ l) (row_number rows)

-- rows of other numbers are rows as before
pub rows_kept : (size : ℕ) (inward : Bool) (k : ℕ) (a a' : Account) (rows : List Row) → TellsSame k a a' → times k (numbers (map part_of rows)) ≡ 0 → AllByRecursion (IsRow size inward a) rows → AllByRecursion (IsRow size inward a') rows
rows_kept size inward k a a' rows s none t = each_apart (IsRow size inward a) (IsRow size inward a') (λ r. r.item.n) k rows (ap (times k) (sym (row_number rows)) ∙ none)
    (λ r differ row. record { fate = row.fate; body = row.body; told = row_told_kept size k a a' r s differ r.fate row.told }) t

-- a number of the account is below the next
pub below_next : (n next : ℕ) (a : Account) (ps : List Part) → ((k : ℕ) → next ≤ k → IsFresh k a ps) → 1 ≤ times n (numbers ps) → n < next
below_next n next a ps fresh some = by_order (cases_lt n next)
  where
    by_order : (n < next) ⊎ (next ≤ n) → n < next
    by_order (inl lt) = lt
    by_order (inr le) = absurd (omega (arith, some, (fresh n le).no_part))

-- numbers that are not given yet stay fresh
pub fresh_kept : (k next : ℕ) (a a' : Account) (ps ps' : List Part) → k < next → TellsSame k a a' → numbers ps' ≡ numbers ps → ((n : ℕ) → next ≤ n → IsFresh n a ps) → (n : ℕ) → next ≤ n → IsFresh n a' ps'
fresh_kept k next a a' ps ps' lt s same fresh n le =
    let f = fresh n le in
    let differ : n ≡ k → ⊥ = λ e. omega (arith, e, le, lt) in
    record { no_part = ap (times n) same ∙ f.no_part; no_result = s.made n differ ∙ f.no_result; no_ask = s.asked n differ ∙ f.no_ask }

-- the numbers of a row and of the others differ
pub row_apart : (gone : List Cell) (front back : List Row) (r : Row) → StandOnce (numbers (all_parts gone (front ++ r ∷ back)))
    → (times r.item.n (numbers (flat_map parts_of gone)) ≡ 0) × (times r.item.n (numbers (map part_of front)) ≡ 0) × (times r.item.n (numbers (map part_of back)) ≡ 0)
row_apart gone front back r d =
    let k : ℕ = r.item.n in
    let before : List ℕ = numbers (all_parts gone front) in
    let mid : numbers (all_parts gone (front ++ r ∷ back)) ≡ before ++ k ∷ numbers (map part_of back) = ap numbers (parts_mid gone front back r) ∙ map-append (λ x. x.n) (all_parts gone front) (part_of r ∷ map part_of back) in
    let p = distinct_mid k before (numbers (map part_of back)) (subst StandOnce mid d) in
    let parts : before ≡ numbers (flat_map parts_of gone) ++ numbers (map part_of front) = map-append (λ x. x.n) (flat_map parts_of gone) (map part_of front) in
    let both : times k (numbers (flat_map parts_of gone)) + times k (numbers (map part_of front)) ≡ 0 = omega (arith, p.0, ap (times k) parts, times-append k (numbers (flat_map parts_of gone)) (numbers (map part_of front))) in
    (omega (arith, both), omega (arith, both), p.1)

-- a row's number is in the ledger
pub row_there : (gone : List Cell) (front back : List Row) (r : Row) → 1 ≤ times r.item.n (numbers (all_parts gone (front ++ r ∷ back)))
row_there gone front back r =
    let k : ℕ = r.item.n in
    let before : List ℕ = numbers (all_parts gone front) in
    let mid : numbers (all_parts gone (front ++ r ∷ back)) ≡ before ++ k ∷ numbers (map part_of back) = ap numbers (parts_mid gone front back r) ∙ map-append (λ x. x.n) (all_parts gone front) (part_of r ∷ map part_of back) in
    omega (arith, ap (times k) mid, times-append k before (k ∷ numbers (map part_of back)), times_here k k (numbers (map part_of back)) refl)

-- a ledger with a row in the middle
pub record Mid (size : ℕ) (inward : Bool) (next : ℕ) (a : Account) (gone : List Cell) (rows front back : List Row) (r : Row) : Type 0 where
  pub cells : all_cells gone rows ≡ all_cells gone front ++ cell_of r ∷ map cell_of back
  pub parts : all_parts gone rows ≡ all_parts gone front ++ part_of r ∷ map part_of back
  pub apart : (times r.item.n (numbers (flat_map parts_of gone)) ≡ 0) × (times r.item.n (numbers (map part_of front)) ≡ 0) × (times r.item.n (numbers (map part_of back)) ≡ 0)
  pub below : r.item.n < next
  pub front_rows : AllByRecursion (IsRow size inward a) front
  pub row : IsRow size inward a r
  pub back_rows : AllByRecursion (IsRow size inward a) back
  pub front_fits : AllFit size false (all_cells gone front)
  pub row_fits : FitsFate size (stalled false (all_cells gone front)) (part_of r) r.fate
  pub back_fits : AllFit size (stalled false (all_cells gone front) || has_stall r.item.share) (map cell_of back)
  pub quiet : IsQuiet (front ++ r ∷ back)

-- what the ledger says about one row, and about those before it and behind it
pub mid_of : (size : ℕ) (inward : Bool) (next : ℕ) (script : List Response) (a : Account) (line : List Item) (left : List Response) (halted : Bool) (taken : List (List ℕ)) (front back : List Row) (r : Row)
    (h : Holds size inward next script a line left halted taken) → h.rows ≡ front ++ r ∷ back → Mid size inward next a h.gone h.rows front back r
mid_of size inward next script a line left halted taken front back r h is =
    let cells : List Cell = all_cells h.gone front in
    let was_cells : all_cells h.gone h.rows ≡ cells ++ cell_of r ∷ map cell_of back = ap (all_cells h.gone) is ∙ cells_mid h.gone front back r in
    let was_rows : AllByRecursion (IsRow size inward a) (front ++ r ∷ back) = subst (AllByRecursion (IsRow size inward a)) is h.each_row in
    let was_fit : AllFit size false (cells ++ cell_of r ∷ map cell_of back) = subst (AllFit size false) was_cells h.fits in
    let rest_fit = fits_behind size false cells (cell_of r ∷ map cell_of back) was_fit in
    let rest_rows = each_behind (IsRow size inward a) front (r ∷ back) was_rows in
    record {
      cells = was_cells;
      parts = ap (all_parts h.gone) is ∙ parts_mid h.gone front back r;
      apart = row_apart h.gone front back r (subst (λ l. StandOnce (numbers (all_parts h.gone l))) is h.distinct);
      below = below_next r.item.n next a (all_parts h.gone h.rows) h.fresh (subst (λ l. 1 ≤ times r.item.n (numbers (all_parts h.gone l))) (sym is) (row_there h.gone front back r));
      front_rows = each_front (IsRow size inward a) front (r ∷ back) was_rows;
      row = rest_rows.0;
      back_rows = rest_rows.1;
      front_fits = fits_front size false cells (cell_of r ∷ map cell_of back) was_fit;
      row_fits = rest_fit.0;
      back_fits = rest_fit.1;
      quiet = subst IsQuiet is h.quiet;
    }
