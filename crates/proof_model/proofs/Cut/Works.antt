-- What each kind of work does to the ledger of its endpoint.
use Rattle.std.proofs.Common.{Bool, List, Option, [], ap, append-nil, append_assoc, ap₂, false, map, refl, subst, sym, true, ℕ, ◌++◌, ◌||◌, ◌∙◌, ◌∷◌, ◌≡◌}
use Rattle.std.proofs.Math.Bool.{or-false}
use Rattle.std.specs.Prelude.{unwrap_or}
use Rattle.std.specs.List.{AllByRecursion, flat_map, list_all}
use Rattle.usb_model.specs.declared.response.Response.{Response}
use Rattle.usb_model.specs.declared.item.Ask.{Ask}
use Rattle.usb_model.specs.declared.item.Item.{Item}
use Rattle.usb_model.specs.declared.item.ItemState.TheVariants.{Blank, Served, Waiting}
use Rattle.usb_model.specs.declared.item.ItemState.{ItemState}
use Rattle.usb_model.specs.declared.request.Body.TheVariants.{In, Out}
use Rattle.usb_model.specs.declared.request.Body.{Body}
use Rattle.usb_model.specs.Laws.Account.{Account, Asked, End, Made}
use Rattle.usb_model.specs.Laws.Cut.{AllFit, Cell, Ended, Fate, FitsFate, Part, Waits, Withdrawn, accepted_as, asks_of, endpoint_of, has_stall, made_of, packets_taken, packets_taken_by, parts_of}
use Rattle.usb_model.specs.Direction.{is_of_direction}
use Rattle.usb_model.specs.Endpoint.{is_blank_state, is_waiting, is_waiting_state}
use Rattle.usb_model.specs.Endpoint.Packets.{open_with, outcome}
use Rattle.proof_model.proofs.Cut.Ledger.{Holds, IsFate, IsQuiet, IsRow, IsUntouched, Row, RowToldBy, all_cells, all_parts, cell_of, item_of, numbers, part_of, quiet_by, stalled}
use Rattle.proof_model.proofs.Cut.Rows.{Mid, TellsSame, cells_mid, fits_join, flat_mid_more, flat_mid_same, fresh_kept, map_mid, mid_of, parts_kept, parts_mid, rows_kept, stalled-append, tells_same, with_more, with_row}
use Rattle.proof_model.proofs.Lists.Times.{StandOnce}
use Rattle.proof_model.proofs.Lists.Parts.{each_append, each_behind}
use Rattle.proof_model.proofs.Shares.Cuts.{open_untouched}
use Rattle.proof_model.proofs.Shares.OpenShares.{outcome_nothing}

-- the packets taken of a part are read off its request and its share
same_packets : (size : ℕ) (r : Row) (state : ItemState) (ask : Option Ask) (fate : Fate) → packets_taken size (part_of (with_row r r.item.share state ask fate)) ≡ packets_taken size (part_of r)
same_packets size r state ask fate = by_body r.item.request.body
  where
    by_body : (body : Body) → packets_taken_by size (part_of (with_row r r.item.share state ask fate)) body ≡ packets_taken_by size (part_of r) body
    by_body (In n) = refl
    by_body (Out bytes) = refl

-- a row is untouched by its share and its end
untouched_same : (r : Row) (state : ItemState) (ask : Option Ask) (fate : Fate) → endpoint_of r.item.n fate ≡ endpoint_of r.item.n r.fate → IsUntouched r → IsUntouched (with_row r r.item.share state ask fate)
untouched_same r state ask fate e u = (u.0, e ∙ u.1)

-- one element replaced, of which the same holds
each_mid : {A : Type 0} (P : A → Type 0) (xs : List A) (x y : A) (ys : List A) → (P x → P y) → AllByRecursion P (xs ++ x ∷ ys) → AllByRecursion P (xs ++ y ∷ ys)
each_mid P [] x y ys f p = (f p.0, p.1)
each_mid P (z ∷ zs) x y ys f p = (p.0, each_mid P zs x y ys f p.1)

-- a row replaced by one that is as quiet
quiet_mid : (front back : List Row) (r s : Row) → (IsUntouched r → IsUntouched s) → (quiet_by r.item.state back (IsQuiet back) → quiet_by s.item.state back (IsQuiet back)) → IsQuiet (front ++ r ∷ back) → IsQuiet (front ++ s ∷ back)
quiet_mid [] back r s f g q = g q
quiet_mid (z ∷ front) back r s f g q = by_state z.item.state q (quiet_mid front back r s f g)
  where
    by_state : (t : ItemState) → quiet_by t (front ++ r ∷ back) (IsQuiet (front ++ r ∷ back)) → (IsQuiet (front ++ r ∷ back) → IsQuiet (front ++ s ∷ back)) → quiet_by t (front ++ s ∷ back) (IsQuiet (front ++ s ∷ back))
    by_state Waiting q rest = each_mid IsUntouched front r s back f q
    by_state (Served code) q rest = rest q
    by_state Blank q rest = rest q

-- rows of which nothing was taken are quiet
pub untouched_quiet : (rows : List Row) → AllByRecursion IsUntouched rows → IsQuiet rows
untouched_quiet [] u = tt
untouched_quiet (r ∷ rows) u = by_state r.item.state (untouched_quiet rows u.1)
  where
    by_state : (s : ItemState) → IsQuiet rows → quiet_by s rows (IsQuiet rows)
    by_state Waiting rest = u.1
    by_state (Served code) rest = rest
    by_state Blank rest = rest

-- a row keeps its share, and its end; asked and made: what joins the account, of its number
pub record Alters (size : ℕ) (inward : Bool) (a : Account) (back : List Row) (r : Row) (state : ItemState) (ask : Option Ask) (fate : Fate) (asked : List Asked) (made : List Made) : Type 0 where
  pub fits : (behind : Bool) → FitsFate size behind (part_of r) r.fate → FitsFate size behind (part_of (with_row r r.item.share state ask fate)) fate
  pub end : endpoint_of r.item.n fate ≡ endpoint_of r.item.n r.fate
  pub asked_its : AllByRecursion (λ q. q.n ≡ r.item.n) asked
  pub made_its : AllByRecursion (λ m. m.result.n ≡ r.item.n) made
  pub row : IsRow size inward (with_more a [] asked [] made) (with_row r r.item.share state ask fate)
  pub quiet : quiet_by r.item.state back (IsQuiet back) → quiet_by state back (IsQuiet back)

-- a row whose share stays is replaced, and what is asked or made is added to the account
pub holds_altered : (size : ℕ) (inward : Bool) (next : ℕ) (script : List Response) (a : Account) (line line' : List Item) (left : List Response) (halted : Bool) (taken : List (List ℕ))
    (front back : List Row) (r : Row) (state : ItemState) (ask : Option Ask) (fate : Fate) (asked : List Asked) (made : List Made) (h : Holds size inward next script a line left halted taken) → h.rows ≡ front ++ r ∷ back
    → Alters size inward a back r state ask fate asked made → map item_of (front ++ with_row r r.item.share state ask fate ∷ back) ≡ line'
    → Holds size inward next script (with_more a [] asked [] made) line' left halted taken
holds_altered size inward next script a line line' left halted taken front back r state ask fate asked made h is alters becomes = record {
  gone = h.gone;
  rows = front ++ s ∷ back;
  is_line = becomes;
  all = ap (map accepted_as) (cells_mid h.gone front back s) ∙ (map_mid accepted_as cells (cell_of r) (cell_of s) (map cell_of back) refl ∙ (ap (map accepted_as) (sym m.cells) ∙ (h.all ∙ sym (append-nil a.accepted))));
  distinct = subst StandOnce (sym same_numbers) h.distinct;
  fresh = fresh_kept k next a a' (all_parts h.gone h.rows) (all_parts h.gone (front ++ s ∷ back)) m.below tells same_numbers h.fresh;
  shares = ap (λ l. l ++ left) (flat_same (λ x. x.share) refl) ∙ h.shares;
  fits = subst (AllFit size false) (sym (cells_mid h.gone front back s)) (fits_join size false cells (cell_of s ∷ map cell_of back) m.front_fits (alters.fits (stalled false cells) m.row_fits, m.back_fits));
  halt = h.halt ∙ (ap (stalled false) m.cells ∙ (stalled-append false cells (cell_of r ∷ map cell_of back) ∙ (sym (stalled-append false cells (cell_of s ∷ map cell_of back)) ∙ ap (stalled false) (sym (cells_mid h.gone front back s)))));
  ended = flat_same (λ x. endpoint_of x.n x.fate) alters.end ∙ (h.ended ∙ sym (append-nil a.ended));
  packets = flat_same (packets_taken size) (same_packets size r state ask fate) ∙ h.packets;
  gone_told = parts_kept size k a a' (flat_map parts_of h.gone) tells m.apart.0 h.gone_told;
  each_row = each_append (IsRow size inward a') front (s ∷ back) (rows_kept size inward k a a' front tells m.apart.1 m.front_rows) (alters.row, rows_kept size inward k a a' back tells m.apart.2 m.back_rows);
  quiet = quiet_mid front back r s (untouched_same r state ask fate alters.end) alters.quiet m.quiet;
  kinds = h.kinds;
}
  where
    k : ℕ
    k = r.item.n

    s : Row
    s = with_row r r.item.share state ask fate

    a' : Account
    a' = with_more a [] asked [] made

    cells : List Cell
    cells = all_cells h.gone front

    m : Mid size inward next a h.gone h.rows front back r
    m = mid_of size inward next script a line left halted taken front back r h is

    flat_same : {B : Type 0} (f : Part → List B) → f (part_of s) ≡ f (part_of r) → flat_map f (all_parts h.gone (front ++ s ∷ back)) ≡ flat_map f (all_parts h.gone h.rows)
    flat_same f e = ap (flat_map f) (parts_mid h.gone front back s) ∙ (flat_mid_same f (all_parts h.gone front) (part_of r) (part_of s) (map part_of back) e ∙ ap (flat_map f) (sym m.parts))

    same_numbers : numbers (all_parts h.gone (front ++ s ∷ back)) ≡ numbers (all_parts h.gone h.rows)
    same_numbers = ap numbers (parts_mid h.gone front back s) ∙ (map_mid (λ x. x.n) (all_parts h.gone front) (part_of r) (part_of s) (map part_of back) refl ∙ ap numbers (sym m.parts))

    tells : TellsSame k a a'
    tells = tells_same k a [] asked [] made alters.asked_its alters.made_its

-- behind what was touched last, nothing was
untouched_shares : (rows : List Row) → AllByRecursion IsUntouched rows → flat_map (λ x. x.share) (map part_of rows) ≡ []
untouched_shares [] u = refl
untouched_shares (r ∷ rows) u = ap₂ (λ k l. k ++ l) u.0.0 (untouched_shares rows u.1)

-- untouched rows tell no end
untouched_ends : (rows : List Row) → AllByRecursion IsUntouched rows → flat_map (λ x. endpoint_of x.n x.fate) (map part_of rows) ≡ []
untouched_ends [] u = refl
untouched_ends (r ∷ rows) u = ap₂ (λ k l. k ++ l) u.0.1 (untouched_ends rows u.1)

-- an empty share has no packets
pub no_packets : (size : ℕ) (x : Part) → x.share ≡ [] → packets_taken size x ≡ []
no_packets size x none = by_body x.request.body
  where
    by_body : (body : Body) → packets_taken_by size x body ≡ []
    by_body (In n) = refl
    by_body (Out bytes) = ap (λ l. (unwrap_or (outcome x.request size l false) (open_with [])).packets) none ∙ ap (λ o. (unwrap_or o (open_with [])).packets) (outcome_nothing x.request size)

-- untouched rows have no packets
untouched_packets : (size : ℕ) (rows : List Row) → AllByRecursion IsUntouched rows → flat_map (packets_taken size) (map part_of rows) ≡ []
untouched_packets size [] u = refl
untouched_packets size (r ∷ rows) u = ap₂ (λ k l. k ++ l) (no_packets size (part_of r) u.0.0) (untouched_packets size rows u.1)

-- an empty share fits what has not ended
untouched_fits : (size : ℕ) (behind : Bool) (r : Row) → r.item.share ≡ [] → (f : Fate) → endpoint_of r.item.n f ≡ [] → FitsFate size behind (part_of r) f
untouched_fits size behind r none Waits e = open_untouched size behind (part_of r) none
untouched_fits size behind r none (Withdrawn ask) e = open_untouched size behind (part_of r) none
untouched_fits size behind r none (Ended code gone) e = absurd cc

-- untouched rows fit
all_untouched_fit : (size : ℕ) (behind : Bool) (rows : List Row) → AllByRecursion IsUntouched rows → AllFit size behind (map cell_of rows)
all_untouched_fit size behind [] u = tt
all_untouched_fit size behind (r ∷ rows) u = (untouched_fits size behind r u.0.0 r.fate u.0.1, all_untouched_fit size (behind || has_stall r.item.share) rows u.1)

-- untouched rows have no stall
pub untouched_flag : (behind : Bool) (rows : List Row) → AllByRecursion IsUntouched rows → stalled behind (map cell_of rows) ≡ behind
untouched_flag behind [] u = refl
untouched_flag behind (r ∷ rows) u =
    untouched_flag (behind || has_stall r.item.share) rows u.1 ∙ (ap (λ l. behind || has_stall l) u.0.0 ∙ or-false behind)

-- a beginning of which none waits
quiet_front : (front rows : List Row) → AllByRecursion (λ r. is_waiting r.item ≡ false) front → IsQuiet rows → IsQuiet (front ++ rows)
quiet_front [] rows none q = q
quiet_front (r ∷ front) rows none q = by_state r.item.state none.0 (quiet_front front rows none.1 q)
  where
    by_state : (s : ItemState) → is_waiting_state s ≡ false → IsQuiet (front ++ rows) → quiet_by s (front ++ rows) (IsQuiet (front ++ rows))
    by_state Waiting e rest = absurd cc
    by_state (Served code) e rest = rest
    by_state Blank e rest = rest

-- what stands behind is quiet too
pub quiet_behind : (front rows : List Row) → IsQuiet (front ++ rows) → IsQuiet rows
quiet_behind [] rows q = q
quiet_behind (r ∷ front) rows q = by_state r.item.state q (quiet_behind front rows)
  where
    by_state : (s : ItemState) → quiet_by s (front ++ rows) (IsQuiet (front ++ rows)) → (IsQuiet (front ++ rows) → IsQuiet rows) → IsQuiet rows
    by_state Waiting u rest = untouched_quiet rows (each_behind IsUntouched front rows u)
    by_state (Served code) u rest = rest u
    by_state Blank u rest = rest u

-- what is told of a row, where the account tells the same
row_told_as : (size : ℕ) (a a' : Account) (r : Row) → a'.made ≡ a.made → a'.asked ≡ a.asked → (f : Fate) → RowToldBy size a r f → RowToldBy size a' r f
row_told_as size a a' r made asked Waits t = (ap (made_of r.item.n) made ∙ t.0, ap (asks_of r.item.n) asked ∙ t.1)
row_told_as size a a' r made asked (Ended code gone) t = ap (made_of r.item.n) made ∙ t
row_told_as size a a' r made asked (Withdrawn ask) t = (t.0, ap (made_of r.item.n) made ∙ t.1, ap (asks_of r.item.n) asked ∙ t.2)

-- behind a row that was served all are untouched
quiet_served : (state : ItemState) (back : List Row) → AllByRecursion IsUntouched back → is_blank_state state ≡ false → quiet_by state back (IsQuiet back)
quiet_served Waiting back u live = u
quiet_served (Served code) back u live = untouched_quiet back u
quiet_served Blank back u live = absurd cc

-- the first row that waits takes more answers; ended and packets: what that ends, and what the device takes
pub record Serves (size : ℕ) (inward : Bool) (a : Account) (left left' : List Response) (halted' behind : Bool) (front back : List Row) (r : Row) (more : List Response) (state : ItemState) (fate : Fate) (ended : List End) (packets : List (List ℕ)) : Type 0 where
  pub none_before : AllByRecursion (λ x. is_waiting x.item ≡ false) front
  pub waits : r.item.state ≡ Waiting
  pub live : is_blank_state state ≡ false
  pub fate_fits : IsFate state fate
  pub fits : FitsFate size behind (part_of (with_row r (r.item.share ++ more) state r.item.ask fate)) fate
  pub flag : halted' ≡ (behind || has_stall (r.item.share ++ more))
  pub end : endpoint_of r.item.n fate ≡ ended
  pub packets_received : packets_taken size (part_of (with_row r (r.item.share ++ more) state r.item.ask fate)) ≡ packets_taken size (part_of r) ++ packets
  pub told : RowToldBy size a (with_row r (r.item.share ++ more) state r.item.ask fate) fate
  pub left_is : left ≡ more ++ left'
  pub kinds : list_all (is_of_direction inward) left' ≡ true

-- the first row that waits is served: its share grows, and its end is added to the account
pub holds_served : (size : ℕ) (inward : Bool) (next : ℕ) (script : List Response) (a : Account) (line line' : List Item) (left left' : List Response) (halted halted' : Bool) (taken : List (List ℕ))
    (front back : List Row) (r : Row) (more : List Response) (state : ItemState) (fate : Fate) (ended : List End) (packets : List (List ℕ)) (h : Holds size inward next script a line left halted taken) → h.rows ≡ front ++ r ∷ back
    → Serves size inward a left left' halted' (stalled false (all_cells h.gone front)) front back r more state fate ended packets → map item_of (front ++ with_row r (r.item.share ++ more) state r.item.ask fate ∷ back) ≡ line'
    → Holds size inward next script (with_more a [] [] ended []) line' left' halted' (taken ++ packets)
holds_served size inward next script a line line' left left' halted halted' taken front back r more state fate ended packets h is serves becomes = record {
  gone = h.gone;
  rows = front ++ s ∷ back;
  is_line = becomes;
  all = ap (map accepted_as) (cells_mid h.gone front back s) ∙ (map_mid accepted_as cells (cell_of r) (cell_of s) (map cell_of back) refl ∙ (ap (map accepted_as) (sym m.cells) ∙ (h.all ∙ sym (append-nil a.accepted))));
  distinct = subst StandOnce (sym same_numbers) h.distinct;
  fresh = fresh_kept k next a a' (all_parts h.gone h.rows) (all_parts h.gone (front ++ s ∷ back)) m.below tells same_numbers h.fresh;
  shares = ap (λ l. l ++ left') (flat_more (λ x. x.share) more refl (untouched_shares back untouched)) ∙ (append_assoc _ more left' ∙ (ap (λ l. flat_map (λ x. x.share) (all_parts h.gone h.rows) ++ l) (sym serves.left_is) ∙ h.shares));
  fits = subst (AllFit size false) (sym (cells_mid h.gone front back s)) (fits_join size false cells (cell_of s ∷ map cell_of back) m.front_fits (serves.fits, all_untouched_fit size (stalled false cells || has_stall s.item.share) back untouched));
  halt = serves.flag ∙ (sym (untouched_flag (stalled false cells || has_stall s.item.share) back untouched) ∙ (sym (stalled-append false cells (cell_of s ∷ map cell_of back)) ∙ ap (stalled false) (sym (cells_mid h.gone front back s))));
  ended = flat_more (λ x. endpoint_of x.n x.fate) ended (serves.end ∙ ap (λ f. endpoint_of k f ++ ended) (sym was_waiting)) (untouched_ends back untouched) ∙ ap (λ l. l ++ ended) h.ended;
  packets = flat_more (packets_taken size) packets serves.packets_received (untouched_packets size back untouched) ∙ ap (λ l. l ++ packets) h.packets;
  gone_told = parts_kept size k a a' (flat_map parts_of h.gone) tells m.apart.0 h.gone_told;
  each_row = each_append (IsRow size inward a') front (s ∷ back) (rows_kept size inward k a a' front tells m.apart.1 m.front_rows)
      (record { fate = serves.fate_fits; body = m.row.body; told = row_told_as size a a' s (append-nil a.made) (append-nil a.asked) fate serves.told }, rows_kept size inward k a a' back tells m.apart.2 m.back_rows);
  quiet = quiet_front front (s ∷ back) serves.none_before (quiet_served state back untouched serves.live);
  kinds = serves.kinds;
}
  where
    k : ℕ
    k = r.item.n

    s : Row
    s = with_row r (r.item.share ++ more) state r.item.ask fate

    a' : Account
    a' = with_more a [] [] ended []

    cells : List Cell
    cells = all_cells h.gone front

    m : Mid size inward next a h.gone h.rows front back r
    m = mid_of size inward next script a line left halted taken front back r h is

    was_waiting : r.fate ≡ Waits
    was_waiting = subst (λ t. IsFate t r.fate) serves.waits m.row.fate

    untouched : AllByRecursion IsUntouched back
    untouched = subst (λ t. quiet_by t back (IsQuiet back)) serves.waits (quiet_behind front (r ∷ back) m.quiet)

    flat_more : {B : Type 0} (f : Part → List B) (new : List B) → f (part_of s) ≡ f (part_of r) ++ new → flat_map f (map part_of back) ≡ [] → flat_map f (all_parts h.gone (front ++ s ∷ back)) ≡ flat_map f (all_parts h.gone h.rows) ++ new
    flat_more f new e none =
        ap (flat_map f) (parts_mid h.gone front back s)
        ∙ (flat_mid_more f (all_parts h.gone front) (part_of r) (part_of s) (map part_of back) new e none ∙ ap (λ l. flat_map f l ++ new) (sym m.parts))

    same_numbers : numbers (all_parts h.gone (front ++ s ∷ back)) ≡ numbers (all_parts h.gone h.rows)
    same_numbers = ap numbers (parts_mid h.gone front back s) ∙ (map_mid (λ x. x.n) (all_parts h.gone front) (part_of r) (part_of s) (map part_of back) refl ∙ ap numbers (sym m.parts))

    tells : TellsSame k a a'
    tells = tells_same k a [] [] ended [] tt tt
