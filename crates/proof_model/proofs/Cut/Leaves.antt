-- Rows join a ledger's line, and leave it.
use Rattle.std.proofs.Common.{Bool, List, None, Option, [], ap, append-nil, append_assoc, ap₂, arith, false, length, map, refl, subst, sym, true, ℕ, ◌++◌, ◌+◌, ◌==◌, ◌∙◌, ◌∷◌, ◌≡◌, ◌≤◌}
use Rattle.std.proofs.Math.Bool.{or-false}
use Rattle.std.proofs.lemmas.Grind.{flat_map-append}
use Rattle.std.proofs.lemmas.List.{map-append}
use Rattle.std.proofs.lemmas.List.Elements.{filter-append}
use Rattle.std.specs.List.{AllByRecursion, flat_map}
use Rattle.usb_model.specs.declared.response.Response.{Response}
use Rattle.usb_model.specs.declared.item.Ask.{Ask}
use Rattle.usb_model.specs.declared.item.Item.{Item}
use Rattle.usb_model.specs.declared.item.ItemState.TheVariants.{Blank, Served, Waiting}
use Rattle.usb_model.specs.declared.item.ItemState.{ItemState}
use Rattle.usb_model.specs.declared.request.Request.{Request}
use Rattle.usb_model.specs.Laws.Account.{Account, Clearing, Made, Transfer}
use Rattle.usb_model.specs.Laws.Cut.{AllFit, Cell, Cleared, Part, Waits, accepted_as, asks_of, endpoint_of, made_of, packets_taken, parts_of, times, told}
use Rattle.usb_model.specs.Endpoint.{fresh, new_item, outcome_of, result_of}
use Rattle.usb_model.specs.Endpoint.Packets.{count_of}
use Rattle.usb_model.specs.Requests.{is_short_not_ok, length_of}
use Rattle.usb_model.specs.Endpoint.Status.{told_status, status_of}
use Rattle.proof_model.proofs.Cut.Ledger.{GoneTold, GoneToldBy, Holds, KnowsGone, IsFate, IsFresh, IsQuiet, IsRow, IsUntouched, Row, RowToldBy, all_cells, all_parts, cell_of, item_of, numbers, part_of, parts_of_cells, quiet_by, stalled}
use Rattle.proof_model.proofs.Cut.Rows.{Mid, TellsSame, cells_mid, fits_join, fresh_kept, mid_of, parts_kept, parts_mid, rows_kept, stalled-append, tells_same, with_more}
use Rattle.proof_model.proofs.Cut.Works.{no_packets, quiet_behind}
use Rattle.proof_model.proofs.Lists.Times.{StandOnce, distinct_push, times-append, times_none}
use Rattle.proof_model.proofs.Lists.Parts.{each_append, each_behind, each_front}
use Rattle.proof_model.proofs.Shares.Cuts.{open_untouched}
use Rattle.usb_model.specs.Direction.{IsBody}
use Rattle.proof_model.proofs.Lists.Pieces.{same_name}

-- the front of the line becomes cells by themselves
left_cells : (gone : List Cell) (front back : List Row) → all_cells (gone ++ map cell_of front) back ≡ all_cells gone (front ++ back)
left_cells gone front back = append_assoc gone (map cell_of front) (map cell_of back) ∙ ap (λ l. gone ++ l) (sym (map-append cell_of front back))

-- rows that leave the line are parts still
left_parts : (gone : List Cell) (front back : List Row) → all_parts (gone ++ map cell_of front) back ≡ all_parts gone (front ++ back)
left_parts gone front back =
    ap (λ l. l ++ map part_of back) (parts_of_cells gone front)
    ∙ (append_assoc (flat_map parts_of gone) (map part_of front) (map part_of back) ∙ ap (λ l. flat_map parts_of gone ++ l) (sym (map-append part_of front back)))

-- with what is told then
holds_leave : (size : ℕ) (inward : Bool) (next : ℕ) (script : List Response) (a a' : Account) (line line' : List Item) (left : List Response) (halted : Bool) (taken : List (List ℕ)) (front back : List Row)
    (h : Holds size inward next script a line left halted taken) → h.rows ≡ front ++ back → map item_of back ≡ line' → a'.accepted ≡ a.accepted → a'.ended ≡ a.ended
    → ((n : ℕ) → next ≤ n → IsFresh n a' (all_parts h.gone h.rows)) → AllByRecursion (GoneTold size a') (flat_map parts_of h.gone) → AllByRecursion (GoneTold size a') (map part_of front) → AllByRecursion (IsRow size inward a') back
    → Holds size inward next script a' line' left halted taken
holds_leave size inward next script a a' line line' left halted taken front back h is becomes accepted ended fresh told_gone told_front rows =
    let cells : all_cells (h.gone ++ map cell_of front) back ≡ all_cells h.gone h.rows = left_cells h.gone front back ∙ ap (all_cells h.gone) (sym is) in
    let parts : all_parts (h.gone ++ map cell_of front) back ≡ all_parts h.gone h.rows = left_parts h.gone front back ∙ ap (all_parts h.gone) (sym is) in
    record {
      gone = h.gone ++ map cell_of front;
      rows = back;
      is_line = becomes;
      all = ap (map accepted_as) cells ∙ (h.all ∙ sym accepted);
      distinct = subst (λ l. StandOnce (numbers l)) (sym parts) h.distinct;
      fresh = λ n le. subst (IsFresh n a') (sym parts) (fresh n le);
      shares = ap (λ l. flat_map (λ x. x.share) l ++ left) parts ∙ h.shares;
      fits = subst (AllFit size false) (sym cells) h.fits;
      halt = h.halt ∙ ap (stalled false) (sym cells);
      ended = ap (flat_map (λ x. endpoint_of x.n x.fate)) parts ∙ (h.ended ∙ sym ended);
      packets = ap (flat_map (packets_taken size)) parts ∙ h.packets;
      gone_told = subst (AllByRecursion (GoneTold size a')) (sym (parts_of_cells h.gone front)) (each_append (GoneTold size a') (flat_map parts_of h.gone) (map part_of front) told_gone told_front);
      each_row = rows;
      quiet = quiet_behind front back (subst IsQuiet is h.quiet);
      kinds = h.kinds;
    }

-- a blank's result was made
blank_told : (size : ℕ) (inward : Bool) (a : Account) (r : Row) → r.item.state ≡ Blank → IsRow size inward a r → GoneTold size a (part_of r)
blank_told size inward a r blank row =
    let f : IsFate Blank r.fate = subst (λ s. IsFate s r.fate) blank row.fate in
    subst (GoneToldBy size a (part_of r)) (sym f.1) (subst (RowToldBy size a r) f.1 row.told)

-- blanks are told, as those that left the line are
blanks_told : (size : ℕ) (inward : Bool) (a : Account) (rows : List Row) → AllByRecursion (λ r. r.item.state ≡ Blank) rows → AllByRecursion (IsRow size inward a) rows → AllByRecursion (GoneTold size a) (map part_of rows)
blanks_told size inward a [] blank each = tt
blanks_told size inward a (r ∷ rows) blank each = (blank_told size inward a r blank.0 each.0, blanks_told size inward a rows blank.1 each.1)

-- blanks leave
pub holds_blanks : (size : ℕ) (inward : Bool) (next : ℕ) (script : List Response) (a : Account) (line line' : List Item) (left : List Response) (halted : Bool) (taken : List (List ℕ)) (front back : List Row)
    (h : Holds size inward next script a line left halted taken) → h.rows ≡ front ++ back → map item_of back ≡ line' → AllByRecursion (λ r. r.item.state ≡ Blank) front → Holds size inward next script a line' left halted taken
holds_blanks size inward next script a line line' left halted taken front back h is becomes blank =
    let each : AllByRecursion (IsRow size inward a) (front ++ back) = subst (AllByRecursion (IsRow size inward a)) is h.each_row in
    holds_leave size inward next script a a line line' left halted taken front back h is becomes refl refl h.fresh h.gone_told
    (blanks_told size inward a front blank (each_front (IsRow size inward a) front back each)) (each_behind (IsRow size inward a) front back each)

-- the ask tells only of what was withdrawn
no_ask : (gone : Bool) (code : ℕ) (ask : Option Ask) (short_not_ok : Bool) (length actual : ℕ) → (code == 26) ≡ false → told_status gone code ask short_not_ok length actual ≡ told_status gone code None short_not_ok length actual
unfolding told_status status_of
no_ask gone code ask short_not_ok length actual is = rw is refl

-- the first transfer that is no blank leaves with its result, and the blanks before it
pub holds_finished : (size : ℕ) (inward : Bool) (next : ℕ) (script : List Response) (a : Account) (line line' : List Item) (left : List Response) (halted : Bool) (taken : List (List ℕ)) (front back : List Row) (r : Row) (code : ℕ) (gone : Bool)
    (h : Holds size inward next script a line left halted taken) → h.rows ≡ front ++ r ∷ back → map item_of back ≡ line' → AllByRecursion (λ x. x.item.state ≡ Blank) front → r.item.state ≡ Served code → KnowsGone gone a
    → Holds size inward next script (with_more a [] [] [] (record { result = result_of size gone code r.item; gone = gone } ∷ [])) line' left halted taken
holds_finished size inward next script a line line' left halted taken front back r code gone h is becomes blank served known =
    holds_leave size inward next script a a' line line' left halted taken (front ++ r ∷ []) back h (is ∙ sym (append_assoc front (r ∷ []) back)) becomes (append-nil a.accepted) (append-nil a.ended)
    (fresh_kept k next a a' (all_parts h.gone h.rows) (all_parts h.gone h.rows) m.below tells refl h.fresh) (parts_kept size k a a' (flat_map parts_of h.gone) tells m.apart.0 h.gone_told)
    (subst (AllByRecursion (GoneTold size a')) (sym (map-append part_of front (r ∷ [])))
    (each_append (GoneTold size a') (map part_of front) (part_of r ∷ []) (parts_kept size k a a' (map part_of front) tells m.apart.1 (blanks_told size inward a front blank m.front_rows)) (told_now, tt)))
    (rows_kept size inward k a a' back tells m.apart.2 m.back_rows)
  where
    k : ℕ
    k = r.item.n

    made : Made
    made = record { result = result_of size gone code r.item; gone = gone }

    a' : Account
    a' = with_more a [] [] [] (made ∷ [])

    m : Mid size inward next a h.gone h.rows front back r
    m = mid_of size inward next script a line left halted taken front back r h is

    tells : TellsSame k a a'
    tells = tells_same k a [] [] [] (made ∷ []) tt (refl, tt)

    f : IsFate (Served code) r.fate
    f = subst (λ s. IsFate s r.fate) served m.row.fate

    none_before : made_of k a.made ≡ []
    none_before = subst (RowToldBy size a r) f.1 m.row.told

    -- its end is in the account
    gone_still : f.0 ≡ true → gone ≡ true
    gone_still =
        let all : AllByRecursion (λ x. x.gone ≡ true → gone ≡ true) (flat_map (λ x. endpoint_of x.n x.fate) (all_parts h.gone front) ++ (endpoint_of k r.fate ++ flat_map (λ x. endpoint_of x.n x.fate) (map part_of back))) =
        subst (AllByRecursion (λ x. x.gone ≡ true → gone ≡ true))
        (sym h.ended ∙ (ap (flat_map (λ x. endpoint_of x.n x.fate)) m.parts ∙ flat_map-append (λ x. endpoint_of x.n x.fate) (all_parts h.gone front) (part_of r ∷ map part_of back))) known in
        (subst (λ t. AllByRecursion (λ x. x.gone ≡ true → gone ≡ true) (endpoint_of k t ++ flat_map (λ x. endpoint_of x.n x.fate) (map part_of back))) f.1
        (each_behind (λ x. x.gone ≡ true → gone ≡ true) (flat_map (λ x. endpoint_of x.n x.fate) (all_parts h.gone front)) (endpoint_of k r.fate ++ flat_map (λ x. endpoint_of x.n x.fate) (map part_of back)) all)).0

    -- the ask is of no matter to an end at the device
    same_result : result_of size gone code r.item ≡ told size gone code None (part_of r)
    same_result = ap (λ s. record (result_of size gone code r.item) { status = s }) (no_ask gone code r.item.ask (is_short_not_ok r.item.request) (length_of r.item.request.body) (count_of (outcome_of size r.item)) f.2)

    told_now : GoneTold size a' (part_of r)
    told_now = subst (GoneToldBy size a' (part_of r)) (sym f.1)
        (gone, gone_still, filter-append (λ x. x.result.n == k) a.made (made ∷ []) ∙ (ap₂ (λ l n. l ++ n) none_before (rw (same_name k) refl) ∙ ap (λ x. record { result = x; gone = gone } ∷ []) same_result))

-- a transfer joins the line
quiet_push : (rows : List Row) (r : Row) → IsUntouched r → r.item.state ≡ Waiting → IsQuiet rows → IsQuiet (rows ++ r ∷ [])
quiet_push [] r u waits q = subst (λ s. quiet_by s [] (Unit {0})) (sym waits) tt
quiet_push (z ∷ rows) r u waits q = by_state z.item.state q (quiet_push rows r u waits)
  where
    by_state : (s : ItemState) → quiet_by s rows (IsQuiet rows) → (IsQuiet rows → IsQuiet (rows ++ r ∷ [])) → quiet_by s (rows ++ r ∷ []) (IsQuiet (rows ++ r ∷ []))
    by_state Waiting q rest = each_append IsUntouched rows (r ∷ []) q (u, tt)
    by_state (Served code) q rest = rest q
    by_state Blank q rest = rest q

-- a new transfer joins the line
pub holds_submitted : (size : ℕ) (inward : Bool) (next : ℕ) (script : List Response) (a : Account) (line : List Item) (left : List Response) (halted : Bool) (taken : List (List ℕ)) (request : Request) (round : ℕ)
    → IsBody inward request.body → Holds size inward next script a line left halted taken
    → Holds size inward (next + 1) script (with_more a (Transfer next request round ∷ []) [] [] []) (line ++ new_item next request round ∷ []) left halted taken
holds_submitted size inward next script a line left halted taken request round body h = record {
  gone = h.gone;
  rows = h.rows ++ r ∷ [];
  is_line = map-append item_of h.rows (r ∷ []) ∙ ap (λ l. l ++ new_item next request round ∷ []) h.is_line;
  all = ap (map accepted_as) cells ∙ (map-append accepted_as (all_cells h.gone h.rows) (cell_of r ∷ []) ∙ ap (λ l. l ++ Transfer next request round ∷ []) h.all);
  distinct = subst StandOnce (sym new_numbers) (distinct_push next (numbers (all_parts h.gone h.rows)) h.distinct f.no_part);
  fresh = λ n le.
      let g = h.fresh n (omega (arith, le)) in
      record {
        no_part = ap (times n) new_numbers ∙ omega (arith, times-append n (numbers (all_parts h.gone h.rows)) (next ∷ []), g.no_part, times_none n next (λ same. omega (arith, same, le)));
        no_result = ap (made_of n) (append-nil a.made) ∙ g.no_result;
        no_ask = ap (asks_of n) (append-nil a.asked) ∙ g.no_ask;
      };
  shares = ap (λ l. l ++ left) (nothing_more (λ x. x.share) refl) ∙ h.shares;
  fits = subst (AllFit size false) (sym cells) (fits_join size false (all_cells h.gone h.rows) (cell_of r ∷ []) h.fits (open_untouched size (stalled false (all_cells h.gone h.rows)) (part_of r) refl, tt));
  halt = h.halt ∙ (sym (or-false (stalled false (all_cells h.gone h.rows))) ∙ (sym (stalled-append false (all_cells h.gone h.rows) (cell_of r ∷ [])) ∙ ap (stalled false) (sym cells)));
  ended = nothing_more (λ x. endpoint_of x.n x.fate) refl ∙ (h.ended ∙ sym (append-nil a.ended));
  packets = nothing_more (packets_taken size) (no_packets size (part_of r) refl) ∙ h.packets;
  gone_told = parts_kept size next a a' (flat_map parts_of h.gone) tells (omega (arith, both)) h.gone_told;
  each_row = each_append (IsRow size inward a') h.rows (r ∷ []) (rows_kept size inward next a a' h.rows tells (omega (arith, both)) h.each_row)
      (record { fate = refl; body = body; told = (ap (made_of next) (append-nil a.made) ∙ f.no_result, ap (asks_of next) (append-nil a.asked) ∙ f.no_ask) }, tt);
  quiet = quiet_push h.rows r (refl, refl) refl h.quiet;
  kinds = h.kinds;
}
  where
    r : Row
    r = record { item = new_item next request round; fate = Waits }

    a' : Account
    a' = with_more a (Transfer next request round ∷ []) [] [] []

    f : IsFresh next a (all_parts h.gone h.rows)
    f = h.fresh next (omega arith)

    cells : all_cells h.gone (h.rows ++ r ∷ []) ≡ all_cells h.gone h.rows ++ cell_of r ∷ []
    cells = cells_mid h.gone h.rows [] r

    parts : all_parts h.gone (h.rows ++ r ∷ []) ≡ all_parts h.gone h.rows ++ part_of r ∷ []
    parts = parts_mid h.gone h.rows [] r

    new_numbers : numbers (all_parts h.gone (h.rows ++ r ∷ [])) ≡ numbers (all_parts h.gone h.rows) ++ next ∷ []
    new_numbers = ap numbers parts ∙ map-append (λ x. x.n) (all_parts h.gone h.rows) (part_of r ∷ [])

    nothing_more : {B : Type 0} (g : Part → List B) → g (part_of r) ≡ [] → flat_map g (all_parts h.gone (h.rows ++ r ∷ [])) ≡ flat_map g (all_parts h.gone h.rows)
    nothing_more g none =
        ap (flat_map g) parts ∙ (flat_map-append g (all_parts h.gone h.rows) (part_of r ∷ []) ∙ (ap (λ l. flat_map g (all_parts h.gone h.rows) ++ (l ++ [])) none ∙ append-nil (flat_map g (all_parts h.gone h.rows))))

    tells : TellsSame next a a'
    tells = tells_same next a (Transfer next request round ∷ []) [] [] [] tt tt

    both : times next (numbers (flat_map parts_of h.gone)) + times next (numbers (map part_of h.rows)) ≡ 0
    both = sym (times-append next (numbers (flat_map parts_of h.gone)) (numbers (map part_of h.rows))) ∙ (ap (times next) (sym (map-append (λ x. x.n) (flat_map parts_of h.gone) (map part_of h.rows))) ∙ f.no_part)

-- the halt is cleared, behind an empty line
pub holds_cleared : (size : ℕ) (inward : Bool) (next : ℕ) (script : List Response) (a : Account) (left : List Response) (halted : Bool) (taken : List (List ℕ)) → Holds size inward next script a [] left halted taken
    → Holds size inward next script (with_more a (Clearing ∷ []) [] [] []) [] left false taken
holds_cleared size inward next script a left halted taken h = record {
  gone = h.gone ++ Cleared ∷ [];
  rows = [];
  is_line = refl;
  all = ap (map accepted_as) cells ∙ (map-append accepted_as (all_cells h.gone h.rows) (Cleared ∷ []) ∙ ap (λ l. l ++ Clearing ∷ []) h.all);
  distinct = subst (λ l. StandOnce (numbers l)) (sym parts) h.distinct;
  fresh = λ n le.
      let f = h.fresh n le in
      record { no_part = ap (λ l. times n (numbers l)) parts ∙ f.no_part; no_result = ap (made_of n) (append-nil a.made) ∙ f.no_result; no_ask = ap (asks_of n) (append-nil a.asked) ∙ f.no_ask };
  shares = ap (λ l. flat_map (λ x. x.share) l ++ left) parts ∙ h.shares;
  fits = subst (AllFit size false) (sym cells) (fits_join size false (all_cells h.gone h.rows) (Cleared ∷ []) h.fits tt);
  halt = sym (stalled-append false (all_cells h.gone h.rows) (Cleared ∷ [])) ∙ ap (stalled false) (sym cells);
  ended = ap (flat_map (λ x. endpoint_of x.n x.fate)) parts ∙ (h.ended ∙ sym (append-nil a.ended));
  packets = ap (flat_map (packets_taken size)) parts ∙ h.packets;
  gone_told = subst (AllByRecursion (GoneTold size (with_more a (Clearing ∷ []) [] [] []))) (sym same_gone)
      (parts_kept size next a (with_more a (Clearing ∷ []) [] [] []) (flat_map parts_of h.gone) (tells_same next a (Clearing ∷ []) [] [] [] tt tt) none_next h.gone_told);
  each_row = tt;
  quiet = tt;
  kinds = h.kinds;
}
  where
    no_rows : (rows : List Row) → map item_of rows ≡ [] → rows ≡ []
    no_rows [] e = refl
    no_rows (r ∷ rows) e = absurd cc

    cells : all_cells (h.gone ++ Cleared ∷ []) [] ≡ all_cells h.gone h.rows ++ Cleared ∷ []
    cells = append-nil (h.gone ++ Cleared ∷ []) ∙ ap (λ l. l ++ Cleared ∷ []) (sym (append-nil h.gone) ∙ ap (all_cells h.gone) (sym (no_rows h.rows h.is_line)))

    same_gone : flat_map parts_of (h.gone ++ Cleared ∷ []) ≡ flat_map parts_of h.gone
    same_gone = flat_map-append parts_of h.gone (Cleared ∷ []) ∙ append-nil (flat_map parts_of h.gone)

    parts : all_parts (h.gone ++ Cleared ∷ []) [] ≡ all_parts h.gone h.rows
    parts = ap (λ l. l ++ []) same_gone ∙ ap (all_parts h.gone) (sym (no_rows h.rows h.is_line))

    none_next : times next (numbers (flat_map parts_of h.gone)) ≡ 0
    none_next =
        let joined : numbers (all_parts h.gone h.rows) ≡ numbers (flat_map parts_of h.gone) ++ numbers (map part_of h.rows) = map-append (λ x. x.n) (flat_map parts_of h.gone) (map part_of h.rows) in
        omega (arith, (h.fresh next (omega arith)).no_part, ap (times next) joined, times-append next (numbers (flat_map parts_of h.gone)) (numbers (map part_of h.rows)))

-- numbers may be skipped, and nothing joins the account
pub holds_later : (size : ℕ) (inward : Bool) (next later : ℕ) (script : List Response) (a : Account) (line : List Item) (left : List Response) (halted : Bool) (taken : List (List ℕ)) → next ≤ later
    → Holds size inward next script a line left halted taken → Holds size inward later script a line left halted taken
holds_later size inward next later script a line left halted taken le h = record {
  gone = h.gone;
  rows = h.rows;
  is_line = h.is_line;
  all = h.all;
  distinct = h.distinct;
  fresh = λ n lt. h.fresh n (omega (arith, le, lt));
  shares = h.shares;
  fits = h.fits;
  halt = h.halt;
  ended = h.ended;
  packets = h.packets;
  gone_told = h.gone_told;
  each_row = h.each_row;
  quiet = h.quiet;
  kinds = h.kinds;
}

-- nothing added to an account
pub no_more : (a : Account) → with_more a [] [] [] [] ≡ a
no_more a = λ i. record { accepted = append-nil a.accepted i; asked = append-nil a.asked i; ended = append-nil a.ended i; made = append-nil a.made i }
