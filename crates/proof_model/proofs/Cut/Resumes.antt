-- Where a halt is over the ledger has the withdrawn as blanks, and their results as made.
use Rattle.std.proofs.Common.{Bool, List, None, Option, Some, [], ap, append-nil, append_assoc, ap₂, false, map, refl, subst, sym, true, ℕ, ◌&&◌, ◌++◌, ◌==◌, ◌∙◌, ◌∷◌, ◌≡◌}
use Rattle.std.specs.Prelude.{if◌then◌else◌, is_some}
use Rattle.std.proofs.lemmas.List.{map-append}
use Rattle.std.proofs.lemmas.List.Elements.{filter-append}
use Rattle.usb_model.specs.declared.response.Response.{Response}
use Rattle.usb_model.specs.declared.errand.Errand.TheVariants as errand
use Rattle.usb_model.specs.declared.endpoint.Endpoint.{Endpoint}
use Rattle.usb_model.specs.declared.endpoint.EndpointState.TheVariants.{Running}
use Rattle.usb_model.specs.declared.item.Ask.{Ask}
use Rattle.usb_model.specs.declared.item.Item.{Item}
use Rattle.usb_model.specs.declared.item.ItemState.TheVariants.{Blank, Served, Waiting}
use Rattle.usb_model.specs.declared.item.ItemState.{ItemState}
use Rattle.usb_model.specs.declared.result.TransferResult.{TransferResult}
use Rattle.usb_model.specs.declared.reply.Reply.{Reply}
use Rattle.usb_model.specs.Laws.Account.{Account, Made, ended_by}
use Rattle.usb_model.specs.Laws.Cut.{FitsFate, Waits, Withdrawn, asks_of, endpoint_of, told}
use Rattle.usb_model.specs.Endpoint.Deliver.{blanked, is_withdrawn, leads_blank, orders_errand, resume, withdrawn}
use Rattle.usb_model.specs.Endpoint.{is_waiting_state, result_of}
use Rattle.proof_model.proofs.Cut.Ledger.{Holds, IsFate, IsQuiet, IsRow, Row, RowToldBy, ask_list, item_of, part_of, quiet_by}
use Rattle.proof_model.proofs.Cut.Leaves.{no_more}
use Rattle.proof_model.proofs.Cut.Rows.{mid_of, with_more, with_row}
use Rattle.proof_model.proofs.Cut.Serves.{KeepsLedger}
use Rattle.proof_model.proofs.Cut.Works.{Alters, holds_altered, untouched_quiet}
use Rattle.proof_model.proofs.Lists.Times.{map_split}
use Rattle.proof_model.proofs.Lists.Pieces.{same_name}

-- what is made of results; gone: whether the device is
abbrev pub made_with : Bool → List TransferResult → List Made
made_with gone results = map (λ r. record { result = r; gone = gone }) results

-- an item of a line, as a row
pub record RowOf (rows : List Row) (front : List Item) (x : Item) (back : List Item) : Type 0 where
  pub before : List Row
  pub row : Row
  pub behind : List Row
  pub is : rows ≡ before ++ row ∷ behind
  pub item : row.item ≡ x
  pub front_is : map item_of before ≡ front
  pub back_is : map item_of behind ≡ back

-- the row of an item in the line
pub row_of : (rows : List Row) (front : List Item) (x : Item) (back : List Item) → map item_of rows ≡ front ++ x ∷ back → RowOf rows front x back
row_of rows front x back e = by_rest s.1 s.2 s.4
  where
    s : (fs : List Row) × (bs : List Row) × (rows ≡ fs ++ bs) × (map item_of fs ≡ front) × (map item_of bs ≡ x ∷ back)
    s = map_split item_of rows front (x ∷ back) e

    by_rest : (bs : List Row) → rows ≡ s.0 ++ bs → map item_of bs ≡ x ∷ back → RowOf rows front x back
    by_rest [] is q = absurd cc
    by_rest (r ∷ bs) is q =
        let same : r.item ≡ x = cc in
        let rest : map item_of bs ≡ back = cc in
        record { before = s.0; row = r; behind = bs; is = is; item = same; front_is = s.3; back_is = rest }

-- an item that is withdrawn waits, and was asked
withdrawn_waits : (s : ItemState) (ask : Option Ask) → (is_waiting_state s && is_some ask) ≡ true → (s ≡ Waiting) × (a : Ask) × (ask ≡ Some a)
withdrawn_waits Waiting None e = absurd cc
withdrawn_waits Waiting (Some ask) e = (refl, ask, refl)
withdrawn_waits (Served code) ask e = absurd cc
withdrawn_waits Blank ask e = absurd cc

-- its withdrawal
withdraws : (size : ℕ) (inward : Bool) (a : Account) (back : List Row) (r : Row) (ask : Ask) (gone : Bool) → r.item.state ≡ Waiting → r.item.ask ≡ Some ask → IsRow size inward a r
    → Alters size inward a back r Blank (Some ask) (Withdrawn ask) [] (record { result = result_of size false 26 r.item; gone = gone } ∷ [])
withdraws size inward a back r ask gone waits asked row = record {
  fits = λ behind f. subst (FitsFate size behind (part_of r)) waiting f;
  end = ap (endpoint_of k) (sym waiting);
  asked_its = tt;
  made_its = (refl, tt);
  row = record {
    fate = (ask, refl);
    body = row.body;
    told = (
      gone,
      filter-append (λ x. x.result.n == k) a.made (made ∷ [])
          ∙ (ap₂ (λ l n. l ++ n) was_told.0 (rw (same_name k) refl) ∙ ap (λ x. record { result = x; gone = gone } ∷ []) same_result),
      ap (asks_of k) (append-nil a.asked) ∙ (was_told.1 ∙ ap (ask_list k) asked),
    );
  };
  quiet = λ q. untouched_quiet back (subst (λ t. quiet_by t back (IsQuiet back)) waits q);
}
  where
    k : ℕ
    k = r.item.n

    made : Made
    made = record { result = result_of size false 26 r.item; gone = gone }

    waiting : r.fate ≡ Waits
    waiting = subst (λ t. IsFate t r.fate) waits row.fate

    was_told : RowToldBy size a r Waits
    was_told = subst (RowToldBy size a r) waiting row.told

    same_result : result_of size false 26 r.item ≡ told size false 26 (Some ask) (part_of (with_row r r.item.share Blank (Some ask) (Withdrawn ask)))
    same_result = ap (λ o. result_of size false 26 (record r.item { ask = o })) asked

-- one item of the line is withdrawn
holds_withdrawn_one : (size : ℕ) (inward : Bool) (next : ℕ) (script : List Response) (a : Account) (gone : Bool) (front : List Item) (x : Item) (back : List Item) (left : List Response) (halted : Bool) (taken : List (List ℕ)) → is_withdrawn x ≡ true
    → Holds size inward next script a (front ++ x ∷ back) left halted taken
    → Holds size inward next script (with_more a [] [] [] (record { result = result_of size false 26 x; gone = gone } ∷ [])) (front ++ record x { state = Blank } ∷ back) left halted taken
holds_withdrawn_one size inward next script a gone front x back left halted taken is h = by_row (row_of h.rows front x back h.is_line)
  where
    by_row : RowOf h.rows front x back → Holds size inward next script (with_more a [] [] [] (record { result = result_of size false 26 x; gone = gone } ∷ [])) (front ++ record x { state = Blank } ∷ back) left halted taken
    by_row t =
        let w = withdrawn_waits t.row.item.state t.row.item.ask (ap is_withdrawn t.item ∙ is) in
        let m = mid_of size inward next script a (front ++ x ∷ back) left halted taken t.before t.behind t.row h t.is in
        subst (λ y. Holds size inward next script (with_more a [] [] [] (record { result = result_of size false 26 y; gone = gone } ∷ [])) (front ++ record y { state = Blank } ∷ back) left halted taken) t.item
        (holds_altered size inward next script a (front ++ x ∷ back) (front ++ record t.row.item { state = Blank } ∷ back) left halted taken t.before t.behind t.row Blank (Some w.1) (Withdrawn w.1) [] _ h t.is
        (withdraws size inward a t.behind t.row w.1 gone w.0 w.2 m.row)
        (map-append item_of t.before _ ∙ (ap₂ (λ f b. f ++ record t.row.item { state = Blank; ask = Some w.1 } ∷ b) t.front_is t.back_is ∙ ap (λ o. front ++ record t.row.item { state = Blank; ask = o } ∷ back) (sym w.2))))

-- all that are to be, from some place on
more_made : (a : Account) (xs ys : List Made) → with_more (with_more a [] [] [] xs) [] [] [] ys ≡ with_more a [] [] [] (xs ++ ys)
more_made a xs ys = λ i. record {
  accepted = append-nil (a.accepted ++ []) i;
  asked = append-nil (a.asked ++ []) i;
  ended = append-nil (a.ended ++ []) i;
  made = append_assoc a.made xs ys i;
}

-- the withdrawn become blanks, and their results are made
holds_withdrawn_from : (size : ℕ) (inward : Bool) (next : ℕ) (script : List Response) (a : Account) (gone : Bool) (front back : List Item) (left : List Response) (halted : Bool) (taken : List (List ℕ))
    → Holds size inward next script a (front ++ back) left halted taken → Holds size inward next script (with_more a [] [] [] (made_with gone (withdrawn size back))) (front ++ map blanked back) left halted taken
unfolding withdrawn
holds_withdrawn_from size inward next script a gone front [] left halted taken h = subst (λ b. Holds size inward next script b (front ++ []) left halted taken) (sym (no_more a)) h
holds_withdrawn_from size inward next script a gone front (x ∷ xs) left halted taken h =
    by_test (is_withdrawn x) refl
    (λ b y k. subst (λ l. Holds size inward next script (with_more b [] [] [] (made_with gone (withdrawn size xs))) l left halted taken) (append_assoc front (y ∷ []) (map blanked xs))
    (holds_withdrawn_from size inward next script b gone (front ++ y ∷ []) xs left halted taken (subst (λ l. Holds size inward next script b l left halted taken) (sym (append_assoc front (y ∷ []) xs)) k)))
  where
    Rest : Type 0
    Rest = (b : Account) (y : Item) → Holds size inward next script b (front ++ y ∷ xs) left halted taken → Holds size inward next script (with_more b [] [] [] (made_with gone (withdrawn size xs))) (front ++ y ∷ map blanked xs) left halted taken

    by_test : (t : Bool) → is_withdrawn x ≡ t → Rest
        → Holds size inward next script (with_more a [] [] [] (made_with gone (if t then result_of size false 26 x ∷ withdrawn size xs else withdrawn size xs))) (front ++ (if t then record x { state = Blank } else x) ∷ map blanked xs) left halted taken
    by_test true is rest =
        subst (λ b. Holds size inward next script b (front ++ record x { state = Blank } ∷ map blanked xs) left halted taken) (more_made a (record { result = result_of size false 26 x; gone = gone } ∷ []) (made_with gone (withdrawn size xs)))
        (rest _ (record x { state = Blank }) (holds_withdrawn_one size inward next script a gone front x xs left halted taken is h))
    by_test false is rest = rest a x h

-- all items that were asked and wait are withdrawn
pub holds_withdrawn : (size : ℕ) (inward : Bool) (next : ℕ) (script : List Response) (a : Account) (gone : Bool) (line : List Item) (left : List Response) (halted : Bool) (taken : List (List ℕ))
    → Holds size inward next script a line left halted taken → Holds size inward next script (with_more a [] [] [] (made_with gone (withdrawn size line))) (map blanked line) left halted taken
holds_withdrawn size inward next script a gone line left halted taken h = holds_withdrawn_from size inward next script a gone [] line left halted taken h

-- the endpoint runs again, or Move is ordered
pub holds_resume : (size : ℕ) (inward : Bool) (next : ℕ) (script : List Response) (a : Account) (gone : Bool) (e : Endpoint) (r : Reply) (line : List Item) → ended_by gone r ≡ [] → Holds size inward next script a line e.script_left e.device_halted e.packets_received
    → KeepsLedger size inward next script a gone [] [] (resume size e r line)
unfolding resume
holds_resume size inward next script a gone e r line plain h = by_test (leads_blank (map blanked line))
  where
    k : Holds size inward next script (with_more a [] [] (ended_by gone r) (made_with gone (withdrawn size line))) (map blanked line) e.script_left e.device_halted e.packets_received
    k = subst (λ es. Holds size inward next script (with_more a [] [] es (made_with gone (withdrawn size line))) (map blanked line) e.script_left e.device_halted e.packets_received) (sym plain) (holds_withdrawn size inward next script a gone line e.script_left e.device_halted e.packets_received h)

    by_test : (b : Bool) → KeepsLedger size inward next script a gone [] [] (if b then orders_errand (record e { line = map blanked line }) errand.Move r (withdrawn size line) else record { reply = r; endpoint = record e { line = map blanked line; errand = None; state = Running }; orders = []; news = []; results = withdrawn size line })
    by_test true = k
    by_test false = k
