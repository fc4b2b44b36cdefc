-- An ask, a submission and a halt that is cleared keep the ledger of their endpoint.
use Rattle.std.proofs.Common.{Bool, List, None, Some, [], ap, append-nil, ap₂, arith, eq-eqb, false, map, not, refl, subst, sym, true, ℕ, ◌++◌, ◌+◌, ◌==◌, ◌∙◌, ◌∷◌, ◌≡◌}
use Rattle.std.specs.Prelude.{if◌then◌else◌}
use Rattle.std.proofs.lemmas.Bool.{and_parts, eqb-true, not-true}
use Rattle.std.proofs.lemmas.List.{map-append}
use Rattle.std.proofs.lemmas.List.Elements.{filter-append}
use Rattle.usb_model.specs.declared.response.Response.{Response}
use Rattle.usb_model.specs.declared.endpoint.Endpoint.{Endpoint}
use Rattle.usb_model.specs.declared.item.Ask.{Ask}
use Rattle.usb_model.specs.declared.item.Item.{Item}
use Rattle.usb_model.specs.declared.item.ItemState.TheVariants.{Blank, Served, Waiting}
use Rattle.usb_model.specs.declared.item.ItemState.{ItemState}
use Rattle.usb_model.specs.declared.request.Request.{Request}
use Rattle.usb_model.specs.Laws.Account.{Account, Clearing, Transfer}
use Rattle.usb_model.specs.Machine.Calls.{asks, submitted, with_ask}
use Rattle.usb_model.specs.Laws.Cut.{Ended, Waits, made_of, times}
use Rattle.usb_model.specs.Endpoint.{in_progress, is_blank, is_blank_state, is_transfer}
use Rattle.proof_model.proofs.Machines.Deeds.{cleared}
use Rattle.proof_model.proofs.Work.Lines.{found_it}
use Rattle.proof_model.proofs.Cut.Ledger.{Holds, HoldsAt, IsFate, IsRow, Row, RowToldBy, ask_list, item_of, numbers, part_of}
use Rattle.proof_model.proofs.Cut.Leaves.{holds_cleared, holds_submitted}
use Rattle.proof_model.proofs.Cut.Rows.{mid_of, with_more, with_row}
use Rattle.proof_model.proofs.Cut.Serves.{KeepsLedger}
use Rattle.proof_model.proofs.Cut.Works.{Alters, holds_altered}
use Rattle.proof_model.proofs.Lists.Times.{times_here, times-cons}
use Rattle.usb_model.specs.Direction.{IsBody}
use Rattle.proof_model.proofs.Lists.Pieces.{same_name}
use Rattle.std.proofs.lemmas.Option.{same_Some}
use Rattle.proof_model.proofs.Cut.Resumes.{RowOf, row_of}

-- a transfer in progress, in its line
progress_split : (n : ℕ) (line : List Item) (i : Item) → in_progress n line ≡ Some i → (front : List Item) × (back : List Item) × (line ≡ front ++ i ∷ back)
unfolding in_progress
progress_split n [] i e = absurd cc
progress_split n (x ∷ xs) i e = by_test (is_transfer n x) e (progress_split n xs i)
  where
    by_test : (b : Bool) → (if b then Some x else in_progress n xs) ≡ Some i → (in_progress n xs ≡ Some i → (front : List Item) × (back : List Item) × (xs ≡ front ++ i ∷ back)) → (front : List Item) × (back : List Item) × (x ∷ xs ≡ front ++ i ∷ back)
    by_test true q rest = ([], xs, ap (λ y. y ∷ xs) (same_Some x i q))
    by_test false q rest = let r = rest q in (x ∷ r.0, r.1, ap (λ l. x ∷ l) r.2)

-- items of other numbers aren't asked
not_asked : (k : ℕ) (ask : Ask) (rows : List Row) → times k (numbers (map part_of rows)) ≡ 0 → map (with_ask k ask) (map item_of rows) ≡ map item_of rows
not_asked k ask [] none = refl
not_asked k ask (r ∷ rows) none = by_test (r.item.n == k) refl (not_asked k ask rows (omega (arith, none, times-cons k r.item.n (numbers (map part_of rows)))))
  where
    by_test : (b : Bool) → (r.item.n == k) ≡ b → map (with_ask k ask) (map item_of rows) ≡ map item_of rows → (if b then record r.item { ask = Some ask } else r.item) ∷ map (with_ask k ask) (map item_of rows) ≡ r.item ∷ map item_of rows
    by_test true is rest = absurd (omega (arith, none, times_here k r.item.n (numbers (map part_of rows)) (eqb-true r.item.n k is)))
    by_test false is rest = ap (λ l. r.item ∷ l) rest

-- the ask of a transfer that wasn't asked
asks_row : (size : ℕ) (inward : Bool) (a : Account) (back : List Row) (r : Row) (ask : Ask) → is_blank r.item ≡ false → r.item.ask ≡ None → IsRow size inward a r
    → Alters size inward a back r r.item.state (Some ask) r.fate (record { n = r.item.n; ask = ask } ∷ []) []
asks_row size inward a back r ask live free row = record {
  fits = λ behind f. f;
  end = refl;
  asked_its = (refl, tt);
  made_its = tt;
  row = record { fate = row.fate; body = row.body; told = by_state r.item.state live row.fate };
  quiet = λ q. q;
}
  where
    k : ℕ
    k = r.item.n

    a' : Account
    a' = with_more a [] (record { n = k; ask = ask } ∷ []) [] []

    s : Row
    s = with_row r r.item.share r.item.state (Some ask) r.fate

    same_made : made_of k a'.made ≡ made_of k a.made
    same_made = ap (made_of k) (append-nil a.made)

    waiting : RowToldBy size a r Waits → RowToldBy size a' s Waits
    waiting t = (same_made ∙ t.0, filter-append (λ q. q.n == k) a.asked _ ∙ ap₂ (λ l n. l ++ n) (t.1 ∙ ap (ask_list k) free) (rw (same_name k) refl))

    by_state : (t : ItemState) → is_blank_state t ≡ false → IsFate t r.fate → RowToldBy size a' s r.fate
    by_state Waiting l f = subst (RowToldBy size a' s) (sym f) (waiting (subst (RowToldBy size a r) f row.told))
    by_state (Served code) l f = let t : RowToldBy size a r (Ended code f.0) = subst (RowToldBy size a r) f.1 row.told in subst (RowToldBy size a' s) (sym f.1) (same_made ∙ t)
    by_state Blank l f = absurd cc

-- a transfer is asked to end
pub holds_ask : (size : ℕ) (inward : Bool) (next : ℕ) (script : List Response) (a : Account) (gone : Bool) (e : Endpoint) (n : ℕ) (ask : Ask) (i : Item) → in_progress n e.line ≡ Some i → i.ask ≡ None → HoldsAt size inward next script a e
    → KeepsLedger size inward next script a gone [] (record { n = n; ask = ask } ∷ []) (asks e n ask)
unfolding asks
holds_ask size inward next script a gone e n ask i here free h = by_row (row_of h.rows s.0 i s.1 (h.is_line ∙ s.2))
  where
    s : (front : List Item) × (back : List Item) × (e.line ≡ front ++ i ∷ back)
    s = progress_split n e.line i here

    it : (i.n ≡ n) × (is_blank i ≡ false)
    it = let p = and_parts (i.n == n) (not (is_blank i)) (found_it n e.line i here) in (eqb-true i.n n p.0, not-true (is_blank i) p.1)

    by_row : RowOf h.rows s.0 i s.1 → Holds size inward next script (with_more a [] (record { n = n; ask = ask } ∷ []) [] []) (map (with_ask n ask) e.line) e.script_left e.device_halted e.packets_received
    by_row t =
        let r : Row = t.row in
        let m = mid_of size inward next script a e.line e.script_left e.device_halted e.packets_received t.before t.behind r h t.is in
        let number : r.item.n ≡ n = ap (λ x. x.n) t.item ∙ it.0 in
        let becomes : map item_of (t.before ++ with_row r r.item.share r.item.state (Some ask) r.fate ∷ t.behind) ≡ map (with_ask r.item.n ask) e.line =
        sym (ap (map (with_ask r.item.n ask)) (sym h.is_line ∙ (ap (map item_of) t.is ∙ map-append item_of t.before (r ∷ t.behind)))
        ∙ (map-append (with_ask r.item.n ask) (map item_of t.before) (r.item ∷ map item_of t.behind)
        ∙ (ap₂ (λ f b. f ++ b) (not_asked r.item.n ask t.before m.apart.1) (ap₂ (λ y b. y ∷ b) (asked_now r.item.n ask r.item refl) (not_asked r.item.n ask t.behind m.apart.2)) ∙ sym (map-append item_of t.before _)))) in
        subst (λ k. Holds size inward next script (with_more a [] (record { n = k; ask = ask } ∷ []) [] []) (map (with_ask k ask) e.line) e.script_left e.device_halted e.packets_received) number
        (holds_altered size inward next script a e.line _ e.script_left e.device_halted e.packets_received t.before t.behind r r.item.state (Some ask) r.fate _ [] h t.is (asks_row size inward a t.behind r ask (ap is_blank t.item ∙ it.1) (ap (λ x. x.ask) t.item ∙ free) m.row) becomes)
      where
        asked_now : (k : ℕ) (ask : Ask) (x : Item) → x.n ≡ k → with_ask k ask x ≡ record x { ask = Some ask }
        asked_now k ask x same = rw (eq-eqb x.n k same) refl

-- a transfer is submitted, under the next number
pub holds_submit : (size : ℕ) (inward : Bool) (next : ℕ) (script : List Response) (a : Account) (gone : Bool) (e : Endpoint) (request : Request) (round : ℕ) → IsBody inward request.body → HoldsAt size inward next script a e
    → KeepsLedger size inward (next + 1) script a gone (Transfer next request round ∷ []) [] (submitted next request round e)
holds_submit size inward next script a gone e request round body h = holds_submitted size inward next script a e.line e.script_left e.device_halted e.packets_received request round body h

-- the device's halt ends
pub holds_clear : (size : ℕ) (inward : Bool) (next : ℕ) (script : List Response) (a : Account) (gone : Bool) (e : Endpoint) → e.line ≡ [] → HoldsAt size inward next script a e → KeepsLedger size inward next script a gone (Clearing ∷ []) [] (cleared e)
holds_clear size inward next script a gone e none h =
    subst (λ l. Holds size inward next script (with_more a (Clearing ∷ []) [] [] []) l e.script_left false e.packets_received) (sym none)
    (holds_cleared size inward next script a e.script_left e.device_halted e.packets_received (subst (λ l. Holds size inward next script a l e.script_left e.device_halted e.packets_received) none h))
