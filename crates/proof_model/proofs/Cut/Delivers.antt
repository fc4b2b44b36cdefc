-- A command and a delivery keep the ledger of their endpoint.
use Rattle.std.proofs.Common.{Bool, List, Some, [], ap, false, map, refl, subst, sym, true, ℕ, ◌++◌, ◌∙◌, ◌∷◌, ◌≡◌}
use Rattle.std.specs.List.{AllByRecursion}
use Rattle.std.specs.Prelude.{if◌then◌else◌}
use Rattle.usb_model.specs.declared.response.Response.{Response}
use Rattle.usb_model.specs.declared.errand.Errand.TheVariants as errand
use Rattle.usb_model.specs.declared.errand.Errand.{Errand}
use Rattle.usb_model.specs.declared.endpoint.Endpoint.{Endpoint}
use Rattle.usb_model.specs.declared.endpoint.EndpointState.TheVariants.{Halted, Running, Stopped}
use Rattle.usb_model.specs.declared.endpoint.EndpointState.{EndpointState}
use Rattle.usb_model.specs.declared.item.Item.{Item}
use Rattle.usb_model.specs.declared.item.ItemState.TheVariants.{Blank, Served, Waiting}
use Rattle.usb_model.specs.declared.item.ItemState.{ItemState}
use Rattle.usb_model.specs.declared.news.Event.TheVariants.{Finished, Paused, Settled}
use Rattle.usb_model.specs.declared.news.Event.{Event}
use Rattle.usb_model.specs.declared.result.TransferResult.{TransferResult}
use Rattle.usb_model.specs.declared.reply.Reply.TheVariants as reply
use Rattle.usb_model.specs.Laws.Account.{Account}
use Rattle.usb_model.specs.Endpoint.Command.{command}
use Rattle.usb_model.specs.Endpoint.Deliver.{deliver, finished_result, line_after, needs_reset, orders_errand}
use Rattle.usb_model.specs.Endpoint.{in_progress, is_blank_state, past_blanks, past_number}
use Rattle.usb_model.specs.Endpoint.Status.{halts}
use Rattle.proof_model.proofs.Coherence.FirstEnd.{EndsFirst}
use Rattle.proof_model.proofs.Cut.Ledger.{Holds, HoldsAt, KnowsGone, Row, item_of}
use Rattle.proof_model.proofs.Cut.Leaves.{holds_blanks, holds_finished, no_more}
use Rattle.proof_model.proofs.Cut.Rows.{with_more}
use Rattle.proof_model.proofs.Cut.Serves.{KeepsLedger}
use Rattle.proof_model.proofs.Lists.Times.{map_split}
use Rattle.proof_model.proofs.Cut.Resumes.{RowOf, holds_resume, holds_withdrawn, made_with, row_of}

-- blanks at the line's beginning, and the rest
blanks_split : (line : List Item) → (front : List Item) × AllByRecursion (λ x. x.state ≡ Blank) front × (line ≡ front ++ past_blanks line)
unfolding past_blanks
blanks_split [] = ([], tt, refl)
blanks_split (x ∷ xs) = by_state x.state refl (blanks_split xs)
  where
    by_state : (s : ItemState) → x.state ≡ s → ((front : List Item) × AllByRecursion (λ y. y.state ≡ Blank) front × (xs ≡ front ++ past_blanks xs))
        → (front : List Item) × AllByRecursion (λ y. y.state ≡ Blank) front × (x ∷ xs ≡ front ++ (if is_blank_state s then past_blanks xs else x ∷ xs))
    by_state Waiting is rest = ([], tt, refl)
    by_state (Served code) is rest = ([], tt, refl)
    by_state Blank is rest = (x ∷ rest.0, (is, rest.1), ap (λ l. x ∷ l) rest.2)

-- rows of blanks
blank_rows : (rows : List Row) → AllByRecursion (λ x. x.state ≡ Blank) (map item_of rows) → AllByRecursion (λ r. r.item.state ≡ Blank) rows
blank_rows [] e = tt
blank_rows (r ∷ rows) e = (e.0, blank_rows rows e.1)

-- the cancelled at the front leave the line
holds_past_blanks : (size : ℕ) (inward : Bool) (next : ℕ) (script : List Response) (a : Account) (line : List Item) (left : List Response) (halted : Bool) (taken : List (List ℕ))
    → Holds size inward next script a line left halted taken → Holds size inward next script a (past_blanks line) left halted taken
holds_past_blanks size inward next script a line left halted taken h =
    let b = blanks_split line in
    let s = map_split item_of h.rows b.0 (past_blanks line) (h.is_line ∙ b.2) in
    holds_blanks size inward next script a line (past_blanks line) left halted taken s.0 s.1 h s.2 s.4 (blank_rows s.0 (subst (AllByRecursion (λ x. x.state ≡ Blank)) (sym s.3) b.1))

-- the end of a transfer is told
holds_ended : (size : ℕ) (inward : Bool) (next : ℕ) (script : List Response) (a : Account) (gone : Bool) (line : List Item) (left : List Response) (halted : Bool) (taken : List (List ℕ)) (k code : ℕ) → EndsFirst line k code → KnowsGone gone a
    → Holds size inward next script a line left halted taken
    → Holds size inward next script (with_more a [] [] [] (made_with gone (finished_result size gone code (in_progress k line)))) (past_number k line) left halted taken
holds_ended size inward next script a gone line left halted taken k code f known h = by_row (row_of h.rows f.front f.item (past_number k line) (h.is_line ∙ f.split))
  where
    by_row : RowOf h.rows f.front f.item (past_number k line) → Holds size inward next script (with_more a [] [] [] (made_with gone (finished_result size gone code (in_progress k line)))) (past_number k line) left halted taken
    by_row t =
        subst (λ o. Holds size inward next script (with_more a [] [] [] (made_with gone (finished_result size gone code o))) (past_number k line) left halted taken) (ap (λ x. Some x) t.item ∙ sym f.found)
        (holds_finished size inward next script a line (past_number k line) left halted taken t.before t.behind t.row code gone h t.is t.back_is
        (blank_rows t.before (subst (AllByRecursion (λ x. x.state ≡ Blank)) (sym t.front_is) f.blanks)) (ap (λ x. x.state) t.item ∙ f.served) known)

-- behind a result the cancelled may leave the line too
holds_line_after : (size : ℕ) (inward : Bool) (next : ℕ) (script : List Response) (a : Account) (line : List Item) (left : List Response) (halted : Bool) (taken : List (List ℕ)) (k code : ℕ)
    → Holds size inward next script a (past_number k line) left halted taken → Holds size inward next script a (line_after k code line) left halted taken
holds_line_after size inward next script a line left halted taken k code h = by_test (halts code)
  where
    by_test : (b : Bool) → Holds size inward next script a (if b then past_number k line else past_blanks (past_number k line)) left halted taken
    by_test true = h
    by_test false = holds_past_blanks size inward next script a (past_number k line) left halted taken h

-- what has to be known of a piece of news: an end that is told is that of the first transfer that is no blank
abbrev pub IsTrueOf : Endpoint → Event → Type 0
IsTrueOf e (Finished k code) = EndsFirst e.line k code
IsTrueOf e _ = Unit {0}

-- an account to which nothing is added
holds_same : (size : ℕ) (inward : Bool) (next : ℕ) (script : List Response) (a : Account) (e : Endpoint) → HoldsAt size inward next script a e → HoldsAt size inward next script (with_more a [] [] [] []) e
holds_same size inward next script a e h = subst (λ b. HoldsAt size inward next script b e) (sym (no_more a)) h

-- the first piece of news is handled
pub holds_deliver : (size ep : ℕ) (inward : Bool) (next : ℕ) (script : List Response) (a : Account) (gone : Bool) (e : Endpoint) (event : Event) → IsTrueOf e event → KnowsGone gone a → HoldsAt size inward next script a e
    → KeepsLedger size inward next script a gone [] [] (deliver size ep gone e event)
unfolding deliver
holds_deliver size ep inward next script a gone e (Finished k code) f known h = by_test (needs_reset code e.errand)
  where
    results : List TransferResult
    results = finished_result size gone code (in_progress k e.line)

    after : Endpoint
    after = record e { line = line_after k code e.line }

    holds : HoldsAt size inward next script (with_more a [] [] [] (made_with gone results)) after
    holds = holds_line_after size inward next script _ e.line e.script_left e.device_halted e.packets_received k code (holds_ended size inward next script a gone e.line e.script_left e.device_halted e.packets_received k code f known h)

    by_test : (b : Bool) → KeepsLedger size inward next script a gone [] [] (if b then orders_errand after errand.Reset (reply.Finished k) results else record { reply = reply.Finished k; endpoint = after; orders = []; news = []; results = results })
    by_test true = holds
    by_test false = holds
holds_deliver size ep inward next script a gone e (Paused k) t known h = holds_same size inward next script a e h
holds_deliver size ep inward next script a gone e (Settled errand.Stop false) t known h = holds_same size inward next script a e h
holds_deliver size ep inward next script a gone e (Settled errand.Stop true) t known h = holds_resume size inward next script a gone e (reply.Settled ep errand.Stop true) e.line refl h
holds_deliver size ep inward next script a gone e (Settled errand.Reset ok) t known h = holds_withdrawn size inward next script a gone e.line e.script_left e.device_halted e.packets_received h
holds_deliver size ep inward next script a gone e (Settled errand.Move ok) t known h =
    holds_resume size inward next script a gone e (reply.Settled ep errand.Move ok) (past_blanks e.line) refl (holds_past_blanks size inward next script a e.line e.script_left e.device_halted e.packets_received h)

-- the controller carries out an order
pub holds_command : (size ep : ℕ) (inward : Bool) (next : ℕ) (script : List Response) (a : Account) (gone : Bool) (e : Endpoint) (o : Errand) (s : EndpointState) → HoldsAt size inward next script a e → KeepsLedger size inward next script a gone [] [] (command size ep e o s)
unfolding command
holds_command size ep inward next script a gone e errand.Stop Running h = holds_same size inward next script a e h
holds_command size ep inward next script a gone e errand.Reset Halted h = holds_same size inward next script a e h
holds_command size ep inward next script a gone e errand.Move Stopped h = holds_same size inward next script a e h
holds_command size ep inward next script a gone e _ _ h = holds_same size inward next script a e h
