-- A settlement that is found by what errands read of a line is the core's.
use Rattle.std.proofs.Common.{Bool, List, None, Option, Some, [], ap, ap₂, arith, false, length, map, refl, suc, sym, true, ℕ, ◌+◌, ◌≤◌, ◌∙◌, ◌∷◌, ◌≡◌}
use Rattle.std.specs.Prelude.{drop, is_some, not, ◌&&◌, if◌then◌else◌}
use Rattle.std.proofs.lemmas.List.{length-drop, length-map}
use Rattle.usb_model.specs.declared.errand.Errand.{Errand}
use Rattle.usb_model.specs.declared.errand.Errand.TheVariants.{Move, Reset, Stop}
use Rattle.usb_model.specs.declared.reply.Reply.{Reply}
use Rattle.usb_model.specs.declared.item.Ask.{Ask}
use Rattle.usb_model.specs.declared.reply.Reply.TheVariants.{Settled}
use Rattle.proof_model.proofs.Lists.Parts.{heads_same}
use Rattle.usb_model.specs.declared.endpoint.EndpointState.TheVariants.{Running}
use Rattle.usb_model.specs.declared.result.TransferResult.{TransferResult}
use Rattle.usb_model.specs.Kept.{KeptEndpoint, KeptTransfer, SentErrand}
use Rattle.usb_model.specs.Events.{Handled, past_kept_blanks, posts}
use Rattle.usb_model.specs.Settlements.{kept_blanked, leads_kept, resume_kept, settle, withdrawn_results}
use Rattle.usb_tables.specs.declared.ended.Settlement.{Settlement}
use Rattle.usb_tables.specs.declared.ended.Mark.{Mark}
use Rattle.usb_tables.specs.Settlements.{fails_stop, goes_on, line_by, mark_of, results_by, settled_by}
use Rattle.usb_tables.specs.declared.transfer.Transfer.{Transfer as InFlight}
use Rattle.usb_tables.specs.TransfersInFlight.{mark_in}
use Rattle.refine_core.specs.State.{AllItems}

-- a transfer without the ask that it had before it was withdrawn
abbrev pub cleaned : KeptTransfer → KeptTransfer
cleaned y = if y.blank then record y { ask = None } else y

abbrev pub with_cleaned : KeptEndpoint → KeptEndpoint
with_cleaned b = record b { line = map cleaned b.line }

-- that is what is read of the items
pub marks_are : {P : Type 0} (name : Option ℕ) (e : ℕ) (xs : List (Option (InFlight P))) (ys : List KeptTransfer) → AllItems name e xs ys → map mark_of (map cleaned ys) ≡ map mark_in xs
marks_are name e [] [] all = refl
marks_are name e [] (y ∷ ys) all = absurd all
marks_are name e (x ∷ xs) [] all = absurd all
marks_are name e (None ∷ xs) (y ∷ ys) all = ap₂ (λ (m : Mark) ms. m ∷ ms) (blank_mark y.blank all.0) (marks_are name e xs ys all.1)
  where
    blank_mark : (b : Bool) → b ≡ true → mark_of (if b then record y { ask = None } else y) ≡ record { blank = true; asked = false }
    blank_mark b is = ap (λ t. mark_of (if t then record y { ask = None } else y)) is ∙ ap (λ t. record { blank = t; asked = false }) all.0
marks_are name e (Some t ∷ xs) (y ∷ ys) all = ap₂ (λ (m : Mark) ms. m ∷ ms) live_mark (marks_are name e xs ys all.1)
  where
    live_mark : mark_of (if y.blank then record y { ask = None } else y) ≡ record { blank = false; asked = is_some t.ask }
    live_mark = ap (λ b. mark_of (if b then record y { ask = None } else y)) all.0.live ∙ ap₂ (λ b a. record { blank = b; asked = is_some a }) all.0.live (sym all.0.asked)

-- the same are blank, and the same are withdrawn
clean_blank : (y : KeptTransfer) → (cleaned y).blank ≡ y.blank
clean_blank y = by_test y.blank refl
  where
    by_test : (b : Bool) → y.blank ≡ b → (if b then record y { ask = None } else y).blank ≡ y.blank
    by_test true is = refl
    by_test false is = refl

clean_withdrawn : (y : KeptTransfer) → (kept_blanked (cleaned y)).blank ≡ (kept_blanked y).blank
clean_withdrawn y = by_test y.blank refl
  where
    Same : Bool → Bool → Type 0
    Same b t = (if (not (if b then record y { ask = None } else y).blank && is_some (if b then record y { ask = None } else y).ask) then record (if b then record y { ask = None } else y) { blank = true } else (if b then record y { ask = None } else y)).blank
        ≡ (if t then record y { blank = true } else y).blank

    by_test : (b : Bool) → y.blank ≡ b → Same b (not y.blank && is_some y.ask)
    by_test true is = ap (λ b. (if (not b && is_some {T = Ask} None) then record (record y { ask = None }) { blank = true } else record y { ask = None }).blank) is
        ∙ is ∙ sym (ap (λ b. (if (not b && is_some y.ask) then record y { blank = true } else y).blank) is ∙ is)
    by_test false is = refl

leads_clean : (ys : List KeptTransfer) → leads_kept (map kept_blanked (map cleaned ys)) ≡ leads_kept (map kept_blanked ys)
leads_clean [] = refl
leads_clean (y ∷ ys) = clean_withdrawn y

past_clean : (ys : List KeptTransfer) → past_kept_blanks (map cleaned ys) ≡ map cleaned (past_kept_blanks ys)
unfolding past_kept_blanks
past_clean [] = refl
past_clean (y ∷ ys) = ap (λ b. if b then past_kept_blanks (map cleaned ys) else map cleaned (y ∷ ys)) (clean_blank y) ∙ by_test y.blank (past_clean ys)
  where
    by_test : (b : Bool) → past_kept_blanks (map cleaned ys) ≡ map cleaned (past_kept_blanks ys) → (if b then past_kept_blanks (map cleaned ys) else map cleaned (y ∷ ys)) ≡ map cleaned (if b then past_kept_blanks ys else y ∷ ys)
    by_test true rest = rest
    by_test false rest = refl

-- the blanks that lead are among the first
past_some : (ys : List KeptTransfer) → (k : ℕ) × (k + length (past_kept_blanks ys) ≡ length ys) × (past_kept_blanks ys ≡ drop k ys)
unfolding past_kept_blanks
past_some [] = (0, refl, refl)
past_some (y ∷ ys) = by_test y.blank (past_some ys)
  where
    by_test : (b : Bool) → (k : ℕ) × (k + length (past_kept_blanks ys) ≡ length ys) × (past_kept_blanks ys ≡ drop k ys)
        → (k : ℕ) × (k + length (if b then past_kept_blanks ys else y ∷ ys) ≡ length (y ∷ ys)) × ((if b then past_kept_blanks ys else y ∷ ys) ≡ drop k (y ∷ ys))
    by_test true rest = (suc rest.0, omega (arith, rest.1), rest.2)
    by_test false rest = (0, omega arith, refl)

-- what goes on tells what is ordered, and what is left
next_some : (o : Option Errand) (next : ℕ) (b : KeptEndpoint) (reply : Reply) (results : List TransferResult) (errand : Errand) → record { errand = errand; index = next } ∷ [] ≡ (goes_on o next b reply results).orders → o ≡ Some errand
next_some None next b reply results errand is = absurd cc
next_some (Some x) next b reply results errand is =
    ap (λ (v : SentErrand). Some v.errand) (sym (heads_same (record { errand = errand; index = next }) (record { errand = x; index = next }) [] [] is).0)

next_none : (o : Option Errand) (next : ℕ) (b : KeptEndpoint) (reply : Reply) (results : List TransferResult) → ◌≡◌ {A = List SentErrand} [] (goes_on o next b reply results).orders → o ≡ None
next_none None next b reply results is = refl
next_none (Some x) next b reply results is = absurd cc

line_left : (o : Option Errand) (next : ℕ) (b : KeptEndpoint) (reply : Reply) (results : List TransferResult) → (goes_on o next b reply results).endpoint.line ≡ b.line
line_left None next b reply results = refl
line_left (Some x) next b reply results = refl

-- so many are left
length_left : (s : Settlement) (ys : List KeptTransfer) → length (line_by s ys) + s.leave ≡ length (drop s.leave ys) + s.leave
length_left s ys = by_test s.withdraw
  where
    by_test : (t : Bool) → length (if t then map kept_blanked (drop s.leave ys) else drop s.leave ys) + s.leave ≡ length (drop s.leave ys) + s.leave
    by_test true = ap (λ n. n + s.leave) (length-map (drop s.leave ys) kept_blanked)
    by_test false = refl

-- a settlement of a line, as the core makes it, and it takes no more than the blanks that lead
pub record Fits (ep next : ℕ) (b : KeptEndpoint) (errand : Errand) (ok : Bool) (s : Settlement) : Type 0 where
  pub same : settle ep next b errand ok ≡ settled_by s ep next b errand ok
  pub leaves : s.leave + length (past_kept_blanks b.line) ≤ length b.line

-- a settlement is what it has
settlement_as : (s : Settlement) (leave : ℕ) (withdraw : Bool) (next : Option Errand) → s.leave ≡ leave → s.withdraw ≡ withdraw → s.next ≡ next → s ≡ record { leave = leave; withdraw = withdraw; next = next }
settlement_as s leave withdraw next l w n = λ i. record { leave = l i; withdraw = w i; next = n i }

-- so many leave as are missing
left_is : (s : Settlement) (ys xs rest : List KeptTransfer) (k : ℕ) → length xs ≡ length ys → s.leave ≤ length ys → k + length rest ≡ length ys → length rest ≡ length (line_by s xs) → s.leave ≡ k
left_is s ys xs rest k same few whole left = omega (arith, same, few, whole, left, length_left s xs, length-drop s.leave xs)

-- a line that stays, or of which those that were asked to end are withdrawn
abbrev line_as : Bool → List KeptTransfer → List KeptTransfer
line_as w ys = if w then map kept_blanked ys else ys

abbrev results_as : Bool → List KeptTransfer → List TransferResult
results_as w ys = if w then withdrawn_results ys else []

length_as : (w : Bool) (ys : List KeptTransfer) → length (line_as w ys) ≡ length ys
length_as true ys = length-map ys kept_blanked
length_as false ys = refl

module _ (ep next : ℕ) (b : KeptEndpoint) (errand : Errand) (ok : Bool) (s : Settlement) (few : s.leave ≤ length b.line) where
  -- it goes on without these, or Move is ordered
  resume_fits : (rest : List KeptTransfer) (k : ℕ) → s.withdraw ≡ true → k + length rest ≡ length b.line → rest ≡ drop k b.line
      → resume_kept next (with_cleaned b) (Settled ep errand ok) (map cleaned rest) ≡ settled_by s ep next (with_cleaned b) errand ok
      → (resume_kept next b (Settled ep errand ok) rest ≡ settled_by s ep next b errand ok) × (s.leave ≡ k)
  unfolding resume_kept
  resume_fits rest k withdraws whole is_rest is = by_lead (leads_kept (map kept_blanked rest)) refl
    where
      Result : Type 0
      Result = (resume_kept next b (Settled ep errand ok) rest ≡ settled_by s ep next b errand ok) × (s.leave ≡ k)

      ordered : KeptEndpoint → List KeptTransfer → Handled
      ordered v l = posts (record v { line = map kept_blanked l }) Move next (Settled ep errand ok) (withdrawn_results l)

      rung : KeptEndpoint → List KeptTransfer → Handled
      rung v l = record { reply = Settled ep errand ok; endpoint = record v { line = map kept_blanked l; errand = None; state = Running }; orders = []; results = withdrawn_results l }

      left : (a : Handled) → a ≡ settled_by s ep next (with_cleaned b) errand ok → a.endpoint.line ≡ map kept_blanked (map cleaned rest) → s.leave ≡ k
      left a same line =
          let kept : map kept_blanked (map cleaned rest) ≡ line_by s (map cleaned b.line) = sym line ∙ ap (λ (v : Handled). v.endpoint.line) same ∙ line_left s.next next (record (with_cleaned b) { line = line_by s (map cleaned b.line) }) (Settled ep errand ok) (results_by s (map cleaned b.line)) in
          left_is s b.line (map cleaned b.line) rest k (length-map b.line cleaned) few whole (sym (length-map rest cleaned) ∙ sym (length-map (map cleaned rest) kept_blanked) ∙ ap length kept)

      by_lead : (t : Bool) → leads_kept (map kept_blanked rest) ≡ t → Result
      by_lead true leads =
          let same : ordered (with_cleaned b) (map cleaned rest) ≡ settled_by s ep next (with_cleaned b) errand ok =
          sym (ap (λ t. if t then ordered (with_cleaned b) (map cleaned rest) else rung (with_cleaned b) (map cleaned rest)) (leads_clean rest ∙ leads)) ∙ is in
          let leave : s.leave ≡ k = left (ordered (with_cleaned b) (map cleaned rest)) same refl in
          let moves : s.next ≡ Some Move = next_some s.next next (record (with_cleaned b) { line = line_by s (map cleaned b.line) }) (Settled ep errand ok) (results_by s (map cleaned b.line)) Move (ap (λ (v : Handled). v.orders) same) in (
            ap (λ t. if t then ordered b rest else rung b rest) leads ∙ ap (ordered b) is_rest
                ∙ ap (λ (v : Settlement). settled_by v ep next b errand ok) (sym (settlement_as s k true (Some Move) leave withdraws moves)),
            leave,
          )
      by_lead false leads =
          let same : rung (with_cleaned b) (map cleaned rest) ≡ settled_by s ep next (with_cleaned b) errand ok =
          sym (ap (λ t. if t then ordered (with_cleaned b) (map cleaned rest) else rung (with_cleaned b) (map cleaned rest)) (leads_clean rest ∙ leads)) ∙ is in
          let leave : s.leave ≡ k = left (rung (with_cleaned b) (map cleaned rest)) same refl in
          let none : s.next ≡ None = next_none s.next next (record (with_cleaned b) { line = line_by s (map cleaned b.line) }) (Settled ep errand ok) (results_by s (map cleaned b.line)) (ap (λ (v : Handled). v.orders) same) in (
            ap (λ t. if t then ordered b rest else rung b rest) leads ∙ ap (rung b) is_rest
                ∙ ap (λ (v : Settlement). settled_by v ep next b errand ok) (sym (settlement_as s k true None leave withdraws none)),
            leave,
          )

  -- an errand is ordered in any case, and no item leaves
  posts_fit : (w : Bool) (o : Errand) → s.withdraw ≡ w → posts (record (with_cleaned b) { line = line_as w (map cleaned b.line) }) o next (Settled ep errand ok) (results_as w (map cleaned b.line)) ≡ settled_by s ep next (with_cleaned b) errand ok
      → (posts (record b { line = line_as w b.line }) o next (Settled ep errand ok) (results_as w b.line) ≡ settled_by s ep next b errand ok) × (s.leave ≡ 0)
  posts_fit w o withdraws is =
      let kept : line_as w (map cleaned b.line) ≡ line_by s (map cleaned b.line) = ap (λ (v : Handled). v.endpoint.line) is ∙ line_left s.next next (record (with_cleaned b) { line = line_by s (map cleaned b.line) }) (Settled ep errand ok) (results_by s (map cleaned b.line)) in
      let leave : s.leave ≡ 0 = left_is s b.line (map cleaned b.line) b.line 0 (length-map b.line cleaned) few (omega arith) (sym (length-map b.line cleaned) ∙ sym (length_as w (map cleaned b.line)) ∙ ap length kept) in
      let moves : s.next ≡ Some o = next_some s.next next (record (with_cleaned b) { line = line_by s (map cleaned b.line) }) (Settled ep errand ok) (results_by s (map cleaned b.line)) o (ap (λ (v : Handled). v.orders) is) in (
        ap (λ (v : Settlement). settled_by v ep next b errand ok) (sym (settlement_as s 0 w (Some o) leave withdraws moves)),
        leave,
      )

-- the settlement that was found by what was read is the core's
pub fits : (ep next : ℕ) (b : KeptEndpoint) (errand : Errand) (ok : Bool) (s : Settlement) → s.leave ≤ length b.line → s.withdraw ≡ not (fails_stop errand ok) → settle ep next (with_cleaned b) errand ok ≡ settled_by s ep next (with_cleaned b) errand ok
    → Fits ep next b errand ok s
unfolding settle
fits ep next b Stop false s few withdraws is =
    let r = posts_fit ep next b Stop false s few false Reset withdraws is in
    record { same = r.0; leaves = omega (arith, r.1, (past_some b.line).1) }
fits ep next b Stop true s few withdraws is =
    let r = resume_fits ep next b Stop true s few b.line 0 withdraws (omega arith) refl is in
    record { same = r.0; leaves = omega (arith, r.1, (past_some b.line).1) }
fits ep next b Reset ok s few withdraws is =
    let r = posts_fit ep next b Reset ok s few true Move withdraws is in
    record { same = r.0; leaves = omega (arith, r.1, (past_some b.line).1) }
fits ep next b Move ok s few withdraws is =
    let past = past_some b.line in
    let r = resume_fits ep next b Move ok s few (past_kept_blanks b.line) past.0 withdraws past.1 past.2 (ap (resume_kept next (with_cleaned b) (Settled ep Move ok)) (sym (past_clean b.line)) ∙ is) in
    record { same = r.0; leaves = omega (arith, r.1, past.1) }
