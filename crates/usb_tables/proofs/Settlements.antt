-- What follows when an errand ended, read off the marks of a line.
use Rattle.std.proofs.Common.{Bool, List, None, Option, Some, [], ap, drop, false, map, refl, subst, suc, sym, true, zero, ℕ, ◌+◌, ◌∙◌, ◌∷◌, ◌≡◌}
use Rattle.std.proofs.Math.Numerals.{one-add}
use Rattle.std.specs.Prelude.{if◌then◌else◌, is_some, not, ◌&&◌, ◌||◌}
use Rattle.usb_model.specs.declared.errand.Errand.{Errand}
use Rattle.usb_model.specs.declared.errand.Errand.TheVariants.{Move, Reset, Stop}
use Rattle.usb_model.specs.declared.reply.Reply.TheVariants.{Settled}
use Rattle.usb_model.specs.Kept.{KeptEndpoint, KeptTransfer}
use Rattle.usb_model.specs.Events.{Handled, past_kept_blanks}
use Rattle.usb_model.specs.Settlements.{kept_blanked, leads_kept, resume_kept, settle, withdrawn_results}
use Rattle.usb_tables.specs.declared.ended.Mark.{Mark}
use Rattle.usb_tables.specs.Settlements.{goes_on, leading, leads_withdrawn, mark_of, resumed_at, settled_by}

-- a blank leads once those that were asked are withdrawn
leads_same : (line : List KeptTransfer) → leads_kept (map kept_blanked line) ≡ leads_withdrawn (map mark_of line)
leads_same [] = refl
leads_same (y ∷ ys) = by_marks y.blank (is_some y.ask) refl
  where
    by_marks : (blank asked : Bool) → y.blank ≡ blank → (if not blank && asked then record y { blank = true } else y).blank ≡ (blank || asked)
    by_marks true asked e = e
    by_marks false true e = refl
    by_marks false false e = e

-- the blanks that lead are those that leave
leaves : (line : List KeptTransfer) → past_kept_blanks line ≡ drop (leading (map mark_of line)) line
unfolding past_kept_blanks
leaves [] = refl
leaves (y ∷ ys) = by_blank y.blank (leaves ys)
  where
    one_more : (k : ℕ) → drop (1 + k) (y ∷ ys) ≡ drop k ys
    one_more k = ap (λ n. drop n (y ∷ ys)) (one-add k)

    by_blank : (t : Bool) → past_kept_blanks ys ≡ drop (leading (map mark_of ys)) ys → (if t then past_kept_blanks ys else y ∷ ys) ≡ drop (if t then 1 + leading (map mark_of ys) else 0) (y ∷ ys)
    by_blank true rest = rest ∙ sym (one_more (leading (map mark_of ys)))
    by_blank false rest = refl

marks_left : (k : ℕ) (line : List KeptTransfer) → map mark_of (drop k line) ≡ drop k (map mark_of line)
marks_left zero line = refl
marks_left (suc k) [] = refl
marks_left (suc k) (y ∷ ys) = marks_left k ys

-- the endpoint goes on with what is left of its line
resumes : (leave : ℕ) (line : List Mark) (ep next : ℕ) (b : KeptEndpoint) (errand : Errand) (ok : Bool) → map mark_of b.line ≡ line
    → resume_kept next b (Settled ep errand ok) (drop leave b.line) ≡ settled_by (resumed_at leave line) ep next b errand ok
unfolding resume_kept
resumes leave line ep next b errand ok e = by_test (leads_withdrawn (drop leave line)) same
  where
    rest : List KeptTransfer
    rest = drop leave b.line

    same : leads_kept (map kept_blanked rest) ≡ leads_withdrawn (drop leave line)
    same = leads_same rest ∙ ap leads_withdrawn (marks_left leave b.line ∙ ap (drop leave) e)

    done : Option Errand → Handled
    done o = goes_on o next (record b { line = map kept_blanked rest }) (Settled ep errand ok) (withdrawn_results rest)

    by_test : (t : Bool) → leads_kept (map kept_blanked rest) ≡ t → (if leads_kept (map kept_blanked rest) then done (Some Move) else done None) ≡ done (if t then Some Move else None)
    by_test true q = subst (λ u. (if u then done (Some Move) else done None) ≡ done (Some Move)) (sym q) refl
    by_test false q = subst (λ u. (if u then done (Some Move) else done None) ≡ done None) (sym q) refl

-- after a Stop that failed
pub stop_failed : (errand : Errand) (ok : Bool) → errand ≡ Stop → ok ≡ false → (ep next : ℕ) (b : KeptEndpoint) → settle ep next b errand ok ≡ settled_by (record { leave = 0; withdraw = false; next = Some Reset }) ep next b errand ok
unfolding settle
stop_failed Stop false is failed ep next b = refl
stop_failed Stop true is failed ep next b = absurd cc
stop_failed Reset ok is failed ep next b = absurd cc
stop_failed Move ok is failed ep next b = absurd cc

-- after a Stop
pub stopped : (errand : Errand) (ok : Bool) → errand ≡ Stop → ok ≡ true → (line : List Mark) (ep next : ℕ) (b : KeptEndpoint) → map mark_of b.line ≡ line → settle ep next b errand ok ≡ settled_by (resumed_at 0 line) ep next b errand ok
unfolding settle
stopped Stop true is done line ep next b e = resumes 0 line ep next b Stop true e
stopped Stop false is done line ep next b e = absurd cc
stopped Reset ok is done line ep next b e = absurd cc
stopped Move ok is done line ep next b e = absurd cc

-- after a Reset
pub was_reset : (errand : Errand) (ok : Bool) → errand ≡ Reset → (ep next : ℕ) (b : KeptEndpoint) → settle ep next b errand ok ≡ settled_by (record { leave = 0; withdraw = true; next = Some Move }) ep next b errand ok
unfolding settle
was_reset Reset ok is ep next b = refl
was_reset Stop ok is ep next b = absurd cc
was_reset Move ok is ep next b = absurd cc

-- after a Move
pub moved : (errand : Errand) (ok : Bool) → errand ≡ Move → (line : List Mark) (ep next : ℕ) (b : KeptEndpoint) → map mark_of b.line ≡ line → settle ep next b errand ok ≡ settled_by (resumed_at (leading line) line) ep next b errand ok
unfolding settle
moved Move ok is line ep next b e =
    ap (resume_kept next b (Settled ep Move ok)) (leaves b.line ∙ ap (λ l. drop (leading l) b.line) e) ∙ resumes (leading line) line ep next b Move ok e
moved Stop ok is line ep next b e = absurd cc
moved Reset ok is line ep next b e = absurd cc
