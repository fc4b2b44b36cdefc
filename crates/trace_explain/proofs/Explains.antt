-- A run with what is said of its entries, piece by piece.
use Rattle.std.proofs.Common.{◌≡◌, ℕ, ◌+◌, ◌<◌, ◌≤◌, List, [], ◌∷◌, ◌++◌, length, drop, get_or, map, slice_index_or, Option, refl, sym, ap, ◌∙◌, append-nil, append_assoc}
use Rattle.std.proofs.lemmas.List.{drop-map, drop_more, drop_all}
use Rattle.usb_model.specs.declared.plan.Plan.{Plan}
use Rattle.usb_model.specs.Setup.{Setup}
use Rattle.usb_model.specs.World.Plans.{Stage, stage_after, steps_of}
use Rattle.trace_explain.specs.Explained.{IsAsked, explained_from, is_told, told_piece}
use Rattle.trace_explain.specs.declared.sentence.Reason.{Reason}
use Rattle.trace_explain.specs.declared.telling.Telling.{Telling}
use Rattle.trace_explain.specs.declared.telling.Telling.TheVariants.{Reasons, Refusals, Packets, StepPackets}

-- what is told of a piece stands behind the others, and the rest is told from the stage behind it
pub explained-further : (told : Telling) (setup : Setup) (s t : Stage) (piece : Plan) (plan : List Plan) (i : ℕ) (line : ℕ × List ℕ) (lines : List (ℕ × List ℕ)) (before after all : List ℕ)
    → i < length plan → piece ≡ slice_index_or plan i piece
    → before ++ explained_from told setup s (drop i plan) (line ∷ lines) ≡ all
    → after ≡ before ++ told_piece told setup s piece line
    → t ≡ stage_after setup s piece (steps_of setup s piece)
    → after ++ explained_from told setup t (drop (i + 1) plan) lines ≡ all
unfolding explained_from
explained-further told setup s t piece plan i line lines before after all within item so_far put behind =
    let rest : drop i plan ≡ piece ∷ drop (i + 1) plan = drop_more plan i piece within ∙ ap (λ y. y ∷ drop (i + 1) plan) (sym item) in
    let text : List ℕ = told_piece told setup s piece line in
    let more : List ℕ = explained_from told setup (stage_after setup s piece (steps_of setup s piece)) (drop (i + 1) plan) lines in
    rw (put, behind) (append_assoc before text more ∙ sym (ap (λ l. before ++ explained_from told setup s l (line ∷ lines)) rest) ∙ so_far)

-- at the end of the plan nothing is left to tell
pub explained-end : (told : Telling) (setup : Setup) (s : Stage) (plan : List Plan) (i : ℕ) (lines : List (ℕ × List ℕ)) (text all : List ℕ) → length plan ≤ i
    → text ++ explained_from told setup s (drop i plan) lines ≡ all → text ≡ all
unfolding explained_from
explained-end told setup s plan i lines text all past so_far =
    sym (append-nil text) ∙ (sym (ap (λ l. text ++ explained_from told setup s l lines) (drop_all i plan past)) ∙ so_far)

-- the line of a piece, and those behind it
pub line_at : {A B : Type 0} (f : A → B) (xs : List A) (i : ℕ) (d : A) → i < length xs → drop i (map f xs) ≡ f (get_or xs i d) ∷ drop (i + 1) (map f xs)
line_at f xs i d within = drop-map f i xs ∙ ap (map f) (drop_more xs i d within) ∙ ap (λ l. f (get_or xs i d) ∷ l) (sym (drop-map f (i + 1) xs))

-- whether a piece is told may be asked of the reason that was asked for
pub told_by_asked : (told : Telling) (reason own : Option Reason) → IsAsked told reason own → is_told told reason ≡ is_told told own
told_by_asked Reasons reason own asked = refl
told_by_asked Refusals reason own asked = ap (is_told Refusals) asked
told_by_asked Packets reason own asked = refl
told_by_asked StepPackets reason own asked = refl
