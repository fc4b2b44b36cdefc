-- Lines go into a channel behind those that are in it, and come out at the front: whoever has its only pass knows them.
use Rattle.std.proofs.Common.{◌≡◌, ℕ, zero, suc, List, [], ◌∷◌, ◌++◌, slice_set, refl, sym, ap, ◌∙◌, subst}
use mathlib.Core.Option.{some, some-injective, some-ne-none}
use lib.ListN.{get_elem?}
use Rattle.crossbeam_channel.specs.Fifo.{Learns, Pops, Pushes}
use Rattle.trace_live.specs.declared.line.Line.{Line}
use Rattle.trace_live.specs.declared.queue.Coming.{Coming}
use Rattle.trace_live.specs.Lines.{InOrder, coming}

-- the only pass is that of what is in the channel
the_one : {Q : Type 0} → (lines : List (Line Q)) (pass : ℕ) (v : Coming Q) → get_elem? (coming lines ∷ []) pass ≡ some v → (pass ≡ 0) × (coming lines ≡ v)
the_one lines zero v at = (refl, some-injective (coming lines) v at)
the_one lines (suc pass) v at = absurd (some-ne-none v (sym at))

put : {Q : Type 0} → (views : List (Coming Q)) (lines more : List (Line Q)) (pass : ℕ) (v : Coming Q) → InOrder lines views → get_elem? views pass ≡ some v → (lines ≡ v.lines) × InOrder more (slice_set views pass (coming more))
put views lines more pass v holds at =
    let one = the_one lines pass v (subst (λ vs. get_elem? vs pass ≡ some v) holds at) in
    (ap (λ c. c.lines) one.1, ap (λ vs. slice_set vs pass (coming more)) holds ∙ ap (λ p. slice_set (coming lines ∷ []) p (coming more)) one.0)

pub enters : {Q : Type 0} → (n pass : ℕ) (v : Coming Q) (x : Line Q) → Pushes InOrder n pass v x (λ w. w.lines ≡ v.lines ++ x ∷ [])
enters n pass v x lines views room holds at =
    let now = put views lines (lines ++ x ∷ []) pass v holds at in
    (coming (lines ++ x ∷ []), now.1, ap (λ l. l ++ x ∷ []) now.0)

pub leaves : {Q : Type 0} → (pass : ℕ) (v : Coming Q) → Pops InOrder pass v (λ x w. v.lines ≡ x ∷ w.lines)
leaves pass v x lines views holds at =
    let now = put views (x ∷ lines) lines pass v holds at in
    (coming lines, now.1, sym now.0)

pub knows : {Q : Type 0} → (pass : ℕ) (v : Coming Q) → Learns InOrder pass v (λ lines. v.lines ≡ lines)
knows pass v lines views holds at = sym (put views lines lines pass v holds at).0

pub knows_nothing : {Q : Type 0} → (pass : ℕ) (v : Coming Q) → Learns InOrder pass v (λ lines. Unit {0})
knows_nothing pass v lines views holds at = tt
