use Rattle.std.proofs.Common.{◌≡◌, ◌++◌, ◌<◌, ◌≤◌, ℕ, Bor, List, length, drop, sym, ap, ◌∙◌, subst, arith}
use Rattle.std.specs.List.{flat_map}
use Rattle.std.proofs.lemmas.List.{take_all}
use Rattle.trace_test.specs.Comparison.{first_text, texts_of}
use Rattle.trace_test.specs.Macros.{filled, part_filled, parts_in, within}
use Rattle.trace_test.proofs.Calls.{parts-filled, within-none}
use Rattle.trace_test.proofs.macros.filled.Goals as goal

pub returns-then-len-room : goal.returns-then-len-room
returns-then-len-room c =
    let words = texts_of c.args.words.now in
    let rest = c.past_first-rest.result.now in
    let is : rest ≡ drop 1 c.in_ok-parts.parts.items = c.past_first-rest.ensures ∙ ap (drop 1) c.as_slice.ensures.value in
    let same = parts-filled words c.in_ok-parts.parts.items rest c.args.body.now c.in_ok-parts.ensures is in
    let more : c.args.room < length c.loop-part.text.items = omega arith in
    sym (ap (λ ys. within c.args.room (first_text (parts_in c.args.body.now) ++ ys)) (sym same)
    ∙ within-none (λ (part : Bor (List ℕ)). part_filled words part.now) (first_text (parts_in c.args.body.now)) rest c.loop-part.part-index c.args.room
    (subst (λ text. c.args.room < length text) c.loop-part.invariant more))

pub returns : goal.returns
returns c =
    let words = texts_of c.args.words.now in
    let rest = c.past_first-rest.result.now in
    let is : rest ≡ drop 1 c.in_ok-parts.parts.items = c.past_first-rest.ensures ∙ ap (drop 1) c.as_slice.ensures.value in
    let same = parts-filled words c.in_ok-parts.parts.items rest c.args.body.now c.in_ok-parts.ensures is in
    let ends : length rest ≤ c.loop-part.part-index = omega arith in
    let all : c.loop-part.text.items ≡ filled words c.args.body.now =
    c.loop-part.invariant
    ∙ ap (λ parts. first_text (parts_in c.args.body.now) ++ flat_map (λ (part : Bor (List ℕ)). part_filled words part.now) parts) (take_all c.loop-part.part-index rest ends)
    ∙ ap (λ ys. first_text (parts_in c.args.body.now) ++ ys) same in
    c.within.ensures ∙ ap (within c.args.room) all
