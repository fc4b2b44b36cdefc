-- One id more.
use Rattle.std.proofs.Common.{◌≡◌, ℕ, ap, sym, ◌∙◌, ◌∷◌, [], ◌++◌, arith, List, map, length}
use Rattle.std.specs.Prelude.{Option}
use Rattle.std.specs.List.{range_with_len}
use Rattle.std.proofs.lemmas.List.FromFn.{map-range_with_len_more}
use Rattle.usb_xhc.specs.Context.{Context}
use Rattle.usb_xhc.specs.Made.{context_for, contexts_for}
use Rattle.usb_xhc.proofs.rings.make_contexts.Goals as goal

pub loop-id-preserved : goal.loop-id-preserved
loop-id-preserved c =
    let f : ℕ → Option Context = context_for c.args.slot c.args.config.now in
    ◌∙◌ {A = List (Option Context)} c.in_ok-push.ensures.items
    (ap (λ (xs : List (Option Context)). xs ++ c.in_ok-context_for.field-0 ∷ []) c.loop-id.invariant
    ∙ ap (λ (t : Option Context). map f (range_with_len 0 c.loop-id.id) ++ t ∷ []) c.in_ok-context_for.ensures
    ∙ sym (map-range_with_len_more f 0 c.loop-id.id c.loop-id.id (omega arith)))

pub returns-clause-made : goal.returns-clause-made
unfolding contexts_for
returns-clause-made c =
    let all : c.loop-id.id ≡ 32 = omega (arith, c.loop-id-test.false, c.loop-id.auto.id-end) in
    c.loop-id.invariant ∙ ap (λ (n : ℕ). map (context_for c.args.slot c.args.config.now) (range_with_len 0 n)) all

pub returns-clause-ids : goal.returns-clause-ids
returns-clause-ids c =
    let all : c.loop-id.id ≡ 32 = omega (arith, c.loop-id-test.false, c.loop-id.auto.id-end) in
    ap length c.loop-id.invariant ∙ ap (λ (n : ℕ). length (map (context_for c.args.slot c.args.config.now) (range_with_len 0 n))) all
