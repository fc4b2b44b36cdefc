use Rattle.std.proofs.Common.{◌≡◌, ◌∙◌, ◌∷◌, ◌++◌, [], length, subst, sym, rules}
use Rattle.std.specs.Vec.Iter.{into_iter_items}
use Rattle.trace_live.specs.Lines.{AreDealt, said_by_each}
use Rattle.trace_threads.specs.Verdicts.{AreGiven, ruled}
use Rattle.trace_live.proofs.Dealing.{dealt_more, none_dealt, written_back}
use Rattle.trace_live.proofs.Submissions.{of_piece, of_rest}
use Rattle.trace_live.proofs.handles.lines_of.Goals as goal

pub loop-piece-init : goal.loop-piece-init
loop-piece-init g c =
    let all : into_iter_items c.into_iter-piece-iterator.result ≡ c.args.plan = search rules in
    (subst (λ handles. AreDealt handles []) (sym c.in_ok-handles.ensures) none_dealt, subst (λ plan. AreGiven g.Q.Planned.given (ruled plan c.args.rules.now)) (sym all) c.requires.given)

pub deal-requires-clause-given : goal.deal-requires-clause-given
deal-requires-clause-given g c =
    let left = c.loop-piece.left.now in
    let rest = into_iter_items c.next.new.self in
    of_piece g.Q.Planned.given c.in-Some.piece rest left (subst (λ plan. AreGiven g.Q.Planned.given (ruled plan left)) c.in-Some.ensures.steps.0 c.loop-piece.invariant.1)

pub loop-piece-preserved : goal.loop-piece-preserved
loop-piece-preserved g c =
    let before = c.loop-piece.handles in
    let all : before.len ≡ length before.items = search rules in
    let same : length c.deal.new.handles ≡ length before.items = search rules in
    let left = c.loop-piece.left.now in
    let rest = into_iter_items c.next.new.self in (
      subst (λ handles. AreDealt (said_by_each handles) (c.loop-piece.yielded ++ c.in-Some.piece ∷ [])) (sym (written_back before.len before.items c.deal.new.handles all same))
          (subst (λ handles. AreDealt handles (c.loop-piece.yielded ++ c.in-Some.piece ∷ [])) (sym (c.in_ok-deal.ensures.dealt ∙ search rules))
          (dealt_more (said_by_each before.items) c.loop-piece.yielded c.in-Some.piece c.loop-piece.invariant.0 c.in_ok-deal.ensures.named)),
      subst (λ now. AreGiven g.Q.Planned.given (ruled rest now)) (sym c.deal.ensures.rules)
          (of_rest g.Q.Planned.given c.in-Some.piece rest left (subst (λ plan. AreGiven g.Q.Planned.given (ruled plan left)) c.in-Some.ensures.steps.0 c.loop-piece.invariant.1)),
    )
