-- A piece further each turn.
use Rattle.std.proofs.Common.{[], ◌++◌, ◌∙◌, refl}
use Rattle.std.specs.Vec.Iter.{into_iter_items}
use Rattle.usb_plans.proofs.Reached.{ends_fixed, has_callback, is_no_verdict, none_ahead, none_yet, one_more}
use Rattle.trace_run.proofs.ending.perform_all.Goals as goal

pub loop-piece-init : goal.loop-piece-init
loop-piece-init g c = λ setup rules s. (
  [],
  none_yet g.C.Callback.rule setup c.args.plan rules c.args.run.now (into_iter_items c.into_iter-piece-iterator.result) (into_iter_items c.args.left.now) (c.into_iter-piece-iterator.ensures.into_iter_gives.0 ∙ c.into_vec-piece-items.ensures) s.shows s.under s.enough s.no_verdict,
)

pub perform_piece-requires-clause-submits : goal.perform_piece-requires-clause-submits
perform_piece-requires-clause-submits g c =
    let r = c.loop-piece.invariant c.requires.0 c.requires.1 c.requires.2 in
    has_callback g.C.Callback.rule c.requires.0 c.args.plan c.requires.1 c.loop-piece.run r.0 (into_iter_items c.loop-piece.piece-iterator) (into_iter_items c.next.new.self) (into_iter_items c.loop-piece.left) (into_iter_items c.next_callback-callback.new.left)
    c.in-Some.piece c.next_callback-callback.result c.in-Some.ensures.steps.0 r.1 c.next_callback-callback.ensures

pub perform_piece-requires-clause-no_verdict : goal.perform_piece-requires-clause-no_verdict
perform_piece-requires-clause-no_verdict g c =
    let r = c.loop-piece.invariant c.requires.0 c.requires.1 c.requires.2 in
    is_no_verdict g.C.Callback.rule c.requires.0 c.args.plan c.requires.1 c.loop-piece.run r.0 (into_iter_items c.loop-piece.piece-iterator) (into_iter_items c.next.new.self) (into_iter_items c.loop-piece.left) c.in-Some.piece c.in-Some.ensures.steps.0 r.1

pub loop-piece-preserved : goal.loop-piece-preserved
loop-piece-preserved g c = λ setup rules s.
    let r = c.loop-piece.invariant setup rules s in
    let made = c.in_ok-perform_piece.ensures in (
      r.0 ++ made.0,
      one_more g.C.Callback.rule setup c.args.plan rules c.loop-piece.run c.perform_piece.new.run r.0 (r.0 ++ made.0) (into_iter_items c.loop-piece.piece-iterator) (into_iter_items c.next.new.self) (into_iter_items c.loop-piece.left) (into_iter_items c.next_callback-callback.new.left)
          c.in-Some.piece c.next_callback-callback.result c.in-Some.ensures.steps.0 r.1 c.next_callback-callback.ensures (made.0, made.1, refl),
    )

pub returns : goal.returns
returns g c = λ setup rules s.
    let r = c.loop-piece.invariant setup rules s in
    (r.1.stage, r.1.shows, ends_fixed g.C.Callback.rule setup c.args.plan rules c.loop-piece.run r.0 (into_iter_items c.loop-piece.piece-iterator) (into_iter_items c.loop-piece.left) (none_ahead c.loop-piece.piece-iterator c.in-None.ensures.steps.0) r.1 s.fixed)
