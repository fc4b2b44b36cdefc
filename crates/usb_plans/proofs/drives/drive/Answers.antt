-- A piece further each turn.
use Rattle.std.proofs.Common.{length, map, sym, ap, ◌∙◌}
use Rattle.std.specs.Vec.Iter.{into_iter_items}
use Rattle.usb_core.specs.Public.{setup_of}
use Rattle.usb_plans.proofs.Reached.{all, has_callback, is_no_verdict, none_ahead, none_yet, one_more, stopped}
use Rattle.usb_plans.proofs.drives.drive.Goals as goal

pub loop-piece-init : goal.loop-piece-init
loop-piece-init g c = rw c.new-entries.ensures.items
    (none_yet g.C.Callback.rule (setup_of c.args.setup) c.args.plan.items (map g.C.Callback.rule c.args.callbacks.items) c.in-Ok.run' (into_iter_items c.into_iter-piece-iterator.result) (into_iter_items c.into_iter-left.result) c.into_iter-piece-iterator.ensures.into_iter_gives.0
    c.in-Ok.ensures (ap (map g.C.Callback.rule) (sym c.into_iter-left.ensures.rest)) (ap length c.into_iter-left.ensures.rest ∙ c.requires.callbacks) c.requires.no_verdict)

pub advance-requires-clause-submits : goal.advance-requires-clause-submits
advance-requires-clause-submits g c =
    has_callback g.C.Callback.rule (setup_of c.args.setup) c.args.plan.items (map g.C.Callback.rule c.args.callbacks.items) c.loop-piece.run c.loop-piece.entries.items (into_iter_items c.loop-piece.piece-iterator) (into_iter_items c.next.new.self)
    (into_iter_items c.loop-piece.left) (into_iter_items c.next_callback-callback.new.left) c.in-Some.piece c.next_callback-callback.result c.in-Some.ensures.steps.0 c.loop-piece.invariant c.next_callback-callback.ensures

pub advance-requires-clause-no_verdict : goal.advance-requires-clause-no_verdict
advance-requires-clause-no_verdict g c =
    is_no_verdict g.C.Callback.rule (setup_of c.args.setup) c.args.plan.items (map g.C.Callback.rule c.args.callbacks.items) c.loop-piece.run c.loop-piece.entries.items (into_iter_items c.loop-piece.piece-iterator) (into_iter_items c.next.new.self)
    (into_iter_items c.loop-piece.left) c.in-Some.piece c.in-Some.ensures.steps.0 c.loop-piece.invariant

pub returns-in_default-advance-clause-stopped : goal.returns-in_default-advance-clause-stopped
returns-in_default-advance-clause-stopped g c = rw (c.from_vec-in_default-advance.ensures, c.in_default-advance.ensures.kept)
    (stopped g.C.Callback.rule (setup_of c.args.setup) c.args.plan.items (map g.C.Callback.rule c.args.callbacks.items) c.loop-piece.run c.advance.new.run c.loop-piece.entries.items (into_iter_items c.loop-piece.piece-iterator) (into_iter_items c.next.new.self)
    (into_iter_items c.loop-piece.left) c.in-Some.piece c.in-Some.ensures.steps.0 c.loop-piece.invariant c.in_default-advance.ensures.stays)

pub loop-piece-preserved : goal.loop-piece-preserved
loop-piece-preserved g c =
    one_more g.C.Callback.rule (setup_of c.args.setup) c.args.plan.items (map g.C.Callback.rule c.args.callbacks.items) c.loop-piece.run c.advance.new.run c.loop-piece.entries.items c.advance.new.entries.items (into_iter_items c.loop-piece.piece-iterator) (into_iter_items c.next.new.self)
    (into_iter_items c.loop-piece.left) (into_iter_items c.next_callback-callback.new.left) c.in-Some.piece c.next_callback-callback.result c.in-Some.ensures.steps.0 c.loop-piece.invariant c.next_callback-callback.ensures c.in-Ok-advance.ensures.advanced

pub returns-clause-entries : goal.returns-clause-entries
returns-clause-entries g c = rw c.from_vec-2.ensures
    (all g.C.Callback.rule (setup_of c.args.setup) c.args.plan.items (map g.C.Callback.rule c.args.callbacks.items) c.loop-piece.run c.loop-piece.entries.items (into_iter_items c.loop-piece.piece-iterator) (into_iter_items c.loop-piece.left)
    (none_ahead c.loop-piece.piece-iterator c.in-None.ensures.steps.0) c.loop-piece.invariant)
