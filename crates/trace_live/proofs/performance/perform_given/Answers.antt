-- The steps are those of the journal that the library left.
use Rattle.std.proofs.Common.{IsOk, rules, subst}
use Rattle.usb_core.specs.Public.{setup_of}
use Rattle.usb_journal.specs.Booked.{steps_of, world_where}
use Rattle.trace_threads.specs.Verdicts.{AreToldSo}
use Rattle.trace_live.proofs.CallsMade.{has_calls}
use Rattle.trace_live.proofs.Driving.{all_made}
use Rattle.trace_live.proofs.Named.{at_rest}
use Rattle.trace_live.proofs.Verdicts.{answers_so, verdicts_told}
use Rattle.trace_live.proofs.performance.perform_given.Goals as goal

pub returns : goal.returns
returns g c =
    let setup = setup_of c.args.setup in
    let given = g.Q.Planned.given in
    let rounds = c.args.rounds in
    let kept = c.in_ok-kept.ensures in
    let journal = c.in_ok-kept.field-0.journal in (
      steps_of journal,
      record {
        calls = has_calls (λ made. IsOk made) _ all_made setup _ journal _ _ _ kept.by c.in_ok-are_made.ensures c.args.plan c.in_ok-handles.ensures;
        verdicts =
            subst (λ submissions. AreToldSo setup submissions rounds (steps_of journal)) c.requires
            (verdicts_told given rounds (λ made. IsOk made) _ all_made setup _ journal _ _ _ kept.by c.in_ok-are_made.ensures c.args.plan c.in_ok-handles.ensures (answers_so given rounds (λ p. p.1)) c.if-lacked_memory.false kept.run.run);
        callbacks = search rules;
        left = c.in_ok-unfinished_in.ensures setup (world_where setup journal) kept.run.is_shown;
        rest = at_rest setup (world_where setup journal) (kept.rest.rests c.if-not-at_rest.false);
      },
    )
