use Rattle.std.proofs.Common.{ap, append_assoc, arith, map, subst, sym, ◌++◌, ◌∙◌, ◌∷◌, []}
use Rattle.std.proofs.lemmas.List.{length-append, map-append}
use Rattle.usb_workers.specs.Rounds.{MayAnswer}
use Rattle.usb_workers.proofs.Told.{tells_more}
use Rattle.usb_workers.proofs.event.call_all.Goals as goal

pub loop-each-preserved : goal.loop-each-preserved
loop-each-preserved g c =
    let i = c.loop-each.invariant in
    let x = c.in-Some.each in
    let told = c.call_back.ensures.told in
    record {
      told =
          rw (map-append (λ t. t.returned) c.loop-each.yielded (x ∷ []))
          (tells_more g.L.Naming.setup (MayAnswer c.args.limit.now.rounds g.C.Whom.Suiting.suits g.C.Callback.may_answer g.C.Callback.rule) (map (λ t. t.returned) c.loop-each.yielded) x.returned told.0 c.args.caller.now c.loop-each.caller c.call_back.new.caller i.told
          (subst (λ n. MayAnswer n g.C.Whom.Suiting.suits g.C.Callback.may_answer g.C.Callback.rule c.loop-each.caller x.returned told.0) i.rounds told.1) told.2);
      called = omega (arith, i.called, i.own, c.call_back.ensures.called.0, length-append c.loop-each.yielded (x ∷ []));
      own = omega (arith, i.own, c.call_back.ensures.called.1);
      rounds = c.call_back.ensures.rounds ∙ i.rounds;
      counted = c.call_back.ensures.counted;
      left = append_assoc c.loop-each.yielded (x ∷ []) _ ∙ (ap (λ l. c.loop-each.yielded ++ l) (sym c.in-Some.ensures.steps.0) ∙ i.left);
    }
