-- The verdict is told for the transfer of which the callback was told.
use Rattle.std.proofs.Common.{ℕ, ap, subst}
use Rattle.usb_model.specs.declared.reply.Returned.{Returned}
use Rattle.usb_workers.specs.Rounds.{Tells}
use Rattle.usb_workers.proofs.Told.{may_be_told, tells_called}
use Rattle.usb_workers.proofs.event.call_back.Goals as goal

pub returns-clause-told : goal.returns-clause-told
returns-clause-told g c =
    let told = c.args.taken.returned in
    let v = c.verdict-verdict.result in (
      v,
      may_be_told c.args.limit.now.rounds g.C.Whom.Suiting.suits g.C.Callback.may_answer g.C.Callback.rule c.args.caller.now told c.args.taken.payload v c.call-answered.result.0 c.requires.suits c.call-answered.ensures.answered c.call-answered.ensures.fits c.args.limit.now.called c.requires.called c.verdict-verdict.ensures.verdict,
      subst (λ (k : ℕ). Tells g.L.Naming.setup told.h k v c.args.caller.now c.answer.new.caller) (ap (λ (r : Returned). r.n) c.deref-2.ensures)
          (subst (λ (k : ℕ). Tells g.L.Naming.setup k c.deref-2.result.now.n v c.args.caller.now c.answer.new.caller) (ap (λ (r : Returned). r.h) c.deref.ensures) c.answer.ensures.told),
    )

pub returns-clause-called : goal.returns-clause-called
returns-clause-called g c = (c.verdict-verdict.ensures.called, tells_called g.L.Naming.setup _ _ c.verdict-verdict.result c.args.caller.now c.answer.new.caller c.answer.ensures.told)
