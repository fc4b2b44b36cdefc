use Rattle.std.proofs.Common.{ap, refl, subst}
use Rattle.std.specs.Prelude.{is_some}
use Rattle.usb_workers.specs.Rounds.{Resubmits}
use Rattle.usb_workers.specs.Rounds as R
use Rattle.usb_workers.proofs.Told.{still_counted}
use Rattle.usb_workers.proofs.answers.answer.Goals as goal

pub returns-in_default-clause-told : goal.returns-in_default-clause-told
returns-in_default-clause-told g c = R.Tells.ends c.args.caller.now (R.Resubmits.asks_none (c.requires.stops (ap is_some c.in_default.is)) refl refl) c.stop.ensures.told

pub returns-in-Some-resubmit-clause-told : goal.returns-in-Some-resubmit-clause-told
returns-in-Some-resubmit-clause-told g c =
    R.Tells.ends c.resubmit.new.caller (subst (λ o. Resubmits g.L.Naming.setup c.args.h c.args.n c.args.verdict (is_some o) c.args.caller.now c.resubmit.new.caller) c.in-Some-resubmit.is c.resubmit.ensures) c.stop-in-Some-resubmit.ensures.told

pub returns-in_default-resubmit-clause-told : goal.returns-in_default-resubmit-clause-told
returns-in_default-resubmit-clause-told g c =
    R.Tells.goes_on (subst (λ o. Resubmits g.L.Naming.setup c.args.h c.args.n c.args.verdict (is_some o) c.args.caller.now c.resubmit.new.caller) c.in_default-resubmit.is c.resubmit.ensures)

pub stop-requires-in-Some-resubmit : goal.stop-requires-in-Some-resubmit
stop-requires-in-Some-resubmit g c = record { counted = still_counted g.L.Naming.setup c.args.tries.now.refused c.args.h c.args.n c.args.verdict _ c.args.caller.now c.resubmit.new.caller c.resubmit.ensures c.requires.counted }

pub returns-in_default-resubmit-clause-counted : goal.returns-in_default-resubmit-clause-counted
returns-in_default-resubmit-clause-counted g c = still_counted g.L.Naming.setup c.args.tries.now.refused c.args.h c.args.n c.args.verdict _ c.args.caller.now c.resubmit.new.caller c.resubmit.ensures c.requires.counted
