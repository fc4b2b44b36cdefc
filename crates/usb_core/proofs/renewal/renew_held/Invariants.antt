-- Those before are new.
use Rattle.refine_core.specs.Renewals.{RenewedFirst, is_held_by}
use Rattle.usb_core.proofs.renewal.renew_held.Given as goal

abbrev pub invariant-loop-info : goal.invariant-loop-info
invariant-loop-info g l = RenewedFirst l.claims l.fn.controller l.controller l.dev (λ setup e. is_held_by setup l.claims l.h l.dev e) l.info-items l.info-index
