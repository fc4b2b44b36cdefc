-- Those before are new.
use Rattle.refine_core.specs.Renewals.{RenewedFirst, is_of_interface}
use Rattle.usb_core.proofs.renewal.renew_interface.Given as goal

abbrev pub invariant-loop-info : goal.invariant-loop-info
invariant-loop-info g l = RenewedFirst l.claims l.fn.controller l.controller l.dev (λ setup e. is_of_interface setup l.dev l.i e) l.info-items l.info-index
