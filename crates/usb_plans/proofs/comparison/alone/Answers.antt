-- The handle's part of a run, and a run of just these steps.
use Rattle.usb_core.specs.Public.{setup_of}
use Rattle.usb_plans.proofs.Apart.{compared}
use Rattle.usb_plans.proofs.comparison.alone.Goals as goal

pub returns-clause-shared : goal.returns-clause-shared
returns-clause-shared g c = (compared (setup_of c.args.setup) (setup_of c.in_ok-part.back) c.args.steps.now c.args.h c.in_ok-part.part c.in_ok-alone.alone c.in_ok-part.ensures.part c.in_ok-part.ensures.back c.in_ok-alone.ensures).shared

pub returns-clause-alone : goal.returns-clause-alone
returns-clause-alone g c = (compared (setup_of c.args.setup) (setup_of c.in_ok-part.back) c.args.steps.now c.args.h c.in_ok-part.part c.in_ok-alone.alone c.in_ok-part.ensures.part c.in_ok-part.ensures.back c.in_ok-alone.ensures).machine

pub returns-clause-runs : goal.returns-clause-runs
returns-clause-runs g c = (compared (setup_of c.args.setup) (setup_of c.in_ok-part.back) c.args.steps.now c.args.h c.in_ok-part.part c.in_ok-alone.alone c.in_ok-part.ensures.part c.in_ok-part.ensures.back c.in_ok-alone.ensures).runs

pub returns-clause-same : goal.returns-clause-same
returns-clause-same g c = (compared (setup_of c.args.setup) (setup_of c.in_ok-part.back) c.args.steps.now c.args.h c.in_ok-part.part c.in_ok-alone.alone c.in_ok-part.ensures.part c.in_ok-part.ensures.back c.in_ok-alone.ensures).same

pub returns-clause-once : goal.returns-clause-once
returns-clause-once g c = (compared (setup_of c.args.setup) (setup_of c.in_ok-part.back) c.args.steps.now c.args.h c.in_ok-part.part c.in_ok-alone.alone c.in_ok-part.ensures.part c.in_ok-part.ensures.back c.in_ok-alone.ensures).once

pub returns-clause-order : goal.returns-clause-order
returns-clause-order g c = (compared (setup_of c.args.setup) (setup_of c.in_ok-part.back) c.args.steps.now c.args.h c.in_ok-part.part c.in_ok-alone.alone c.in_ok-part.ensures.part c.in_ok-part.ensures.back c.in_ok-alone.ensures).order
