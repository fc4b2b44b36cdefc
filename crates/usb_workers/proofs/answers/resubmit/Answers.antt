use Rattle.usb_workers.proofs.answers.resubmit.Goals as goal

pub returns-in-Again : goal.returns-in-Again
returns-in-Again g c = rw c.in-Again.is c.again.ensures

pub returns-in-AgainWith : goal.returns-in-AgainWith
returns-in-AgainWith g c = rw c.in-AgainWith.is c.again_with.ensures
