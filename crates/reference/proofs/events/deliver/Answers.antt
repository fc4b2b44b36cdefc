-- Each kind of news is handled as its own function says.
use Rattle.reference.proofs.events.deliver.Goals as goal

-- of an ended transfer, at every address
pub returns-in-Finished : goal.returns-in-Finished
returns-in-Finished c = rw c.in-Finished.is (c.finish.ensures c.args.ep)

-- of an order, whether or not the device is gone
pub returns-in-Settled : goal.returns-in-Settled
returns-in-Settled c = rw c.in-Settled.is (c.settle.ensures c.args.gone)
