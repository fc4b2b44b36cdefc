use Rattle.usb_workers.proofs.event.take_and_call.Goals as goal

pub returns-clause-made : goal.returns-clause-made
returns-clause-made g c = rw c.if-not-events.false (record { results = _; between = c.take.new.caller; taken = c.take.ensures.made; told = c.call_all.ensures.told })
