-- Each step is its call.
use Rattle.usb_core.proofs.parts.Parts.call.Goals as goal

pub returns-in-Open-clause-done : goal.returns-in-Open-clause-done
returns-in-Open-clause-done g c = rw (c.in-Open.is, c.entry_of.ensures) c.open.ensures.done

pub returns-in-Close-clause-done : goal.returns-in-Close-clause-done
returns-in-Close-clause-done g c = rw (c.in-Close.is, c.entry_of-in-Close.ensures) c.close.ensures.done

pub returns-in-Claim-clause-done : goal.returns-in-Claim-clause-done
returns-in-Claim-clause-done g c = rw (c.in-Claim.is, c.entry_of-in-Claim.ensures) c.claim.ensures.done

pub returns-in-Release-clause-done : goal.returns-in-Release-clause-done
returns-in-Release-clause-done g c = rw (c.in-Release.is, c.entry_of-in-Release.ensures) c.release.ensures.done

pub returns-in-Reset-clause-done : goal.returns-in-Reset-clause-done
returns-in-Reset-clause-done g c = rw (c.in-Reset.is, c.entry_of-in-Reset.ensures) c.reset.ensures.done

pub returns-in-ClearHalt-clause-done : goal.returns-in-ClearHalt-clause-done
returns-in-ClearHalt-clause-done g c = rw (c.in-ClearHalt.is, c.entry_of-in-ClearHalt.ensures) c.clear_halt.ensures.done

pub returns-in-Cancel-clause-done : goal.returns-in-Cancel-clause-done
returns-in-Cancel-clause-done g c = rw (c.in-Cancel.is, c.entry_of-in-Cancel.ensures) c.cancel.ensures.done

pub returns-in-Expire-clause-done : goal.returns-in-Expire-clause-done
returns-in-Expire-clause-done g c = rw (c.in-Expire.is, c.entry_of-in-Expire.ensures) c.expire.ensures.done

pub returns-in-Serve-clause-done : goal.returns-in-Serve-clause-done
returns-in-Serve-clause-done g c = rw c.in-Serve.is c.serve.ensures.done

pub returns-in-Command-clause-done : goal.returns-in-Command-clause-done
returns-in-Command-clause-done g c = rw c.in-Command.is c.command.ensures.done

pub returns-in-Deliver-clause-done : goal.returns-in-Deliver-clause-done
returns-in-Deliver-clause-done g c = rw c.in-Deliver.is c.deliver.ensures.done

pub returns-in-Unplug-clause-done : goal.returns-in-Unplug-clause-done
returns-in-Unplug-clause-done g c = rw c.in-Unplug.is c.unplug.ensures.done

pub returns-in-Stop-clause-done : goal.returns-in-Stop-clause-done
returns-in-Stop-clause-done g c = rw (c.in-Answer.is, c.in-Stop.is, c.entry_of-in-Stop.ensures) c.stop.ensures.done
