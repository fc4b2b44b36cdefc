-- A name's transfer in progress is asked, unless it was asked before or has no time.
use Rattle.usb_core.proofs.Asks.{ask_none, ask_refused, ask_safely, asks_it}
use Rattle.usb_core.proofs.parts.Parts.ask_to_end.Goals as goal

pub returns-in_default-clause-done : goal.returns-in_default-clause-done
returns-in_default-clause-done g c = ask_none c.args.self.now c.args.h c.args.n c.args.why c.args.timed c.home.result c.in_default.is c.home.ensures

pub returns-then-not-is_askable-clause-done : goal.returns-then-not-is_askable-clause-done
returns-then-not-is_askable-clause-done g c = ask_refused c.args.self.now c.args.h c.args.n c.args.why c.args.timed c.home.result c.in-Some.home c.is_askable.result c.in-Some.is c.home.ensures c.is_askable.ensures c.if-not-is_askable.true

pub ask_at-requires : goal.ask_at-requires
ask_at-requires g c = ask_safely c.args.self.now c.args.h c.args.n c.home.result c.in-Some.home c.in-Some.is c.home.ensures c.requires

pub returns-clause-done : goal.returns-clause-done
returns-clause-done g c = asks_it c.args.self.now c.ask_at.new.self c.args.h c.args.n c.args.why c.args.timed c.home.result c.in-Some.home c.is_askable.result c.in-Some.is c.home.ensures c.is_askable.ensures c.if-not-is_askable.false c.ask_at.ensures.done
