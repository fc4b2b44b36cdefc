-- A closed handle has none.
use Rattle.std.proofs.Common.{ap, sym}
use Rattle.std.specs.Option.{option_map}
use Rattle.usb_model.specs.Setup.{endpoints_of}
use Rattle.usb_model.specs.Machine.{Machine, device_of}
use Rattle.trace_explain.specs.Caller.{machine_of, setup_in}
use Rattle.trace_explain.proofs.Homes.{closed_has_none}
use Rattle.trace_explain.proofs.caller.Caller.item.Goals as goal

pub returns-in-None : goal.returns-in-None
returns-in-None c =
    let m : Machine = machine_of c.args.self.now in
    sym (ap (option_map (λ x. x.item)) (closed_has_none m c.args.n (endpoints_of (setup_in c.args.self.now) (device_of m)) c.in-None.is))
