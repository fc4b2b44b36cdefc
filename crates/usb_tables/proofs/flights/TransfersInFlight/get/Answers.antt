-- An item is the transfer with its key.
use Rattle.std.proofs.Common.{None, Some, refl, sym, ◌∙◌}
use Rattle.usb_tables.proofs.Shown.{key-at, none-shown, live-shown}
use Rattle.usb_tables.proofs.flights.TransfersInFlight.get.Goals as goal

pub returns-in_err-key : goal.returns-in_err-key
returns-in_err-key g c =
    let none = key-at c.self.inside.lanes c.args.dev c.args.ep c.args.item c.line.result.now None c.line.ensures.value c.in_err-key.ensures in
    let shown = none-shown c.self.inside.store c.self.inside.lanes c.self.inside.ended.items c.args.self.now c.args.dev c.args.ep c.args.item c.self.view_is none in
    rw (c.from_residual.ensures, shown) refl

pub returns : goal.returns
returns g c =
    let at = key-at c.self.inside.lanes c.args.dev c.args.ep c.args.item c.line.result.now (Some c.in_ok-key.key) c.line.ensures.value c.in_ok-key.ensures in
    c.get-2.ensures ∙ sym (live-shown c.self.inside.store c.self.inside.lanes c.self.inside.ended.items c.args.self.now c.args.dev c.args.ep c.args.item c.in_ok-key.key c.self.view_is at)
