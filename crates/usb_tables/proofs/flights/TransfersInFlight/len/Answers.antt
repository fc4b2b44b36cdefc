-- A line is as long as it is seen.
use Rattle.std.proofs.Common.{length, sym, ap, ◌∙◌}
use Rattle.usb_tables.specs.TransfersInFlight.{line_at}
use Rattle.usb_tables.proofs.Shown.{len-shown}
use Rattle.usb_tables.proofs.flights.TransfersInFlight.len.Goals as goal

pub returns-clause-value : goal.returns-clause-value
returns-clause-value g c =
    c.len.ensures.value ∙ ap length c.line.ensures.value ∙ sym (len-shown c.self.inside.store c.self.inside.lanes c.self.inside.ended.items c.args.dev c.args.ep)
    ∙ ap (λ v. length (line_at v c.args.dev c.args.ep)) c.self.view_is
