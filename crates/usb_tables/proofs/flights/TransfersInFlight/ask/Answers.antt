-- The item changes where its transfer does.
use Rattle.std.proofs.Common.{None, Some, sym, ◌∙◌}
use Rattle.usb_tables.proofs.Plain.{none-some}
use Rattle.usb_tables.proofs.Shown.{key-at, change-shown, live-shown, none-shown}
use Rattle.usb_tables.proofs.flights.TransfersInFlight.ask.Goals as goal
use Rattle.usb_tables.proofs.flights.TransfersInFlight.ask.Goals.{in-Some-get_mut, in_default-get_mut}

pub returns-in_default : goal.returns-in_default
returns-in_default g c =
    let at = key-at c.self.inside.lanes c.args.dev c.args.ep c.args.item c.line.result.now None c.line.ensures.value (sym c.in_default.is ∙ c.get.ensures) in
    absurd (none-some _ (none-shown c.self.inside.store c.self.inside.lanes c.self.inside.ended.items c.args.self.now c.args.dev c.args.ep c.args.item c.self.view_is at) c.requires)

pub returns : goal.returns
returns g c =
    let at = key-at c.self.inside.lanes c.args.dev c.args.ep c.args.item c.line.result.now (Some c.in-Some.key) c.line.ensures.value c.in-Some.ensures in
    elim c.match-get_mut.branch [
      | in-Some-get_mut w ↦ (λ t there. rw w.self-inside-is (change-shown c.self.inside.store c.self.inside.lanes c.self.inside.ended.items c.args.self.now c.args.dev c.args.ep c.args.item c.in-Some.key
          c.self.view_is c.self.invariant.0 c.line.ensures.lane at (λ x. record x { ask = Some c.args.why }) w.in-Some-get_mut.transfer.now t (sym w.in-Some-get_mut.ensures.value) there))
      | in_default-get_mut w ↦ absurd (none-some _ (live-shown c.self.inside.store c.self.inside.lanes c.self.inside.ended.items c.args.self.now c.args.dev c.args.ep c.args.item c.in-Some.key c.self.view_is at
          ∙ sym w.in_default-get_mut.ensures.value) c.requires)
    ]
