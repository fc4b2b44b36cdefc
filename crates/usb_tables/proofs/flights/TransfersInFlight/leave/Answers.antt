-- Blanks leave: no key does.
use Rattle.std.proofs.Common.{◌≡◌, length, sym, ap, ◌∙◌, arith}
use Rattle.usb_tables.proofs.Shown.{len-shown, item-shown, leave-shown}
use Rattle.usb_tables.proofs.Stands.{blank-there, leave-stands}
use Rattle.usb_tables.specs.TransfersInFlight.{keys_at, line_at, item_at}
use Rattle.usb_tables.proofs.flights.TransfersInFlight.leave.Goals as goal

pub leave-requires : goal.leave-requires
leave-requires g c =
    let len = len-shown c.self.inside.store c.self.inside.lanes c.self.inside.ended.items c.args.dev c.args.ep in
    let same : length (line_at c.args.self.now c.args.dev c.args.ep) ≡ length (keys_at c.self.inside.lanes c.args.dev c.args.ep) = rw (← c.self.view_is) len in
    omega (arith, c.requires.within)

pub invariant_of-self : goal.invariant_of-self
invariant_of-self g c = (
  rw c.leave.ensures.value (leave-stands c.self.inside.store c.self.inside.lanes c.self.inside.ended.items c.self.invariant.0 c.args.dev c.args.ep c.leave.ensures.lane c.args.count
      (λ i lt. blank-there c.self.inside.store c.self.inside.lanes c.self.inside.ended.items c.self.invariant.0 c.args.dev c.args.ep c.leave.ensures.lane i
      (sym (item-shown c.self.inside.store c.self.inside.lanes c.self.inside.ended.items c.args.dev c.args.ep i) ∙ ap (λ v. item_at v c.args.dev c.args.ep i) c.self.view_is ∙ c.requires.blank i lt))),
  c.self.invariant.1,
)

pub returns : goal.returns
returns g c = rw (← c.self.view_is, c.leave.ensures.value) (leave-shown c.self.inside.store c.self.inside.lanes c.self.inside.ended.items c.args.dev c.args.ep c.args.count)
