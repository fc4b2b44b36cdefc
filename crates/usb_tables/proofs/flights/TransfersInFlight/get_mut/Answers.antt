-- The item is the transfer with its key, and what is written to that.
use Rattle.std.proofs.Common.{None, Some, inr, ap, sym, ◌∙◌, arith}
use Rattle.std.specs.Option.{ghost_name_of}
use borrow.Follows.Closed.{read_of}
use Rattle.usb_tables.proofs.Shown.{key-at, lent-shown, lent-stands, live-shown, none-shown}
use Rattle.usb_tables.proofs.flights.TransfersInFlight.get_mut.Goals as goal

pub returns-in_err-key : goal.returns-in_err-key
returns-in_err-key g c =
    let at = key-at c.self.inside.lanes c.args.dev c.args.ep c.args.item c.line.result.now None c.line.ensures.value c.in_err-key.ensures in
    rw c.from_residual.ensures (ap inr c.self.view_is, record { writes_back = tt; value = sym (none-shown c.self.inside.store c.self.inside.lanes c.self.inside.ended.items c.args.self.now c.args.dev c.args.ep c.args.item c.self.view_is at) })

pub invariant_of-self-lent : goal.invariant_of-self-lent
invariant_of-self-lent g c = λ o.
    let at = key-at c.self.inside.lanes c.args.dev c.args.ep c.args.item c.line.result.now (Some c.in_ok-key.key) c.line.ensures.value c.in_ok-key.ensures in (
      (λ w.
          let stands = lent-stands c.self.inside.store c.self.inside.lanes c.self.inside.ended.items c.args.dev c.args.ep c.args.item c.in_ok-key.key c.self.invariant.0 c.line.ensures.lane at w in
          (stands.0, omega (arith, stands.1, c.self.invariant.1))),
      c.self.invariant,
    )

pub returns : goal.returns
returns g c =
    let at = key-at c.self.inside.lanes c.args.dev c.args.ep c.args.item c.line.result.now (Some c.in_ok-key.key) c.line.ensures.value c.in_ok-key.ensures in (
      (λ j. read_of (ghost_name_of c.get_mut.result)
          (λ w. lent-shown c.self.inside.store c.self.inside.lanes c.self.inside.ended.items c.args.self.now c.args.dev c.args.ep c.args.item c.in_ok-key.key c.self.view_is c.self.invariant.0 c.line.ensures.lane at w j)
          (c.self.view_is j)),
      record { writes_back = tt; value = c.get_mut.ensures.value ∙ sym (live-shown c.self.inside.store c.self.inside.lanes c.self.inside.ended.items c.args.self.now c.args.dev c.args.ep c.args.item c.in_ok-key.key c.self.view_is at) },
    )
