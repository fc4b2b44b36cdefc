-- A transfer joins its line under a key of its own.
use Rattle.std.proofs.Common.{◌≡◌, ◌≤◌, ◌+◌, length, refl, sym, ◌∙◌, arith}
use Rattle.usb_tables.specs.Store.{count}
use Rattle.usb_tables.specs.TransfersInFlight.{keys_at, line_at}
use Rattle.usb_tables.proofs.Kept.{ended-kept}
use Rattle.std.specs.VecDeque.{deque_capacity}
use Rattle.usb_tables.proofs.Plain.{ok-there}
use Rattle.usb_tables.proofs.Shown.{len-shown, push-shown}
use Rattle.usb_tables.proofs.Stands.{ended-few, push-stands, vacant-none}
use Rattle.usb_tables.proofs.flights.TransfersInFlight.push.Goals as goal

pub make_room-requires : goal.make_room-requires
make_room-requires g c = ended-few c.self.inside.store c.self.inside.lanes c.self.inside.ended.items c.self.invariant.0

pub push-requires : goal.push-requires
push-requires g c =
    let len = len-shown c.self.inside.store c.self.inside.lanes c.self.inside.ended.items c.args.dev c.args.ep in
    let same : length (line_at c.args.self.now c.args.dev c.args.ep) ≡ length (keys_at c.self.inside.lanes c.args.dev c.args.ep) = rw (← c.self.view_is) len in
    omega (arith, c.requires)

pub invariant_of-self-2 : goal.invariant_of-self-2
invariant_of-self-2 g c = (
  rw (c.push.ensures.value, c.make_room.ensures.items) (push-stands c.self.inside.store c.self.inside.lanes c.self.inside.ended.items c.self.invariant.0 c.args.dev c.args.ep c.push.ensures.lane
      c.insert.new.self c.in_ok-key.key c.args.transfer c.in_ok-key.ensures.was_vacant c.in_ok-key.ensures.updates c.in_ok-key.ensures.len),
  (let room = ok-there c.make_room.result (count c.self.inside.store + 1 ≤ deque_capacity c.make_room.new.ended) (sym c.is_err.ensures.value ∙ c.if-is_err.false) c.make_room.ensures.room in
      omega (arith, c.in_ok-key.ensures.len)),
)

pub returns-clause-lines : goal.returns-clause-lines
returns-clause-lines g c =
    rw (← c.self.view_is, c.push.ensures.value) (push-shown c.self.inside.store c.self.inside.lanes c.self.inside.ended.items c.args.dev c.args.ep c.insert.new.self c.in_ok-key.key c.args.transfer c.self.invariant.0 c.push.ensures.lane
    (vacant-none c.self.inside.store c.self.inside.lanes c.self.inside.ended.items c.self.invariant.0 c.in_ok-key.key c.in_ok-key.ensures.was_vacant) c.in_ok-key.ensures.updates)

pub returns-clause-keys : goal.returns-clause-keys
returns-clause-keys g c = rw (← c.self.view_is, c.push.ensures.value) refl

pub returns-clause-ended : goal.returns-clause-ended
returns-clause-ended g c =
    let none = vacant-none c.self.inside.store c.self.inside.lanes c.self.inside.ended.items c.self.invariant.0 c.in_ok-key.key c.in_ok-key.ensures.was_vacant in
    rw (← c.self.view_is, c.make_room.ensures.items) (ended-kept c.self.inside.store c.insert.new.self c.in_ok-key.key c.in_ok-key.ensures.updates.others c.self.inside.ended.items (omega arith))
