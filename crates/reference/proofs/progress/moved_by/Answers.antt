-- What answers have in common tells how far the transfer came.
use Rattle.std.proofs.Common.{◌≤◌, ◌-◌, ◌/◌, rules, arith}
use Rattle.reference.proofs.Opens.{none_moved, read, sent}
use Rattle.reference.proofs.progress.moved_by.Goals as goal

pub returns-in_default-Nothing : goal.returns-in_default-Nothing
returns-in_default-Nothing c share all = none_moved c.args.request.now c.args.size share (rw c.in_default-Nothing.is-1 at all)

pub returns-in-In-Packets : goal.returns-in-In-Packets
returns-in-In-Packets c share all =
    let few : c.in-In-Packets.count ≤ (c.in-In-Packets.n - 1) / c.args.size = search rules in
    read c.args.request.now c.args.size c.in-In-Packets.count c.in-In-Packets.n share c.in-In-Packets.is-0 few
    (rw c.if-each-size.true at (rw c.in-In-Packets.is-1 at all))

pub returns-in-Out-Acks : goal.returns-in-Out-Acks
returns-in-Out-Acks c share all = sent c.args.request.now c.args.size c.in-Out-Acks.count _ share c.in-Out-Acks.is-0 (search rules) (rw c.in-Out-Acks.is-1 at all)
