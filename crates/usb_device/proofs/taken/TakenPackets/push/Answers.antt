-- There is room for one more packet, and it stands behind the others.
use Rattle.std.proofs.Common.{◌<◌, ◌≤◌, ◌∷◌, [], ◌++◌, length, arith, ap, vec_capacity}
use Rattle.usb_device.specs.Taken.{Taken}
use Rattle.usb_device.proofs.Cuts.{cut_at-more, length-cut_at, room-more, taken-more}
use Rattle.usb_device.proofs.taken.TakenPackets.push.Goals as goal

pub extend_reserved-requires : goal.extend_reserved-requires
extend_reserved-requires c =
    let i = c.self.inside in
    let packets = ap (λ (t : Taken). length t.packets) c.self.view_is in
    let places = ap (λ (t : Taken). t.places) c.self.view_is in
    let size = ap (λ (t : Taken). t.size) c.self.view_is in
    let few : length i.ends.items < i.places = omega (arith, c.requires.room, packets, places, length-cut_at 0 i.ends.items i.bytes.items) in
    let short : length c.args.packet.now ≤ i.size = omega (arith, c.requires.size, size) in
    omega (arith, i.bytes.ok.0, room-more i.bytes.items i.ends.items i.size (vec_capacity i.bytes) i.places (length c.args.packet.now) c.self.invariant.0 few short)

pub push_reserved-requires : goal.push_reserved-requires
push_reserved-requires c =
    let i = c.self.inside in
    let packets = ap (λ (t : Taken). length t.packets) c.self.view_is in
    let places = ap (λ (t : Taken). t.places) c.self.view_is in
    omega (arith, i.ends.ok.0, c.requires.room, packets, places, c.self.invariant.1, length-cut_at 0 i.ends.items i.bytes.items)

pub invariant_of-self : goal.invariant_of-self
invariant_of-self c =
    let i = c.self.inside in
    let size = ap (λ (t : Taken). t.size) c.self.view_is in
    let short : length c.args.packet.now ≤ i.size = omega (arith, c.requires.size, size) in
    rw (c.push_reserved.ensures.items, c.push_reserved.ensures.capacity, c.len.ensures, c.extend_reserved.ensures.len, c.extend_reserved.ensures.items, i.bytes.ok.0)
    (taken-more i.bytes.items i.ends.items c.args.packet.now i.size (vec_capacity i.bytes) i.places (vec_capacity c.extend_reserved.new.bytes) c.self.invariant.0 short c.extend_reserved.ensures.capacity, c.self.invariant.1)

pub returns : goal.returns
returns c =
    let i = c.self.inside in
    rw (c.push_reserved.ensures.items, c.len.ensures, c.extend_reserved.ensures.len, c.extend_reserved.ensures.items, i.bytes.ok.0, cut_at-more 0 i.ends.items i.bytes.items c.args.packet.now c.self.invariant.0.ascends)
    (ap (λ (t : Taken). record t { packets = t.packets ++ c.args.packet.now ∷ [] }) c.self.view_is)
