-- The packet that is next, in numbers, with its bytes.
use Rattle.std.proofs.Common.{Some}
use Rattle.tirnouch_c.proofs.feeds.offer.Goals as goal

pub returns-in-Some : goal.returns-in-Some
returns-in-Some c = record {
  next = Some (record { owner = c.in-Some.offer.owner; n = c.in-Some.offer.n; out = c.in-Some.offer.out.now; room = c.in-Some.offer.room; wants = c.in-Some.offer.wants });
  packet_is = c.of.ensures;
  buffer = c.fill-count.ensures.filled;
  is = λ setup w shows. c.in-Some.ensures.next setup w shows;
}
