-- One full packet more.
use Rattle.std.proofs.Common.{◌≡◌, ◌<◌, length, rules}
use Rattle.std.proofs.lemmas.List.Elements.{same_from_all_zip}
use Rattle.reference.proofs.Walks.{front_more}
use Rattle.reference.proofs.share.full_front.Goals as goal

pub loop-answer-preserved : goal.loop-answer-preserved
loop-answer-preserved c =
    let room : length c.loop-answer.front.items < c.args.most = search rules in
    let same : c.in_ok-clone.field-0 ≡ c.in-Some-full_packet.bytes.now = search (rules, same_from_all_zip) in
    rw (c.in_ok-push.ensures.items, same)
    (front_more c.loop-answer.invariant room c.in-Some.ensures.first c.in-Some-full_packet.ensures)
