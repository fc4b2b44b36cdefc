-- Memory is refused for the bytes of a packet alone.
use Rattle.std.proofs.Common.{Some, refl, subst, sym}
use Rattle.tirnouch_c.specs.Feeds.{FeedsAs, Refused, answer_by}
use Rattle.tirnouch_c.proofs.feeds.feed.Goals as goal

pub returns-in-Err : goal.returns-in-Err
unfolding answer_by
returns-in-Err c = record {
  fed = Refused;
  answered = refl;
  is = subst (λ k. FeedsAs Refused (Some c.args.dev) c.args.ep (answer_by k c.args.bytes.now) c.args.session.now c.args.session.now) (sym c.in-Err.ensures.refused) (refl, refl);
}
