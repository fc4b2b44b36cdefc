-- What is offered is next in each world, and the device is asked where it says so.
use Rattle.std.proofs.Common.{Some, None, refl, subst, sym}
use Rattle.refine_core.specs.Offers.{IsNext}
use Rattle.usb_living.specs.Asks.{Answered, Packet, Unasked, Unready}
use Rattle.usb_living.proofs.asking.ask.Goals as goal

pub returns-then-not-offer-clause-asked : goal.returns-then-not-offer-clause-asked
returns-then-not-offer-clause-asked g c = record {
  way = Unasked (record { owner = c.in-Some.offer.owner; n = c.in-Some.offer.n; out = c.in-Some.offer.out.now; room = c.in-Some.offer.room });
  goes = (
    λ setup w shows. subst (λ b. IsNext setup w c.args.dev c.args.ep c.in-Some.offer.owner c.in-Some.offer.n c.in-Some.offer.out.now c.in-Some.offer.room b) c.if-not-offer.true (c.in-Some.ensures.next setup w shows),
    refl,
    c.serve-then-not-offer.ensures.turned,
  );
}

pub returns-in_default-answer-clause-asked : goal.returns-in_default-answer-clause-asked
returns-in_default-answer-clause-asked g c = record {
  way = Unready (record { owner = c.in-Some.offer.owner; n = c.in-Some.offer.n; out = c.in-Some.offer.out.now; room = c.in-Some.offer.room });
  goes = (
    λ setup w shows. subst (λ b. IsNext setup w c.args.dev c.args.ep c.in-Some.offer.owner c.in-Some.offer.n c.in-Some.offer.out.now c.in-Some.offer.room b) c.if-not-offer.false (c.in-Some.ensures.next setup w shows),
    subst (λ o. g.L.Living.may_answer c.args.living.now c.args.dev c.args.ep c.in-Some.offer.out.now c.in-Some.offer.room o c.answer.new.self) c.in_default-answer.is c.answer.ensures,
    refl,
    refl,
  );
}

pub returns-in-Err-clause-refused : goal.returns-in-Err-clause-refused
returns-in-Err-clause-refused g c = record {
  packet = record { owner = c.in-Some.offer.owner; n = c.in-Some.offer.n; out = c.in-Some.offer.out.now; room = c.in-Some.offer.room };
  answer = c.in-Some-answer.answer;
  offers = λ setup w shows. subst (λ b. IsNext setup w c.args.dev c.args.ep c.in-Some.offer.owner c.in-Some.offer.n c.in-Some.offer.out.now c.in-Some.offer.room b) c.if-not-offer.false (c.in-Some.ensures.next setup w shows);
  answered = subst (λ o. g.L.Living.may_answer c.args.living.now c.args.dev c.args.ep c.in-Some.offer.out.now c.in-Some.offer.room o c.answer.new.self) c.in-Some-answer.is c.answer.ensures;
  refused = c.in-Err.ensures.why;
}

pub returns-in-Ok-clause-asked : goal.returns-in-Ok-clause-asked
returns-in-Ok-clause-asked g c = record {
  way = Answered (record { owner = c.in-Some.offer.owner; n = c.in-Some.offer.n; out = c.in-Some.offer.out.now; room = c.in-Some.offer.room }) c.in-Some-answer.answer;
  goes = (
    λ setup w shows. subst (λ b. IsNext setup w c.args.dev c.args.ep c.in-Some.offer.owner c.in-Some.offer.n c.in-Some.offer.out.now c.in-Some.offer.room b) c.if-not-offer.false (c.in-Some.ensures.next setup w shows),
    subst (λ o. g.L.Living.may_answer c.args.living.now c.args.dev c.args.ep c.in-Some.offer.out.now c.in-Some.offer.room o c.answer.new.self) c.in-Some-answer.is c.answer.ensures,
    (c.feed.new.self, c.in-Ok.ensures.fed, c.serve-in-Ok.ensures.turned),
  );
}
