-- Each step is its call.
use Rattle.std.proofs.Common.{refl, sym}
use Rattle.usb_model.specs.declared.step.Step.TheVariants.{Submit}
use Rattle.usb_core.proofs.PlainSteps.{plain}
use Rattle.usb_core.proofs.Turns.{answered_turns}
use Rattle.usb_core.proofs.Payloads.{answered_carries, as_still, if_ok}
use Rattle.usb_core.proofs.calls.Core.step.Goals as goal

pub returns-in-Some-clause-turned : goal.returns-in-Some-clause-turned
returns-in-Some-clause-turned g c = rw (c.submitted.ensures, c.in-Submit.is) (answered_turns c.args.self.now c.submit.new.self (Submit c.in-Submit.h c.in-Submit.request) c.in-Submit.h c.submit.result c.submit.ensures.accepted c.submit.ensures.refused)

pub returns-in-Take-clause-turned : goal.returns-in-Take-clause-turned
returns-in-Take-clause-turned g c = rw c.in-Take.is c.step_take.ensures.turned

pub returns-in-Answer-clause-turned : goal.returns-in-Answer-clause-turned
returns-in-Answer-clause-turned g c = rw c.in-Answer.is c.step_answer.ensures.turned

pub returns-in-Some-clause-carries : goal.returns-in-Some-clause-carries
returns-in-Some-clause-carries g c = rw (c.submitted.ensures, c.in-Submit.is, c.in-Some.is) (answered_carries c.args.self.now c.submit.new.self c.in-Submit.h c.in-Some.payload c.submit.result c.submit.ensures.back c.submit.ensures.carries c.submit.ensures.still)

pub returns-in-Take-clause-carries : goal.returns-in-Take-clause-carries
returns-in-Take-clause-carries g c = rw c.in-Take.is (if_ok _ c.step_take.result (λ x. c.step_take.ensures.carries))

pub returns-in-Answer-clause-carries : goal.returns-in-Answer-clause-carries
returns-in-Answer-clause-carries g c = rw c.in-Answer.is c.step_answer.ensures.carries

pub returns-in_default-clause-turned : goal.returns-in_default-clause-turned
returns-in_default-clause-turned g c = rw c.told.ensures c.call.ensures.turned

pub returns-in_default-clause-out : goal.returns-in_default-clause-out
returns-in_default-clause-out g c =
    let is = plain c.args.step c.in_default.not-Submit c.in_default.not-Take c.in_default.not-Answer in
    rw c.told.ensures (sym (is.out c.args.self.now))

pub returns-in_default-clause-back : goal.returns-in_default-clause-back
returns-in_default-clause-back g c =
    let is = plain c.args.step c.in_default.not-Submit c.in_default.not-Take c.in_default.not-Answer in
    rw (c.told.ensures, is.payload) refl

pub returns-in_default-clause-carries : goal.returns-in_default-clause-carries
returns-in_default-clause-carries g c =
    let is = plain c.args.step c.in_default.not-Submit c.in_default.not-Take c.in_default.not-Answer in
    as_still c.args.self.now c.call.new.self c.call.new.self c.args.step c.args.step c.told.result.entry c.args.payload refl is.payload refl c.call.ensures.carries

pub returns-in_default-clause-goes_out : goal.returns-in_default-clause-goes_out
returns-in_default-clause-goes_out g c = rw c.told.ensures (λ kept has. tt)
