-- One verdict, or two.
use Rattle.std.proofs.Common.{◌≡◌, false, ◌∙◌, ap}
use Rattle.std.specs.Prelude.{if◌then◌else◌}
use Rattle.usb_model.specs.World.Plans.{needs_stop}
use Rattle.usb_plans.proofs.ToldVerdicts.{needs_by, returns_once, returns_twice, takes_back}
use Rattle.usb_plans.proofs.plan_run.PlanRun.call_back.Goals as goal

pub answer-requires : goal.answer-requires
answer-requires g c = takes_back c.args.h c.args.n c.call-verdict.result.0 c.call-verdict.result.1 (g.C.Callback.repeats c.args.taken.payload) c.call-verdict.ensures.back c.call-verdict.ensures.stops

pub returns-then-not-needs_stop-clause-returns : goal.returns-then-not-needs_stop-clause-returns
returns-then-not-needs_stop-clause-returns g c =
    let needs : needs_stop c.call-verdict.result.0 c.in_ok-entry.entry.reply ≡ c.needs_stop.result = needs_by c.call-verdict.result.0 c.in_ok-entry.entry.reply c.is_stop-stops.result c.needs_stop.result c.is_stop-stops.ensures (c.needs_stop.ensures ∙ ap (λ b. if c.is_stop-stops.result then false else b) c.is_other_refusal.ensures) in
    returns_once g.C.Callback.rule g.C.Callback.may_answer c.args.self.now c.args.h c.args.n c.args.taken c.call-verdict.result.0 c.call-verdict.result.1 c.in_ok-entry.entry c.answer.new.self c.call-verdict.ensures.answered c.call-verdict.ensures.fits c.call-verdict.ensures.same c.in_ok-entry.ensures.made c.in_ok-entry.ensures.same
    (needs ∙ c.if-not-needs_stop.true)

pub returns-clause-returns : goal.returns-clause-returns
returns-clause-returns g c =
    let needs : needs_stop c.call-verdict.result.0 c.in_ok-entry.entry.reply ≡ c.needs_stop.result = needs_by c.call-verdict.result.0 c.in_ok-entry.entry.reply c.is_stop-stops.result c.needs_stop.result c.is_stop-stops.ensures (c.needs_stop.ensures ∙ ap (λ b. if c.is_stop-stops.result then false else b) c.is_other_refusal.ensures) in
    returns_twice g.C.Callback.rule g.C.Callback.may_answer c.args.self.now c.args.h c.args.n c.args.taken c.call-verdict.result.0 c.call-verdict.result.1 c.in_ok-entry.entry c.answer.new.self c.in_ok-stop.stop c.answer-2.new.self c.call-verdict.ensures.answered c.call-verdict.ensures.fits c.call-verdict.ensures.same
    c.in_ok-entry.ensures.made c.in_ok-entry.ensures.same (needs ∙ c.if-not-needs_stop.false) c.in_ok-stop.ensures.made c.in_ok-stop.ensures.same

pub returns-in_err-stop-clause-stays : goal.returns-in_err-stop-clause-stays
returns-in_err-stop-clause-stays g c = absurd (cc c.in_err-stop.ensures.memory)
