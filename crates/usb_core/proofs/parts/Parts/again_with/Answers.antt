-- The step of the core: the callback ends and its transfer joins the line, or nothing changed.
use Rattle.std.proofs.Common.{◌≡◌, ap, sym, subst, ◌∙◌, arith, List, None, Some}
use Rattle.usb_model.specs.declared.reply.Reply.TheVariants.{Number}
use Rattle.usb_model.specs.declared.result.InCallback.{InCallback}
use Rattle.usb_model.specs.declared.step.Step.TheVariants.{Answer}
use Rattle.usb_model.specs.declared.verdict.Verdict.TheVariants.{AgainWith}
use Rattle.usb_tables.specs.HandleState.{Kept as HandleState}
use Rattle.usb_tables.specs.HandleStates.{callback_at}
use Rattle.refine_core.specs.Calls.{Stays}
use Rattle.refine_core.specs.Handles.{says}
use Rattle.refine_core.specs.State.{IsState, State}
use Rattle.refine_core.specs.Steps.{DoesCoreStep}
use Rattle.refine_core.specs.Submissions.{CanStart}
use Rattle.refine_core.proofs.Again.{again_joins, again_none, again_of, again_refused, can_again, number_found, put_back, round_fits}
use Rattle.refine_core.proofs.Stops.{Ended}
use Rattle.std.specs.Option.{option_copied, option_map}
use Rattle.usb_model.specs.declared.request.Body.TheVariants.{Out}
use Rattle.usb_model.specs.declared.request.Request.{Request}
use Rattle.usb_core.proofs.Callbacks.{AdmitsIt, absent, ended_by}
use Rattle.usb_core.proofs.Views.{parts}
use Rattle.usb_core.proofs.Carried.{callers_follow}
use Rattle.refine_core.proofs.Payloads.{more_on, still_on}
use Rattle.usb_core.proofs.parts.Parts.again_with.Goals as goal

pub returns-in-None-clause-refused : goal.returns-in-None-clause-refused
returns-in-None-clause-refused g c = λ other. again_none c.args.self.now c.args.h c.args.n (AgainWith c.args.bytes)
    (subst (λ (s : State g.row.P.Denot). callback_at s.callers c.args.h c.args.n ≡ None) c.self.view_is (sym c.callback.ensures ∙ ap option_copied c.in-None.is))

pub returns-in-Err-clause-refused : goal.returns-in-Err-clause-refused
returns-in-Err-clause-refused g c = λ other. again_refused c.args.self.now c.args.h c.args.n (AgainWith c.args.bytes) c.in-Some.called.now c.with_bytes-request.result c.in-Err.why
    (subst (λ (s : State g.row.P.Denot). callback_at s.callers c.args.h c.args.n ≡ Some c.in-Some.called.now) c.self.view_is (sym c.callback.ensures ∙ ap option_copied c.in-Some.is))
    (ap (λ (r : Request). Some r) (sym c.with_bytes-request.ensures)) c.in-Err.ensures

pub overflow_add-called : goal.overflow_add-called
overflow_add-called g c =
    let old : State g.row.P.Denot = parts c.self.inside.claims c.self.inside.controller c.self.inside.flights c.self.inside.callers c.self.inside.outstanding in
    let is : IsState old = subst (λ (s : State g.row.P.Denot). IsState s) (sym c.self.view_is) c.requires in
    let found : callback_at old.callers c.args.h c.args.n ≡ Some c.in-Some-remove_callback.called = sym (c.reserve_callback.ensures.callbacks c.args.h c.args.n) ∙ sym c.remove_callback.ensures.value ∙ c.in-Some-remove_callback.is in
    let admits : AdmitsIt old c.args.h c.with_bytes-request.result c.in-Ok.admission = subst (λ (s : State g.row.P.Denot). AdmitsIt s c.args.h c.with_bytes-request.result c.in-Ok.admission) (sym c.self.view_is) c.in-Ok.ensures in
    let can : CanStart old c.args.h c.in-Ok.admission.dev c.with_bytes-request.result c.in-Ok.admission.tds = (admits is.0 is.1 is.2.0 is.2.1 is.2.2).can in
    omega (arith, round_fits old c.args.h c.args.n c.in-Some-remove_callback.called is found can.number)

pub start-requires : goal.start-requires
start-requires g c =
    let old : State g.row.P.Denot = parts c.self.inside.claims c.self.inside.controller c.self.inside.flights c.self.inside.callers c.self.inside.outstanding in
    let is : IsState old = subst (λ (s : State g.row.P.Denot). IsState s) (sym c.self.view_is) c.requires in
    let admits : AdmitsIt old c.args.h c.with_bytes-request.result c.in-Ok.admission = subst (λ (s : State g.row.P.Denot). AdmitsIt s c.args.h c.with_bytes-request.result c.in-Ok.admission) (sym c.self.view_is) c.in-Ok.ensures in
    let can : CanStart old c.args.h c.in-Ok.admission.dev c.with_bytes-request.result c.in-Ok.admission.tds = (admits is.0 is.1 is.2.0 is.2.1 is.2.2).can in
    let ended : Ended old.callers c.remove_callback.new.self c.args.h c.args.n = ended_by old.callers c.reserve_callback.new.self c.remove_callback.new.self c.args.h c.args.n c.remove_callback.result
    c.reserve_callback.ensures.numbers c.reserve_callback.ensures.callbacks c.reserve_callback.ensures.results c.reserve_callback.ensures.counts
    c.remove_callback.ensures.value c.remove_callback.ensures.callbacks c.remove_callback.ensures.counts c.remove_callback.ensures.numbers c.remove_callback.ensures.results in
    can_again old c.remove_callback.new.self c.args.h c.in-Ok.admission.dev c.args.n c.with_bytes-request.result c.in-Ok.admission.tds ended can

pub put_callback-requires-clause-absent : goal.put_callback-requires-clause-absent
put_callback-requires-clause-absent g c =
    let old : State g.row.P.Denot = parts c.self.inside.claims c.self.inside.controller c.self.inside.flights c.self.inside.callers c.self.inside.outstanding in
    let again : State g.row.P.Denot = parts c.self-2.inside.claims c.self-2.inside.controller c.self-2.inside.flights c.self-2.inside.callers c.self-2.inside.outstanding in
    let amid : State g.row.P.Denot = record old { callers = c.remove_callback.new.self } in
    let same : again ≡ amid = c.self-2.view_is ∙ c.in-Err-start.ensures.kept in
    let is : IsState old = subst (λ (s : State g.row.P.Denot). IsState s) (sym c.self.view_is) c.requires in
    let found : callback_at old.callers c.args.h c.args.n ≡ Some c.in-Some-remove_callback.called = sym (c.reserve_callback.ensures.callbacks c.args.h c.args.n) ∙ sym c.remove_callback.ensures.value ∙ c.in-Some-remove_callback.is in
    let ended : Ended old.callers c.remove_callback.new.self c.args.h c.args.n = ended_by old.callers c.reserve_callback.new.self c.remove_callback.new.self c.args.h c.args.n c.remove_callback.result
    c.reserve_callback.ensures.numbers c.reserve_callback.ensures.callbacks c.reserve_callback.ensures.results c.reserve_callback.ensures.counts
    c.remove_callback.ensures.value c.remove_callback.ensures.callbacks c.remove_callback.ensures.counts c.remove_callback.ensures.numbers c.remove_callback.ensures.results in
    ap (λ (s : State g.row.P.Denot). callback_at s.callers c.args.h c.in-Some-remove_callback.called.n) same
    ∙ absent c.remove_callback.new.self old.callers c.args.h c.args.n c.in-Some-remove_callback.called.n (number_found old c.args.h c.args.n c.in-Some-remove_callback.called is found) ended

pub returns-in-Ok-start-clause-accepted : goal.returns-in-Ok-start-clause-accepted
returns-in-Ok-start-clause-accepted g c =
    let old : State g.row.P.Denot = parts c.self.inside.claims c.self.inside.controller c.self.inside.flights c.self.inside.callers c.self.inside.outstanding in
    let found : callback_at old.callers c.args.h c.args.n ≡ Some c.in-Some-remove_callback.called = sym (c.reserve_callback.ensures.callbacks c.args.h c.args.n) ∙ sym c.remove_callback.ensures.value ∙ c.in-Some-remove_callback.is in
    let admits : AdmitsIt old c.args.h c.with_bytes-request.result c.in-Ok.admission = subst (λ (s : State g.row.P.Denot). AdmitsIt s c.args.h c.with_bytes-request.result c.in-Ok.admission) (sym c.self.view_is) c.in-Ok.ensures in
    let ended : Ended old.callers c.remove_callback.new.self c.args.h c.args.n = ended_by old.callers c.reserve_callback.new.self c.remove_callback.new.self c.args.h c.args.n c.remove_callback.result
    c.reserve_callback.ensures.numbers c.reserve_callback.ensures.callbacks c.reserve_callback.ensures.results c.reserve_callback.ensures.counts
    c.remove_callback.ensures.value c.remove_callback.ensures.callbacks c.remove_callback.ensures.counts c.remove_callback.ensures.numbers c.remove_callback.ensures.results in
    let made : again_of (AgainWith c.args.bytes) c.in-Some-remove_callback.called ≡ Some c.with_bytes-request.result =
    ap (option_map (λ (x : InCallback). record x.request { body = Out c.args.bytes })) (sym found ∙ sym c.callback.ensures ∙ ap option_copied c.in-Some.is) ∙ ap (λ (r : Request). Some r) (sym c.with_bytes-request.ensures) in
    subst (λ (s : State g.row.P.Denot). DoesCoreStep s (Answer c.args.h c.args.n (AgainWith c.args.bytes)) (says c.args.h (Number c.in-Ok-start.k)) c.start.new.self) c.self.view_is
    (again_joins old c.start.new.self c.remove_callback.new.self c.args.h c.in-Ok.admission.dev c.args.n c.in-Ok-start.k (AgainWith c.args.bytes) c.in-Some-remove_callback.called c.with_bytes-request.result c.in-Ok.admission.tds found made ended admits c.in-Ok-start.ensures.started c.in-Ok-start.ensures.number)

pub returns-in-Err-start-clause-kept : goal.returns-in-Err-start-clause-kept
returns-in-Err-start-clause-kept g c =
    let old : State g.row.P.Denot = parts c.self.inside.claims c.self.inside.controller c.self.inside.flights c.self.inside.callers c.self.inside.outstanding in
    let again : State g.row.P.Denot = parts c.self-2.inside.claims c.self-2.inside.controller c.self-2.inside.flights c.self-2.inside.callers c.self-2.inside.outstanding in
    let amid : State g.row.P.Denot = record old { callers = c.remove_callback.new.self } in
    let same : again ≡ amid = c.self-2.view_is ∙ c.in-Err-start.ensures.kept in
    let is : IsState old = subst (λ (s : State g.row.P.Denot). IsState s) (sym c.self.view_is) c.requires in
    let found : callback_at old.callers c.args.h c.args.n ≡ Some c.in-Some-remove_callback.called = sym (c.reserve_callback.ensures.callbacks c.args.h c.args.n) ∙ sym c.remove_callback.ensures.value ∙ c.in-Some-remove_callback.is in
    let ended : Ended old.callers c.remove_callback.new.self c.args.h c.args.n = ended_by old.callers c.reserve_callback.new.self c.remove_callback.new.self c.args.h c.args.n c.remove_callback.result
    c.reserve_callback.ensures.numbers c.reserve_callback.ensures.callbacks c.reserve_callback.ensures.results c.reserve_callback.ensures.counts
    c.remove_callback.ensures.value c.remove_callback.ensures.callbacks c.remove_callback.ensures.counts c.remove_callback.ensures.numbers c.remove_callback.ensures.results in
    let kept : Stays old (record old { callers = c.put_callback.new.self }) = put_back old again.callers c.put_callback.new.self c.args.h c.args.n c.in-Some-remove_callback.called (number_found old c.args.h c.args.n c.in-Some-remove_callback.called is found) found
    (subst (λ (l : List HandleState). Ended old.callers l c.args.h c.args.n) (sym (ap (λ (s : State g.row.P.Denot). s.callers) same)) ended)
    c.put_callback.ensures.callbacks c.put_callback.ensures.counts c.put_callback.ensures.numbers c.put_callback.ensures.results in
    subst (λ (s : State g.row.P.Denot). Stays c.args.self.now (record s { callers = c.put_callback.new.self })) (sym same)
    (subst (λ (s : State g.row.P.Denot). Stays s (record old { callers = c.put_callback.new.self })) c.self.view_is kept)

pub returns-in-Ok-start-clause-carries : goal.returns-in-Ok-start-clause-carries
returns-in-Ok-start-clause-carries g c =
    let old : State g.row.P.Denot = parts c.self.inside.claims c.self.inside.controller c.self.inside.flights c.self.inside.callers c.self.inside.outstanding in
    more_on c.args.self.now (record old { callers = c.remove_callback.new.self }) c.start.new.self c.args.h c.in-Ok-start.k c.args.payload
    (callers_follow c.args.self.now _ c.self.view_is c.remove_callback.new.self (λ h. c.remove_callback.ensures.numbers h ∙ c.reserve_callback.ensures.numbers h)) c.in-Ok-start.ensures.carries

pub returns-in-Err-start-clause-still : goal.returns-in-Err-start-clause-still
returns-in-Err-start-clause-still g c =
    let old : State g.row.P.Denot = parts c.self.inside.claims c.self.inside.controller c.self.inside.flights c.self.inside.callers c.self.inside.outstanding in
    let again : State g.row.P.Denot = parts c.self-2.inside.claims c.self-2.inside.controller c.self-2.inside.flights c.self-2.inside.callers c.self-2.inside.outstanding in
    let amid : State g.row.P.Denot = record old { callers = c.remove_callback.new.self } in
    let same : again ≡ amid = c.self-2.view_is ∙ c.in-Err-start.ensures.kept in
    still_on c.args.self.now amid (record again { callers = c.put_callback.new.self }) (callers_follow c.args.self.now _ c.self.view_is c.remove_callback.new.self (λ h. c.remove_callback.ensures.numbers h ∙ c.reserve_callback.ensures.numbers h))
    (callers_follow amid again same c.put_callback.new.self c.put_callback.ensures.numbers)

pub returns-then-is_err-clause-still : goal.returns-then-is_err-clause-still
returns-then-is_err-clause-still g c = callers_follow c.args.self.now _ c.self.view_is c.reserve_callback.new.self c.reserve_callback.ensures.numbers
