-- The result that is taken is that of the transfer that ended first, and its callback is the core's.
use Rattle.std.proofs.Common.{◌≡◌, ℕ, ◌<◌, ap, refl, sym, subst, ◌∙◌, Some, Result, Ok, Err}
use Rattle.std.specs.Prelude.{OnErr, slice_get}
use Rattle.std.proofs.lemmas.Option.{same_Some}
use Rattle.usb_model.specs.declared.step.Step.TheVariants.{Take}
use Rattle.usb_model.specs.declared.reply.Returned.{Returned}
use Rattle.usb_model.specs.Setup.{endpoint_id}
use Rattle.usb_tables.specs.HandleStates.{callback_at, results_at}
use Rattle.usb_tables.specs.declared.transfer.Transfer.{Transfer as InFlight}
use Rattle.usb_tables.specs.TransfersInFlight.{EndedOf, ended_of}
use Rattle.refine_core.specs.Calls.{Stays, called_entry, returned_of}
use Rattle.refine_core.specs.State.{IsState, State, result_of}
use Rattle.refine_core.specs.Steps.{DoesCoreStep}
use Rattle.refine_core.proofs.Names.{stays}
use Rattle.refine_core.proofs.Takes.{calls_by, can_take, takes_first, takes_none}
use Rattle.usb_core.proofs.Views.{parts}
use Rattle.usb_core.proofs.Carried.{callers_follow, parts_follow}
use Rattle.refine_core.proofs.Payloads.{follows_take, goes_out}
use Rattle.refine_core.specs.Payloads.{Carries, StillCarries}
use Rattle.usb_core.proofs.parts.Parts.take.Goals as goal

-- what holds whatever comes of a call holds where it fails
on_err : {T E : Type 0} (A : Type 0) (r : Result T E) → A → OnErr r A
on_err A (Ok x) a = tt
on_err A (Err e) a = a

-- of two looks at the first it is one name
same_name : {P : Type 0} (x y : EndedOf (InFlight P)) → Some x ≡ Some y → x.transfer.name ≡ y.transfer.name
same_name {P = P} x y same = ap (λ (v : EndedOf (InFlight P)). v.transfer.name) (same_Some x y same)

pub returns-in_default-clause-taken : goal.returns-in_default-clause-taken
returns-in_default-clause-taken g c = takes_none c.args.self.now (ap (λ (s : State g.row.P.Denot). slice_get s.flights.ended 0) (sym c.self.view_is) ∙ sym c.in_default.ensures)

pub returns-in_err-reserve_callback-clause-refused : goal.returns-in_err-reserve_callback-clause-refused
returns-in_err-reserve_callback-clause-refused g c =
    let old : State g.row.P.Denot = parts c.self.inside.claims c.self.inside.controller c.self.inside.flights c.self.inside.callers c.self.inside.outstanding in
    let new : State g.row.P.Denot = record old { callers = c.reserve_callback.new.self } in
    on_err (Stays c.args.self.now new) c.from_residual.result (subst (λ (s : State g.row.P.Denot). Stays s new) c.self.view_is
    (stays old new refl refl refl refl c.reserve_callback.ensures.numbers c.reserve_callback.ensures.callbacks c.reserve_callback.ensures.results c.reserve_callback.ensures.counts))

pub result_taken-requires : goal.result_taken-requires
result_taken-requires g c =
    let old : State g.row.P.Denot = parts c.self.inside.claims c.self.inside.controller c.self.inside.flights c.self.inside.callers c.self.inside.outstanding in
    let x : EndedOf (InFlight g.row.P.Denot) = ended_of c.in-Some-take.field-0 in
    let first : slice_get old.flights.ended 0 ≡ Some x = sym c.in-Some-take.ensures.value in
    let can = can_take old x (subst (λ (s : State g.row.P.Denot). IsState s) (sym c.self.view_is) c.requires) first in
    let name : c.in-Some.first.now.name ≡ x.transfer.name = same_name _ x (c.in-Some.ensures ∙ first) in
    subst (λ (h : ℕ). 0 < results_at c.reserve_callback.new.self h (endpoint_id x.transfer.request.ep)) (sym name)
    (subst (λ (n : ℕ). 0 < n) (sym (c.reserve_callback.ensures.results x.transfer.name (endpoint_id x.transfer.request.ep))) can.0)

pub put_callback-requires-clause-absent : goal.put_callback-requires-clause-absent
put_callback-requires-clause-absent g c =
    let old : State g.row.P.Denot = parts c.self.inside.claims c.self.inside.controller c.self.inside.flights c.self.inside.callers c.self.inside.outstanding in
    let x : EndedOf (InFlight g.row.P.Denot) = ended_of c.in-Some-take.field-0 in
    let first : slice_get old.flights.ended 0 ≡ Some x = sym c.in-Some-take.ensures.value in
    let can = can_take old x (subst (λ (s : State g.row.P.Denot). IsState s) (sym c.self.view_is) c.requires) first in
    let name : c.in-Some.first.now.name ≡ x.transfer.name = same_name _ x (c.in-Some.ensures ∙ first) in
    ap (λ (h : ℕ). callback_at c.result_taken.new.self h x.transfer.n) name
    ∙ c.result_taken.ensures.callbacks x.transfer.name x.transfer.n ∙ c.reserve_callback.ensures.callbacks x.transfer.name x.transfer.n ∙ can.1

pub returns-clause-taken : goal.returns-clause-taken
returns-clause-taken g c =
    let old : State g.row.P.Denot = parts c.self.inside.claims c.self.inside.controller c.self.inside.flights c.self.inside.callers c.self.inside.outstanding in
    let new : State g.row.P.Denot = record old { flights = c.take.new.self; callers = c.put_callback.new.self } in
    let x : EndedOf (InFlight g.row.P.Denot) = ended_of c.in-Some-take.field-0 in
    let first : slice_get old.flights.ended 0 ≡ Some x = sym c.in-Some-take.ensures.value in
    let name : c.in-Some.first.now.name ≡ x.transfer.name = same_name _ x (c.in-Some.ensures ∙ first) in
    let told : Returned = record (returned_of (result_of x)) { h = c.in-Some.first.now.name; bytes = c.from_buffer.result } in
    subst (λ (r : Returned). DoesCoreStep c.args.self.now Take (called_entry (Some r)) new) (sym c.new-due.ensures)
    (subst (λ (s : State g.row.P.Denot). DoesCoreStep s Take (called_entry (Some told)) new) c.self.view_is
    (takes_first old new x c.in-Some.first.now.name c.from_buffer.result first name c.from_buffer.ensures refl refl c.take.ensures.lines c.take.ensures.keys refl c.take.ensures.ended
    (calls_by old.callers c.reserve_callback.new.self c.result_taken.new.self c.put_callback.new.self c.in-Some.first.now.name _
    c.reserve_callback.ensures.numbers c.reserve_callback.ensures.callbacks c.reserve_callback.ensures.results c.reserve_callback.ensures.counts
    c.result_taken.ensures.results c.result_taken.ensures.numbers c.result_taken.ensures.callbacks c.result_taken.ensures.counts
    c.put_callback.ensures.callbacks c.put_callback.ensures.counts c.put_callback.ensures.numbers c.put_callback.ensures.results)))

pub returns-in_err-reserve_callback-clause-still : goal.returns-in_err-reserve_callback-clause-still
returns-in_err-reserve_callback-clause-still g c =
    let old : State g.row.P.Denot = parts c.self.inside.claims c.self.inside.controller c.self.inside.flights c.self.inside.callers c.self.inside.outstanding in
    on_err (StillCarries c.args.self.now (record old { callers = c.reserve_callback.new.self })) c.from_residual.result (callers_follow c.args.self.now _ c.self.view_is c.reserve_callback.new.self c.reserve_callback.ensures.numbers)

pub returns-clause-carries : goal.returns-clause-carries
returns-clause-carries g c = λ kept carried.
    let old : State g.row.P.Denot = parts c.self.inside.claims c.self.inside.controller c.self.inside.flights c.self.inside.callers c.self.inside.outstanding in
    let x : EndedOf (InFlight g.row.P.Denot) = ended_of c.in-Some-take.field-0 in
    let first : slice_get old.flights.ended 0 ≡ Some x = sym c.in-Some-take.ensures.value in
    let name : c.in-Some.first.now.name ≡ x.transfer.name = same_name _ x (c.in-Some.ensures ∙ first) in (
      ap (λ (r : Returned). kept r.h r.n) c.new-due.ensures ∙ ap (λ (h : ℕ). kept h x.transfer.n) name ∙ goes_out old x first kept (subst (λ (s : State g.row.P.Denot). Carries kept s) (sym c.self.view_is) carried),
      parts_follow c.args.self.now _ c.self.view_is c.take.new.self c.put_callback.new.self (follows_take old.flights c.take.new.self c.take.ensures.lines c.take.ensures.ended)
          (λ h. c.put_callback.ensures.numbers h ∙ c.result_taken.ensures.numbers h ∙ c.reserve_callback.ensures.numbers h) kept carried,
    )
