-- Both steps of the core.
use Rattle.std.proofs.Common.{◌≡◌, ℕ, ◌<◌, refl, ap, sym, subst, ◌∙◌, [], ◌∷◌, Some, None}
use Rattle.std.specs.Prelude.{slice_get}
use Rattle.usb_model.specs.declared.reply.Reply.TheVariants.{Done}
use Rattle.usb_model.specs.declared.reply.Returned.{Returned}
use Rattle.usb_model.specs.declared.step.Step.TheVariants.{Answer, Take}
use Rattle.usb_model.specs.declared.verdict.Verdict.TheVariants.{Stop}
use Rattle.usb_model.specs.Setup.{endpoint_id}
use Rattle.usb_tables.specs.HandleStates.{results_at}
use Rattle.usb_tables.specs.declared.transfer.Transfer.{Transfer as InFlight}
use Rattle.usb_tables.specs.TransfersInFlight.{EndedOf, TransfersInFlight, ended_of}
use Rattle.refine_core.specs.Calls.{called_entry}
use Rattle.refine_core.specs.Handles.{says}
use Rattle.refine_core.specs.Payloads.{Carries}
use Rattle.refine_core.specs.State.{IsState, State}
use Rattle.refine_core.specs.Steps.{DoesCoreStep, DoesCoreSteps}
use Rattle.refine_core.proofs.Payloads.{follows_take, goes_out}
use Rattle.refine_core.proofs.Takes.{can_take, takes_none}
use Rattle.usb_core.proofs.Carried.{parts_follow}
use Rattle.usb_core.proofs.TakesDone.{Drops, takes_done}
use Rattle.usb_core.specs.Results.{TakesDone}
use Rattle.usb_core.proofs.Views.{parts}
use Rattle.usb_core.proofs.parts.Parts.take_done.Goals as goal

pub returns-in_default-clause-taken : goal.returns-in_default-clause-taken
returns-in_default-clause-taken g c =
    let old : State g.row.P.Denot = parts c.self.inside.claims c.self.inside.controller c.self.inside.flights c.self.inside.callers c.self.inside.outstanding in
    let same : record old { flights = c.take.new.self } ≡ c.args.self.now = ap (λ (f : TransfersInFlight (InFlight g.row.P.Denot)). record old { flights = f }) c.in_default.ensures.none ∙ c.self.view_is in (
      subst (λ (s : State g.row.P.Denot). DoesCoreStep c.args.self.now Take (called_entry None) s) (sym same) (takes_none c.args.self.now (ap (λ (s : State g.row.P.Denot). slice_get s.flights.ended 0) (sym c.self.view_is) ∙ sym c.in_default.ensures.value)),
      same,
    )

pub result_taken-requires : goal.result_taken-requires
result_taken-requires g c =
    let old : State g.row.P.Denot = parts c.self.inside.claims c.self.inside.controller c.self.inside.flights c.self.inside.callers c.self.inside.outstanding in
    let x : EndedOf (InFlight g.row.P.Denot) = ended_of c.in-Some.ended in
    let can = can_take old x (subst (λ (s : State g.row.P.Denot). IsState s) (sym c.self.view_is) c.requires) (sym c.in-Some.ensures.value) in
    subst (λ (h : ℕ). 0 < results_at old.callers h (endpoint_id c.whose-name.result.1)) (sym c.whose-name.ensures.name)
    (subst (λ (e : ℕ). 0 < results_at old.callers x.transfer.name (endpoint_id e)) (sym c.whose-name.ensures.ep) can.0)

pub returns-clause-taken : goal.returns-clause-taken
returns-clause-taken g c =
    let old : State g.row.P.Denot = parts c.self.inside.claims c.self.inside.controller c.self.inside.flights c.self.inside.callers c.self.inside.outstanding in
    let new : State g.row.P.Denot = record old { flights = c.take.new.self; callers = c.result_taken.new.self } in
    let x : EndedOf (InFlight g.row.P.Denot) = ended_of c.in-Some.ended in
    let drops : Drops old.callers new.callers x.transfer.name (endpoint_id x.transfer.request.ep) =
    subst (λ (h : ℕ). Drops old.callers new.callers h (endpoint_id x.transfer.request.ep)) c.whose-name.ensures.name
    (subst (λ (e : ℕ). Drops old.callers new.callers c.whose-name.result.0 (endpoint_id e)) c.whose-name.ensures.ep (record {
      numbers = c.result_taken.ensures.numbers;
      callbacks = c.result_taken.ensures.callbacks;
      counts = c.result_taken.ensures.counts;
      results = c.result_taken.ensures.results;
    })) in
    subst (λ (s : State g.row.P.Denot). TakesDone s (Some c.taken_of.result) new) c.self.view_is
    (subst (λ (r : Returned). DoesCoreSteps old (Take ∷ Answer r.h r.n Stop ∷ []) (called_entry (Some r) ∷ says r.h Done ∷ []) new) (sym c.taken_of.ensures.returned)
    (takes_done old new x (sym c.in-Some.ensures.value) refl refl c.take.ensures.lines c.take.ensures.keys refl c.take.ensures.ended drops))

pub returns-clause-carries : goal.returns-clause-carries
returns-clause-carries g c = λ kept carried.
    let old : State g.row.P.Denot = parts c.self.inside.claims c.self.inside.controller c.self.inside.flights c.self.inside.callers c.self.inside.outstanding in
    let x : EndedOf (InFlight g.row.P.Denot) = ended_of c.in-Some.ended in (
      ap (λ (r : Returned). kept r.h r.n) c.taken_of.ensures.returned ∙ goes_out old x (sym c.in-Some.ensures.value) kept (subst (λ (s : State g.row.P.Denot). Carries kept s) (sym c.self.view_is) carried)
          ∙ ap Some (sym c.taken_of.ensures.payload),
      parts_follow c.args.self.now _ c.self.view_is c.take.new.self c.result_taken.new.self (follows_take old.flights c.take.new.self c.take.ensures.lines c.take.ensures.ended) c.result_taken.ensures.numbers kept carried,
    )
