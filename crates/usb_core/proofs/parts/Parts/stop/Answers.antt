-- The step of the core, whether there is such a callback or not.
use Rattle.std.proofs.Common.{◌≡◌, ◌+◌, Option, refl, ap, sym, subst, ◌∙◌}
use Rattle.std.specs.Prelude.{◌==◌, ◌&&◌, if◌then◌else◌}
use Rattle.usb_model.specs.declared.reply.Reply.{Reply}
use Rattle.usb_model.specs.declared.result.InCallback.{InCallback}
use Rattle.usb_model.specs.declared.step.Step.TheVariants.{Answer}
use Rattle.usb_model.specs.declared.verdict.Verdict.TheVariants.{Stop}
use Rattle.usb_tables.specs.HandleState.{is_one_of}
use Rattle.usb_tables.specs.HandleStates.{callbacks_at}
use Rattle.refine_core.specs.Handles.{says}
use Rattle.refine_core.specs.State.{State}
use Rattle.refine_core.specs.Steps.{DoesCoreStep}
use Rattle.refine_core.proofs.Stops.{stop_reply, stops}
use Rattle.usb_core.proofs.Views.{parts}
use Rattle.usb_core.proofs.Carried.{callers_follow}
use Rattle.usb_core.proofs.parts.Parts.stop.Goals.{in-Some, in-None}
use Rattle.usb_core.proofs.parts.Parts.stop.Goals as goal

pub returns-clause-done : goal.returns-clause-done
returns-clause-done g c =
    let old : State g.row.P.Denot = parts c.self.inside.claims c.self.inside.controller c.self.inside.flights c.self.inside.callers c.self.inside.outstanding in
    let new : State g.row.P.Denot = record old { callers = c.remove_callback.new.self } in
    let replied : c.match-remove_callback.result ≡ stop_reply c.remove_callback.result =
    elim c.match-remove_callback.branch [ in-Some w ↦ w.result-is ∙ ap stop_reply (sym w.in-Some.is) | in-None w ↦ w.result-is ∙ ap stop_reply (sym w.in-None.is) ] in
    subst (λ (s : State g.row.P.Denot). DoesCoreStep s (Answer c.args.h c.args.n Stop) (says c.args.h c.match-remove_callback.result) new) c.self.view_is
    (subst (λ (r : Reply). DoesCoreStep old (Answer c.args.h c.args.n Stop) (says c.args.h r) new) (sym replied)
    (stops old new c.args.h c.args.n c.remove_callback.result refl refl refl refl c.remove_callback.ensures.value (record {
      callbacks = c.remove_callback.ensures.callbacks;
      counts = λ g id.
          c.remove_callback.ensures.counts g id
          ∙ ap (λ (o : Option InCallback). callbacks_at c.remove_callback.new.self g id + (if (c.args.h == g) && is_one_of id o then 1 else 0)) c.remove_callback.ensures.value;
      numbers = c.remove_callback.ensures.numbers;
      results = c.remove_callback.ensures.results;
    })))

pub returns-clause-carries : goal.returns-clause-carries
returns-clause-carries g c = callers_follow c.args.self.now _ c.self.view_is c.remove_callback.new.self c.remove_callback.ensures.numbers
