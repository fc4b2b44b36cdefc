-- The step of the core, case by case.
use Rattle.std.proofs.Common.{subst, ap, sym, ◌∙◌, Some, Bool}
use Rattle.usb_model.specs.World.{is_its}
use Rattle.usb_tables.specs.Holders.{device_of, owner_of}
use Rattle.refine_core.specs.Handles.{AreQuiet}
use Rattle.refine_core.specs.State.{State}
use Rattle.refine_core.proofs.Closes.{releases, releases_busy, releases_none, releases_others}
use Rattle.usb_core.proofs.parts.Parts.release.Goals as goal

pub returns-in_default-clause-done : goal.returns-in_default-clause-done
returns-in_default-clause-done g c = releases_none c.args.self.now c.args.h c.args.i (sym (ap (λ (s : State g.row.P.Denot). device_of s.claims c.args.h) c.self.view_is) ∙ sym c.device_of.ensures ∙ c.in_default.is)

pub returns-then-not-is_its-clause-done : goal.returns-then-not-is_its-clause-done
returns-then-not-is_its-clause-done g c = releases_others c.args.self.now c.args.h c.args.i c.in-Some.dev (sym (ap (λ (s : State g.row.P.Denot). device_of s.claims c.args.h) c.self.view_is) ∙ sym c.device_of.ensures ∙ c.in-Some.is)
    (sym (ap (λ (s : State g.row.P.Denot). is_its c.args.h (owner_of s.claims c.in-Some.dev c.args.i)) c.self.view_is) ∙ ap (is_its c.args.h) (sym c.owner.ensures) ∙ sym c.is_its.ensures ∙ c.if-not-is_its.true)

pub returns-then-not-are_quiet-clause-done : goal.returns-then-not-are_quiet-clause-done
returns-then-not-are_quiet-clause-done g c = releases_busy c.args.self.now c.args.h c.args.i c.in-Some.dev (sym (ap (λ (s : State g.row.P.Denot). device_of s.claims c.args.h) c.self.view_is) ∙ sym c.device_of.ensures ∙ c.in-Some.is)
    (sym (ap (λ (s : State g.row.P.Denot). is_its c.args.h (owner_of s.claims c.in-Some.dev c.args.i)) c.self.view_is) ∙ ap (is_its c.args.h) (sym c.owner.ensures) ∙ sym c.is_its.ensures ∙ c.if-not-is_its.false)
    (subst (λ (b : Bool). AreQuiet c.args.self.now c.args.h c.in-Some.dev (Some c.args.i) b) c.if-not-are_quiet.true c.are_quiet.ensures)

pub returns-clause-done : goal.returns-clause-done
returns-clause-done g c = releases _ _ c.args.h c.args.i c.in-Some.dev c.release.new.self c.release.result c.reply_to.result c.self.view_is (sym c.device_of.ensures ∙ c.in-Some.is) (ap (is_its c.args.h) (sym c.owner.ensures) ∙ sym c.is_its.ensures ∙ c.if-not-is_its.false)
    (subst (λ (b : Bool). AreQuiet c.args.self.now c.args.h c.in-Some.dev (Some c.args.i) b) c.if-not-are_quiet.false c.are_quiet.ensures)
    c.release.ensures.answer c.release.ensures.devices c.release.ensures.owners c.release.ensures.configs c.reply_to.ensures
