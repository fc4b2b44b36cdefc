-- The step of the core, case by case.
use Rattle.std.proofs.Common.{subst, ap, sym, ◌∙◌, None, Bool}
use Rattle.usb_tables.specs.Holders.{device_of}
use Rattle.refine_core.specs.Handles.{AreQuiet}
use Rattle.refine_core.specs.State.{State}
use Rattle.refine_core.proofs.Closes.{closes, closes_busy, closes_none}
use Rattle.usb_core.proofs.parts.Parts.close.Goals as goal

pub returns-in_default-clause-done : goal.returns-in_default-clause-done
returns-in_default-clause-done g c = closes_none c.args.self.now c.args.h (sym (ap (λ (s : State g.row.P.Denot). device_of s.claims c.args.h) c.self.view_is) ∙ sym c.device_of.ensures ∙ c.in_default.is)

pub returns-then-not-are_quiet-clause-done : goal.returns-then-not-are_quiet-clause-done
returns-then-not-are_quiet-clause-done g c = closes_busy c.args.self.now c.args.h c.in-Some.dev (sym (ap (λ (s : State g.row.P.Denot). device_of s.claims c.args.h) c.self.view_is) ∙ sym c.device_of.ensures ∙ c.in-Some.is)
    (subst (λ (b : Bool). AreQuiet c.args.self.now c.args.h c.in-Some.dev None b) c.if-not-are_quiet.true c.are_quiet.ensures)

pub returns-clause-done : goal.returns-clause-done
returns-clause-done g c = closes _ _ c.args.h c.in-Some.dev c.close.new.self c.close.result c.reply_to.result c.self.view_is (sym c.device_of.ensures ∙ c.in-Some.is)
    (subst (λ (b : Bool). AreQuiet c.args.self.now c.args.h c.in-Some.dev None b) c.if-not-are_quiet.false c.are_quiet.ensures)
    c.close.ensures.answer c.close.ensures.devices c.close.ensures.owners c.close.ensures.configs c.reply_to.ensures
