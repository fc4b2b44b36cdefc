-- The step of the core, case by case.
use Rattle.std.proofs.Common.{subst, ap, sym, ◌∙◌, ◌<◌, ◌≤◌, ℕ, length}
use Rattle.usb_tables.specs.Holders.{device_of}
use Rattle.usb_tables.specs.TransfersInFlight.{line_at}
use Rattle.refine_core.specs.State.{State}
use Rattle.refine_core.specs.Works.{IsHolder}
use Rattle.refine_core.proofs.Halts.{halts_busy, halts_gone, halts_none, halts_now, halts_others}
use Rattle.usb_core.proofs.parts.Parts.clear_halt.Goals as goal

pub returns-in_default-clause-done : goal.returns-in_default-clause-done
returns-in_default-clause-done g c = halts_none c.args.self.now c.args.h c.args.ep (sym (ap (λ (s : State g.row.P.Denot). device_of s.claims c.args.h) c.self.view_is) ∙ sym c.device_of.ensures ∙ c.in_default.is)

pub returns-then-not-is_its-clause-done : goal.returns-then-not-is_its-clause-done
returns-then-not-is_its-clause-done g c =
    halts_others c.args.self.now c.args.h c.in-Some.dev c.args.ep c.holder.result (sym (ap (λ (s : State g.row.P.Denot). device_of s.claims c.args.h) c.self.view_is) ∙ sym c.device_of.ensures ∙ c.in-Some.is)
    (subst (λ (s : State g.row.P.Denot). IsHolder s c.in-Some.dev c.args.ep c.holder.result) c.self.view_is c.holder.ensures) (sym c.is_its.ensures ∙ c.if-not-is_its.true)

pub returns-then-is_gone-clause-done : goal.returns-then-is_gone-clause-done
returns-then-is_gone-clause-done g c =
    halts_gone c.args.self.now c.args.h c.in-Some.dev c.args.ep c.holder.result (sym (ap (λ (s : State g.row.P.Denot). device_of s.claims c.args.h) c.self.view_is) ∙ sym c.device_of.ensures ∙ c.in-Some.is)
    (subst (λ (s : State g.row.P.Denot). IsHolder s c.in-Some.dev c.args.ep c.holder.result) c.self.view_is c.holder.ensures) (sym c.is_its.ensures ∙ c.if-not-is_its.false) (sym c.is_gone.ensures ∙ c.if-is_gone.true)

pub returns-then-len-gt0-clause-done : goal.returns-then-len-gt0-clause-done
returns-then-len-gt0-clause-done g c =
    halts_busy c.args.self.now c.args.h c.in-Some.dev c.args.ep c.holder.result (sym (ap (λ (s : State g.row.P.Denot). device_of s.claims c.args.h) c.self.view_is) ∙ sym c.device_of.ensures ∙ c.in-Some.is)
    (subst (λ (s : State g.row.P.Denot). IsHolder s c.in-Some.dev c.args.ep c.holder.result) c.self.view_is c.holder.ensures) (sym c.is_its.ensures ∙ c.if-not-is_its.false) (sym c.is_gone.ensures ∙ c.if-is_gone.false)
    (subst (λ (n : ℕ). 0 < n) (c.len.ensures.value ∙ ap (λ (s : State g.row.P.Denot). length (line_at s.flights c.in-Some.dev c.args.ep)) c.self.view_is) c.if-len-gt0.true)

pub returns-clause-done : goal.returns-clause-done
returns-clause-done g c =
    halts_now _ _ c.args.h c.in-Some.dev c.args.ep c.holder.result c.clear_halt.new.self c.self.view_is (sym (ap (λ (s : State g.row.P.Denot). device_of s.claims c.args.h) c.self.view_is) ∙ sym c.device_of.ensures ∙ c.in-Some.is)
    (subst (λ (s : State g.row.P.Denot). IsHolder s c.in-Some.dev c.args.ep c.holder.result) c.self.view_is c.holder.ensures) (sym c.is_its.ensures ∙ c.if-not-is_its.false) (sym c.is_gone.ensures ∙ c.if-is_gone.false)
    (subst (λ (n : ℕ). n ≤ 0) (c.len.ensures.value ∙ ap (λ (s : State g.row.P.Denot). length (line_at s.flights c.in-Some.dev c.args.ep)) c.self.view_is) c.if-len-gt0.false) c.clear_halt.ensures
