-- Whole packets in a row, or none.
use Rattle.std.proofs.Common.{sym, subst}
use Rattle.std.specs.Prelude.{replicate}
use Rattle.usb_model.specs.declared.step.Step.TheVariants.{Serve}
use Rattle.refine_core.specs.State.{IsState, State}
use Rattle.refine_core.specs.Steps.{DoesCoreSteps}
use Rattle.refine_core.specs.Works.{CanSkimItem}
use Rattle.refine_core.proofs.Payloads.{follows_skim}
use Rattle.refine_core.proofs.Rows.{does_none}
use Rattle.usb_core.specs.StepBursts.{IsWholeAt, whole_entry}
use Rattle.usb_core.proofs.Wholes.{can_skim, skimmed}
use Rattle.usb_core.proofs.Carried.{flights_follow}
use Rattle.usb_core.proofs.Views.{parts}
use Rattle.usb_core.proofs.parts.Parts.skim.Goals as goal

pub returns-in_default-clause-turns : goal.returns-in_default-clause-turns
returns-in_default-clause-turns g c = does_none c.args.self.now

pub skim_item-requires-clause-item : goal.skim_item-requires-clause-item
skim_item-requires-clause-item g c =
    let old : State g.row.P.Denot = parts c.self.inside.claims c.self.inside.controller c.self.inside.flights c.self.inside.callers c.self.inside.outstanding in
    let can : CanSkimItem old c.args.dev c.args.ep c.in-Some.item = can_skim old c.args.dev c.args.ep c.in-Some.item c.args.each.now (subst (λ (s : State g.row.P.Denot). IsState s) (sym c.self.view_is) c.requires)
    (subst (λ (s : State g.row.P.Denot). IsWholeAt s c.args.dev c.args.ep c.args.each.now c.in-Some.item) (sym c.self.view_is) c.in-Some.ensures) in
    can.live

pub skim_item-requires-clause-skims : goal.skim_item-requires-clause-skims
skim_item-requires-clause-skims g c =
    let old : State g.row.P.Denot = parts c.self.inside.claims c.self.inside.controller c.self.inside.flights c.self.inside.callers c.self.inside.outstanding in
    let can : CanSkimItem old c.args.dev c.args.ep c.in-Some.item = can_skim old c.args.dev c.args.ep c.in-Some.item c.args.each.now (subst (λ (s : State g.row.P.Denot). IsState s) (sym c.self.view_is) c.requires)
    (subst (λ (s : State g.row.P.Denot). IsWholeAt s c.args.dev c.args.ep c.args.each.now c.in-Some.item) (sym c.self.view_is) c.in-Some.ensures) in
    can.bytes

pub returns-clause-turns : goal.returns-clause-turns
returns-clause-turns g c =
    let old : State g.row.P.Denot = parts c.self.inside.claims c.self.inside.controller c.self.inside.flights c.self.inside.callers c.self.inside.outstanding in
    subst (λ (s : State g.row.P.Denot). DoesCoreSteps s (replicate c.skim_item.result (Serve c.args.dev c.args.ep)) (replicate c.skim_item.result (whole_entry c.args.each.now)) (record old { controller = c.skim_item.new.controller; flights = c.skim_item.new.flights })) c.self.view_is
    (skimmed old c.skim_item.new.controller c.skim_item.new.flights c.args.dev c.args.ep c.in-Some.item c.skim_item.result c.args.each.now
    (subst (λ (s : State g.row.P.Denot). IsWholeAt s c.args.dev c.args.ep c.args.each.now c.in-Some.item) (sym c.self.view_is) c.in-Some.ensures) c.skim_item.ensures.whole c.skim_item.ensures.controller c.skim_item.ensures.transfer)

pub returns-clause-carries : goal.returns-clause-carries
returns-clause-carries g c =
    let old : State g.row.P.Denot = parts c.self.inside.claims c.self.inside.controller c.self.inside.flights c.self.inside.callers c.self.inside.outstanding in
    let can : CanSkimItem old c.args.dev c.args.ep c.in-Some.item = can_skim old c.args.dev c.args.ep c.in-Some.item c.args.each.now (subst (λ (s : State g.row.P.Denot). IsState s) (sym c.self.view_is) c.requires)
    (subst (λ (s : State g.row.P.Denot). IsWholeAt s c.args.dev c.args.ep c.args.each.now c.in-Some.item) (sym c.self.view_is) c.in-Some.ensures) in
    flights_follow c.args.self.now _ c.self.view_is c.skim_item.new.flights (follows_skim c.self.inside.flights c.skim_item.new.flights c.self.inside.controller c.args.dev c.args.ep c.in-Some.item c.skim_item.result can.live c.skim_item.ensures.transfer)
