-- A packet, or none, is the core's.
use Rattle.std.proofs.Common.{Some, None, sym, subst, ◌∙◌}
use Rattle.usb_model.specs.declared.reply.Reply.TheVariants.{Idle}
use Rattle.usb_model.specs.declared.step.Step.TheVariants.{Serve}
use Rattle.refine_core.specs.State.{IsState, State}
use Rattle.refine_core.specs.Steps.{DoesCoreStep}
use Rattle.refine_core.specs.Works.{CanServeItem, IsFront, IsHolder}
use Rattle.usb_core.proofs.Serves.{can_serve, is_served, nobody, nothing, packet}
use Rattle.usb_core.proofs.Views.{parts}
use Rattle.usb_core.proofs.Carried.{flights_follow}
use Rattle.refine_core.proofs.Payloads.{follows_serve}
use Rattle.usb_core.proofs.parts.Parts.serve.Goals as goal

pub returns-in_default-clause-done : goal.returns-in_default-clause-done
returns-in_default-clause-done g c =
    let old : State g.row.P.Denot = parts c.self.inside.claims c.self.inside.controller c.self.inside.flights c.self.inside.callers c.self.inside.outstanding in
    let none : IsHolder old c.args.dev c.args.ep None = λ setup set. sym c.in_default.is ∙ c.holder.ensures setup set in
    subst (λ (s : State g.row.P.Denot). DoesCoreStep s (Serve c.args.dev c.args.ep) (record { owner = None; reply = Idle }) s) c.self.view_is (nobody old c.args.dev c.args.ep none)

pub returns-in_default-front-clause-done : goal.returns-in_default-front-clause-done
returns-in_default-front-clause-done g c =
    let old : State g.row.P.Denot = parts c.self.inside.claims c.self.inside.controller c.self.inside.flights c.self.inside.callers c.self.inside.outstanding in
    let held : IsHolder old c.args.dev c.args.ep (Some c.in-Some.name) = λ setup set. sym c.in-Some.is ∙ c.holder.ensures setup set in
    subst (λ (s : State g.row.P.Denot). DoesCoreStep s (Serve c.args.dev c.args.ep) (record { owner = Some c.in-Some.name; reply = Idle }) s) c.self.view_is
    (nothing old c.in-Some.name c.args.dev c.args.ep held (subst (λ (s : State g.row.P.Denot). IsFront s c.args.dev c.args.ep None) (sym c.self.view_is) c.in_default-front.ensures))

pub serve_item-requires-clause-item : goal.serve_item-requires-clause-item
serve_item-requires-clause-item g c =
    let old : State g.row.P.Denot = parts c.self.inside.claims c.self.inside.controller c.self.inside.flights c.self.inside.callers c.self.inside.outstanding in
    let held : IsHolder old c.args.dev c.args.ep (Some c.in-Some.name) = λ setup set. sym c.in-Some.is ∙ c.holder.ensures setup set in
    let can : CanServeItem old c.args.dev c.args.ep c.in-Some-front.item = can_serve old c.in-Some.name c.args.dev c.args.ep c.in-Some-front.item (subst (λ (s : State g.row.P.Denot). IsState s) (sym c.self.view_is) c.requires) held
    (subst (λ (s : State g.row.P.Denot). IsFront s c.args.dev c.args.ep (Some c.in-Some-front.item)) (sym c.self.view_is) c.in-Some-front.ensures) in
    can.live

pub serve_item-requires-clause-serves : goal.serve_item-requires-clause-serves
serve_item-requires-clause-serves g c =
    let old : State g.row.P.Denot = parts c.self.inside.claims c.self.inside.controller c.self.inside.flights c.self.inside.callers c.self.inside.outstanding in
    let held : IsHolder old c.args.dev c.args.ep (Some c.in-Some.name) = λ setup set. sym c.in-Some.is ∙ c.holder.ensures setup set in
    let can : CanServeItem old c.args.dev c.args.ep c.in-Some-front.item = can_serve old c.in-Some.name c.args.dev c.args.ep c.in-Some-front.item (subst (λ (s : State g.row.P.Denot). IsState s) (sym c.self.view_is) c.requires) held
    (subst (λ (s : State g.row.P.Denot). IsFront s c.args.dev c.args.ep (Some c.in-Some-front.item)) (sym c.self.view_is) c.in-Some-front.ensures) in
    can.bytes

pub serve_item-requires-clause-room : goal.serve_item-requires-clause-room
serve_item-requires-clause-room g c =
    let old : State g.row.P.Denot = parts c.self.inside.claims c.self.inside.controller c.self.inside.flights c.self.inside.callers c.self.inside.outstanding in
    let held : IsHolder old c.args.dev c.args.ep (Some c.in-Some.name) = λ setup set. sym c.in-Some.is ∙ c.holder.ensures setup set in
    let can : CanServeItem old c.args.dev c.args.ep c.in-Some-front.item = can_serve old c.in-Some.name c.args.dev c.args.ep c.in-Some-front.item (subst (λ (s : State g.row.P.Denot). IsState s) (sym c.self.view_is) c.requires) held
    (subst (λ (s : State g.row.P.Denot). IsFront s c.args.dev c.args.ep (Some c.in-Some-front.item)) (sym c.self.view_is) c.in-Some-front.ensures) in
    can.room

pub unreachable-requires : goal.unreachable-requires
unreachable-requires g c =
    let old : State g.row.P.Denot = parts c.self.inside.claims c.self.inside.controller c.self.inside.flights c.self.inside.callers c.self.inside.outstanding in
    is_served old c.args.dev c.args.ep c.in-Some-front.item c.serve_item.result (subst (λ (s : State g.row.P.Denot). IsFront s c.args.dev c.args.ep (Some c.in-Some-front.item)) (sym c.self.view_is) c.in-Some-front.ensures)
    c.serve_item.ensures.packet c.in_default-serve_item.is

pub returns-clause-done : goal.returns-clause-done
returns-clause-done g c =
    let old : State g.row.P.Denot = parts c.self.inside.claims c.self.inside.controller c.self.inside.flights c.self.inside.callers c.self.inside.outstanding in
    let held : IsHolder old c.args.dev c.args.ep (Some c.in-Some.name) = λ setup set. sym c.in-Some.is ∙ c.holder.ensures setup set in
    let front : IsFront old c.args.dev c.args.ep (Some c.in-Some-front.item) = subst (λ (s : State g.row.P.Denot). IsFront s c.args.dev c.args.ep (Some c.in-Some-front.item)) (sym c.self.view_is) c.in-Some-front.ensures in
    subst (λ (s : State g.row.P.Denot). DoesCoreStep s (Serve c.args.dev c.args.ep) (record { owner = Some c.in-Some.name; reply = c.reply_of.result }) (record old { controller = c.serve_item.new.controller; flights = c.serve_item.new.flights })) c.self.view_is
    (subst (λ r. DoesCoreStep old (Serve c.args.dev c.args.ep) (record { owner = Some c.in-Some.name; reply = r }) (record old { controller = c.serve_item.new.controller; flights = c.serve_item.new.flights })) (sym c.reply_of.ensures)
    (packet old c.serve_item.new.controller c.serve_item.new.flights c.in-Some.name c.args.dev c.args.ep c.in-Some-front.item c.serve_item.result c.in-Some-serve_item.served
    (subst (λ (s : State g.row.P.Denot). IsState s) (sym c.self.view_is) c.requires) held front c.in-Some-serve_item.is c.serve_item.ensures.packet c.serve_item.ensures.number c.serve_item.ensures.controller c.serve_item.ensures.transfer))

pub returns-clause-carries : goal.returns-clause-carries
returns-clause-carries g c =
    let old : State g.row.P.Denot = parts c.self.inside.claims c.self.inside.controller c.self.inside.flights c.self.inside.callers c.self.inside.outstanding in
    let held : IsHolder old c.args.dev c.args.ep (Some c.in-Some.name) = λ setup set. sym c.in-Some.is ∙ c.holder.ensures setup set in
    let can : CanServeItem old c.args.dev c.args.ep c.in-Some-front.item = can_serve old c.in-Some.name c.args.dev c.args.ep c.in-Some-front.item (subst (λ (s : State g.row.P.Denot). IsState s) (sym c.self.view_is) c.requires) held
    (subst (λ (s : State g.row.P.Denot). IsFront s c.args.dev c.args.ep (Some c.in-Some-front.item)) (sym c.self.view_is) c.in-Some-front.ensures) in
    flights_follow c.args.self.now _ c.self.view_is c.serve_item.new.flights (follows_serve c.self.inside.flights c.serve_item.new.flights c.self.inside.controller c.args.dev c.args.ep c.in-Some-front.item can.live c.serve_item.ensures.transfer)
