use Rattle.std.proofs.Common.{◌∙◌, ap, sym, Some, None}
use Rattle.usb_model.specs.Stands.{Stand}
use Rattle.usb_xhc.specs.Context.{event_by}
use Rattle.usb_xhc.specs.Posts.{posted_all, posted_one}
use Rattle.usb_xhc.specs.Transaction.{Served}
use Rattle.usb_xhc.proofs.Serves.{packet-told, served-moved, served-ended}
use Rattle.usb_xhc.proofs.context.EndpointContext.take.Goals as goal

pub returns-in_default-clause-packet : goal.returns-in_default-clause-packet
returns-in_default-clause-packet c = λ a h.
    let told = packet-told c.args.self.now a c.from.result c.args.reach.room c.args.reach.extra c.decide-outcome.result.bytes None (c.from.ensures ∙ c.size.ensures) c.requires.reach
    (c.decide-outcome.ensures.bytes a h) (sym c.in_default.is ∙ c.decide-outcome.ensures.code a h) in
    c.moved.ensures a h ∙ sym (ap (λ (s : Served). s.packet) (served-moved c.args.self.now a c.decide-outcome.result.bytes told))

pub returns-in_default-clause-context : goal.returns-in_default-clause-context
returns-in_default-clause-context c = λ a h.
    let told = packet-told c.args.self.now a c.from.result c.args.reach.room c.args.reach.extra c.decide-outcome.result.bytes None (c.from.ensures ∙ c.size.ensures) c.requires.reach
    (c.decide-outcome.ensures.bytes a h) (sym c.in_default.is ∙ c.decide-outcome.ensures.code a h) in
    c.go_on.ensures ∙ sym (ap (λ (s : Served). s.context) (served-moved c.args.self.now a c.decide-outcome.result.bytes told))

pub returns-in_default-clause-events : goal.returns-in_default-clause-events
returns-in_default-clause-events c = λ a h.
    let told = packet-told c.args.self.now a c.from.result c.args.reach.room c.args.reach.extra c.decide-outcome.result.bytes None (c.from.ensures ∙ c.size.ensures) c.requires.reach
    (c.decide-outcome.ensures.bytes a h) (sym c.in_default.is ∙ c.decide-outcome.ensures.code a h) in
    ap (λ (s : Served). posted_all 4096 c.args.events.now s.events) (sym (served-moved c.args.self.now a c.decide-outcome.result.bytes told))

pub returns-clause-packet : goal.returns-clause-packet
returns-clause-packet c = λ a h.
    let told = packet-told c.args.self.now a c.from.result c.args.reach.room c.args.reach.extra c.decide-outcome.result.bytes (Some c.in-Some.code) (c.from.ensures ∙ c.size.ensures) c.requires.reach
    (c.decide-outcome.ensures.bytes a h) (sym c.in-Some.is ∙ c.decide-outcome.ensures.code a h) in
    sym (ap (λ (s : Served). s.packet) (served-ended c.args.self.now a c.decide-outcome.result.bytes c.in-Some.code told))

pub returns-clause-context : goal.returns-clause-context
returns-clause-context c = λ a h.
    let told = packet-told c.args.self.now a c.from.result c.args.reach.room c.args.reach.extra c.decide-outcome.result.bytes (Some c.in-Some.code) (c.from.ensures ∙ c.size.ensures) c.requires.reach
    (c.decide-outcome.ensures.bytes a h) (sym c.in-Some.is ∙ c.decide-outcome.ensures.code a h) in
    c.end.ensures ∙ sym (ap (λ (s : Served). s.context) (served-ended c.args.self.now a c.decide-outcome.result.bytes c.in-Some.code told))

pub returns-clause-events : goal.returns-clause-events
returns-clause-events c = λ a h.
    let told = packet-told c.args.self.now a c.from.result c.args.reach.room c.args.reach.extra c.decide-outcome.result.bytes (Some c.in-Some.code) (c.from.ensures ∙ c.size.ensures) c.requires.reach
    (c.decide-outcome.ensures.bytes a h) (sym c.in-Some.is ∙ c.decide-outcome.ensures.code a h) in
    c.post.ensures
    ∙ ap (posted_one 4096 c.args.events.now) (c.event.ensures ∙ ap (λ (s : Stand). event_by c.args.self.now s c.in-Some.code) c.standing-standing.ensures.stands)
    ∙ ap (λ (s : Served). posted_all 4096 c.args.events.now s.events) (sym (served-ended c.args.self.now a c.decide-outcome.result.bytes c.in-Some.code told))
