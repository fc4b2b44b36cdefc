-- The entry tells the first event, with its endpoint.
use Rattle.std.proofs.Common.{◌≡◌, ◌++◌, ap, subst, ◌∙◌}
use Rattle.std.specs.Prelude.{IfOk}
use Rattle.trace_left.specs.Gathered.{of_option}
use Rattle.trace_left.proofs.Gathers.{shown_reached}
use Rattle.trace_left.proofs.Turns.{event_said}
use Rattle.trace_left.proofs.gather.add_event.Goals as goal

pub returns-clause-world : goal.returns-clause-world
returns-clause-world g c = λ setup w shown. (c.deliver_at-entry.ensures.turned setup w shown).1

pub returns-clause-event : goal.returns-clause-event
returns-clause-event g c = λ setup w shown.
    let d = c.deliver_at-entry in
    let said = event_said setup w d.result.entry d.result.ep (shown_reached setup w c.args.core.now shown) (d.ensures.turned setup w shown).0 (d.ensures.at setup w shown) in
    subst (λ o. IfOk c.add_if_any.result (λ _. c.add_if_any.new.left.items ≡ c.args.left.now.items ++ of_option o)) (c.event_left.ensures ∙ said) c.add_if_any.ensures
