-- The lines joined by endpoint expect the same at each, so the same is told of them; and nothing, where they expect nothing.
use Rattle.std.proofs.Common.{◌≡◌, ℕ, List, ap, sym, ◌∙◌}
use Rattle.trace_scenario.specs.declared.expectations.ExpectedPackets.{ExpectedPackets}
use Rattle.trace_scenario.specs.declared.scenario.Scenario.{Scenario}
use Rattle.trace_scenario.specs.Expectations.{expected_of}
use Rattle.trace_judged.specs.Expected.{expected_at}
use Rattle.trace_judged.specs.Text.{expects, unexpected_by, unexpected_in}
use Rattle.trace_judged.proofs.Alike.{the_same_told}
use Rattle.trace_judged.proofs.Unjudged.{nothing_told}
use Rattle.trace_judged.proofs.text.expectations.Goals as goal

pub returns-then-expects : goal.returns-then-expects
returns-then-expects c = λ s numbers.
    let entries : List ExpectedPackets = c.in_ok-entries.entries.items in
    let lines : List ExpectedPackets = expected_of c.args.text.now in
    let alike : (dev ep : ℕ) → expected_at entries dev ep ≡ expected_at lines dev ep =
    λ dev ep. c.in_ok-entries.ensures.expected dev ep ∙ ap (λ (l : List ExpectedPackets). expected_at l dev ep) c.in_ok-lines.ensures in
    ap (λ (l : List ExpectedPackets). unexpected_in l s.setup s.plan s.rules numbers) c.from_vec.ensures ∙ the_same_told entries lines alike s.setup s.plan s.rules numbers

pub returns-else-expects : goal.returns-else-expects
returns-else-expects c = λ s numbers.
    let entries : List ExpectedPackets = c.in_ok-entries.entries.items in
    let lines : List ExpectedPackets = expected_of c.args.text.now in
    let alike : (dev ep : ℕ) → expected_at entries dev ep ≡ expected_at lines dev ep =
    λ dev ep. c.in_ok-entries.ensures.expected dev ep ∙ ap (λ (l : List ExpectedPackets). expected_at l dev ep) c.in_ok-lines.ensures in
    sym (the_same_told entries lines alike s.setup s.plan s.rules numbers)
    ∙ nothing_told entries s.setup s.plan s.rules numbers (ap expects (sym c.as_slice.ensures.value) ∙ (sym c.expects.ensures ∙ c.if-expects.false))
