-- A configuration more; and at the end the rest begins with none.
use Rattle.std.proofs.Common.{◌∷◌, [], ◌++◌, sym, ap, ◌∙◌}
use Rattle.trace_recorded.proofs.DescribedRead.{configuration_next, configurations_end}
use Rattle.trace_recorded.proofs.described_file.configurations_in.Goals as goal

pub configurations-preserved : goal.configurations-preserved
configurations-preserved c =
    configuration_next _ c.configurations.found _ c.configurations.rest.now _ c.total_length-size.result (sym c.begins_with_configuration.ensures ∙ c.configurations-test.true) c.total_length-size.ensures
    (c.in_ok-push.ensures.pushed ∙ ap (λ b. c.configurations.found ++ b ∷ []) c.in_ok-front.ensures) c.past-rest.ensures c.configurations.invariant

pub returns : goal.returns
returns c = configurations_end _ c.configurations.found c.configurations.rest.now (sym c.begins_with_configuration.ensures ∙ c.configurations-test.false) c.configurations.invariant
