use Rattle.std.proofs.Common.{IfOk, subst, ◌≡◌, ◌∙◌}
use Rattle.std.specs.List.{filter}
use Rattle.trace_threads.specs.Unfinished.{is_unfinished}
use Rattle.trace_live.proofs.unfinished.unfinished_in.Goals as goal

pub returns : goal.returns
returns g c setup w shows =
    subst (λ l. IfOk c.unfinished_of.result (λ u. u.items ≡ filter is_unfinished l)) (c.as_slice.ensures.value ∙ c.in_ok-left.ensures setup w shows) c.unfinished_of.ensures
