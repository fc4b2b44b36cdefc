-- What was gathered, put together.
use Rattle.std.proofs.Common.{◌≡◌, ◌∙◌, ap₂, subst}
use Rattle.std.specs.Prelude.{IfOk}
use Rattle.std.specs.List.{flat_map}
use Rattle.trace_left.specs.Gathered.{joined}
use Rattle.trace_left.proofs.Gathers.{shown_reached}
use Rattle.trace_left.proofs.Joined.{all_joined}
use Rattle.trace_left.proofs.behind.take_stock.Goals as goal

pub returns : goal.returns
returns g c = λ setup w shown.
    subst (λ l. IfOk c.put_together.result (λ left. left.items ≡ l))
    (ap₂ (λ a b. flat_map (joined a) b) (c.as_slice.ensures.value ∙ c.in_ok-waiting.ensures setup w shown) (c.as_slice-2.ensures ∙ c.in_ok-read.ensures setup w shown) ∙ all_joined setup w (shown_reached setup w c.args.core.now shown) 64)
    c.put_together.ensures
