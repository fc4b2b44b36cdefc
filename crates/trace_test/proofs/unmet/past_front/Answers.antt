use Rattle.std.proofs.Common.{◌≡◌, ℕ, List, Bor, drop, nat_eq, ap, ◌∙◌}
use Rattle.std.specs.List.{starts_with}
use Rattle.trace_test.specs.Comparison.{texts_of}
use Rattle.trace_test.proofs.Texts.{texts-past}
use Rattle.trace_test.proofs.unmet.past_front.Goals as goal

pub returns : goal.returns
returns c =
    ap texts_of (c.split_at.ensures.back ∙ ap (λ n. drop n c.args.texts.now) c.count_front.ensures.count)
    ∙ texts-past (λ text. starts_with nat_eq text c.args.front.now) c.args.texts.now
