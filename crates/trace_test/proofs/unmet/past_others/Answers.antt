use Rattle.std.proofs.Common.{◌≡◌, ℕ, List, Bor, drop, ap, ◌∙◌}
use Rattle.trace_test.specs.Comparison.{is_other, texts_of}
use Rattle.trace_test.proofs.Texts.{texts-past}
use Rattle.trace_test.proofs.unmet.past_others.Goals as goal

pub returns : goal.returns
returns c =
    ap texts_of (c.split_at.ensures.back ∙ ap (λ n. drop n c.args.texts.now) c.count_others.ensures.count)
    ∙ texts-past (is_other c.args.front.now c.args.wanted.now) c.args.texts.now
