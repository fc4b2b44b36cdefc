use Rattle.std.proofs.Common.{[], ◌∷◌, ◌++◌, ap, sym, ◌∙◌}
use Rattle.check_parts.proofs.log.three_entries.Goals as goal

pub enter-later-requires-clause-bearer : goal.enter-later-requires-clause-bearer
enter-later-requires-clause-bearer c =
    let seen = c.position-second.new.keeper.entries ++ c.noted.result ∷ [] in
    (seen, ap (λ p. p.positions) c.enter.ensures.moved ∙ ap (λ b. (b, seen) ∷ []) (ap (λ n. n.bearer) c.noted.ensures ∙ sym (ap (λ n. n.bearer) c.noted-2.ensures)))
