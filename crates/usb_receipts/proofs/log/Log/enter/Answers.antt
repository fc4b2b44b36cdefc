-- An entry is entered behind the others, for the bearer whose position alone the keeper has then.
use Rattle.std.proofs.Common.{◌≡◌, [], ◌∷◌, ◌++◌, ap, ◌∙◌}
use Rattle.usb_receipts.proofs.log.Log.enter.Goals as goal

pub append-requires-clause-position : goal.append-requires-clause-position
append-requires-clause-position g c =
    let seen = c.requires.bearer.0 in
    let cut : c.cut_claims-nothing.new.token.me.0.positions ≡ [] = ap (λ m. m.0.positions) c.cut_claims-nothing.ensures.kept.1 ∙ (ap (λ k. k.back) c.keeper.view_is ∙ c.requires.none.1) in
    let its : c.replace-before.result.me.0.positions ≡ (g.E.Borne.bearer c.args.entry, seen) ∷ [] = ap (λ t. t.me.0.positions) c.replace-before.ensures.value ∙ (ap (λ p. p.positions) c.position.view_is ∙ c.requires.bearer.1) in
    let all = ap (λ ps. ps ++ c.replace-before.result.me.0.positions) cut ∙ its in (seen, ap (λ m. m.0.positions) c.take_in.ensures.1 ∙ all)
