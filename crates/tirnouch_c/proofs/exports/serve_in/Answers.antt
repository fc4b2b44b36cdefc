-- Packets are served, where there is such a device.
use Rattle.std.proofs.Common.{◌≡◌, ◌∙◌, ℕ, Option, Some, pos, negsuc, refl, sym, subst}
use Rattle.tirnouch_c.specs.Exports.{ServesIf}
use Rattle.tirnouch_c.proofs.exports.serve_in.Goals as goal

pub returns-in-None : goal.returns-in-None
returns-in-None c = subst (λ (o : Option ℕ). ServesIf o c.args.ep c.args.most (negsuc 1) c.args.reply.now c.args.session.now c.args.session.now) (sym c.in-None.is ∙ c.device.ensures) (refl, refl)

pub returns-in-Some : goal.returns-in-Some
returns-in-Some c =
    let at : ServesIf (Some c.in-Some.dev) c.args.ep c.args.most (pos 0) c.serve.new.reply c.args.session.now c.serve.new.session =
    subst (λ (e : ℕ). ServesIf (Some c.in-Some.dev) e c.args.most (pos 0) c.serve.new.reply c.args.session.now c.serve.new.session) c.new.ensures (refl, c.serve.ensures) in
    subst (λ (o : Option ℕ). ServesIf o c.args.ep c.args.most (pos 0) c.serve.new.reply c.args.session.now c.serve.new.session) (sym c.in-Some.is ∙ c.device.ensures) at
