-- It is done, where there is such a device.
use Rattle.std.proofs.Common.{◌∙◌, ℕ, Option, Some, negsuc, refl, sym, subst, rules}
use Rattle.tirnouch_c.specs.Exports.{WorksBy, WorksIf}
use Rattle.tirnouch_c.proofs.exports.turn_in.Goals as goal

pub returns-in-None : goal.returns-in-None
returns-in-None c = subst (λ (o : Option ℕ). WorksIf o c.args.ep c.args.packets c.args.steps (negsuc 1) c.args.out.now c.args.back.now c.args.back.now c.args.session.now c.args.session.now) (sym c.in-None.is ∙ c.device.ensures) (refl, refl, refl)

pub returns-in-Some : goal.returns-in-Some
returns-in-Some c =
    let at : WorksIf (Some c.in-Some.dev) c.args.ep c.args.packets c.args.steps c.work.result c.work.new.out c.args.back.now c.work.new.back c.args.session.now c.work.new.session =
    subst (λ (e : ℕ). WorksIf (Some c.in-Some.dev) e c.args.packets c.args.steps c.work.result c.work.new.out c.args.back.now c.work.new.back c.args.session.now c.work.new.session) c.new.ensures c.work.ensures in
    let all : WorksBy c.args.dev c.args.ep c.args.packets c.args.steps c.work.result c.work.new.out c.args.back.now c.work.new.back c.args.session.now c.work.new.session =
    subst (λ (o : Option ℕ). WorksIf o c.args.ep c.args.packets c.args.steps c.work.result c.work.new.out c.args.back.now c.work.new.back c.args.session.now c.work.new.session) (sym c.in-Some.is ∙ c.device.ensures) at in
    search rules
