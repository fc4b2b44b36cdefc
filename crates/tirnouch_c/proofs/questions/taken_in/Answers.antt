-- What a device took, where there is such a device.
use Rattle.std.proofs.Common.{◌≡◌, ◌∙◌, ℕ, Option, Some, negsuc, refl, sym, subst, rules}
use Rattle.tirnouch_c.specs.Questions.{TakenBy, TakenIf}
use Rattle.tirnouch_c.proofs.questions.taken_in.Goals as goal

pub returns-in-None : goal.returns-in-None
returns-in-None c = subst (λ (o : Option ℕ). TakenIf o c.args.ep c.args.i (negsuc 1) c.args.buffer.now c.args.buffer.now c.args.session.now) (sym c.in-None.is ∙ c.device.ensures) (refl, refl)

pub returns-in-Some : goal.returns-in-Some
returns-in-Some c =
    let at : TakenIf (Some c.in-Some.dev) c.args.ep c.args.i c.taken.result c.args.buffer.now c.taken.new.buffer c.args.session.now =
    subst (λ (e : ℕ). TakenIf (Some c.in-Some.dev) e c.args.i c.taken.result c.args.buffer.now c.taken.new.buffer c.args.session.now) c.new.ensures c.taken.ensures in
    let all : TakenBy c.args.dev c.args.ep c.args.i c.taken.result c.args.buffer.now c.taken.new.buffer c.args.session.now =
    subst (λ (o : Option ℕ). TakenIf o c.args.ep c.args.i c.taken.result c.args.buffer.now c.taken.new.buffer c.args.session.now) (sym c.in-Some.is ∙ c.device.ensures) at in
    search rules
