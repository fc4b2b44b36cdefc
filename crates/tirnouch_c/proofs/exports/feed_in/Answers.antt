-- A device is fed, where there is such a device.
use Rattle.std.proofs.Common.{◌∙◌, ℕ, Option, Some, None, negsuc, refl, sym, subst, rules}
use Rattle.tirnouch_c.specs.declared.session.Session.{Session}
use Rattle.tirnouch_c.specs.Feeds.{Feeds, FeedsAs, FeedsBy, Unfit, answer_by}
use Rattle.usb_model.specs.declared.response.Response.{Response}
use Rattle.tirnouch_c.proofs.exports.feed_in.Goals as goal

-- nobody's device has an answer
unfit : (ep : ℕ) (o : Option Response) (s : Session) → FeedsAs Unfit None ep o s s
unfit ep o s = refl

pub returns-in-None : goal.returns-in-None
returns-in-None c = subst (λ (o : Option ℕ). Feeds o c.args.ep c.args.kind c.args.bytes.now (negsuc 1) c.args.session.now c.args.session.now) (sym c.in-None.is ∙ c.device.ensures)
    (record { fed = Unfit; answered = refl; is = unfit c.args.ep (answer_by c.args.kind c.args.bytes.now) c.args.session.now })

pub returns-in-Some : goal.returns-in-Some
returns-in-Some c =
    let all : FeedsBy c.args.dev c.args.ep c.args.kind c.args.bytes.now c.feed.result c.args.session.now c.feed.new.session =
    subst (λ (o : Option ℕ). Feeds o c.args.ep c.args.kind c.args.bytes.now c.feed.result c.args.session.now c.feed.new.session) (sym c.in-Some.is ∙ c.device.ensures)
    (subst (λ (e : ℕ). Feeds (Some c.in-Some.dev) e c.args.kind c.args.bytes.now c.feed.result c.args.session.now c.feed.new.session) c.new.ensures c.feed.ensures) in
    search rules
