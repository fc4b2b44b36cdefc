-- The endpoint of the address is fed, or stays.
use Rattle.std.proofs.Common.{◌≡◌, ◌∙◌, ap, sym, true, OnOk, IfErr, if◌then◌else◌, subst}
use Rattle.usb_model.specs.declared.refused.Refused.TheVariants.{InvalidParam, NoMem}
use Rattle.usb_model.specs.Setup.{endpoint_id}
use Rattle.usb_device.specs.Feeds.{may_be_fed, pipe_fed}
use Rattle.usb_device.specs.Pipe.{IsLawful, Pipe, pipe_at}
use Rattle.usb_device.proofs.Feeds.{fed_pipes, lent_at, still_lawful}
use Rattle.usb_device.proofs.table.TableDeviceFeed.feed.Goals as goal

pub invariant_of-self : goal.invariant_of-self
invariant_of-self c =
    let id = c.from.ensures ∙ c.id.ensures in
    let at = lent_at c.self.inside.pipes.items c.args.ep c.from.result c.index_mut.result.now c.self.invariant id c.index_mut.ensures.value in
    still_lawful c.self.inside.pipes.items c.args.ep c.from.result c.args.answer c.index_mut.result.now c.feed_at.new.pipe c.feed_at.result c.self.invariant id at c.feed_at.ensures.fed c.feed_at.ensures.may c.feed_at.ensures.stays

pub returns-clause-fed : goal.returns-clause-fed
returns-clause-fed c =
    let id = c.from.ensures ∙ c.id.ensures in
    let at = lent_at c.self.inside.pipes.items c.args.ep c.from.result c.index_mut.result.now c.self.invariant id c.index_mut.ensures.value in
    rw (← c.self.view_is) (fed_pipes c.self.inside.pipes.items c.args.ep c.from.result c.args.answer c.index_mut.result.now c.feed_at.new.pipe c.feed_at.result id at c.feed_at.ensures.fed)

pub returns-clause-may : goal.returns-clause-may
returns-clause-may c =
    let id = c.from.ensures ∙ c.id.ensures in
    let at = lent_at c.self.inside.pipes.items c.args.ep c.from.result c.index_mut.result.now c.self.invariant id c.index_mut.ensures.value in
    rw (← c.self.view_is) (subst (λ (p : Pipe). OnOk c.feed_at.result (may_be_fed c.args.ep c.args.answer p ≡ true)) at c.feed_at.ensures.may)

pub returns-clause-why : goal.returns-clause-why
returns-clause-why c =
    let id = c.from.ensures ∙ c.id.ensures in
    let at = lent_at c.self.inside.pipes.items c.args.ep c.from.result c.index_mut.result.now c.self.invariant id c.index_mut.ensures.value in
    rw (← c.self.view_is) (subst (λ (p : Pipe). IfErr c.feed_at.result (λ why. why ≡ (if may_be_fed c.args.ep c.args.answer p then NoMem else InvalidParam))) at c.feed_at.ensures.why)

pub returns-clause-lawful : goal.returns-clause-lawful
returns-clause-lawful c =
    let id = c.from.ensures ∙ c.id.ensures in
    let at = lent_at c.self.inside.pipes.items c.args.ep c.from.result c.index_mut.result.now c.self.invariant id c.index_mut.ensures.value in
    still_lawful c.self.inside.pipes.items c.args.ep c.from.result c.args.answer c.index_mut.result.now c.feed_at.new.pipe c.feed_at.result c.self.invariant id at c.feed_at.ensures.fed c.feed_at.ensures.may c.feed_at.ensures.stays
