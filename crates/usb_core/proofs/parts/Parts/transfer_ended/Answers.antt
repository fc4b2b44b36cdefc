use Rattle.std.proofs.Common.{◌∙◌, subst, subst₂, sym}
use Rattle.std.proofs.lemmas.Option.{same_Some}
use Rattle.refine_core.specs.Deliveries.{leaving}
use Rattle.refine_core.specs.Works.{Finishes, Posts}
use Rattle.refine_core.proofs.Deliveries.{ends_event}
use Rattle.refine_core.proofs.Ends.{can_finish, can_post_end, outstanding_is}
use Rattle.refine_core.proofs.Payloads.{still_on}
use Rattle.refine_core.specs.Payloads.{StillCarries}
use Rattle.usb_core.proofs.Readings.{ends_at}
use Rattle.usb_core.proofs.parts.Parts.transfer_ended.Goals.{in-Some, in_default}
use Rattle.usb_core.proofs.parts.Parts.transfer_ended.Goals as goal

pub finish-requires : goal.finish-requires
finish-requires g c =
    let told = c.requires.told in
    let end = ends_at told.0 c.args.self.now told.1 c.args.told c.args.item c.args.ending c.args.code told.2 c.requires.ended in
    can_finish told.0 c.args.self.now told.1 c.args.told.at.name c.args.told.at.dev c.args.told.at.ep c.args.item c.args.told.n c.args.ending.actual c.args.code end.tells end.other

pub post-requires : goal.post-requires
post-requires g c =
    let told = c.requires.told in
    let end = ends_at told.0 c.args.self.now told.1 c.args.told c.args.item c.args.ending c.args.code told.2 c.requires.ended in
    can_post_end told.0 c.args.self.now c.finish.new.self told.1 c.args.told.at.name c.args.told.at.dev c.args.told.at.ep c.args.item c.args.told.n c.args.ending.actual c.args.code end.tells
    (subst (λ x. Finishes c.args.self.now c.finish.new.self c.args.told.at.name c.args.told.at.dev c.args.told.at.ep c.args.item x (leaving c.args.self.now c.args.told.at.dev c.args.told.at.ep c.args.item c.args.code)) end.told c.finish.ensures.done)

pub returns-clause-done : goal.returns-clause-done
returns-clause-done g c = λ setup core told.
    let end = ends_at setup c.args.self.now core c.args.told c.args.item c.args.ending c.args.code told c.requires.ended in
    let finished = subst (λ x. Finishes c.args.self.now c.finish.new.self c.args.told.at.name c.args.told.at.dev c.args.told.at.ep c.args.item x (leaving c.args.self.now c.args.told.at.dev c.args.told.at.ep c.args.item c.args.code)) end.told c.finish.ensures.done in
    let outstanding = outstanding_is setup c.args.self.now c.finish.new.self core c.args.told.at.name c.args.told.at.dev c.args.told.at.ep c.args.item c.args.told.n c.args.ending.actual c.args.code end.tells finished ∙ sym c.errand.ensures in
    ends_event setup c.args.self.now c.finish.new.self _ core c.args.told.at.name c.args.told.at.dev c.args.told.at.ep c.args.item c.args.told.n c.args.ending.actual c.args.code c.next_order.result end.tells end.other finished
    (λ gone next p found. c.next_order.ensures.endpoint gone next p (core.endpoints c.args.told.at.dev c.args.told.at.ep) found outstanding)
    (λ none. elim c.match-next_order.branch [
      | in-Some w ↦ absurd (cc (none, w.in-Some.is))
      | in_default w ↦ w.self-is
    ])
    (λ errand some. elim c.match-next_order.branch [
      | in-Some w ↦ subst₂ (λ o s. Posts c.finish.new.self s c.args.told.at.name c.args.told.at.dev c.args.told.at.ep o) (same_Some w.in-Some.errand errand (sym w.in-Some.is ∙ some)) (sym w.self-is) (w.post.ensures.done c.args.told.at.name)
      | in_default w ↦ absurd (cc (some, w.in_default.is))
    ])

pub returns-clause-carries : goal.returns-clause-carries
returns-clause-carries g c = elim c.match-next_order.branch [
  | in-Some w ↦ subst (λ s. StillCarries c.args.self.now s) (sym w.self-is) (still_on c.args.self.now c.finish.new.self w.post.new.self c.finish.ensures.carries w.post.ensures.carries)
  | in_default w ↦ subst (λ s. StillCarries c.args.self.now s) (sym w.self-is) c.finish.ensures.carries
]
