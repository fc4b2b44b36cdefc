use Rattle.std.proofs.Common.{◌∙◌, ◌+◌, ◌++◌, [], ◌∷◌, ap, append-nil, refl, sym}
use Rattle.std.proofs.lemmas.List.{length_push}
use Rattle.usb_journal.proofs.Takings.{put_more, takes_none, takes_on}
use Rattle.usb_journal.proofs.book.JournaledCore.take_more.Goals as goal

pub loop-done-init : goal.loop-done-init
loop-done-init g c = ([], sym (append-nil c.args.taken.now.items), refl, takes_none c.args.self.now c.args.position.now c.requires)

pub loop-done-preserved : goal.loop-done-preserved
loop-done-preserved g c =
    let i = c.loop-done.invariant in
    let o = c.in-Ok.ensures.ok in (
      i.0 ++ o.0 ∷ [],
      put_more c.args.taken.now.items i.0 c.loop-done.taken.items c.take_next.new.taken.items o.0 o.1 i.1,
      length_push i.0 o.0 ∙ ap (λ n. n + 1) i.2,
      takes_on i.0 (o.0 ∷ []) c.args.self.now c.loop-done.self c.take_next.new.self c.args.position.now c.loop-done.position c.take_next.new.position i.3 o.2,
    )
