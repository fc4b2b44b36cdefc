-- What the submission gave is told.
use Rattle.std.proofs.Common.{refl, rules}
use Rattle.tirnouch_c.specs.Submission.{SubmitsAs}
use Rattle.tirnouch_c.proofs.Submitting.{accepted_as, unaccepted_as}
use Rattle.tirnouch_c.proofs.submission.submit_into.Goals.{in-Ok, in-Err}
use Rattle.tirnouch_c.proofs.submission.submit_into.Goals as goal

pub returns-clause-submitted : goal.returns-clause-submitted
returns-clause-submitted c =
    let made : SubmitsAs c.args.h c.args.request c.args.payload c.match-submit_into.reply c.args.session.now.core c.submit_into.new.self = elim c.match-submit_into.branch [
      | in-Ok w ↦ accepted_as c.args.h c.args.request c.args.payload _ _ c.submit_into.result _ c.match-submit_into.reply w.in-Ok.is w.reply-is c.submit_into.ensures.accepted c.submit_into.ensures.carries
      | in-Err w ↦ unaccepted_as c.args.h c.args.request c.args.payload _ _ c.submit_into.result _ c.match-submit_into.reply w.in-Err.is w.reply-is c.submit_into.ensures.refused c.submit_into.ensures.kept c.submit_into.ensures.still
    ] in
    record { reply = c.match-submit_into.reply; answered = search rules; numbers_is = c.answer.ensures.numbers; made = made; same = (refl, refl) }
