use Rattle.std.proofs.Common.{Some, subst₂, sym, subst}
use Rattle.refine_world.specs.Steps.{deliver_core}
use Rattle.refine_core.specs.Steps.{Is}
use Rattle.refine_core.specs.Payloads.{StillCarries}
use Rattle.usb_core.proofs.Readings.{never_stray, stands_told}
use Rattle.usb_core.proofs.parts.Parts.transfer_event.Goals.{in-Ended, in-Paused}
use Rattle.usb_core.proofs.parts.Parts.transfer_event.Goals as goal

pub transfer_stands-reply-requires-clause-told : goal.transfer_stands-reply-requires-clause-told
transfer_stands-reply-requires-clause-told g c =
    (c.requires.0, c.requires.1, stands_told c.requires.0 c.args.self.now c.requires.1 c.in-Some.told _ _ c.args.code (c.in-Some.ensures c.requires.0 c.requires.1 c.requires.2) c.in-Paused.is)

pub transfer_ended-reply-requires-clause-told : goal.transfer_ended-reply-requires-clause-told
transfer_ended-reply-requires-clause-told g c = (c.requires.0, c.requires.1, c.in-Some.ensures c.requires.0 c.requires.1 c.requires.2)

pub unreachable-requires-in-Stray : goal.unreachable-requires-in-Stray
unreachable-requires-in-Stray g c = never_stray c.requires.0 c.args.self.now c.requires.1 c.in-Some.told c.args.code (c.in-Some.ensures c.requires.0 c.requires.1 c.requires.2) c.in-Stray.is

pub returns-clause-done : goal.returns-clause-done
returns-clause-done g c = λ setup core taken. elim c.match-reading.branch [
  | in-Paused w ↦ subst₂ (λ r s. Is setup (deliver_core setup core) (record { owner = Some c.in-Some.told.at.name; reply = r }) s) (sym w.reply-is) (sym w.self-is)
      (w.transfer_stands-reply.ensures.done setup core (stands_told setup c.args.self.now core c.in-Some.told _ _ c.args.code (c.in-Some.ensures setup core taken) w.in-Paused.is))
  | in-Ended w ↦ subst₂ (λ r s. Is setup (deliver_core setup core) (record { owner = Some c.in-Some.told.at.name; reply = r }) s) (sym w.reply-is) (sym w.self-is) (w.transfer_ended-reply.ensures.done setup core (c.in-Some.ensures setup core taken))
]

pub returns-clause-carries : goal.returns-clause-carries
returns-clause-carries g c = elim c.match-reading.branch [
  | in-Paused w ↦ subst (λ s. StillCarries c.args.self.now s) (sym w.self-is) w.transfer_stands-reply.ensures.carries
  | in-Ended w ↦ subst (λ s. StillCarries c.args.self.now s) (sym w.self-is) w.transfer_ended-reply.ensures.carries
]
