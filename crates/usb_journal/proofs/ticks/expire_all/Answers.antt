use Rattle.std.proofs.Common.{◌≡◌, ◌∙◌, ◌+◌, ◌-◌, ◌<◌, ◌≤◌, ◌++◌, ℕ, List, Some, [], ◌∷◌, ap, append_assoc, arith, drop, length, map, refl, subst, sym}
use Rattle.std.proofs.lemmas.List.{length_push, map-append, take-append-le}
use Rattle.usb_model.specs.declared.step.Step.TheVariants.{Expire}
use Rattle.usb_recorder.specs.declared.place.Place.{Place}
use Rattle.usb_journal.specs.Booked.{asked, Asked}
use Rattle.usb_journal.specs.Seen.{Receipted}
use Rattle.usb_journal.proofs.Replies.{no_bytes_of}
use Rattle.usb_journal.proofs.Receipts.{drop_push, receipts_one}
use Rattle.usb_journal.proofs.Runs.{replays-push}
use Rattle.usb_journal.proofs.Expiries.{asks_next, expire_timers}
use Rattle.usb_journal.proofs.ticks.expire_all.Goals as goal

pub enter-receipt-requires : goal.enter-receipt-requires
enter-receipt-requires g c =
    let at : c.loop-timer.timer-index < length c.args.due.now = omega (arith, c.loop-timer-test.true) in
    let count : length c.loop-timer.log.journal + 1 < 18446744073709551616 = omega (arith, at, c.requires.room.0, c.loop-timer.invariant.count) in
    let t = c.timer-item.result in
    let none = no_bytes_of g.L.Naming.setup c.loop-timer.log.journal c.loop-timer.core c.expire-reply.new.self (record { owner = Some t.h; reply = c.expire-reply.result }) (Expire t.h t.n) refl c.expire-reply.ensures.turned c.loop-timer.invariant.run in
    record { count = count; step = refl; bearer = c.requires.bearer ∙ sym c.loop-timer.invariant.number; room = (length c.args.due.now - c.loop-timer.timer-index, 0, c.loop-timer.invariant.left, omega (arith, at), omega (arith, none)) }

pub loop-timer-preserved : goal.loop-timer-preserved
loop-timer-preserved g c =
    let i = c.loop-timer.invariant in
    let e = c.enter-receipt.ensures in
    let t = c.timer-item.result in
    let log = c.loop-timer.log.journal in
    let first = length c.args.log.now.journal in
    let p : Place = record { step = Expire t.h t.n; caller = c.args.caller; entry = record { owner = Some t.h; reply = c.expire-reply.result }; moment = c.args.moment } in
    let at_place : ℕ → Receipted = λ k. record { place = k; entry = p } in
    let at : c.loop-timer.timer-index < length c.args.due.now = omega (arith, c.loop-timer-test.true) in
    let made : c.enter-receipt.new.self.journal ≡ log ++ p ∷ [] = e.journal ∙ ap (λ (r : Receipted). log ++ r.entry ∷ []) e.receipt in
    let counts : first ≤ length log = omega (arith, i.count) in
    let less : length c.args.due.now - c.loop-timer.timer-index - 1 ≡ length c.args.due.now - (c.loop-timer.timer-index + 1) = omega (arith, at) in
    record {
      room = (omega (arith, c.push_reserved.ensures.len, i.room.0), c.push_reserved.ensures.capacity ∙ i.room.1);
      count = rw made (omega (arith, length_push log p, i.count));
      left = subst (λ n. g.J.Recorder.has_room c.enter-receipt.new.self.recorder n 0) less (e.room _ i.left);
      run = rw made (replays-push g.L.Naming.setup log c.loop-timer.core c.expire-reply.new.self p c.expire-reply.ensures.turned i.run);
      timers = rw made (expire_timers log t.h t.n c.args.caller c.expire-reply.result c.args.moment ∙ i.timers);
      begins = rw made (take-append-le first log (p ∷ []) counts ∙ i.begins);
      steps = rw made (ap (map asked) (drop_push first log p counts) ∙ (map-append asked (drop first log) (p ∷ []) ∙ (ap (λ (l : List Asked). l ++ asked p ∷ []) i.steps ∙ asks_next c.args.caller c.args.moment c.args.due.now c.loop-timer.timer-index t at c.timer-item.is)));
      own = rw made (e.position.2 ∙ (ap (λ (r : Receipted). c.loop-timer.position.own ++ r.entry ∷ []) e.receipt ∙ (ap (λ l. l ++ p ∷ []) i.own ∙ (append_assoc c.args.position.now.own (drop first log) (p ∷ []) ∙ ap (λ l. c.args.position.now.own ++ l) (sym (drop_push first log p counts))))));
      number = e.position.3 ∙ i.number;
      seen = e.saw.1;
      receipts = rw made (c.push_reserved.ensures.items ∙ (ap (λ r. c.loop-timer.receipts.items ++ r ∷ []) e.receipt ∙ (ap (λ l. l ++ at_place (length log) ∷ []) i.receipts ∙ sym (receipts_one first log p counts))));
      carries = λ kept has. c.expire-reply.ensures.carries kept (i.carries kept has);
    }
