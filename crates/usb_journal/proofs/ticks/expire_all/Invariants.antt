use Rattle.std.proofs.Common.{◌≡◌, ◌+◌, ◌-◌, ◌++◌, take, drop, map, length, vec_len, vec_capacity}
use Rattle.usb_core.specs.Public.{StillCarries}
use Rattle.usb_journal.specs.Booked.{Replays, asked, asks}
use Rattle.usb_journal.specs.Seen.{receipts_from}
use Rattle.usb_journal.specs.Timers.{expires, timers_of}
use Rattle.usb_journal.proofs.ticks.expire_all.Given as goal

abbrev pub invariant-loop-timer : goal.invariant-loop-timer
invariant-loop-timer g l = record {
  room : (vec_len l.receipts ≡ l.timer-index) × (vec_capacity l.receipts ≡ vec_capacity l.initial.receipts);
  count : length l.log.journal ≡ length l.initial.log.journal + l.timer-index;
  left : g.J.Recorder.has_room l.log.recorder (length l.fn.due - l.timer-index) 0;
  run : Replays g.L.Naming.setup l.log.journal l.core;
  timers : timers_of l.log.journal ≡ timers_of l.initial.log.journal;
  begins : take (length l.initial.log.journal) l.log.journal ≡ l.initial.log.journal;
  steps : map asked (drop (length l.initial.log.journal) l.log.journal) ≡ asks l.fn.caller l.fn.moment (expires (take l.timer-index l.fn.due));
  own : l.position.own ≡ l.initial.position.own ++ drop (length l.initial.log.journal) l.log.journal;
  number : l.position.number ≡ l.initial.position.number;
  seen : l.position.seen ≡ l.log.journal;
  receipts : l.receipts.items ≡ receipts_from (length l.initial.log.journal) (drop (length l.initial.log.journal) l.log.journal);
  carries : StillCarries l.initial.core l.core;
}
