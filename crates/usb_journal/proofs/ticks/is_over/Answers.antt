-- Before its deadline no time is over.
use Rattle.std.proofs.Common.{◌≡◌, ◌&&◌, Bool, false, nat_le, ap, arith, sym}
use Rattle.std.proofs.lemmas.Bool.{lt-leb}
use Rattle.usb_model.specs.World.Due.{deadline}
use Rattle.usb_core.specs.Reads.{would_expire}
use Rattle.usb_journal.proofs.ticks.is_over.Goals as goal

pub returns-then-moment-deadline : goal.returns-then-moment-deadline
returns-then-moment-deadline g c = λ setup w shows.
    let t = c.args.timer.now in
    let early : nat_le (deadline t.given t.timeout) c.args.moment ≡ false = lt-leb (deadline t.given t.timeout) c.args.moment (omega (arith, c.if-moment-deadline.true, c.deadline.ensures)) in
    sym (ap (λ (b : Bool). b && would_expire setup w t.h t.n) early)
