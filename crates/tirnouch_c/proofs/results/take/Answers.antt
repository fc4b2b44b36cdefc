-- A result that went out is told.
use Rattle.std.proofs.Common.{ℕ, Some, refl}
use Rattle.usb_core.specs.declared.results.Taken.{Taken}
use Rattle.tirnouch_c.proofs.Outs.{out_at_once}
use Rattle.tirnouch_c.proofs.results.take.Goals as goal

pub returns-in-Some : goal.returns-in-Some
returns-in-Some c =
    let x : Taken ℕ = c.in-Some.taken in
    record { went = Some x; answered = refl; out_is = c.of.ensures; made = (out_at_once x c.args.session.now.core c.take_done.new.self c.in-Some.ensures.taken c.in-Some.ensures.carries, c.give_back.ensures, refl) }
