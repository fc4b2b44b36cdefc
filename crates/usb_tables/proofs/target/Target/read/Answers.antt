-- What the residual leaves of the TRB moved.
use Rattle.std.proofs.Common.{◌≡◌, ◌∙◌, ◌+◌, ◌-◌, ℕ, Bool, false, nat_lt, if◌then◌else◌, ap, sym, arith}
use Rattle.std.proofs.lemmas.Bool.{le-ltb}
use Rattle.usb_tables.specs.declared.target.Reading.TheVariants.{Stray}
use Rattle.usb_tables.specs.Events.{told_of_target}
use Rattle.usb_tables.proofs.target.Target.read.Goals as goal

pub returns : goal.returns
returns c =
    let t = c.args.self.now in
    let rest = c.bytes-rest.ensures.value in
    let here : nat_lt t.here c.args.residual ≡ false = le-ltb t.here c.args.residual (omega (arith, c.if-self-rest.false, rest)) in
    c.told.ensures
    ∙ (ap (λ (r : ℕ). told_of_target t c.args.code (t.before + (t.here - r))) rest
    ∙ sym (ap (λ (b : Bool). if b then Stray else told_of_target t c.args.code (t.before + (t.here - c.args.residual))) here))
