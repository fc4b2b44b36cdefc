-- The blanks end at the first transfer, or with the line.
use Rattle.std.proofs.Common.{◌≡◌, ◌-◌, inl, inr, is_some, length, true, sym, ap, ◌∙◌, arith}
use Rattle.std.proofs.lemmas.Bool.{cases_lt}
use Rattle.usb_tables.specs.TransfersInFlight.{line_at, item_at}
use Rattle.usb_tables.proofs.Plain.{run-to, run-past, some-copied}
use Rattle.usb_tables.proofs.flights.TransfersInFlight.blanks_from.Goals as goal

pub returns-then-is_some-clause-value : goal.returns-then-is_some-clause-value
returns-then-is_some-clause-value g c =
    let some : is_some (item_at c.args.self.now c.args.dev c.args.ep c.loop-at.at) ≡ true
    = ap is_some (sym c.get.ensures) ∙ some-copied c.get.result ∙ sym c.is_some.ensures ∙ c.if-is_some.true in
    sym (run-to (line_at c.args.self.now c.args.dev c.args.ep) c.args.item c.loop-at.at (omega arith) (omega (arith, c.len-len.ensures.value)) c.loop-at.invariant (λ _. some))

pub returns-clause-value : goal.returns-clause-value
returns-clause-value g c = elim (cases_lt c.args.item c.len-len.result) [
  | inl below ↦
      let at : c.loop-at.at ≡ c.len-len.result = omega arith in
      let end : c.len-len.result ≡ length (line_at c.args.self.now c.args.dev c.args.ep) = c.len-len.ensures.value in
      let run = run-to (line_at c.args.self.now c.args.dev c.args.ep) c.args.item c.loop-at.at (omega arith) (omega arith) c.loop-at.invariant (λ lt. absurd (omega arith)) in
      c.saturating_sub.ensures ∙ ap (λ n. n - c.args.item) (sym at) ∙ sym run
  | inr past ↦
      let run = run-past (line_at c.args.self.now c.args.dev c.args.ep) c.args.item (omega (arith, c.len-len.ensures.value)) in
      omega (arith, c.saturating_sub.ensures, run)
]
