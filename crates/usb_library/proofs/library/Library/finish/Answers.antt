use Rattle.std.proofs.Common.{arith, length, map, ap, sym, subst, ◌∙◌, ◌++◌, ◌≤◌}
use Rattle.usb_receipts.specs.Rule.{Stood, claimed}
use Rattle.usb_journal.specs.Seen.{caller_of}
use Rattle.usb_library.specs.Calls.{position_of}
use Rattle.usb_library.proofs.Known.{all_know, number_count}
use Rattle.usb_library.proofs.library.Library.finish.Goals as goal

pub returns-clause-found : goal.returns-clause-found
returns-clause-found g c = rw c.finish-journal.ensures.journal c.finish-journal.ensures.found

pub returns-clause-counted : goal.returns-clause-counted
returns-clause-counted g c =
    let journal = ap length c.finish-journal.ensures.journal in
    let all = c.audit.ensures.whole (omega (arith, c.bring.ensures.parts.0, c.bring.ensures.parts.1, c.into_spare-spare.ensures.0, c.made-made.ensures, c.if-len-made.false, c.len.ensures, c.requires.parts)) in (
      omega (arith, journal, c.finish-journal.ensures.total, c.into_spare-spare.ensures.1, c.bring.ensures.amount, all),
      c.finish-journal.ensures.counted ∙ sym journal,
    )

pub returns-clause-own : goal.returns-clause-own
returns-clause-own g c =
    let seen = c.finish-journal.ensures.seen in
    let callers = c.args.callers.items in
    let back = ap (λ x. x.back) c.bring.ensures.back ∙ ap (λ x. x.back ++ map position_of callers) c.close-closing.ensures in
    rw c.finish-journal.ensures.journal (all_know c.bring.new.closing.journal seen.0 callers (subst (λ l. Stood caller_of c.bring.new.closing.journal seen.0 l) back seen.1) c.bring.ensures.own)

pub returns-clause-numbers : goal.returns-clause-numbers
returns-clause-numbers g c =
    let callers = c.args.callers.items in
    let back = ap (λ x. x.back) c.bring.ensures.back ∙ ap (λ x. x.back ++ map position_of callers) c.close-closing.ensures in
    λ n. subst (λ k. k ≤ 1) (ap (claimed n) back ∙ number_count n callers) (c.finish-journal.ensures.numbers n)
