use Rattle.std.proofs.Common.{sym, subst, subst₂, ◌∙◌, ap, ◌≡◌, ◌+◌, length, suc, arith}
use Rattle.std.proofs.lemmas.Option.{same_Some}
use Rattle.usb_tables.specs.TransfersInFlight.{line_at}
use Rattle.refine_core.specs.Payloads.{StillCarries}
use Rattle.refine_core.specs.Deliveries.{CanSettle, WithdrawsTo}
use Rattle.refine_core.specs.Works.{Withdraws}
use Rattle.refine_core.proofs.Payloads.{still_on}
use Rattle.refine_core.proofs.Withdrawals.{withdraws_all, withdraws_next, withdraws_none}
use Rattle.usb_core.proofs.parts.Parts.withdraw_asked.Goals.{in-Some, in_default}
use Rattle.usb_core.proofs.parts.Parts.withdraw_asked.Goals as goal

pub loop-item-init : goal.loop-item-init
loop-item-init g c = (withdraws_none c.args.self.now c.args.name c.args.dev c.args.ep, c.requires, λ kept carried. carried)

pub loop-item-preserved : goal.loop-item-preserved
loop-item-preserved g c =
    let more : suc c.loop-item.item ≡ c.loop-item.item + 1 = omega arith in (
      subst (λ k. WithdrawsTo c.args.self.now c.match-withdrawal.self c.args.name c.args.dev c.args.ep k) more
          (withdraws_next c.args.self.now c.loop-item.self c.match-withdrawal.self c.args.name c.args.dev c.args.ep c.loop-item.item c.withdrawal.result c.loop-item.invariant.0 c.withdrawal.ensures
          (λ none. elim c.match-withdrawal.branch [
            | in-Some w ↦ absurd (cc (none, w.in-Some.is))
            | in_default w ↦ w.self-is
          ])
          (λ x some. elim c.match-withdrawal.branch [
            | in-Some w ↦ subst₂ (λ s y. Withdraws c.loop-item.self s c.args.name c.args.dev c.args.ep c.loop-item.item y) (sym w.self-is) (same_Some w.in-Some.ending x (sym w.in-Some.is ∙ some)) w.withdraw.ensures.withdrawn
            | in_default w ↦ absurd (cc (some, w.in_default.is))
          ])),
      elim c.match-withdrawal.branch [
        | in-Some w ↦ subst (λ s. CanSettle s c.args.name c.args.dev c.args.ep) (sym w.self-is) w.withdraw.ensures.settle
        | in_default w ↦ subst (λ s. CanSettle s c.args.name c.args.dev c.args.ep) (sym w.self-is) c.loop-item.invariant.1
      ],
      elim c.match-withdrawal.branch [
        | in-Some w ↦ subst (λ s. StillCarries c.args.self.now s) (sym w.self-is) (still_on c.args.self.now c.loop-item.self w.withdraw.new.self c.loop-item.invariant.2 w.withdraw.ensures.carries)
        | in_default w ↦ subst (λ s. StillCarries c.args.self.now s) (sym w.self-is) c.loop-item.invariant.2
      ],
    )

pub returns-clause-all : goal.returns-clause-all
returns-clause-all g c =
    let seen : c.loop-item.item ≡ c.len-len.result = omega (arith, c.loop-item-test.false, c.loop-item.auto.item-end) in
    withdraws_all c.args.self.now c.loop-item.self c.args.name c.args.dev c.args.ep c.loop-item.item c.loop-item.invariant.0
    (seen ∙ c.len-len.ensures.value ∙ ap (λ v. length (line_at v.flights c.args.dev c.args.ep)) c.self.view_is)
