-- The item that was lent is the transfer of which packets were served.
use Rattle.std.proofs.Common.{◌≡◌, ◌∙◌, Some, refl}
use Rattle.usb_core.proofs.step_bursts.skim_item.Goals as goal

pub returns-clause-transfer : goal.returns-clause-transfer
returns-clause-transfer g c = λ t there.
    let both : Some c.in-Some.transfer.now ≡ Some t = c.in-Some.ensures.value ∙ there in
    let same : c.in-Some.transfer.now ≡ t = cc in
    rw (← same) (record { skimmed = c.skim.new.transfer; behind = c.skim.ensures.transfer; put = refl })
