-- The item that was lent is the transfer that was served.
use Rattle.std.proofs.Common.{◌≡◌, ◌∙◌, Some, refl}
use Rattle.usb_core.proofs.packets.serve_item.Goals as goal

pub returns-in_err-packet-clause-transfer : goal.returns-in_err-packet-clause-transfer
returns-in_err-packet-clause-transfer g c = λ t there.
    let both : Some c.in_ok-transfer.transfer.now ≡ Some t = c.in_ok-transfer.ensures.value ∙ there in
    let same : c.in_ok-transfer.transfer.now ≡ t = cc in
    rw (← same) (record { served = c.exchange.new.transfer; behind = c.exchange.ensures.transfer; put = refl })

pub returns-clause-transfer : goal.returns-clause-transfer
returns-clause-transfer g c = λ t there.
    let both : Some c.in_ok-transfer.transfer.now ≡ Some t = c.in_ok-transfer.ensures.value ∙ there in
    let same : c.in_ok-transfer.transfer.now ≡ t = cc in
    rw (← same) (record { served = c.exchange.new.transfer; behind = c.exchange.ensures.transfer; put = refl })
