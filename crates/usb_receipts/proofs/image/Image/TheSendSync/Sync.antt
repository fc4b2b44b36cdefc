-- It owns nothing, so any thread may look at it.
use denote.RattleType.{RattleType}
use denote.Param.Send.{IsSync, part_keyless}
use Rattle.usb_receipts.specs.contracts.image.Image.{the_row}
use Rattle.usb_receipts.proofs.image.Image.TheSendSync.Send.{send}

pub sync : (T : RattleType) → IsSync (the_row T)
sync T = record { shared = λ d b o κ q. part_keyless (the_row T) (send T) q d b o }
