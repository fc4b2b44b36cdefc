-- Devices that go.
use Rattle.std.proofs.Common.{refl}
use Rattle.proof_laws.specs.Rows.{Prints}
use Rattle.proof_laws.specs.Rows.Unplugs.{unplug_amid_transfers, unplug_of_nothing}
use Rattle.proof_laws.proofs.Computed.{computed}

pub unplug_amid_transfers_holds : Prints unplug_amid_transfers
unfolding computed
unplug_amid_transfers_holds = refl

pub unplug_of_nothing_holds : Prints unplug_of_nothing
unfolding computed
unplug_of_nothing_holds = refl
