-- Several devices, and what an unplugged one leaves of its transfers.
use Rattle.std.proofs.Common.{refl}
use Rattle.proof_laws.specs.Rows.{Prints}
use Rattle.proof_laws.specs.Rows.Devices.{two_devices_one_unplugged, four_devices_one_unplugged, served_before_the_unplug, unplug_amid_packets, cancel_at_a_gone_device, cancel_loses_to_the_unplug}
use Rattle.proof_laws.proofs.Computed.{computed}

pub two_devices_one_unplugged_holds : Prints two_devices_one_unplugged
unfolding computed
two_devices_one_unplugged_holds = refl

pub four_devices_one_unplugged_holds : Prints four_devices_one_unplugged
unfolding computed
four_devices_one_unplugged_holds = refl

pub served_before_the_unplug_holds : Prints served_before_the_unplug
unfolding computed
served_before_the_unplug_holds = refl

pub unplug_amid_packets_holds : Prints unplug_amid_packets
unfolding computed
unplug_amid_packets_holds = refl

pub cancel_at_a_gone_device_holds : Prints cancel_at_a_gone_device
unfolding computed
cancel_at_a_gone_device_holds = refl

pub cancel_loses_to_the_unplug_holds : Prints cancel_loses_to_the_unplug
unfolding computed
cancel_loses_to_the_unplug_holds = refl
