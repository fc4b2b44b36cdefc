use Rattle.proof_laws.proofs.WorkedRows.Devices.{two_devices_one_unplugged_holds, four_devices_one_unplugged_holds, served_before_the_unplug_holds, unplug_amid_packets_holds, cancel_at_a_gone_device_holds, cancel_loses_to_the_unplug_holds}
use Rattle.proof_laws.proofs.rows.devices.Goals as goal

pub returns-clause-two_devices_one_unplugged : goal.returns-clause-two_devices_one_unplugged
returns-clause-two_devices_one_unplugged c = two_devices_one_unplugged_holds

pub returns-clause-four_devices_one_unplugged : goal.returns-clause-four_devices_one_unplugged
returns-clause-four_devices_one_unplugged c = four_devices_one_unplugged_holds

pub returns-clause-served_before_the_unplug : goal.returns-clause-served_before_the_unplug
returns-clause-served_before_the_unplug c = served_before_the_unplug_holds

pub returns-clause-unplug_amid_packets : goal.returns-clause-unplug_amid_packets
returns-clause-unplug_amid_packets c = unplug_amid_packets_holds

pub returns-clause-cancel_at_a_gone_device : goal.returns-clause-cancel_at_a_gone_device
returns-clause-cancel_at_a_gone_device c = cancel_at_a_gone_device_holds

pub returns-clause-cancel_loses_to_the_unplug : goal.returns-clause-cancel_loses_to_the_unplug
returns-clause-cancel_loses_to_the_unplug c = cancel_loses_to_the_unplug_holds
