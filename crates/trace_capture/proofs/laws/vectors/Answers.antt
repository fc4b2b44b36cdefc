-- The bytes are computed, and the entries of the run before: every definition on the way is unfolded.
use Rattle.std.proofs.Common.{refl}
use Rattle.usb_model.specs.Setup.{info_of}
use Rattle.usb_model.specs.Endpoint.Packets.{pieces, outcome}
use Rattle.usb_model.specs.Endpoint.Status.{status_of, told_status}
use Rattle.usb_model.specs.Endpoint.{fresh, first_waiting, with_first, past_blanks, in_progress, past_number}
use Rattle.usb_model.specs.Endpoint.Serve.{serve_by, serve_gone, serve_first, serve}
use Rattle.usb_model.specs.Endpoint.Command.{command}
use Rattle.usb_model.specs.Endpoint.Deliver.{withdrawn, resume, deliver}
use Rattle.usb_model.specs.Machine.{refused_if, at_endpoint}
use Rattle.usb_model.specs.Machine.Calls.{open_effect, claim_effect, clear_halt_effect, submit_to, submit_effect, home_of, asks, ask_in_progress, ask_effect}
use Rattle.usb_model.specs.Machine.Turns.{serve_effect, command_order, command_effect, deliver_news, deliver_effect, take_effect, effect}
use Rattle.usb_model.specs.World.{new_world, machine_of, world_after, is_blocked, turn_of, turn_of_nobody, turn}
use Rattle.usb_model.specs.World.Journal.{journal_from, journal}
use Rattle.trace_capture.specs.Event.{record_header, who, how, what, rest, event_bytes}
use Rattle.trace_capture.specs.Control.{device_events}
use Rattle.trace_capture.specs.Events.{entry_events, entry_after, device_after, devices_after, entries_events}
use Rattle.trace_capture.proofs.laws.vectors.Goals as goal

pub returns-clause-cancelled_read : goal.returns-clause-cancelled_read
unfolding record_header who how what rest event_bytes device_events entry_events entry_after device_after devices_after entries_events info_of pieces outcome status_of told_status fresh first_waiting with_first past_blanks in_progress past_number serve_by serve_gone serve_first serve command withdrawn resume deliver refused_if at_endpoint open_effect claim_effect clear_halt_effect submit_to submit_effect home_of asks ask_in_progress ask_effect serve_effect command_order command_effect deliver_news deliver_effect take_effect effect new_world machine_of world_after is_blocked turn_of turn_of_nobody turn journal_from journal
returns-clause-cancelled_read c = refl

pub returns-clause-failed_transfers : goal.returns-clause-failed_transfers
unfolding record_header who how what rest event_bytes device_events entry_events entry_after device_after devices_after entries_events info_of pieces outcome status_of told_status fresh first_waiting with_first past_blanks in_progress past_number serve_by serve_gone serve_first serve command withdrawn resume deliver refused_if at_endpoint open_effect claim_effect clear_halt_effect submit_to submit_effect home_of asks ask_in_progress ask_effect serve_effect command_order command_effect deliver_news deliver_effect take_effect effect new_world machine_of world_after is_blocked turn_of turn_of_nobody turn journal_from journal
returns-clause-failed_transfers c = refl
