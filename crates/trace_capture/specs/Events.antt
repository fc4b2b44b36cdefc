-- The events of a run, entry by entry, and what is kept from one to the next.
use Rattle.std.specs.Prelude.{ℕ, ◌==◌, Bool, not, ◌&&◌, List, [], ◌∷◌, ◌++◌, map, Option, Some, None, if◌then◌else◌}
use Rattle.std.specs.Option.{option_and_then, option_map, option_map_or, option_to_list, unwrap_or}
use Rattle.std.specs.List.{filter, find, flat_map, list_any}
use Rattle.usb_model.specs.declared.request.Body.TheVariants.{Out}
use Rattle.usb_model.specs.declared.request.Request.{Request}
use Rattle.usb_model.specs.declared.verdict.Verdict.{Verdict}
use Rattle.usb_model.specs.declared.verdict.Verdict.TheVariants.{AgainWith}
use Rattle.usb_model.specs.declared.step.Step.{Step}
use Rattle.usb_model.specs.declared.step.Step.TheVariants.{Open, Close, Claim, Release, Reset, ClearHalt, Submit, Answer}
use Rattle.usb_model.specs.declared.reply.Reply.{Reply}
use Rattle.usb_model.specs.declared.reply.Reply.TheVariants.{Done, Number, Ended, Called}
use Rattle.usb_model.specs.declared.reply.Returned.{Returned}
use Rattle.usb_model.specs.declared.entry.Entry.{Entry}
use Rattle.usb_model.specs.World.Journal.{Place}
use Rattle.trace_capture.specs.declared.control_setup.ControlSetup.{ControlSetup}
use Rattle.trace_capture.specs.declared.event.CaptureEvent.{CaptureEvent}
use Rattle.trace_capture.specs.declared.tables.Configured.{Configured}
use Rattle.trace_capture.specs.declared.tables.Opened.{Opened}
use Rattle.trace_capture.specs.declared.tables.Holding.{Holding}
use Rattle.trace_capture.specs.declared.transfer.Tracked.{Tracked}
use Rattle.trace_capture.specs.Control.{set_configuration, set_interface, clear_halt, configuration_value, control_alone, device_events}
use Rattle.trace_capture.specs.Transfer.{submission, callback}

-- what is kept from entry to entry
pub record Recording : Type 0 where
  pub configured : List Configured  -- the value of each device's configuration
  pub opened : List Opened  -- the device of each open handle
  pub held : List Holding  -- the interfaces that handles hold
  pub tracked : List Tracked  -- the transfers that are in flight or in their callbacks

-- nothing
abbrev pub nothing_recorded : Recording
nothing_recorded = record { configured = []; opened = []; held = []; tracked = [] }

-- the value of a device's configuration; 0 where the device was in no line
abbrev pub value_of : ℕ → List Configured → ℕ
value_of device configured = unwrap_or (option_map (λ x. x.value) (find (λ x. x.device == device) configured)) 0

-- the device of a handle
abbrev pub device_of : ℕ → List Opened → Option ℕ
device_of h opened = option_map (λ x. x.device) (find (λ x. x.h == h) opened)

abbrev pub is_holding : ℕ → ℕ → Holding → Bool
is_holding h i x = (x.h == h) && (x.interface == i)

-- whether a handle holds an interface
abbrev pub holds : ℕ → ℕ → List Holding → Bool
holds h i held = list_any (is_holding h i) held

abbrev pub is_tracked : ℕ → ℕ → Tracked → Bool
is_tracked h n x = (x.h == h) && (x.n == n)

-- a handle's transfer of this number
abbrev pub transfer_of : ℕ → ℕ → List Tracked → Option Tracked
transfer_of h n tracked = find (is_tracked h n) tracked

-- what a transfer asks for that is submitted again from its callback
abbrev pub again : Verdict → Request → Request
again (AgainWith bytes) request = record request { body = Out bytes }
again _ request = request

-- what the step of a handle submits: its own request, or that of the transfer whose callback it ends
abbrev pub request_by : ℕ → List Tracked → Step → Option Request
request_by h tracked (Submit _ request) = Some request
request_by h tracked (Answer _ n verdict) = option_map (λ x. again verdict x.request) (transfer_of h n tracked)
request_by h tracked _ = None

-- the transfer that the step of a handle submits under this number, to the device that it opened
abbrev pub submitted : Recording → ℕ → ℕ → Step → Option Tracked
submitted s h n step =
    option_and_then (λ device. option_map (λ request. record { h = h; n = n; device = device; request = request; code = None }) (request_by h s.tracked step)) (device_of h s.opened)

-- its submission
abbrev pub submissions : ℕ → Option Tracked → List CaptureEvent
submissions line None = []
submissions line (Some x) = submission line x ∷ []

-- the callback of a transfer
abbrev pub callbacks : ℕ → Returned → Option Tracked → List CaptureEvent
callbacks line returned None = []
callbacks line returned (Some x) = callback line x returned ∷ []

-- what a step of a handle that was done asks of the device: a claim where the interface wasn't held yet, a reset, the end of a halt
abbrev pub control_of : Recording → ℕ → ℕ → Step → Option ControlSetup
control_of s h device (Claim _ i) = if holds h i s.held then None else Some (set_interface i)
control_of s h device (Reset _) = Some (set_configuration (value_of device s.configured))
control_of s h device (ClearHalt _ ep) = Some (clear_halt ep)
control_of s h device _ = None

-- the events of what is asked
abbrev pub controls : ℕ → ℕ → Option ControlSetup → List CaptureEvent
controls line device None = []
controls line device (Some setup) = control_alone line device setup

-- the events of a step of a handle that was done, at the device that it opened
abbrev pub done_events : Recording → ℕ → ℕ → Step → List CaptureEvent
done_events s line h step = option_map_or (λ device. controls line device (control_of s h device step)) (device_of h s.opened) []

-- the events of a step of a handle, by the reply
abbrev pub reply_events : Recording → ℕ → ℕ → Step → Reply → List CaptureEvent
reply_events s line h step Done = done_events s line h step
reply_events s line h step (Number n) = submissions line (submitted s h n step)
reply_events s line h step (Called returned) = callbacks line returned (transfer_of h returned.n s.tracked)
reply_events s line h step _ = []

-- the events of an entry with its step, from this line
unfoldable pub entry_events : Recording → ℕ → Step → Entry → List CaptureEvent
entry_events s line step entry = option_map_or (λ h. reply_events s line h step entry.reply) entry.owner []

-- the transfers but this
abbrev pub without_transfer : ℕ → ℕ → List Tracked → List Tracked
without_transfer h n tracked = filter (λ x. not (is_tracked h n x)) tracked

-- the transfers but the one whose callback the step ends
abbrev pub past_return : ℕ → Step → List Tracked → List Tracked
past_return h (Answer _ n verdict) tracked = without_transfer h n tracked
past_return h _ tracked = tracked

-- a transfer ended with this completion code
abbrev pub with_code : ℕ → ℕ → ℕ → Tracked → Tracked
with_code h n code x = if is_tracked h n x then record x { code = Some code } else x

-- the interfaces that are held behind the claim of one
abbrev pub claimed : ℕ → ℕ → List Holding → List Holding
claimed h i held = if holds h i held then held else held ++ record { h = h; interface = i } ∷ []

-- what is kept behind a step of a handle that was done
abbrev pub done_after : Recording → ℕ → Step → Recording
done_after s h (Open _ dev) = record s { opened = s.opened ++ record { h = h; device = dev } ∷ [] }
done_after s h (Close _) = record s { opened = filter (λ x. not (x.h == h)) s.opened; held = filter (λ x. not (x.h == h)) s.held }
done_after s h (Claim _ i) = record s { held = claimed h i s.held }
done_after s h (Release _ i) = record s { held = filter (λ x. not (is_holding h i x)) s.held }
done_after s h (Answer _ n verdict) = record s { tracked = without_transfer h n s.tracked }
done_after s h _ = s

-- what is kept behind a step of a handle that got a number: a transfer that is submitted, and no more the one that returned
abbrev pub number_after : Recording → ℕ → ℕ → Step → Recording
number_after s h n step = record s { tracked = past_return h step (s.tracked ++ option_to_list (submitted s h n step)) }

-- what is kept behind a step of a handle, by the reply
abbrev pub reply_after : Recording → ℕ → Step → Reply → Recording
reply_after s h step Done = done_after s h step
reply_after s h step (Number n) = number_after s h n step
reply_after s h step (Ended n code) = record s { tracked = map (with_code h n code) s.tracked }
reply_after s h step _ = s

-- what is kept behind an entry
unfoldable pub entry_after : Recording → Step → Entry → Recording
entry_after s step entry = option_map_or (λ h. reply_after s h step entry.reply) entry.owner s

-- what is kept behind a device's line
unfoldable pub device_after : Recording → ℕ → List ℕ → Recording
device_after s device descriptor = record s { configured = s.configured ++ record { device = device; value = configuration_value descriptor } ∷ [] }

-- a device's line: its number, the device's number, the bytes of its configuration
pub record DeviceLine : Type 0 where
  pub line : ℕ
  pub device : ℕ
  pub descriptor : List ℕ

-- what is kept behind the devices' lines
unfoldable pub devices_after : Recording → List DeviceLine → Recording
devices_after s [] = s
devices_after s (d ∷ ds) = devices_after (device_after s d.device d.descriptor) ds

-- the events of entries, each with its step and the number of its line
unfoldable pub entries_events : Recording → List (ℕ × Place) → List CaptureEvent
entries_events s [] = []
entries_events s (x ∷ xs) = entry_events s x.0 x.1.step x.1.entry ++ entries_events (entry_after s x.1.step x.1.entry) xs

-- the events of a run: those of its devices, and those of its entries
abbrev pub run_events : List DeviceLine → List (ℕ × Place) → List CaptureEvent
run_events devices places =
    flat_map (λ d. device_events d.line d.device d.descriptor) devices ++ entries_events (devices_after nothing_recorded devices) places
