-- What a text says of a device beside its descriptors and its answers.
use Rattle.std.specs.Prelude.{◌≡◌, ℕ, ◌+◌, ◌-◌, ◌*◌, ℤ, pos, negsuc, length, min, slice_get, Option, Some, None, is_none}
use Rattle.std.specs.Option.{option_and_then, option_map, unwrap_or}
use Rattle.usb_devicetext.specs.declared.device.DeskDevice.{DeskDevice}
use Rattle.usb_devicetext.specs.declared.statement.Awaited.{Awaited}
use Rattle.usb_devicetext.specs.declared.statement.Awaited.TheVariants as awaited
use Rattle.usb_devicetext.specs.declared.statement.Control.{Control}
use Rattle.usb_devicetext.specs.declared.statement.Departure.{Departure}
use Rattle.usb_devicetext.specs.declared.statement.DeviceGate.{DeviceGate}
use Rattle.usb_devicetext.specs.declared.statement.Pattern.{Pattern}
use Rattle.usb_devicetext.specs.declared.word.Speed.{Speed}
use Rattle.usb_devicetext.specs.declared.word.Speed.TheVariants.{Full, High, Low}
use Rattle.tirnouch_c.specs.declared.facts.AnswerGate.{AnswerGate}
use Rattle.tirnouch_c.specs.declared.facts.DeviceDeparture.{DeviceDeparture}
use Rattle.tirnouch_c.specs.declared.facts.DeviceFacts.{DeviceFacts}
use Rattle.tirnouch_c.specs.declared.session.Session.{Session}
use Rattle.tirnouch_c.specs.Replies.{bit}

-- libusb's number of what isn't there
abbrev pub not_found : ℤ
not_found = negsuc 4

-- what is there is given; else nothing is
abbrev pub Gives : {A : Type 0} → Option A → ℤ → (old new : A) → Type 0
Gives None answer old new = (answer ≡ not_found) × (new ≡ old)
Gives (Some x) answer old new = (answer ≡ pos 0) × (new ≡ x)

-- a number that is there is the answer
abbrev pub AnswersWith : Option ℕ → ℤ → Type 0
AnswersWith None answer = answer ≡ not_found
AnswersWith (Some n) answer = answer ≡ pos n

-- libusb's number of a speed (libusb_speed)
abbrev pub speed_number : Speed → ℕ
speed_number Low = 1
speed_number Full = 2
speed_number High = 3

-- a device by its lines, in numbers
abbrev pub device_numbers : DeskDevice → DeviceFacts
device_numbers d = record { speed = speed_number d.speed; is_hidden = bit d.hidden; begins_anew = bit d.anew; lasts = bit d.lasts }

abbrev pub HasFacts : (dev : ℕ) → ℤ → (old new : DeviceFacts) → Session → Type 0
HasFacts dev answer old new s = Gives (option_map device_numbers (slice_get s.devices dev)) answer old new

-- an interface for which the system has a driver
abbrev pub Drives : (dev i : ℕ) → ℤ → Session → Type 0
Drives dev i answer s = AnswersWith (option_and_then (λ (d : DeskDevice). slice_get d.drivers i) (slice_get s.devices dev)) answer

-- of answers to requests how many aren't given yet, the last of which stays
abbrev pub answers_left : Control → ℕ
answers_left c = length c.answers - min c.asked (length c.answers - 1)

abbrev pub HasAnswers : (dev i : ℕ) → ℤ → Session → Type 0
HasAnswers dev i answer s = AnswersWith (option_and_then (λ (d : DeskDevice). option_map (λ c. min (answers_left c) 2147483647) (slice_get d.controls i)) (slice_get s.devices dev)) answer

-- which fields of requests may be any, a bit each: type, number, value and index
abbrev pub any_fields : Pattern → ℕ
any_fields p = bit (is_none p.kind) + 2 * bit (is_none p.request) + 4 * bit (is_none p.value) + 8 * bit (is_none p.index)

-- answers that wait, and for what: the number of an endpoint, or requests, of which a field that may be any is 0
abbrev pub awaited_numbers : Awaited → (ep place count : ℕ) → AnswerGate
awaited_numbers (awaited.At other) ep place count = record {
  endpoint = ep;
  awaited = 0;
  other = other;
  any = 0;
  request_type = 0;
  request = 0;
  value = 0;
  index = 0;
  place = place;
  count = count;
}
awaited_numbers (awaited.Requests p) ep place count = record {
  endpoint = ep;
  awaited = 1;
  other = 0;
  any = any_fields p;
  request_type = unwrap_or p.kind 0;
  request = unwrap_or p.request 0;
  value = unwrap_or p.value 0;
  index = unwrap_or p.index 0;
  place = place;
  count = count;
}

abbrev pub gate_numbers : DeviceGate → AnswerGate
gate_numbers g = awaited_numbers g.awaited g.ep g.place g.count

abbrev pub Waits : (dev i : ℕ) → ℤ → (old new : AnswerGate) → Session → Type 0
Waits dev i answer old new s = Gives (option_and_then (λ (d : DeskDevice). option_map gate_numbers (slice_get d.gates i)) (slice_get s.devices dev)) answer old new

-- when it is pulled out
abbrev pub departure_numbers : Departure → DeviceDeparture
departure_numbers d = record { endpoint = d.ep; answers = d.answers }

abbrev pub Departs : (dev i : ℕ) → ℤ → (old new : DeviceDeparture) → Session → Type 0
Departs dev i answer old new s = Gives (option_and_then (λ (d : DeskDevice). option_map departure_numbers (slice_get d.departures i)) (slice_get s.devices dev)) answer old new
