-- Why a line of a good form can't stand where it does, beside some devices, and when that is so.
use Rattle.std.specs.Prelude.{◌≡◌, ℕ, ◌==◌, nat_le, nat_lt, Bool, false, List, codes, ◌++◌, length, slice_get, Option, Some, if◌then◌else◌}
use Rattle.std.specs.Fmt.{decimal}
use Rattle.std.specs.List.{list_any}
use Rattle.std.specs.Option.{option_and_then, option_map, option_map_or}
use Rattle.usb_model.specs.declared.setup.DeviceSetup.{DeviceSetup}
use Rattle.usb_model.specs.Setup.{endpoint_id}
use Rattle.usb_scripttext.specs.Number.{address_of, device_of, u8_of, u32_of}
use Rattle.usb_scripttext.specs.Devices.{is_free, takes_script}
use Rattle.usb_devicetext.specs.declared.place_fault.PlaceFault.{PlaceFault}
use Rattle.usb_devicetext.specs.declared.place_fault.PlaceFault.TheVariants as fault
use Rattle.usb_devicetext.specs.declared.topic.Topic.TheVariants as topic
use Rattle.usb_devicetext.specs.declared.word.Speed.{Speed}
use Rattle.usb_devicetext.specs.declared.word.Speed.TheVariants.{Full, High, Low}
use Rattle.usb_devicetext.specs.Form.{word_at}
use Rattle.usb_devicetext.specs.FormFault.{topic_in}
use Rattle.usb_devicetext.specs.Sense.{answer_count, has_speed, moves_at}
use Rattle.usb_devicetext.specs.Word.{speed_of}

-- the device of a line, among some
abbrev pub device_in : List DeviceSetup → List (List ℕ) → Option DeviceSetup
device_in devices words = option_and_then (slice_get devices) (device_of (word_at words 1))

-- something of it at an endpoint whose address is the word at a place
abbrev pub at_endpoint : {A : Type 0} → (DeviceSetup → ℕ → A) → List DeviceSetup → List (List ℕ) → ℕ → Option A
at_endpoint f devices words at = option_and_then (λ d. option_map (f d) (address_of (word_at words at))) (device_in devices words)

-- whether it has this bulk or interrupt endpoint; whether that has no script yet
abbrev pub has_endpoint : DeviceSetup → ℕ → Bool
has_endpoint d ep = takes_script d.config ep

abbrev pub has_room : DeviceSetup → ℕ → Bool
has_room d ep = is_free (endpoint_id ep) d.scripts

-- whether it has the interface whose number is a word
abbrev pub has_interface : DeviceSetup → ℕ → Bool
has_interface d i = list_any (λ k. k == i) d.config.interfaces

-- when each is so
abbrev pub FitsPlace : PlaceFault → List DeviceSetup → List (List ℕ) → Type 0
FitsPlace (fault.Turn next) devices words =
    (topic_in words ≡ Some topic.Device) × (next ≡ length devices) × (option_map (λ d. d == next) (device_of (word_at words 1)) ≡ Some false)
FitsPlace fault.NoDevice devices words = option_map (λ d. nat_lt d (length devices)) (device_of (word_at words 1)) ≡ Some false
FitsPlace fault.NoEndpoint devices words = at_endpoint has_endpoint devices words 2 ≡ Some false
FitsPlace fault.SecondScript devices words = (topic_in words ≡ Some topic.Script) × (at_endpoint has_room devices words 2 ≡ Some false)
FitsPlace (fault.NoAnswer count) devices words =
    (topic_in words ≡ Some topic.After) × (at_endpoint answer_count devices words 2 ≡ Some (Some count)) × (option_map (λ k. nat_lt k count) (u32_of (word_at words 3)) ≡ Some false)
FitsPlace fault.NoOther devices words = (topic_in words ≡ Some topic.After) × (length words ≡ 6) × (at_endpoint moves_at devices words 4 ≡ Some false)
FitsPlace (fault.FewAnswers count) devices words =
    (topic_in words ≡ Some topic.Leaves) × (at_endpoint answer_count devices words 2 ≡ Some (Some count)) × (option_map (λ n. nat_le n count) (u32_of (word_at words 3)) ≡ Some false)
FitsPlace (fault.TooFast speed) devices words =
    (topic_in words ≡ Some topic.Speed) × (speed_of (word_at words 2) ≡ Some speed) × (option_map (λ d. has_speed d speed) (device_in devices words) ≡ Some false)
FitsPlace fault.NoInterface devices words =
    (topic_in words ≡ Some topic.Driver) × (option_and_then (λ d. option_map (has_interface d) (u8_of (word_at words 2))) (device_in devices words) ≡ Some false)

-- in words
unfoldable pub speed_text : Speed → List ℕ
speed_text Low = codes "a low speed device has no bulk endpoint, and packets of at most 8 bytes"
speed_text Full = codes "a full speed device has packets of at most 64 bytes"
speed_text High = codes "a high speed device has no such endpoint"

abbrev pub place_fault_text : PlaceFault → List ℕ
place_fault_text (fault.Turn next) = if nat_lt next 4 then codes "the next device has the number " ++ decimal next else codes "there are 4 devices already"
place_fault_text fault.NoDevice = codes "no line before this one has the device"
place_fault_text fault.NoEndpoint = codes "the device has no bulk or interrupt endpoint of this address"
place_fault_text fault.SecondScript = codes "the endpoint has a script already"
place_fault_text (fault.NoAnswer count) = codes "answers are counted from 0, and the endpoint's number of them is " ++ decimal count
place_fault_text fault.NoOther = codes "what an answer waits for is counted at 00, of control requests, and at the device's bulk and interrupt endpoints"
place_fault_text (fault.FewAnswers count) = codes "the endpoint's number of answers is " ++ decimal count
place_fault_text (fault.TooFast speed) = speed_text speed
place_fault_text fault.NoInterface = codes "the device has no interface of this number"

-- the word that each is about, the first at 0
abbrev pub place_fault_place : PlaceFault → ℕ
place_fault_place (fault.Turn next) = 1
place_fault_place fault.NoDevice = 1
place_fault_place fault.NoEndpoint = 2
place_fault_place fault.SecondScript = 2
place_fault_place (fault.NoAnswer count) = 3
place_fault_place fault.NoOther = 4
place_fault_place (fault.FewAnswers count) = 3
place_fault_place (fault.TooFast speed) = 2
place_fault_place fault.NoInterface = 2
