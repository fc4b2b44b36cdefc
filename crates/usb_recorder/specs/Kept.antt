-- A place as the journal keeps it, and the place that it stands for.
use Rattle.std.specs.Prelude.{◌≤◌, ◌<◌, ◌+◌, ℕ, List, [], ◌∷◌, None, Option, Some, drop, slice_get, take}
use Rattle.usb_model.specs.declared.entry.Entry.{Entry}
use Rattle.usb_model.specs.declared.reply.Reply.{Reply}
use Rattle.usb_model.specs.declared.reply.Reply.TheVariants as reply
use Rattle.usb_model.specs.declared.request.Body.TheVariants.{In, Out}
use Rattle.usb_model.specs.declared.request.Kind.TheVariants.{Bulk, Interrupt}
use Rattle.usb_model.specs.declared.status.Status.{Status}
use Rattle.usb_model.specs.declared.step.Step.{Step}
use Rattle.usb_model.specs.declared.step.Step.TheVariants as step
use Rattle.usb_model.specs.declared.verdict.Verdict.TheVariants as verdict
use Rattle.usb_recorder.specs.declared.kept.CompactStep.{CompactStep}
use Rattle.usb_recorder.specs.declared.kept.CompactStep.TheVariants as asked
use Rattle.usb_recorder.specs.declared.kept.CompactReply.{CompactReply}
use Rattle.usb_recorder.specs.declared.kept.CompactReply.TheVariants as replied
use Rattle.usb_recorder.specs.declared.kept.LongEntry.{LongEntry}
use Rattle.usb_recorder.specs.declared.place.Place.{Place}
use Rattle.usb_recorder.specs.declared.short.ResultTail.{ResultTail}
use Rattle.usb_recorder.specs.declared.short.PackedEntry.{PackedEntry}
use Rattle.usb_recorder.specs.declared.short.PackedEntry.TheVariants as short

-- the step, with these bytes
abbrev pub step_of : CompactStep → List ℕ → Step
step_of (asked.Open h dev) bytes = step.Open h dev
step_of (asked.Close h) bytes = step.Close h
step_of (asked.Claim h i) bytes = step.Claim h i
step_of (asked.Release h i) bytes = step.Release h i
step_of (asked.Reset h) bytes = step.Reset h
step_of (asked.ClearHalt h ep) bytes = step.ClearHalt h ep
step_of (asked.Read h ep kind flags length timeout) bytes = step.Submit h (record { ep = ep; kind = kind; flags = flags; timeout = timeout; body = In length })
step_of (asked.Write h ep kind flags timeout) bytes = step.Submit h (record { ep = ep; kind = kind; flags = flags; timeout = timeout; body = Out bytes })
step_of (asked.Cancel h n) bytes = step.Cancel h n
step_of (asked.Expire h n) bytes = step.Expire h n
step_of (asked.Serve dev ep) bytes = step.Serve dev ep
step_of asked.Command bytes = step.Command
step_of asked.Deliver bytes = step.Deliver
step_of asked.Take bytes = step.Take
step_of (asked.Stop h n) bytes = step.Answer h n verdict.Stop
step_of (asked.Again h n) bytes = step.Answer h n verdict.Again
step_of (asked.AgainWith h n) bytes = step.Answer h n (verdict.AgainWith bytes)
step_of (asked.Unplug dev) bytes = step.Unplug dev

-- the reply, with these bytes
abbrev pub reply_of : CompactReply → List ℕ → Reply
reply_of replied.Done bytes = reply.Done
reply_of (replied.Number n) bytes = reply.Number n
reply_of (replied.Refused why) bytes = reply.Refused why
reply_of replied.Idle bytes = reply.Idle
reply_of (replied.Nak n) bytes = reply.Nak n
reply_of (replied.Moved count n) bytes = reply.Moved n count
reply_of (replied.Ended code n) bytes = reply.Ended n code
reply_of (replied.Ran ep errand ok) bytes = reply.Ran ep errand ok
reply_of (replied.Finished n) bytes = reply.Finished n
reply_of (replied.Paused n) bytes = reply.Paused n
reply_of (replied.Settled ep errand ok) bytes = reply.Settled ep errand ok
reply_of (replied.Called h ep status actual n round) bytes = reply.Called (record { h = h; n = n; ep = ep; round = round; status = status; actual = actual; bytes = bytes })

-- so many of the bytes, from this one on
abbrev pub part : List ℕ → (from count : ℕ) → List ℕ
part bytes from count = take count (drop from bytes)

-- the place, with its bytes among these: first those of the step, then those of the reply
abbrev pub place_of : List ℕ → LongEntry → Place
place_of bytes k = record {
  step = step_of k.asked (part bytes k.from k.sent);
  caller = k.caller;
  entry = record { owner = k.owner; reply = reply_of k.replied (part bytes (k.from + k.sent) k.given) };
  moment = k.moment;
}

-- what is read where nothing stands
abbrev pub nothing : Place
nothing = record { step = step.Command; caller = 0; entry = record { owner = None; reply = reply.Idle }; moment = 0 }

-- the place that is found there, if there is one
abbrev pub found : List ℕ → Option LongEntry → Place
found bytes (Some k) = place_of bytes k
found bytes None = nothing

-- an entry of this name
abbrev pub of_name : ℕ → Reply → Entry
of_name h reply = record { owner = Some h; reply = reply }

-- the place of a result with this rest and these bytes
abbrev pub result_with : (h ep : ℕ) → Status → (caller moment n : ℕ) → ResultTail → List ℕ → Place
result_with h ep status caller moment n r bytes = record { step = step.Take; caller = caller; entry = of_name h (reply.Called (record { h = h; n = n; ep = ep; round = r.round; status = status; actual = r.actual; bytes = bytes })); moment = moment }

-- the place of a result whose rest is found, if there is one
abbrev pub called : List ℕ → (h ep : ℕ) → Status → (caller moment n : ℕ) → Option ResultTail → Place
called bytes h ep status caller moment n (Some r) = result_with h ep status caller moment n r (part bytes r.from r.count)
called bytes h ep status caller moment n None = nothing

-- the place of a submission that was given a number
abbrev pub submitted_place : PackedEntry → Place
submitted_place (short.Bulk h ep flags length timeout caller moment n) = record { step = step_of (asked.Read h ep Bulk flags length timeout) []; caller = caller; entry = of_name h (reply.Number n); moment = moment }
submitted_place (short.Interrupt h ep flags length timeout caller moment n) = record { step = step_of (asked.Read h ep Interrupt flags length timeout) []; caller = caller; entry = of_name h (reply.Number n); moment = moment }
submitted_place s = nothing

-- the place of a packet
abbrev pub packet_place : PackedEntry → Place
packet_place (short.Moved h dev ep count caller moment n) = record { step = step.Serve dev ep; caller = caller; entry = of_name h (reply.Moved n count); moment = moment }
packet_place (short.Ended h dev ep code caller moment n) = record { step = step.Serve dev ep; caller = caller; entry = of_name h (reply.Ended n code); moment = moment }
packet_place s = nothing

-- the place of a transfer's end, or of its callback's answer
abbrev pub ending_place : PackedEntry → Place
ending_place (short.Finished h caller moment n) = record { step = step.Deliver; caller = caller; entry = of_name h (reply.Finished n); moment = moment }
ending_place (short.Stopped h caller moment n) = record { step = step.Answer h n verdict.Stop; caller = caller; entry = of_name h reply.Done; moment = moment }
ending_place (short.Renewed h caller moment n number) = record { step = step.Answer h n verdict.Again; caller = caller; entry = of_name h (reply.Number number); moment = moment }
ending_place s = nothing

-- the place that is kept so, with these rests and long ones, and its bytes among these
abbrev pub place_in : List ℕ → List ResultTail → List LongEntry → PackedEntry → Place
place_in bytes rests longs (short.Bulk h ep flags length timeout caller moment n) = submitted_place (short.Bulk h ep flags length timeout caller moment n)
place_in bytes rests longs (short.Interrupt h ep flags length timeout caller moment n) = submitted_place (short.Interrupt h ep flags length timeout caller moment n)
place_in bytes rests longs (short.Moved h dev ep count caller moment n) = packet_place (short.Moved h dev ep count caller moment n)
place_in bytes rests longs (short.Ended h dev ep code caller moment n) = packet_place (short.Ended h dev ep code caller moment n)
place_in bytes rests longs (short.Finished h caller moment n) = ending_place (short.Finished h caller moment n)
place_in bytes rests longs (short.Stopped h caller moment n) = ending_place (short.Stopped h caller moment n)
place_in bytes rests longs (short.Renewed h caller moment n number) = ending_place (short.Renewed h caller moment n number)
place_in bytes rests longs (short.Called h ep status caller moment n at) = called bytes h ep status caller moment n (slice_get rests at)
place_in bytes rests longs (short.Long at) = found bytes (slice_get longs at)

-- one that stands elsewhere stands among the first so many there
abbrev pub IsThere : (rests longs : ℕ) → PackedEntry → Type 0
IsThere rests longs (short.Called h ep status caller moment n at) = at < rests
IsThere rests longs (short.Long at) = at < longs
IsThere rests longs s = Unit {0}

-- and so do all
abbrev pub AreThere : (rests longs : ℕ) → List PackedEntry → Type 0
AreThere rests longs [] = Unit {0}
AreThere rests longs (s ∷ ss) = IsThere rests longs s × AreThere rests longs ss

-- the bytes of each stand among the first so many
abbrev pub AreAmong : ℕ → List ResultTail → Type 0
AreAmong n [] = Unit {0}
AreAmong n (r ∷ rs) = (r.from + r.count ≤ n) × AreAmong n rs

-- so do those of the long ones
abbrev pub AreWithin : ℕ → List LongEntry → Type 0
AreWithin n [] = Unit {0}
AreWithin n (k ∷ ks) = (k.from + k.sent + k.given ≤ n) × AreWithin n ks

-- what contracts see of a journal: its places, the bytes of a step that is drafted, and how much room there is for places and for bytes
pub record Journaled : Type 0 where
  pub places : List Place
  pub drafted : List ℕ
  pub room : ℕ
  pub filled : ℕ
  pub bytes_capacity : ℕ

-- whether there is room for so many more places, with so many bytes in all
abbrev pub HasRoom : Journaled → (places bytes : ℕ) → Type 0
HasRoom j places bytes = (places ≤ j.room) × (j.filled + bytes ≤ j.bytes_capacity)
