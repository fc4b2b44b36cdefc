-- When transfers were submitted, from then on until their callbacks end.
use Rattle.std.specs.Prelude.{map, nat_le, ℕ, ◌==◌, ◌&&◌, Bool, List, [], ◌∷◌, ◌++◌, Option, Some, None, Result, Ok, Err, if◌then◌else◌}
use Rattle.usb_model.specs.declared.reply.Reply.{Reply}
use Rattle.usb_model.specs.declared.reply.Reply.TheVariants.{Done, Number}
use Rattle.usb_model.specs.declared.step.Step.{Step}
use Rattle.usb_model.specs.declared.step.Step.TheVariants.{Answer, Expire, Submit}
use Rattle.usb_model.specs.declared.verdict.Verdict.TheVariants.{Again, AgainWith, Stop}
use Rattle.usb_core.specs.declared.submission.SubmitError.{SubmitError}
use Rattle.std.specs.List.{filter, flat_map}
use Rattle.usb_model.specs.Setup.{Setup}
use Rattle.usb_model.specs.World.{World}
use Rattle.usb_model.specs.World.Due.{below, deadline}
use Rattle.usb_core.specs.Reads.{would_expire}
use Rattle.usb_recorder.specs.declared.place.Place.{Place}
use Rattle.usb_journal.specs.declared.timer.Timer.{Timer}

-- whether it is of this transfer
abbrev pub is_timer_of : (h n : ℕ) → Timer → Bool
is_timer_of h n t = (t.h == h) && (t.n == n)

-- the timeout of a transfer; 0 where none is kept
abbrev pub timeout_in : (h n : ℕ) → List Timer → ℕ
timeout_in h n [] = 0
timeout_in h n (t ∷ ts) = if is_timer_of h n t then t.timeout else timeout_in h n ts

-- without the first of this transfer
abbrev pub stopped : (h n : ℕ) → List Timer → List Timer
stopped h n [] = []
stopped h n (t ∷ ts) = if is_timer_of h n t then ts else t ∷ stopped h n ts

-- a submission of name h was answered so
abbrev pub started_if : {G P : Type 0} → (h timeout given : ℕ) → Result ℕ (SubmitError G P) → List Timer → List Timer
started_if h timeout given (Ok n) ts = ts ++ record { h = h; n = n; timeout = timeout; given = given } ∷ []
started_if h timeout given (Err x) ts = ts

-- or that of a callback's transfer
abbrev pub started_again_if : {G P : Type 0} → (h n given : ℕ) → Result ℕ (SubmitError G P) → List Timer → List Timer
started_again_if h n given (Ok k) ts = stopped h n ts ++ record { h = h; n = k; timeout = timeout_in h n ts; given = given } ∷ []
started_again_if h n given (Err x) ts = ts

-- the transfer whose callback a step ends
abbrev pub ending : Step → Option (ℕ × ℕ)
ending (Answer h n Stop) = Some (h, n)
ending step = None

-- a callback was to end, with this reply
abbrev pub stopped_if : Option (ℕ × ℕ) → Reply → List Timer → List Timer
stopped_if (Some x) Done ts = stopped x.0 x.1 ts
stopped_if o reply ts = ts

-- a submission has this number, at this moment
abbrev pub numbered : List Timer → Step → (n moment : ℕ) → List Timer
numbered ts (Submit h request) n moment = ts ++ record { h = h; n = n; timeout = request.timeout; given = moment } ∷ []
numbered ts (Answer h k Again) n moment = stopped h k ts ++ record { h = h; n = n; timeout = timeout_in h k ts; given = moment } ∷ []
numbered ts (Answer h k (AgainWith bytes)) n moment = stopped h k ts ++ record { h = h; n = n; timeout = timeout_in h k ts; given = moment } ∷ []
numbered ts step n moment = ts

-- a callback has ended
abbrev pub ended : List Timer → Step → List Timer
ended ts (Answer h k Stop) = stopped h k ts
ended ts step = ts

-- those that are kept after one place more: of its step, the reply, and the moment
abbrev pub timers_by : List Timer → Step → Reply → ℕ → List Timer
timers_by ts step (Number n) moment = numbered ts step n moment
timers_by ts step Done moment = ended ts step
timers_by ts step reply moment = ts

abbrev pub timers_from : List Timer → List Place → List Timer
timers_from ts [] = ts
timers_from ts (p ∷ ps) = timers_from (timers_by ts p.step p.entry.reply p.moment) ps

-- those that are kept after these places
abbrev pub timers_of : List Place → List Timer
timers_of journal = timers_from [] journal

-- whether the time of a timer's transfer is over: it is past its deadline, and its Expire would be done
abbrev pub is_over : Setup → World → ℕ → Timer → Bool
is_over setup w moment t = nat_le (deadline t.given t.timeout) moment && would_expire setup w t.h t.n

-- by rising name
abbrev pub by_name : List Timer → List Timer
by_name ts = flat_map (λ h. filter (λ t. t.h == h) ts) (below 64)

-- an Expire for each
abbrev pub expires : List Timer → List Step
expires ts = map (λ t. Expire t.h t.n) ts
