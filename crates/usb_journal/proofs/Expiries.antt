-- One Expire more.
use Rattle.std.proofs.Common.{◌≡◌, ◌∙◌, ◌+◌, ◌<◌, ◌++◌, ℕ, List, Some, [], ◌∷◌, ap, length, refl, slice_index_or, sym, take}
use Rattle.std.proofs.lemmas.List.{map-append, take_more}
use Rattle.usb_model.specs.declared.reply.Reply.{Reply}
use Rattle.usb_model.specs.declared.reply.Reply.TheVariants as reply
use Rattle.usb_model.specs.declared.step.Step.{Step}
use Rattle.usb_model.specs.declared.step.Step.TheVariants.{Expire}
use Rattle.usb_recorder.specs.declared.place.Place.{Place}
use Rattle.usb_journal.specs.declared.timer.Timer.{Timer}
use Rattle.usb_journal.specs.Booked.{Asked, asks}
use Rattle.usb_journal.specs.Timers.{expires, timers_by, timers_of}
use Rattle.usb_journal.proofs.Runs.{timers-push}

-- it leaves the timers
same_timers : (ts : List Timer) (h n moment : ℕ) (r : Reply) → timers_by ts (Expire h n) r moment ≡ ts
same_timers ts h n moment (reply.Number k) = refl
same_timers ts h n moment reply.Done = refl
same_timers ts h n moment _ = refl

pub expire_timers : (places : List Place) (h n caller : ℕ) (r : Reply) (moment : ℕ) → timers_of (places ++ record { step = Expire h n; caller = caller; entry = record { owner = Some h; reply = r }; moment = moment } ∷ []) ≡ timers_of places
expire_timers places h n caller r moment = timers-push [] places _ ∙ same_timers (timers_of places) h n moment r

-- what was asked for, with one more
pub asks_next : (caller moment : ℕ) (due : List Timer) (i : ℕ) (t : Timer) → i < length due → t ≡ slice_index_or due i t → asks caller moment (expires (take i due)) ++ record { step = Expire t.h t.n; caller = caller; moment = moment } ∷ [] ≡ asks caller moment (expires (take (i + 1) due))
asks_next caller moment due i t lt item =
    let ask : Timer → Asked = λ x. record { step = Expire x.h x.n; caller = caller; moment = moment } in
    sym (ap (λ l. asks caller moment (expires l)) (take_more due i t lt)
    ∙ (ap (λ l. asks caller moment l) (map-append (λ (x : Timer). Expire x.h x.n) (take i due) _) ∙ (map-append (λ (s : Step). record { step = s; caller = caller; moment = moment }) (expires (take i due)) _
    ∙ ap (λ x. asks caller moment (expires (take i due)) ++ ask x ∷ []) (sym item))))
