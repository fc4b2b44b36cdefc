-- Whom a call has to wake, by the step that it made.
use Rattle.std.proofs.Common.{Bool, Err, List, Ok, Result, [], ap, ap₂, false, inr, length, refl, subst, sym, take, true, ℕ, ◌++◌, ◌∙◌, ◌∷◌, ◌≡◌}
use Rattle.std.specs.Prelude.{IfOk, OnOk, is_ok}
use Rattle.std.proofs.lemmas.List.{map-append}
use Rattle.usb_model.specs.declared.reply.Reply.{Reply}
use Rattle.usb_model.specs.declared.step.Step.{Step}
use Rattle.usb_model.specs.declared.step.Step.TheVariants.{Answer, Command, Deliver, Serve, Take}
use Rattle.usb_model.specs.declared.verdict.Verdict.TheVariants.{Stop}
use Rattle.usb_model.specs.declared.entry.Entry.{Entry}
use Rattle.usb_model.specs.Setup.{Setup}
use Rattle.usb_model.specs.World.{new_world, turn, world_from}
use Rattle.usb_recorder.specs.declared.place.Place.{Place}
use Rattle.usb_core.specs.Public.{does_something}
use Rattle.usb_core.specs.declared.submission.SubmitError.{SubmitError}
use Rattle.usb_journal.specs.Booked.{Booked, answer_entry, next_entry, next_receipt, steps_of, world_where}
use Rattle.usb_journal.specs.Seen.{Receipted}
use Rattle.usb_receipts.specs.Rule.{BeginsWith}
use Rattle.proof_model.proofs.Handles.Runs.{world_append}
use Rattle.usb_library.specs.declared.wakes.WorkerPart.TheVariants.{Controller}
use Rattle.usb_library.specs.declared.wakes.Work.{Work}
use Rattle.usb_library.specs.declared.wakes.Work.TheVariants.{Any, None, Of}
use Rattle.usb_library.specs.Calls.{Calling, Makes, changes}
use Rattle.usb_library.specs.Wakes.{WakesSince, if_changed, of_change, of_event, of_packet, work_of}
use Rattle.usb_library.proofs.NewWork.{names_new_work}

-- what a list begins with, before a last entry
taken : {A : Type 0} (xs : List A) (y : A) → take (length xs) (xs ++ y ∷ []) ≡ xs
taken [] y = refl
taken (x ∷ xs) y = ap (λ l. x ∷ l) (taken xs y)

-- the world where a journal ends, behind its last step
last_turn : (setup : Setup) (before : List Place) (p : Place) → world_where setup (before ++ p ∷ []) ≡ (turn setup (world_where setup before) p.step).world
unfolding world_from
last_turn setup before p = ap (world_from setup (new_world setup)) (map-append (λ q. q.step) before (p ∷ [])) ∙ world_append setup (new_world setup) (steps_of before) (p.step ∷ [])

-- the last step of a journal, by the rule
last_wakes : (setup : Setup) (before seen : List Place) (place : ℕ) (p : Place) → place ≡ length before → seen ≡ before ++ p ∷ [] → p.entry ≡ next_entry setup before p.step
    → WakesSince setup seen place (work_of p.step p.entry.reply (does_something setup (world_where setup seen) Command))
last_wakes setup before seen place p at is entry =
    rw (is, at, taken before p, last_turn setup before p, entry) (names_new_work setup (steps_of before) p.step)

-- the last step of a journal, by its receipt and the entry that is answered
pub record IsLast (setup : Setup) (step : Step) (seen : List Place) (r : Receipted) (entry : Entry) : Type 0 where
  pub before : List Place
  pub place : r.place ≡ length before
  pub saw : seen ≡ before ++ r.entry ∷ []
  pub asked : r.entry.step ≡ step
  pub answered : entry ≡ r.entry.entry
  pub made : r.entry.entry ≡ next_entry setup before step

-- what holds of a result that is there
pub at_ok : {X E : Type 0} (P : X → Type 0) (result : Result X E) (x : X) → result ≡ Ok x → IfOk result P → P x
at_ok P result x is holds = subst (λ y. IfOk y P) is holds

-- by what a book says of a step, and a caller that counts no want of memory
pub of_book : {X E P : Type 0} (setup : Setup) (b : Booked P) (step : Step) (number : ℕ) (of : X → Entry) (result : Result (Receipted × X) E) (r : Receipted) (x : X) (journal from to : List Place) (mid new : Calling)
    → result ≡ Ok (r, x) → IfOk result (λ y. y.0 ≡ next_receipt b step number (of y.1)) → IfOk result (λ y. journal ≡ b.journal ++ y.0.entry ∷ []) → IfOk result (λ y. of y.1 ≡ next_entry b.setup b.journal step)
    → IfOk result (λ y. BeginsWith from b.journal × (to ≡ journal)) → b.setup ≡ setup → OnOk result (new ≡ mid) → mid.seen ≡ to → IsLast setup step new.seen r (of x)
of_book setup b step number of result r x journal from to mid new is receipt more entry saw its same seen =
    let receipt : r ≡ next_receipt b step number (of x) = at_ok (λ y. y.0 ≡ next_receipt b step number (of y.1)) result (r, x) is receipt in
    let more : journal ≡ b.journal ++ r.entry ∷ [] = at_ok (λ y. journal ≡ b.journal ++ y.0.entry ∷ []) result (r, x) is more in
    let entry : of x ≡ next_entry b.setup b.journal step = at_ok (λ y. of y.1 ≡ next_entry b.setup b.journal step) result (r, x) is entry in
    let saw : BeginsWith from b.journal × (to ≡ journal) = at_ok (λ y. BeginsWith from b.journal × (to ≡ journal)) result (r, x) is saw in
    let same : new ≡ mid = subst (λ y. OnOk y (new ≡ mid)) is same in
    record {
      before = b.journal;
      place = ap (λ k. k.place) receipt;
      saw = ap (λ k. k.seen) same ∙ (seen ∙ (saw.1 ∙ more));
      asked = ap (λ k. k.entry.step) receipt;
      answered = sym (ap (λ k. k.entry.entry) receipt);
      made = ap (λ k. k.entry.entry) receipt ∙ (entry ∙ ap (λ s. next_entry s b.journal step) its);
    }

-- by what a call makes
pub of_call : {X E : Type 0} (setup : Setup) (step : Step) (old new : Calling) (receipt_of : X → Receipted) (entry_of : X → Entry) (result : Result X E) (x : X) → result ≡ Ok x
    → IfOk result (λ y. Makes setup step old new (receipt_of y)) → IfOk result (λ y. entry_of y ≡ (receipt_of y).entry.entry) → IsLast setup step new.seen (receipt_of x) (entry_of x)
of_call setup step old new receipt_of entry_of result x is makes entry =
    let m : Makes setup step old new (receipt_of x) = at_ok (λ y. Makes setup step old new (receipt_of y)) result x is makes in
    record { before = m.before; place = m.place; saw = m.saw; asked = m.asked; answered = at_ok (λ y. entry_of y ≡ (receipt_of y).entry.entry) result x is entry; made = m.entry }

-- so a step, by its receipt
call_wakes : (setup : Setup) (step : Step) (seen : List Place) (r : Receipted) (entry : Entry) → IsLast setup step seen r entry → WakesSince setup seen r.place (work_of step entry.reply (does_something setup (world_where setup seen) Command))
call_wakes setup step seen r entry m =
    rw (m.answered)
    (subst (λ s. WakesSince setup seen r.place (work_of s r.entry.entry.reply (does_something setup (world_where setup seen) Command))) m.asked
    (last_wakes setup m.before seen r.place r.entry m.place m.saw (m.made ∙ ap (next_entry setup m.before) (sym m.asked))))

-- where something changed, whoever wakes both wakes whom the rule names
both_named : (setup : Setup) (journal : List Place) (place : ℕ) (changed : Bool) (work : Work) → WakesSince setup journal place (if_changed changed work) → WakesSince setup journal place (if_changed changed Any)
both_named setup journal place true work wakes = λ part has. inr refl
both_named setup journal place false work wakes = wakes

-- a step that is no part of each transfer wakes both
pub plain_wakes : (setup : Setup) (step : Step) (seen : List Place) (r : Receipted) (entry : Entry) (changed : Bool) → IsLast setup step seen r entry → changed ≡ changes entry.reply
    → WakesSince setup seen r.place (if_changed changed Any)
plain_wakes setup step seen r entry changed m is =
    subst (λ b. WakesSince setup seen r.place (if_changed b Any)) (sym is)
    (both_named setup seen r.place (changes entry.reply) (of_change step entry.reply (does_something setup (world_where setup seen) Command)) (call_wakes setup step seen r entry m))

-- a packet
pub packet_wakes : (setup : Setup) (dev ep : ℕ) (seen : List Place) (r : Receipted) (entry : Entry) (changed : Bool) (work : Work) → IsLast setup (Serve dev ep) seen r entry → changed ≡ changes entry.reply → work ≡ of_packet entry.reply
    → WakesSince setup seen r.place (if_changed changed work)
packet_wakes setup dev ep seen r entry changed work m is named =
    subst (λ k. WakesSince setup seen r.place k) (sym (ap₂ (λ b k. if_changed b k) is named)) (call_wakes setup (Serve dev ep) seen r entry m)

-- an event
pub event_wakes : (setup : Setup) (seen : List Place) (r : Receipted) (entry : Entry) (changed has_order : Bool) (work : Work) → IsLast setup Deliver seen r entry → changed ≡ changes entry.reply
    → has_order ≡ does_something setup (world_where setup seen) Command → work ≡ of_event entry.reply has_order → WakesSince setup seen r.place (if_changed changed work)
event_wakes setup seen r entry changed has_order work m is order named =
    subst (λ k. WakesSince setup seen r.place k) (sym (ap₂ (λ b k. if_changed b k) is (named ∙ ap (of_event entry.reply) order))) (call_wakes setup Deliver seen r entry m)

-- a callback that ends
pub stop_wakes : (setup : Setup) (h n : ℕ) (seen : List Place) (r : Receipted) (entry : Entry) (changed : Bool) → IsLast setup (Answer h n Stop) seen r entry → changed ≡ changes entry.reply
    → WakesSince setup seen r.place (if_changed changed None)
stop_wakes setup h n seen r entry changed m is =
    subst (λ b. WakesSince setup seen r.place (if_changed b None)) (sym is) (call_wakes setup (Answer h n Stop) seen r entry m)

-- a result that goes out
nobody : (a b : Bool) → if_changed a None ≡ if_changed b None
nobody true true = refl
nobody true false = refl
nobody false true = refl
nobody false false = refl

pub take_wakes : (setup : Setup) (seen : List Place) (r : Receipted) (entry : Entry) (changed : Bool) → IsLast setup Take seen r entry → WakesSince setup seen r.place (if_changed changed None)
take_wakes setup seen r entry changed m = subst (λ k. WakesSince setup seen r.place k) (nobody (changes entry.reply) changed) (call_wakes setup Take seen r entry m)

-- a submission that is accepted is the controller's
submitted_wakes : {G P : Type 0} (h : ℕ) (number : Result ℕ (SubmitError G P)) → if_changed (changes (answer_entry h number).reply) (Of Controller) ≡ if_changed (is_ok number) (Of Controller)
submitted_wakes h (Ok n) = refl
submitted_wakes h (Err x) = refl

-- so is one from within a callback
pub submission_wakes : {G P : Type 0} (setup : Setup) (step : Step) (h : ℕ) (seen : List Place) (r : Receipted) (number : Result ℕ (SubmitError G P)) (changed : Bool) → ((reply : Reply) (b : Bool) → of_change step reply b ≡ Of Controller)
    → IsLast setup step seen r (answer_entry h number) → changed ≡ is_ok number → WakesSince setup seen r.place (if_changed changed (Of Controller))
submission_wakes setup step h seen r number changed its m is =
    let b : Bool = does_something setup (world_where setup seen) Command in
    let reply : Reply = (answer_entry h number).reply in
    subst (λ k. WakesSince setup seen r.place k) (ap (if_changed (changes reply)) (its reply b) ∙ (submitted_wakes h number ∙ ap (λ c. if_changed c (Of Controller)) (sym is)))
    (call_wakes setup step seen r (answer_entry h number) m)
