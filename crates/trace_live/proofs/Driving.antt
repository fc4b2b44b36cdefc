-- One line of a handle more is made.
use Rattle.std.proofs.Common.{◌≡◌, true≢false, List, [], ◌∷◌, ◌++◌, Result, Ok, Err, IsOk, OnOk, sym, ap, ◌∙◌, append_assoc, append-nil}
use Rattle.std.proofs.lemmas.List.{map-append}
use Rattle.usb_model.specs.declared.step.Step.{Step}
use Rattle.usb_model.specs.Setup.{Setup}
use Rattle.usb_recorder.specs.declared.place.Place.{Place}
use Rattle.usb_journal.specs.Booked.{steps_of}
use Rattle.usb_journal.specs.Seen.{Receipted}
use Rattle.usb_library.specs.Calls.{Calling, Makes}
use Rattle.trace_live.specs.declared.line.Line.{Line}
use Rattle.trace_live.specs.Lines.{said_by, said_by_all}

-- of a call that was made
pub one_call : (setup : Setup) (step : Step) (old new : Calling) (r : Receipted) → Makes setup step old new r → steps_of new.own ≡ steps_of old.own ++ step ∷ []
one_call setup step old new r makes = ap steps_of makes.own ∙ (map-append (λ (p : Place). p.step) old.own (r.entry ∷ []) ∙ ap (λ s. steps_of old.own ++ s ∷ []) makes.asked)

-- what was made and what is left come to the same
pub one_line : {Q : Type 0} (before after all : List Step) (line : Line Q) (lines left : List (Line Q)) → lines ≡ line ∷ left → after ≡ before ++ said_by line ∷ [] → before ++ said_by_all lines ≡ all → after ++ said_by_all left ≡ all
one_line before after all line lines left next more same = ap (λ l. l ++ said_by_all left) more ∙ (append_assoc before (said_by line ∷ []) (said_by_all left) ∙ (ap (λ l. before ++ said_by_all l) (sym next) ∙ same))

-- where nothing is left all is made
pub no_line : {Q : Type 0} (made all : List Step) (lines : List (Line Q)) → lines ≡ [] → made ++ said_by_all lines ≡ all → made ≡ all
no_line made all lines none same = sym (append-nil made) ∙ (ap (λ l. made ++ said_by_all l) (sym none) ∙ same)

-- where a handle's thread ended well its lines are made
pub all_made : {T E : Type 0} (lines : List Step) (setup : Setup) (old new : Calling) (left : Result T E) → OnOk left (steps_of new.own ≡ steps_of old.own ++ lines) → IsOk left → steps_of new.own ≡ steps_of old.own ++ lines
all_made lines setup old new (Ok x) made ended = made
all_made lines setup old new (Err e) made ended = absurd (true≢false (sym ended))
