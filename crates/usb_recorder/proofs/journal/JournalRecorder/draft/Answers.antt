use Rattle.std.proofs.Common.{◌∙◌, ◌++◌, ◌≤◌, List, ℕ, ap, arith, length, take}
use Rattle.usb_recorder.specs.Kept.{Journaled}
use Rattle.usb_recorder.proofs.KeptPlaces.{places_same, used_same}
use Rattle.usb_recorder.proofs.journal.JournalRecorder.draft.Goals as goal

pub returns-clause-same : goal.returns-clause-same
returns-clause-same c = λ journal is.
    let used = c.self.inside.used in
    let bytes = c.self.inside.bytes.items in
    let sent = c.sent_by.result.now in
    let le : used ≤ length bytes = omega (arith, c.self.invariant.0, c.self.inside.bytes.ok.0) in
    places_same used c.append.new.bytes.items bytes c.self.inside.rests.items c.self.inside.longs.items c.self.inside.shorts.items c.self.invariant.1 c.self.invariant.2
    (ap (take used) (c.append.ensures.items ∙ ap (λ (l : List ℕ). l ++ sent) c.truncate.ensures.items) ∙ used_same used bytes sent le)
    ∙ (ap (λ (j : Journaled). j.places) c.self.view_is ∙ is)
