use Rattle.std.proofs.Common.{◌∙◌, List, [], ◌∷◌, ◌++◌, ap, sym, if◌then◌else◌}
use Rattle.usb_model.specs.declared.entry.Entry.{Entry}
use Rattle.trace_threads.specs.Callbacks.{is_callback}
use Rattle.trace_live.proofs.Reports.{told_more}
use Rattle.trace_live.proofs.callbacks.told.Goals as goal

pub loop-place-preserved : goal.loop-place-preserved
loop-place-preserved c =
    let entry : Entry = c.in-Some.place.entry in
    c.in_ok-note.ensures
    ∙ (ap (λ (l : List Entry). l ++ (if is_callback entry then entry ∷ [] else [])) c.loop-place.invariant
    ∙ sym (told_more c.loop-place.yielded c.in-Some.place))
