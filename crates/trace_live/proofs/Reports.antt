-- One place more of a journal, and what its callback was told.
use Rattle.std.proofs.Common.{◌≡◌, ◌∙◌, List, [], ◌∷◌, ◌++◌, filter, ap, if◌then◌else◌}
use Rattle.std.proofs.lemmas.List.{map-append}
use Rattle.std.proofs.lemmas.List.Elements.{filter-append}
use Rattle.usb_recorder.specs.declared.place.Place.{Place}
use Rattle.usb_journal.specs.Booked.{entries_of}
use Rattle.trace_threads.specs.Callbacks.{is_callback}

pub told_more : (ys : List Place) (y : Place) → filter is_callback (entries_of (ys ++ y ∷ []))
    ≡ filter is_callback (entries_of ys) ++ (if is_callback y.entry then y.entry ∷ [] else [])
told_more ys y =
    ap (filter is_callback) (map-append (λ (p : Place). p.entry) ys (y ∷ []))
    ∙ filter-append is_callback (entries_of ys) (y.entry ∷ [])
