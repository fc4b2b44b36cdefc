-- Printed lines, as far as they are written.
use Rattle.std.proofs.Common.{◌≡◌, ℕ, ◌+◌, ◌<◌, ◌≤◌, List, [], ◌∷◌, ◌++◌, length, take, drop, get_or, Option, Result, Err, Ok, sym, ◌∙◌, ap, subst, take-append-drop}
use Rattle.std.specs.Prelude.{OnErr}
use Rattle.std.specs.Io.KnownBytes.{Appends, Keeps}
use Rattle.std.proofs.lemmas.Grind.{flat_map-append}
use Rattle.std.proofs.lemmas.List.{flat_map_more, take_all, take_more}
use Rattle.usb_model.specs.declared.entry.Entry.{Entry}
use Rattle.usb_model.specs.Text.{lines_text}
use Rattle.usb_model.specs.World.Journal.{IsBeginning}
use Rattle.trace_io.specs.Output.{line_text, AppendsAllBut, AppendsSome}
use Rattle.trace_io.proofs.Beginnings.{gathered_further, some_behind, some_further, some_of_front, stays, whole}

-- the lines of the first entries, and of one more
lines_more : (entries : List Entry) (i : ℕ) (entry : Entry) → i < length entries → entry ≡ get_or entries i entry
    → lines_text (take (i + 1) entries) ≡ lines_text (take i entries) ++ line_text entry
lines_more entries i entry low here =
    ap lines_text (take_more entries i entry low ∙ ap (λ e. take i entries ++ e ∷ []) (sym here))
    ∙ sym (flat_map_more line_text [] (take i entries) entry)

-- the lines of the first entries stand in front of the others
lines_split : (entries : List Entry) (i : ℕ) → lines_text entries ≡ lines_text (take i entries) ++ lines_text (drop i entries)
lines_split entries i = ap lines_text (sym (take-append-drop i entries)) ∙ flat_map-append line_text (take i entries) (drop i entries)

-- one line more is gathered
pub line_gathered : (entries : List Entry) (i : ℕ) (entry : Entry) (rest left : List ℕ) (old mid new : Option (List ℕ)) → i < length entries → entry ≡ get_or entries i entry
    → AppendsAllBut (lines_text (take i entries)) rest old mid → AppendsAllBut (rest ++ line_text entry) left mid new
    → AppendsAllBut (lines_text (take (i + 1) entries)) left old new
line_gathered entries i entry rest left old mid new low here so_far more =
    subst (λ text. AppendsAllBut text left old new) (sym (lines_more entries i entry low here))
    (gathered_further (lines_text (take i entries)) rest (line_text entry) left old mid new so_far more)

-- no more was written than the lines so far, or a beginning of them
pub line_begun : (entries : List Entry) (i : ℕ) (entry : Entry) (rest : List ℕ) (old mid new : Option (List ℕ)) → i < length entries → entry ≡ get_or entries i entry
    → AppendsAllBut (lines_text (take i entries)) rest old mid → AppendsSome (rest ++ line_text entry) mid new → AppendsSome (lines_text entries) old new
line_begun entries i entry rest old mid new low here so_far some =
    some_of_front (lines_text entries) (lines_text (take (i + 1) entries)) (lines_text (drop (i + 1) entries)) old new (lines_split entries (i + 1))
    (subst (λ text. AppendsSome text old new) (sym (lines_more entries i entry low here))
    (some_further (lines_text (take i entries)) rest (line_text entry) old mid new so_far some))

-- of the last that were gathered a beginning is written
pub last_begun : (entries : List Entry) (i : ℕ) (rest : List ℕ) (old mid new : Option (List ℕ)) → length entries ≤ i
    → AppendsAllBut (lines_text (take i entries)) rest old mid → AppendsSome rest mid new → AppendsSome (lines_text entries) old new
last_begun entries i rest old mid new end so_far some =
    some_behind (lines_text entries) so_far.0 rest old mid new (ap lines_text (sym (take_all i entries end)) ∙ so_far.1) so_far.2 some

-- or all of them
pub last_written : (entries : List Entry) (i : ℕ) (rest : List ℕ) (old mid last new : Option (List ℕ)) → length entries ≤ i
    → AppendsAllBut (lines_text (take i entries)) rest old mid → Appends mid last rest → Keeps last new → Appends old new (lines_text entries)
last_written entries i rest old mid last new end so_far more same =
    stays old last new (lines_text entries)
    (subst (λ es. Appends old last (lines_text es)) (take_all i entries end) (whole (lines_text (take i entries)) rest old mid last so_far more)) same

-- what always holds, holds at an error
pub on_error : {T E P : Type 0} (r : Result T E) → P → OnErr r P
on_error (Ok x) p = tt
on_error (Err e) p = p

-- of the lines of some entries a beginning: it is one of the lines of all that begin with them
pub lines_begun : (front entries : List Entry) (old new : Option (List ℕ)) → IsBeginning front entries → AppendsSome (lines_text front) old new → AppendsSome (lines_text entries) old new
lines_begun front entries old new begins some =
    some_of_front (lines_text entries) (lines_text front) (lines_text begins.0) old new
    (ap lines_text begins.1 ∙ flat_map-append line_text front begins.0) some
