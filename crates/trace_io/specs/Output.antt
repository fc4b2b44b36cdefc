-- What a check prints.
use Rattle.std.specs.Prelude.{◌≡◌, ◌++◌, ◌-◌, ◌==◌, ℕ, List, map, take, length, codes, Option, if◌then◌else◌}
use Rattle.std.specs.Fmt.{decimal}
use Rattle.std.specs.List.{flat_map}
use Rattle.std.specs.Io.KnownBytes.{Appends}
use Rattle.usb_model.specs.declared.entry.Entry.{Entry}
use Rattle.usb_model.specs.Text.{entry_text}
use Rattle.trace_scenario.specs.declared.findings.Counts.{Counts}
use Rattle.trace_scenario.specs.Counts.{counts_text}
use Rattle.usb_model.specs.World.Journal.{IsBeginning}

-- a beginning of the text is appended: all of it, or none, or some
abbrev pub AppendsSome : List ℕ → Option (List ℕ) → Option (List ℕ) → Type 0
AppendsSome text old new = (front : List ℕ) × IsBeginning front text × Appends old new front

-- the text is appended, all but this rest at its end
abbrev pub AppendsAllBut : List ℕ → List ℕ → Option (List ℕ) → Option (List ℕ) → Type 0
AppendsAllBut text rest old new = (front : List ℕ) × (text ≡ front ++ rest) × Appends old new front

-- the line of an entry
abbrev pub line_text : Entry → List ℕ
line_text entry = entry_text entry ++ codes "\n"

-- an entry behind a line: the line's number, the line, and the entry
abbrev pub behind_line : ℕ × List ℕ → Entry → List ℕ
behind_line line entry = decimal line.0 ++ (codes " " ++ (line.1 ++ (codes " | " ++ (entry_text entry ++ codes "\n"))))

-- the line of a bad line's number and a sentence
abbrev pub finding_text : ℕ × List ℕ → List ℕ
finding_text found = codes "line " ++ (decimal found.0 ++ (codes ": " ++ (found.1 ++ codes "\n")))

-- the last line
abbrev pub counts_line : Counts → List ℕ
counts_line counts = counts_text counts ++ codes "\n"

-- of how many bad lines a line is written at most
abbrev pub most_findings : ℕ
most_findings = 1000

-- what stands behind the lines of bad lines: how many more there are, if there are any, and the counts
abbrev pub last_lines : ℕ → Counts → List ℕ
last_lines more counts =
    if more == 0 then counts_line counts else codes "more bad lines: " ++ (decimal more ++ (codes "\n" ++ counts_line counts))

-- a line is written for each bad line of these numbers, in their order: its number, and a sentence
abbrev pub AppendsFindings : List ℕ → Option (List ℕ) → Option (List ℕ) → Type 0
AppendsFindings numbers old new =
    (found : List (ℕ × List ℕ)) × (map (λ f. f.0) found ≡ numbers) × Appends old new (flat_map finding_text found)

-- the same for the first of these numbers, as many as are told at most, and then the last lines
abbrev pub AppendsReport : List ℕ → Counts → Option (List ℕ) → Option (List ℕ) → Type 0
AppendsReport numbers counts old new =
    (found : List (ℕ × List ℕ)) × (map (λ f. f.0) found ≡ take most_findings numbers)
    × Appends old new (flat_map finding_text found ++ last_lines (length numbers - most_findings) counts)

-- a beginning of such lines is written
abbrev pub AppendsSomeFindings : List ℕ → Option (List ℕ) → Option (List ℕ) → Type 0
AppendsSomeFindings numbers old new =
    (found : List (ℕ × List ℕ)) × (map (λ f. f.0) found ≡ numbers) × AppendsSome (flat_map finding_text found) old new

-- a beginning of such a report is written
abbrev pub AppendsSomeReport : List ℕ → Counts → Option (List ℕ) → Option (List ℕ) → Type 0
AppendsSomeReport numbers counts old new =
    (found : List (ℕ × List ℕ)) × (map (λ f. f.0) found ≡ take most_findings numbers)
    × AppendsSome (flat_map finding_text found ++ last_lines (length numbers - most_findings) counts) old new
