-- What a check prints, line by line.
use Rattle.std.proofs.Common.{◌≡◌, ℕ, ◌+◌, ◌-◌, ◌<◌, List, [], ◌∷◌, ◌++◌, length, take, drop, get_or, map, Option, refl, sym, ◌∙◌, ap, ap₂, take-append-drop}
use Rattle.std.specs.List.{flat_map}
use Rattle.std.specs.Io.KnownBytes.{Appends}
use Rattle.std.proofs.lemmas.Grind.{flat_map-append}
use Rattle.std.proofs.lemmas.List.{flat_map_more, map-append, take_more}
use Rattle.trace_scenario.specs.declared.findings.Counts.{Counts}
use Rattle.trace_scenario.specs.declared.findings.Finding.{Finding}
use Rattle.trace_io.specs.Output.{finding_text, last_lines, most_findings, AppendsFindings, AppendsReport, AppendsSome, AppendsSomeFindings, AppendsSomeReport}
use Rattle.trace_io.proofs.Beginnings.{all_of, joined, kept, none_yet, some_behind, some_of_front}

-- no line yet
pub no_findings : (old : Option (List ℕ)) → AppendsFindings [] old old
no_findings old = ([], refl, kept old)

-- the numbers of the lines so far, and of one more
numbers_more : (bad : List Finding) (i : ℕ) (finding : Finding) (sentence : List ℕ) (found : List (ℕ × List ℕ)) → i < length bad → finding ≡ get_or bad i finding
    → map (λ (f : ℕ × List ℕ). f.0) found ≡ map (λ (f : Finding). f.line) (take i bad)
    → map (λ (f : ℕ × List ℕ). f.0) (found ++ (finding.line, sentence) ∷ []) ≡ map (λ (f : Finding). f.line) (take (i + 1) bad)
numbers_more bad i finding sentence found low here same =
    map-append (λ (f : ℕ × List ℕ). f.0) found ((finding.line, sentence) ∷ [])
    ∙ ap (λ ns. ns ++ finding.line ∷ []) same
    ∙ sym (map-append (λ (f : Finding). f.line) (take i bad) (finding ∷ []))
    ∙ ap (map (λ (f : Finding). f.line)) (ap (λ f. take i bad ++ f ∷ []) here ∙ sym (take_more bad i finding low))

-- one line more
pub one_more : (bad : List Finding) (i : ℕ) (finding : Finding) (sentence : List ℕ) (old mid new : Option (List ℕ))
    → i < length bad → finding ≡ get_or bad i finding
    → AppendsFindings (map (λ (f : Finding). f.line) (take i bad)) old mid → Appends mid new (finding_text (finding.line, sentence))
    → AppendsFindings (map (λ (f : Finding). f.line) (take (i + 1) bad)) old new
one_more bad i finding sentence old mid new low here before line =
    let one : ℕ × List ℕ = (finding.line, sentence) in (
      before.0 ++ one ∷ [],
      numbers_more bad i finding sentence before.0 low here before.1,
      joined old mid new (flat_map finding_text before.0) (finding_text one) (flat_map finding_text (before.0 ++ one ∷ []))
          (sym (flat_map_more finding_text [] before.0 one)) before.2 line,
    )

-- lines of which nothing is said yet
unsaid : List Finding → List (ℕ × List ℕ)
unsaid bad = map (λ (f : Finding). (f.line, [])) bad

numbers_unsaid : (bad : List Finding) → map (λ (f : ℕ × List ℕ). f.0) (unsaid bad) ≡ map (λ (f : Finding). f.line) bad
unfolding unsaid
numbers_unsaid [] = refl
numbers_unsaid (f ∷ fs) = ap (λ ns. f.line ∷ ns) (numbers_unsaid fs)

-- of one line more a beginning
pub finding_begun : (bad : List Finding) (i : ℕ) (finding : Finding) (sentence : List ℕ) (old mid new : Option (List ℕ))
    → i < length bad → finding ≡ get_or bad i finding
    → AppendsFindings (map (λ (f : Finding). f.line) (take i bad)) old mid → AppendsSome (finding_text (finding.line, sentence)) mid new
    → AppendsSomeFindings (map (λ (f : Finding). f.line) bad) old new
finding_begun bad i finding sentence old mid new low here before line =
    let one : ℕ × List ℕ = (finding.line, sentence) in
    let found : List (ℕ × List ℕ) = before.0 ++ one ∷ [] in
    let rest : List (ℕ × List ℕ) = unsaid (drop (i + 1) bad) in (
      found ++ rest,
      map-append (λ (f : ℕ × List ℕ). f.0) found rest
          ∙ ap₂ (λ xs ys. xs ++ ys) (numbers_more bad i finding sentence before.0 low here before.1) (numbers_unsaid (drop (i + 1) bad))
          ∙ sym (map-append (λ (f : Finding). f.line) (take (i + 1) bad) (drop (i + 1) bad))
          ∙ ap (map (λ (f : Finding). f.line)) (take-append-drop (i + 1) bad),
      some_of_front (flat_map finding_text (found ++ rest)) (flat_map finding_text found) (flat_map finding_text rest) old new
          (flat_map-append finding_text found rest)
          (some_behind (flat_map finding_text found) (flat_map finding_text before.0) (finding_text one) old mid new
          (sym (flat_map_more finding_text [] before.0 one)) before.2 line),
    )

-- the lines, and then what stands behind them
pub report : (numbers : List ℕ) (counts : Counts) (old mid new : Option (List ℕ))
    → AppendsFindings (take most_findings numbers) old mid → Appends mid new (last_lines (length numbers - most_findings) counts) → AppendsReport numbers counts old new
report numbers counts old mid new before line =
    let last = last_lines (length numbers - most_findings) counts in
    (before.0, before.1, joined old mid new (flat_map finding_text before.0) last (flat_map finding_text before.0 ++ last) refl before.2 line)

-- a beginning of the lines is one of the report
pub findings_begun : (numbers : List ℕ) (counts : Counts) (old new : Option (List ℕ)) → AppendsSomeFindings (take most_findings numbers) old new
    → AppendsSomeReport numbers counts old new
findings_begun numbers counts old new some =
    let last = last_lines (length numbers - most_findings) counts in
    (some.0, some.1, some_of_front (flat_map finding_text some.0 ++ last) (flat_map finding_text some.0) last old new refl some.2)

-- the lines, and then a beginning of what stands behind them
pub last_begun : (numbers : List ℕ) (counts : Counts) (old mid new : Option (List ℕ))
    → AppendsFindings (take most_findings numbers) old mid → AppendsSome (last_lines (length numbers - most_findings) counts) mid new
    → AppendsSomeReport numbers counts old new
last_begun numbers counts old mid new before some =
    let last = last_lines (length numbers - most_findings) counts in
    (before.0, before.1, some_behind (flat_map finding_text before.0 ++ last) (flat_map finding_text before.0) last old mid new refl before.2 some)

-- the whole report
pub report_begun : (numbers : List ℕ) (counts : Counts) (old new : Option (List ℕ)) → AppendsReport numbers counts old new → AppendsSomeReport numbers counts old new
report_begun numbers counts old new written =
    (written.0, written.1, all_of (flat_map finding_text written.0 ++ last_lines (length numbers - most_findings) counts) old new written.2)

-- nothing is reported yet
pub no_report : (numbers : List ℕ) (counts : Counts) (old : Option (List ℕ)) → AppendsSomeReport numbers counts old old
no_report numbers counts old =
    let told = take most_findings numbers in
    (unworded told, numbers_unworded told, none_yet (flat_map finding_text (unworded told) ++ last_lines (length numbers - most_findings) counts) old)
  where
    unworded : List ℕ → List (ℕ × List ℕ)
    unworded ns = map (λ n. (n, [])) ns

    numbers_unworded : (ns : List ℕ) → map (λ (f : ℕ × List ℕ). f.0) (map (λ n. (n, [])) ns) ≡ ns
    numbers_unworded [] = refl
    numbers_unworded (n ∷ ns) = ap (λ xs. n ∷ xs) (numbers_unworded ns)
