-- What each word that reads a scenario comes to, by what its text stands for.
use Rattle.std.proofs.Common.{◌≡◌, ◌≤◌, ◌++◌, ℕ, Bool, List, [], length, Option, Result, Ok, Err, OnOk, IfOk, IfErr, inl, inr, refl, ap, subst, sym, ◌∙◌}
use Rattle.std.specs.Io.KnownBytes.{Appends, Keeps}
use Rattle.trace_explain.specs.declared.telling.Telling.{Telling}
use Rattle.trace_explain.specs.declared.telling.Telling.TheVariants.{Reasons}
use Rattle.trace_io.specs.Faults.{IfWide, IsOfPicture, IsOfRun}
use Rattle.trace_io.specs.Input.{longest_input}
use Rattle.trace_io.specs.Output.{AppendsSome}
use Rattle.trace_io.specs.declared.fault.Fault.{Fault}
use Rattle.trace_io.specs.declared.fault.Fault.TheVariants as why
use Rattle.trace_io.specs.declared.words.Task.{Task}
use Rattle.trace_io.specs.declared.words.Task.TheVariants.{Alone, Check, Draw, Explain, Packets, Page}
use Rattle.trace_run.specs.Tasks.{AppendsAny, alone_text}
use Rattle.trace_run.specs.declared.tasks.TaskEnd.{TaskEnd}
use Rattle.trace_run.specs.declared.tasks.TaskEnd.TheVariants.{Good, BadLines, NoDevices, Differs, Unexpected}
use Rattle.trace_scenario.specs.declared.scenario.Scenario.{Scenario}
use Rattle.trace_main.specs.Program.{Begins, BeginsEntries, BeginsPicture, IsBadLine, IsSilentAtBad, IsUntold, Performs, packets_text, packets_told, reasons_text, told_text}
use Rattle.trace_main.specs.Source.{OfSource, Source, Stands, scenario_in}
use Rattle.trace_main.proofs.Begun.{keeps_same}
use Rattle.trace_main.proofs.JudgedRuns.{begins_said, of_run, untold_ends}

-- nothing is written
pub silent_same : (text : List ℕ) (old : Option (List ℕ)) → IsSilentAtBad text old old
silent_same text old = inl (keeps_same old)

-- or a text stands for a scenario
pub silent_of : (text : List ℕ) (src : Source) (s : Scenario) (old new : Option (List ℕ)) → src.given ≡ text → Stands src → scenario_in src ≡ Ok s → IsSilentAtBad text old new
silent_of text src s old new given stands read = inr (src, given, stands, (s, read))

pub silent_told : (text : List ℕ) (src : Source) (P : Scenario → Type 0) (old new : Option (List ℕ)) → src.given ≡ text → Stands src → ((s : Scenario) × (scenario_in src ≡ Ok s) × P s)
    → IsSilentAtBad text old new
silent_told text src P old new given stands told = inr (src, given, stands, (told.0, told.1))

-- a bad line of what a text stands for
bad_of : (text : List ℕ) (src : Source) → src.given ≡ text → Stands src → (line : ℕ) → scenario_in src ≡ Err line → OfSource text (λ x. scenario_in x ≡ Err line)
bad_of text src given stands line bad = (src, given, stands, bad)

pub explain_untold : (text : List ℕ) (src : Source) (old : Option (List ℕ)) (fault : Fault) → src.given ≡ text → Stands src → IsUntold src fault → Performs Explain text [] old old (Err fault)
explain_untold text src old fault given stands is = untold_ends Explain text src old fault (bad_of text src given stands) is

pub packets_untold : (text : List ℕ) (src : Source) (steps : Bool) (old : Option (List ℕ)) (fault : Fault) → src.given ≡ text → Stands src → IsUntold src fault
    → Performs (Packets steps) text [] old old (Err fault)
packets_untold text src steps old fault given stands is = untold_ends (Packets steps) text src old fault (bad_of text src given stands) is

-- what is told of a scenario's run is written
pub explain_done : (text : List ℕ) (src : Source) (told bytes : List ℕ) (old new : Option (List ℕ)) → src.given ≡ text → Stands src → length text ≤ longest_input
    → ((s : Scenario) × (scenario_in src ≡ Ok s) × (told ≡ told_text Reasons src s)) → bytes ≡ told → Appends old new bytes → Performs Explain text [] old new (Ok Good)
explain_done text src told bytes old new given stands short is same put =
    (short, (src, given, stands, (is.0, is.1, (subst (λ (t : List ℕ). Appends old new t) is.2 (subst (λ (t : List ℕ). Appends old new t) same put), refl))))

pub packets_done : (text : List ℕ) (src : Source) (steps : Bool) (telling : Telling) (told bytes : List ℕ) (old new : Option (List ℕ)) → src.given ≡ text → Stands src → length text ≤ longest_input
    → telling ≡ packets_told steps → ((s : Scenario) × (scenario_in src ≡ Ok s) × (told ≡ told_text telling src s)) → bytes ≡ told → Appends old new bytes → Performs (Packets steps) text [] old new (Ok Good)
packets_done text src steps telling told bytes old new given stands short is_told is same put =
    let said : told ≡ packets_text steps src is.0 = is.2 ∙ ap (λ (t : Telling). told_text t src is.0) is_told in
    (short, (src, given, stands, (is.0, is.1, (subst (λ (t : List ℕ). Appends old new t) said (subst (λ (t : List ℕ). Appends old new t) same put), refl))))

-- or a beginning of it
pub explain_begun : (text : List ℕ) (src : Source) (told bytes : List ℕ) (old new : Option (List ℕ)) → src.given ≡ text → Stands src
    → ((s : Scenario) × (scenario_in src ≡ Ok s) × (told ≡ told_text Reasons src s)) → bytes ≡ told → AppendsSome bytes old new → Begins Explain text old new
explain_begun text src told bytes old new given stands is same some =
    begins_said reasons_text text src is.0 old new given stands is.1 (subst (λ (t : List ℕ). AppendsSome t old new) is.2 (subst (λ (t : List ℕ). AppendsSome t old new) same some))

pub packets_begun : (text : List ℕ) (src : Source) (steps : Bool) (telling : Telling) (told bytes : List ℕ) (old new : Option (List ℕ)) → src.given ≡ text → Stands src
    → telling ≡ packets_told steps → ((s : Scenario) × (scenario_in src ≡ Ok s) × (told ≡ told_text telling src s)) → bytes ≡ told → AppendsSome bytes old new → Begins (Packets steps) text old new
packets_begun text src steps telling told bytes old new given stands is_told is same some =
    let said : told ≡ packets_text steps src is.0 = is.2 ∙ ap (λ (t : Telling). told_text t src is.0) is_told in
    begins_said (packets_text steps) text src is.0 old new given stands is.1 (subst (λ (t : List ℕ). AppendsSome t old new) said (subst (λ (t : List ℕ). AppendsSome t old new) same some))

-- a handle alone
pub alone_ends : (text : List ℕ) (src : Source) (s : Scenario) (h : ℕ) (old new : Option (List ℕ)) (r : Result TaskEnd Fault) → src.given ≡ text → Stands src → scenario_in src ≡ Ok s
    → length text ≤ longest_input → OnOk r (Appends old new (alone_text h s)) → IfOk r (λ ending. ending ≡ Good) → IfErr r (λ fault. IsOfRun fault) → Performs (Alone h) text [] old new r
alone_ends text src s h old new (Ok Good) given stands read short put good fault = (short, (src, given, stands, (s, read, (put, refl))))
alone_ends text src s h old new (Ok BadLines) given stands read short put good fault = cc
alone_ends text src s h old new (Ok NoDevices) given stands read short put good fault = cc
alone_ends text src s h old new (Ok Differs) given stands read short put good fault = cc
alone_ends text src s h old new (Ok Unexpected) given stands read short put good fault = cc
alone_ends text src s h old new (Err fault) given stands read short put good is = of_run (Alone h) text old new fault is

pub alone_begun : (text : List ℕ) (src : Source) (s : Scenario) (h : ℕ) (old new : Option (List ℕ)) → src.given ≡ text → Stands src → scenario_in src ≡ Ok s
    → AppendsSome (alone_text h s) old new → Begins (Alone h) text old new
alone_begun text src s h old new given stands read some = begins_said (λ x. alone_text h) text src s old new given stands read some

-- a picture, or a page
pub picture_ends : (text : List ℕ) (src : Source) (s : Scenario) (from to : ℕ) (old new : Option (List ℕ)) (r : Result TaskEnd Fault) → src.given ≡ text → Stands src → scenario_in src ≡ Ok s
    → length text ≤ longest_input → AppendsAny old new → IfOk r (λ ending. ending ≡ Good) → IfErr r (λ fault. IsOfPicture fault) → IfErr r (λ fault. IfWide fault (λ steps. Keeps old new))
    → Performs (Draw from to) text [] old new r × Performs (Page from to) text [] old new r
picture_ends text src s from to old new (Ok Good) given stands read short put good fault silent =
    ((short, (src, given, stands, (s, read, (put, refl)))), (short, (src, given, stands, (s, read, (put, refl)))))
picture_ends text src s from to old new (Ok BadLines) given stands read short put good fault silent = absurd cc
picture_ends text src s from to old new (Ok NoDevices) given stands read short put good fault silent = absurd cc
picture_ends text src s from to old new (Ok Differs) given stands read short put good fault silent = absurd cc
picture_ends text src s from to old new (Ok Unexpected) given stands read short put good fault silent = absurd cc
picture_ends text src s from to old new (Err (why.Line line)) given stands read short put good fault silent = absurd fault
picture_ends text src s from to old new (Err why.Memory) given stands read short put good fault silent = (tt, tt)
picture_ends text src s from to old new (Err why.InputOutput) given stands read short put good fault silent = (tt, tt)
picture_ends text src s from to old new (Err why.Closed) given stands read short put good fault silent = (tt, tt)
picture_ends text src s from to old new (Err why.TooLong) given stands read short put good fault silent = absurd fault
picture_ends text src s from to old new (Err (why.Rounds rounds)) given stands read short put good fault silent = absurd fault
picture_ends text src s from to old new (Err (why.Wide steps)) given stands read short put good fault silent = ((fault, silent, tt), (fault, silent, tt))
picture_ends text src s from to old new (Err (why.Capture refused)) given stands read short put good fault silent = absurd fault
picture_ends text src s from to old new (Err (why.Descriptor refused)) given stands read short put good fault silent = absurd fault

pub picture_begun : (text : List ℕ) (src : Source) (s : Scenario) (from to : ℕ) (old new : Option (List ℕ)) → src.given ≡ text → Stands src → scenario_in src ≡ Ok s → AppendsAny old new
    → Begins (Draw from to) text old new × Begins (Page from to) text old new
picture_begun text src s from to old new given stands read put =
    let drawn = subst (λ (r : Result Scenario ℕ). BeginsPicture r old new) (sym read) put in
    (inr (src, given, stands, drawn), inr (src, given, stands, drawn))

-- a check of a text is one of the same text
pub check_of : (text given : List ℕ) (old new : Option (List ℕ)) (r : Result TaskEnd Fault) → given ≡ text → Performs Check given [] old new r → Performs Check text [] old new r
check_of text given old new r same ends = subst (λ (t : List ℕ). Performs Check t [] old new r) same ends

pub check_begun_of : (text given : List ℕ) (old new : Option (List ℕ)) → given ≡ text → Begins Check given old new → Begins Check text old new
check_begun_of text given old new same begun = subst (λ (t : List ℕ). Begins Check t old new) same begun
