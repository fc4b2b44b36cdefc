-- How far a run is, and what of it is written.
use Rattle.std.proofs.Common.{◌≡◌, ◌≢◌, ℕ, ◌+◌, ◌<◌, ◌≤◌, true, false, List, [], ◌∷◌, ◌++◌, length, map, slice_index_or, Option, Some, Result, Ok, Err, refl, sym, ◌∙◌, ap, subst, append_assoc, append-nil}
use Rattle.std.specs.Prelude.{IfOk, OnErr, OnOk, is_some}
use Rattle.std.specs.List.{AllByRecursion, count_by}
use Rattle.std.specs.Io.KnownBytes.{Appends}
use Rattle.std.proofs.lemmas.Grind.{flat_map-append}
use Rattle.usb_model.specs.declared.entry.Entry.{Entry}
use Rattle.usb_model.specs.declared.plan.Plan.{Plan}
use Rattle.usb_model.specs.declared.verdict.Rule.{Rule}
use Rattle.usb_model.specs.declared.verdict.Rule.TheVariants.{Free}
use Rattle.usb_model.specs.Setup.{Setup}
use Rattle.usb_model.specs.Text.{lines_text}
use Rattle.usb_model.specs.World.Journal.{IsBeginning}
use Rattle.usb_model.specs.World.Plans.{first_stage, is_submission}
use Rattle.usb_plans.specs.Alone.{AreLeft, StartsBoth, TwinState, alone_of, shared_of}
use Rattle.usb_plans.specs.Drives.{TakesNext}
use Rattle.usb_plans.specs.PlanRuns.{Performs, PlanState, ShowsStage, entries_of, is_verdict, of_option}
use Rattle.usb_plans.specs.declared.plan_run.Performed.{Performed}
use Rattle.usb_plans.proofs.BothRuns as both
use Rattle.usb_plans.proofs.BothRuns.{AreBeside}
use Rattle.usb_plans.proofs.Reached as reached
use Rattle.usb_plans.proofs.Reached.{Reached}
use Rattle.trace_io.specs.Output.{line_text, AppendsAllBut, AppendsSome}
use Rattle.trace_io.proofs.Beginnings.{gathered_further, kept, some_behind, some_further, some_of_front, whole}
use Rattle.trace_io.proofs.Printed.{lines_begun}
use Rattle.trace_run.specs.Printed.{BeginsOwnPiece, BeginsPiece, PrintsOwnPiece, PrintsPiece, PrintsTo, StartsPlan, own_entries, plan_entries}
use Rattle.trace_run.specs.declared.lines.Reach.{Reach}
use Rattle.trace_run.specs.declared.lines.Reach.TheVariants.{End, NoMemory}

-- no rule is Free
abbrev AreFixed : List Rule → Type 0
AreFixed rules = AllByRecursion (λ rule. rule ≢ Free) rules

-- the lines of some entries, and of more
lines_append : (xs ys : List Entry) → lines_text (xs ++ ys) ≡ lines_text xs ++ lines_text ys
lines_append xs ys = flat_map-append line_text xs ys

-- what holds where it went well holds so of what follows from it
pub ok_then : {T E P Q : Type 0} (r : Result T E) → (P → Q) → OnOk r P → OnOk r Q
ok_then (Ok x) f p = f p
ok_then (Err e) f p = tt

-- and where it failed
pub err_then : {T E P Q : Type 0} (r : Result T E) → (P → Q) → OnErr r P → OnErr r Q
err_then (Ok x) f p = tt
err_then (Err e) f p = f p

module _ {P : Type 0} (x : Performed P) (lines : List ℕ) (old mid new : Option (List ℕ)) where
  -- of a piece's first line a beginning is written
  pub first_begun : AppendsSome (lines ++ line_text x.entry) old new → AppendsSome (lines ++ lines_text (entries_of x)) old new
  first_begun some = some_of_front (lines ++ lines_text (entries_of x)) (lines ++ line_text x.entry) (lines_text (of_option x.stop)) old new (sym (append_assoc lines (line_text x.entry) (lines_text (of_option x.stop)))) some

  -- the lines of a piece whose resubmission was refused
  with_stop : (stop : Entry) → x.stop ≡ Some stop → lines ++ lines_text (entries_of x) ≡ (lines ++ line_text x.entry) ++ line_text stop
  with_stop stop some = ap (λ o. lines ++ (line_text x.entry ++ lines_text (of_option o))) some
      ∙ (ap (λ l. lines ++ (line_text x.entry ++ l)) (append-nil (line_text stop))
      ∙ sym (append_assoc lines (line_text x.entry) (line_text stop)))

  -- both are put
  pub both_put : (stop : Entry) (between left : List ℕ) → x.stop ≡ Some stop → AppendsAllBut (lines ++ line_text x.entry) between old mid → AppendsAllBut (between ++ line_text stop) left mid new
      → AppendsAllBut (lines ++ lines_text (entries_of x)) left old new
  both_put stop between left some first second = subst (λ text. AppendsAllBut text left old new) (sym (with_stop stop some)) (gathered_further (lines ++ line_text x.entry) between (line_text stop) left old mid new first second)

  -- of both a beginning is written
  pub both_begun : (stop : Entry) (between : List ℕ) → x.stop ≡ Some stop → AppendsAllBut (lines ++ line_text x.entry) between old mid → AppendsSome (between ++ line_text stop) mid new
      → AppendsSome (lines ++ lines_text (entries_of x)) old new
  both_begun stop between some first second = subst (λ text. AppendsSome text old new) (sym (with_stop stop some)) (some_further (lines ++ line_text x.entry) between (line_text stop) old mid new first second)

-- a piece was performed, and a beginning of its lines is written
pub begins_piece : {P : Type 0} (rule : P → Rule) (run run' : PlanState P) (piece : Plan) (callback : Option P) (x : Performed P) (lines : List ℕ) (old new : Option (List ℕ)) → Performs rule run piece callback (entries_of x) run'
    → AppendsSome (lines ++ lines_text (entries_of x)) old new → BeginsPiece rule lines_text run piece callback run' lines old new
begins_piece rule run run' piece callback x lines old new performs some = record { made = entries_of x; makes = performs; some = some }

-- old: what stood on the output before
module _ {P : Type 0} (rule : P → Rule) (setup : Setup) (plan : List Plan) (rules : List Rule) (old : Option (List ℕ)) where
  -- some pieces were performed, and these are to come; of the lines of their entries all but these are written
  pub record IsPrinted (v : PlanState P) (ahead : List Plan) (left : List P) (lines : List ℕ) (new : Option (List ℕ)) : Type 0 where
    pub entries : List Entry
    pub reached : Reached rule setup plan rules v entries ahead left
    pub appended : AppendsAllBut (lines_text entries) lines old new

  -- none was
  pub none_yet : (v : PlanState P) (ahead : List Plan) (left : List P) (lines : List ℕ) → ahead ≡ plan → ((rs : List Rule) → ShowsStage rule setup v (first_stage setup rs)) → rules ≡ map rule left → length left ≡ count_by is_submission plan
      → AllByRecursion (λ piece. is_verdict piece ≡ false) plan → lines ≡ [] → IsPrinted v ahead left lines old
  none_yet v ahead left lines same shows under enough none empty = record {
    entries = [];
    reached = reached.none_yet rule setup plan rules v ahead left same shows under enough none;
    appended = ([], sym empty, kept old);
  }

  -- a piece that submits has its callback
  pub has_callback : (v : PlanState P) (ahead beyond : List Plan) (left more : List P) (lines : List ℕ) (new : Option (List ℕ)) (piece : Plan) (callback : Option P) → ahead ≡ piece ∷ beyond → IsPrinted v ahead left lines new
      → TakesNext (is_submission piece) left more callback → is_submission piece ≡ true → is_some callback ≡ true
  has_callback v ahead beyond left more lines new piece callback comes p next = reached.has_callback rule setup plan rules v p.entries ahead beyond left more piece callback comes p.reached next

  -- and is no verdict
  pub is_no_verdict : (v : PlanState P) (ahead beyond : List Plan) (left : List P) (lines : List ℕ) (new : Option (List ℕ)) (piece : Plan) → ahead ≡ piece ∷ beyond → IsPrinted v ahead left lines new → is_verdict piece ≡ false
  is_no_verdict v ahead beyond left lines new piece comes p = reached.is_no_verdict rule setup plan rules v p.entries ahead beyond left piece comes p.reached

  -- one more was performed
  one_more : (v w : PlanState P) (ahead beyond : List Plan) (left more : List P) (piece : Plan) (callback : Option P) (before entries : List Entry) → ahead ≡ piece ∷ beyond → Reached rule setup plan rules v before ahead left
      → TakesNext (is_submission piece) left more callback → Performs rule v piece callback entries w → Reached rule setup plan rules w (before ++ entries) beyond more
  one_more v w ahead beyond left more piece callback before entries comes r next performs =
      reached.one_more rule setup plan rules v w before (before ++ entries) ahead beyond left more piece callback comes r next (entries, performs, refl)

  -- and its lines are put
  pub piece_printed : (v w : PlanState P) (ahead beyond : List Plan) (left more : List P) (lines gathered : List ℕ) (mid new : Option (List ℕ)) (piece : Plan) (callback : Option P) → ahead ≡ piece ∷ beyond → IsPrinted v ahead left lines mid
      → TakesNext (is_submission piece) left more callback → PrintsPiece rule lines_text End v piece callback w lines gathered mid new → IsPrinted w beyond more gathered new
  piece_printed v w ahead beyond left more lines gathered mid new piece callback comes p next q = record {
    entries = p.entries ++ q.made;
    reached = one_more v w ahead beyond left more piece callback p.entries q.made comes p.reached next q.makes;
    appended = subst (λ text. AppendsAllBut text gathered old new) (sym (lines_append p.entries q.made)) (gathered_further (lines_text p.entries) lines (lines_text q.made) gathered old mid new p.appended q.put);
  }

  -- what was performed is a beginning of the run
  begins : (v : PlanState P) (ahead : List Plan) (left : List P) (entries : List Entry) → AreFixed rules → Reached rule setup plan rules v entries ahead left → IsBeginning entries (plan_entries setup plan rules)
  begins v ahead left entries fixed r = reached.begins_fixed rule setup plan rules v entries ahead left r fixed

  -- of its lines a beginning is written
  pub piece_begun : (v w : PlanState P) (ahead beyond : List Plan) (left more : List P) (lines : List ℕ) (mid new : Option (List ℕ)) (piece : Plan) (callback : Option P) → AreFixed rules → ahead ≡ piece ∷ beyond → IsPrinted v ahead left lines mid
      → TakesNext (is_submission piece) left more callback → BeginsPiece rule lines_text v piece callback w lines mid new → AppendsSome (lines_text (plan_entries setup plan rules)) old new
  piece_begun v w ahead beyond left more lines mid new piece callback fixed comes p next q =
      lines_begun (p.entries ++ q.made) (plan_entries setup plan rules) old new
      (begins w beyond more (p.entries ++ q.made) fixed (one_more v w ahead beyond left more piece callback p.entries q.made comes p.reached next q.makes))
      (subst (λ text. AppendsSome text old new) (sym (lines_append p.entries q.made)) (some_further (lines_text p.entries) lines (lines_text q.made) old mid new p.appended q.some))

  -- of those that were gathered a beginning is written
  pub rest_begun : (v : PlanState P) (ahead : List Plan) (left : List P) (lines : List ℕ) (mid new : Option (List ℕ)) → AreFixed rules → IsPrinted v ahead left lines mid → AppendsSome lines mid new → AppendsSome (lines_text (plan_entries setup plan rules)) old new
  rest_begun v ahead left lines mid new fixed p some =
      lines_begun p.entries (plan_entries setup plan rules) old new (begins v ahead left p.entries fixed p.reached)
      (some_behind (lines_text p.entries) p.appended.0 lines old mid new p.appended.1 p.appended.2 some)

  -- all of them are, where a step found no memory
  pub stopped : (v : PlanState P) (ahead : List Plan) (left : List P) (lines : List ℕ) (mid new : Option (List ℕ)) → AreFixed rules → IsPrinted v ahead left lines mid → Appends mid new lines → PrintsTo NoMemory (plan_entries setup plan rules) old new
  stopped v ahead left lines mid new fixed p rest = (p.entries, begins v ahead left p.entries fixed p.reached, whole (lines_text p.entries) lines old mid new p.appended rest)

  -- and at the end of the plan
  pub all : (v : PlanState P) (ahead : List Plan) (left : List P) (lines : List ℕ) (mid new : Option (List ℕ)) → ahead ≡ [] → AreFixed rules → IsPrinted v ahead left lines mid → Appends mid new lines → PrintsTo End (plan_entries setup plan rules) old new
  all v ahead left lines mid new none fixed p rest =
      subst (λ es. Appends old new (lines_text es)) (reached.all_fixed rule setup plan rules v p.entries ahead left none p.reached fixed) (whole (lines_text p.entries) lines old mid new p.appended rest)

  -- what is written at the end of a run that came so far
  pub ended : (reach r : Reach) (v : PlanState P) (ahead : List Plan) (left : List P) (lines : List ℕ) (mid new : Option (List ℕ)) → r ≡ reach → (reach ≡ End → ahead ≡ []) → AreFixed rules → IsPrinted v ahead left lines mid → Appends mid new lines
      → PrintsTo r (plan_entries setup plan rules) old new
  ended reach r v ahead left lines mid new same none fixed p rest = subst (λ x. PrintsTo x (plan_entries setup plan rules) old new) (sym same) (by_reach reach none)
    where
      by_reach : (x : Reach) → (x ≡ End → ahead ≡ []) → PrintsTo x (plan_entries setup plan rules) old new
      by_reach End none = all v ahead left lines mid new (none refl) fixed p rest
      by_reach NoMemory none = stopped v ahead left lines mid new fixed p rest

module _ {P : Type 0} (rule : P → Rule) (setup : Setup) (plan : List Plan) (rules : List Rule) (h : ℕ) (old : Option (List ℕ)) where
  -- so many pieces were performed by two runs side by side; of the lines of what was told of the handle's own run all but these are written
  pub record IsPrintedAlone (v : TwinState P) (i : ℕ) (lines : List ℕ) (new : Option (List ℕ)) : Type 0 where
    pub shared : List Entry
    pub entries : List Entry
    pub beside : AreBeside rule setup plan rules h v shared entries i
    pub appended : AppendsAllBut (lines_text entries) lines old new

  -- none was
  pub none_yet_alone : (v : TwinState P) (lines : List ℕ) → StartsBoth rule setup plan rules v → lines ≡ [] → IsPrintedAlone v 0 lines old
  none_yet_alone v lines s empty = record {
    shared = [];
    entries = [];
    beside = both.none_yet rule setup plan rules h setup v.left v.its v s.begins refl s.under s.again s.fixed s.enough s.no_verdict;
    appended = ([], sym empty, kept old);
  }

  -- a piece is no verdict
  pub is_no_verdict_alone : (v : TwinState P) (i : ℕ) (lines : List ℕ) (new : Option (List ℕ)) (piece : Plan) → i < length plan → piece ≡ slice_index_or plan i piece → IsPrintedAlone v i lines new → is_verdict piece ≡ false
  is_no_verdict_alone v i lines new piece within item p = both.is_no_verdict rule setup plan rules h v p.shared p.entries i piece within item p.beside

  -- and where it submits, either run has a callback for it
  pub are_left : (v : TwinState P) (i : ℕ) (lines : List ℕ) (new : Option (List ℕ)) (piece : Plan) → i < length plan → piece ≡ slice_index_or plan i piece → IsPrintedAlone v i lines new → is_submission piece ≡ true → AreLeft v
  are_left v i lines new piece within item p = both.are_left rule setup plan rules h v p.shared p.entries i piece within item p.beside

  -- one more was performed, and its lines are put
  pub own_printed : (v w : TwinState P) (i : ℕ) (lines gathered : List ℕ) (mid new : Option (List ℕ)) (piece : Plan) → i < length plan → piece ≡ slice_index_or plan i piece → IsPrintedAlone v i lines mid
      → PrintsOwnPiece rule End h v piece w lines gathered mid new → IsPrintedAlone w (i + 1) gathered new
  own_printed v w i lines gathered mid new piece within item p q = record {
    shared = p.shared ++ shared_of q.made;
    entries = p.entries ++ alone_of q.made;
    beside = both.one_more rule setup plan rules h v w p.shared p.entries i piece q.made within item p.beside q.makes;
    appended = subst (λ text. AppendsAllBut text gathered old new) (sym (lines_append p.entries (alone_of q.made))) (gathered_further (lines_text p.entries) lines (lines_text (alone_of q.made)) gathered old mid new p.appended q.put);
  }

  -- of its lines a beginning is written
  pub own_begun : (v w : TwinState P) (i : ℕ) (lines : List ℕ) (mid new : Option (List ℕ)) (piece : Plan) → i < length plan → piece ≡ slice_index_or plan i piece → IsPrintedAlone v i lines mid
      → BeginsOwnPiece rule h v piece w lines mid new → AppendsSome (lines_text (own_entries setup plan rules h)) old new
  own_begun v w i lines mid new piece within item p q =
      lines_begun (p.entries ++ alone_of q.made) (own_entries setup plan rules h) old new
      (both.begins rule setup plan rules h w (p.shared ++ shared_of q.made) (p.entries ++ alone_of q.made) (i + 1) (both.one_more rule setup plan rules h v w p.shared p.entries i piece q.made within item p.beside q.makes))
      (subst (λ text. AppendsSome text old new) (sym (lines_append p.entries (alone_of q.made))) (some_further (lines_text p.entries) lines (lines_text (alone_of q.made)) old mid new p.appended q.some))

  -- of those that were gathered a beginning is written
  pub rest_begun_alone : (v : TwinState P) (i : ℕ) (lines : List ℕ) (mid new : Option (List ℕ)) → IsPrintedAlone v i lines mid → AppendsSome lines mid new → AppendsSome (lines_text (own_entries setup plan rules h)) old new
  rest_begun_alone v i lines mid new p some =
      lines_begun p.entries (own_entries setup plan rules h) old new (both.begins rule setup plan rules h v p.shared p.entries i p.beside)
      (some_behind (lines_text p.entries) p.appended.0 lines old mid new p.appended.1 p.appended.2 some)

  -- what is written at the end of runs that came so far
  pub ended_alone : (reach r : Reach) (v : TwinState P) (i : ℕ) (lines : List ℕ) (mid new : Option (List ℕ)) → r ≡ reach → (reach ≡ End → length plan ≤ i) → IsPrintedAlone v i lines mid → Appends mid new lines
      → PrintsTo r (own_entries setup plan rules h) old new
  ended_alone reach r v i lines mid new same past p rest = subst (λ x. PrintsTo x (own_entries setup plan rules h) old new) (sym same) (by_reach reach past)
    where
      written : Appends old new (lines_text p.entries)
      written = whole (lines_text p.entries) lines old mid new p.appended rest

      by_reach : (x : Reach) → (x ≡ End → length plan ≤ i) → PrintsTo x (own_entries setup plan rules h) old new
      by_reach End past = subst (λ es. Appends old new (lines_text es)) (both.all_alone rule setup plan rules h v p.shared p.entries i (past refl) p.beside) written
      by_reach NoMemory past = (p.entries, both.begins rule setup plan rules h v p.shared p.entries i p.beside, written)

-- a run that ended early didn't come to its end
no_end : NoMemory ≡ End → ⊥
no_end e = cc

module _ {P : Type 0} (rule : P → Rule) (plan : List Plan) (first : PlanState P) (callbacks : List P) (old : Option (List ℕ)) where
  -- so it is of whatever plan the run stood at the beginning of
  pub record IsPrintedFrom (v : PlanState P) (ahead : List Plan) (left : List P) (lines : List ℕ) (new : Option (List ℕ)) : Type 0 where
    pub printed : (setup : Setup) (rules : List Rule) → StartsPlan rule setup plan rules first callbacks → IsPrinted rule setup plan rules old v ahead left lines new

  pub from_start : (ahead : List Plan) (lines : List ℕ) → ahead ≡ plan → lines ≡ [] → IsPrintedFrom first ahead callbacks lines old
  from_start ahead lines same empty = record { printed = λ setup rules s. none_yet rule setup plan rules old first ahead callbacks lines same s.shows s.under s.enough s.no_verdict empty }

  pub from_more : (v w : PlanState P) (ahead beyond : List Plan) (left more : List P) (lines gathered : List ℕ) (mid new : Option (List ℕ)) (piece : Plan) (callback : Option P) → ahead ≡ piece ∷ beyond → IsPrintedFrom v ahead left lines mid
      → TakesNext (is_submission piece) left more callback → PrintsPiece rule lines_text End v piece callback w lines gathered mid new → IsPrintedFrom w beyond more gathered new
  from_more v w ahead beyond left more lines gathered mid new piece callback comes p next puts = record {
    printed = λ setup rules s. piece_printed rule setup plan rules old v w ahead beyond left more lines gathered mid new piece callback comes (p.printed setup rules s) next puts;
  }

  pub from_same : (v : PlanState P) (ahead : List Plan) (left : List P) (lines gathered : List ℕ) (mid new : Option (List ℕ)) → IsPrintedFrom v ahead left lines mid → (gathered ≡ lines) × (new ≡ mid) → IsPrintedFrom v ahead left gathered new
  from_same v ahead left lines gathered mid new p same = subst (λ l. IsPrintedFrom v ahead left l new) (sym same.0) (subst (λ o. IsPrintedFrom v ahead left lines o) (sym same.1) p)

  pub from_begun : (v w : PlanState P) (ahead beyond : List Plan) (left more : List P) (lines : List ℕ) (mid new : Option (List ℕ)) (piece : Plan) (callback : Option P) → ahead ≡ piece ∷ beyond → IsPrintedFrom v ahead left lines mid
      → TakesNext (is_submission piece) left more callback → BeginsPiece rule lines_text v piece callback w lines mid new
      → (setup : Setup) (rules : List Rule) → StartsPlan rule setup plan rules first callbacks → AppendsSome (lines_text (plan_entries setup plan rules)) old new
  from_begun v w ahead beyond left more lines mid new piece callback comes p next begun setup rules s =
      piece_begun rule setup plan rules old v w ahead beyond left more lines mid new piece callback s.fixed comes (p.printed setup rules s) next begun

  pub from_rest : (v : PlanState P) (ahead : List Plan) (left : List P) (lines : List ℕ) (mid new : Option (List ℕ)) → IsPrintedFrom v ahead left lines mid → AppendsSome lines mid new
      → (setup : Setup) (rules : List Rule) → StartsPlan rule setup plan rules first callbacks → AppendsSome (lines_text (plan_entries setup plan rules)) old new
  from_rest v ahead left lines mid new p some setup rules s = rest_begun rule setup plan rules old v ahead left lines mid new s.fixed (p.printed setup rules s) some

  from_ended : {E : Type 0} (reach : Reach) (r : Result Reach E) (v : PlanState P) (ahead : List Plan) (left : List P) (lines : List ℕ) (mid new : Option (List ℕ)) → (reach ≡ End → ahead ≡ []) → IsPrintedFrom v ahead left lines mid
      → IfOk r (λ x. x ≡ reach) → OnOk r (Appends mid new lines) → IfOk r (λ x. (setup : Setup) (rules : List Rule) → StartsPlan rule setup plan rules first callbacks → PrintsTo x (plan_entries setup plan rules) old new)
  from_ended reach (Ok x) v ahead left lines mid new none p same rest = λ setup rules s. ended rule setup plan rules old reach x v ahead left lines mid new same none s.fixed (p.printed setup rules s) rest
  from_ended reach (Err e) v ahead left lines mid new none p same rest = tt

  pub from_end : {E : Type 0} (r : Result Reach E) (v : PlanState P) (ahead : List Plan) (left : List P) (lines : List ℕ) (mid new : Option (List ℕ)) → ahead ≡ [] → IsPrintedFrom v ahead left lines mid
      → IfOk r (λ x. x ≡ End) → OnOk r (Appends mid new lines) → IfOk r (λ x. (setup : Setup) (rules : List Rule) → StartsPlan rule setup plan rules first callbacks → PrintsTo x (plan_entries setup plan rules) old new)
  from_end r v ahead left lines mid new none p same rest = from_ended End r v ahead left lines mid new (λ e. none) p same rest

  pub from_stop : {E : Type 0} (r : Result Reach E) (v : PlanState P) (ahead : List Plan) (left : List P) (lines : List ℕ) (mid new : Option (List ℕ)) → IsPrintedFrom v ahead left lines mid
      → IfOk r (λ x. x ≡ NoMemory) → OnOk r (Appends mid new lines) → IfOk r (λ x. (setup : Setup) (rules : List Rule) → StartsPlan rule setup plan rules first callbacks → PrintsTo x (plan_entries setup plan rules) old new)
  from_stop r v ahead left lines mid new p same rest = from_ended NoMemory r v ahead left lines mid new (λ e. absurd (no_end e)) p same rest

  -- what is said of any plan holds of that one
  pub of_plan : {E : Type 0} (r : Result Reach E) (new : Option (List ℕ)) (setup : Setup) (rules : List Rule) → StartsPlan rule setup plan rules first callbacks
      → IfOk r (λ x. (setup : Setup) (rules : List Rule) → StartsPlan rule setup plan rules first callbacks → PrintsTo x (plan_entries setup plan rules) old new) → IfOk r (λ x. PrintsTo x (plan_entries setup plan rules) old new)
  of_plan (Ok x) new setup rules s said = said setup rules s
  of_plan (Err e) new setup rules s said = tt

module _ {P : Type 0} (rule : P → Rule) (plan : List Plan) (h : ℕ) (first : TwinState P) (old : Option (List ℕ)) where
  -- the same of two runs
  pub record AreFrom (v : TwinState P) (i : ℕ) (lines : List ℕ) (new : Option (List ℕ)) : Type 0 where
    pub printed : (setup : Setup) (rules : List Rule) → StartsBoth rule setup plan rules first → IsPrintedAlone rule setup plan rules h old v i lines new

  pub both_start : (lines : List ℕ) → lines ≡ [] → AreFrom first 0 lines old
  both_start lines empty = record { printed = λ setup rules s. none_yet_alone rule setup plan rules h old first lines s empty }

  pub both_more : (v w : TwinState P) (i : ℕ) (lines gathered : List ℕ) (mid new : Option (List ℕ)) (piece : Plan) → i < length plan → piece ≡ slice_index_or plan i piece → AreFrom v i lines mid
      → PrintsOwnPiece rule End h v piece w lines gathered mid new → AreFrom w (i + 1) gathered new
  both_more v w i lines gathered mid new piece within item p puts = record {
    printed = λ setup rules s. own_printed rule setup plan rules h old v w i lines gathered mid new piece within item (p.printed setup rules s) puts;
  }

  pub both_same : (v : TwinState P) (i : ℕ) (lines gathered : List ℕ) (mid new : Option (List ℕ)) → AreFrom v i lines mid → (gathered ≡ lines) × (new ≡ mid) → AreFrom v i gathered new
  both_same v i lines gathered mid new p same = subst (λ l. AreFrom v i l new) (sym same.0) (subst (λ o. AreFrom v i lines o) (sym same.1) p)

  pub both_piece_begun : (v w : TwinState P) (i : ℕ) (lines : List ℕ) (mid new : Option (List ℕ)) (piece : Plan) → i < length plan → piece ≡ slice_index_or plan i piece → AreFrom v i lines mid
      → BeginsOwnPiece rule h v piece w lines mid new → (setup : Setup) (rules : List Rule) → StartsBoth rule setup plan rules first → AppendsSome (lines_text (own_entries setup plan rules h)) old new
  both_piece_begun v w i lines mid new piece within item p begun setup rules s = own_begun rule setup plan rules h old v w i lines mid new piece within item (p.printed setup rules s) begun

  pub both_rest : (v : TwinState P) (i : ℕ) (lines : List ℕ) (mid new : Option (List ℕ)) → AreFrom v i lines mid → AppendsSome lines mid new
      → (setup : Setup) (rules : List Rule) → StartsBoth rule setup plan rules first → AppendsSome (lines_text (own_entries setup plan rules h)) old new
  both_rest v i lines mid new p some setup rules s = rest_begun_alone rule setup plan rules h old v i lines mid new (p.printed setup rules s) some

  both_ended : {E : Type 0} (reach : Reach) (r : Result Reach E) (v : TwinState P) (i : ℕ) (lines : List ℕ) (mid new : Option (List ℕ)) → (reach ≡ End → length plan ≤ i) → AreFrom v i lines mid
      → IfOk r (λ x. x ≡ reach) → OnOk r (Appends mid new lines) → IfOk r (λ x. (setup : Setup) (rules : List Rule) → StartsBoth rule setup plan rules first → PrintsTo x (own_entries setup plan rules h) old new)
  both_ended reach (Ok x) v i lines mid new past p same rest = λ setup rules s. ended_alone rule setup plan rules h old reach x v i lines mid new same past (p.printed setup rules s) rest
  both_ended reach (Err e) v i lines mid new past p same rest = tt

  pub both_end : {E : Type 0} (r : Result Reach E) (v : TwinState P) (i : ℕ) (lines : List ℕ) (mid new : Option (List ℕ)) → length plan ≤ i → AreFrom v i lines mid
      → IfOk r (λ x. x ≡ End) → OnOk r (Appends mid new lines) → IfOk r (λ x. (setup : Setup) (rules : List Rule) → StartsBoth rule setup plan rules first → PrintsTo x (own_entries setup plan rules h) old new)
  both_end r v i lines mid new past p same rest = both_ended End r v i lines mid new (λ e. past) p same rest

  pub both_stop : {E : Type 0} (r : Result Reach E) (v : TwinState P) (i : ℕ) (lines : List ℕ) (mid new : Option (List ℕ)) → AreFrom v i lines mid
      → IfOk r (λ x. x ≡ NoMemory) → OnOk r (Appends mid new lines) → IfOk r (λ x. (setup : Setup) (rules : List Rule) → StartsBoth rule setup plan rules first → PrintsTo x (own_entries setup plan rules h) old new)
  both_stop r v i lines mid new p same rest = both_ended NoMemory r v i lines mid new (λ e. absurd (no_end e)) p same rest

  pub of_both : {E : Type 0} (r : Result Reach E) (new : Option (List ℕ)) (setup : Setup) (rules : List Rule) → StartsBoth rule setup plan rules first
      → IfOk r (λ x. (setup : Setup) (rules : List Rule) → StartsBoth rule setup plan rules first → PrintsTo x (own_entries setup plan rules h) old new) → IfOk r (λ x. PrintsTo x (own_entries setup plan rules h) old new)
  of_both (Ok x) new setup rules s said = said setup rules s
  of_both (Err e) new setup rules s said = tt

-- a run that was made stands at the beginning of its plan
pub starts_plan : {P : Type 0} (rule : P → Rule) (setup : Setup) (plan : List Plan) (callbacks left : List P) (v : PlanState P) → ((rs : List Rule) → ShowsStage rule setup v (first_stage setup rs)) → left ≡ callbacks
    → length callbacks ≡ count_by is_submission plan → AreFixed (map rule callbacks) → AllByRecursion (λ piece. is_verdict piece ≡ false) plan → StartsPlan rule setup plan (map rule callbacks) v left
starts_plan rule setup plan callbacks left v shows same enough fixed none = record {
  shows = shows;
  under = ap (map rule) (sym same);
  enough = ap length same ∙ enough;
  fixed = fixed;
  no_verdict = none;
}
