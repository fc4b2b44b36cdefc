-- The command line: what its words say.
use Rattle.std.proofs.Common.{◌≡◌, ◌⊎◌, ◌∙◌, ℕ, Bool, Result, Ok, Err, true, false, List, [], ◌∷◌, Option, Some, None, is_some, refl, sym, ap, ap₂, subst, inl, inr, rules, codes}
use Rattle.std.specs.Prelude.{◌&&◌, Box, IsErrAnd, find, not, option_map, unwrap_or}
use Rattle.std.specs.Box.{box_value}
use Rattle.std.specs.List.{list_any}
use Rattle.std.specs.Option.{option_map_or}
use Rattle.std.specs.Str.{bytes_eq}
use Rattle.std.specs.Str.Parse.{ExplainsUnsignedError, HasUnsignedDigitsIfOk, ParsesUnsigned, digits_value, without_leading_plus}
use Rattle.clap.specs.Matches.{ReadsOne, first_value, one_text, subcommand_name_of}
use Rattle.clap.specs.Faults.{check_fault, defaults_fault, entered_fault, fault_of, is_simple_and_free, level_fault, settle_fault, walk_fault}
use Rattle.clap.specs.Kinds.{FailsBy, HasKind, Kinds, check_kinds, or_else}
use Rattle.clap.specs.Simple.{App, HasMatchesOf, Shape, argument_words, built, entered, label_of, names_of, is_simple, rows_at, subcommand_of, subcommand_rows, subcommand_rows_of}
use Rattle.clap.specs.Takes.{is_given}
use Rattle.clap.specs.Walk.{Held, Names, Row, Text, answers_to, finished, nothing_held, rows_of, settled, walk, walk_from}
use Rattle.clap.specs.declared.error.Error.{Error}
use Rattle.clap.specs.declared.parser.matches.ArgMatches.{ArgMatches}
use Rattle.clap.specs.declared.parser.matches.ArgMatches.TheViews.{out-ArgMatches, out-SubCommand}
use Rattle.clap.specs.declared.parser.matches.SubCommand.{SubCommand}
use Rattle.clap.specs.declared.parser.matches.Found.{Found}
use Rattle.clap.proofs.OnLiterals.{clap_on_literals}
use Rattle.clap.proofs.WalkLemmas.{first_value-rows, one_text-rows}
use Rattle.trace_io.specs.CommandLine.{grammar, number_in, is_set, task_named, task_of}
use Rattle.trace_io.specs.declared.words.Task.{Task}

-- a number that a getter reads is the number that the text says
pub number_read : (bits : ℕ) (t : List ℕ) (n : ℕ) (r : Option ℕ)
    → ReadsOne (λ bs r. ParsesUnsigned bits 10 bs r × ExplainsUnsignedError 10 bs r × HasUnsignedDigitsIfOk bs r) t r
    → r ≡ Some n → n ≡ digits_value 10 (without_leading_plus t)
number_read bits t n (Some m) read e = search rules
number_read bits t n None read e = cc

-- a word's number is the one that a getter read from the rows
pub word_read : (id : List ℕ) (bits : ℕ) (f : Found) (n : ℕ) (r : Option ℕ)
    → (one_text f id ≡ None → r ≡ None)
    → ((t : List ℕ) → one_text f id ≡ Some t
    → ReadsOne (λ bs r. ParsesUnsigned bits 10 bs r × ExplainsUnsignedError 10 bs r × HasUnsignedDigitsIfOk bs r) t r)
    → r ≡ Some n → number_in id (rows_of f) ≡ Some n
word_read id bits f n r none some e = by_text (one_text f id) refl
  where
    by_text : (o : Option (List ℕ)) → one_text f id ≡ o → number_in id (rows_of f) ≡ Some n
    by_text None at = let gone = none at in cc
    by_text (Some t) at =
        let row = sym (one_text-rows f id) ∙ at in
        ap (option_map (λ text. digits_value 10 (without_leading_plus text))) row ∙ ap Some (sym (number_read bits t n r (some t at) e))

-- clap reads the command line by its rules alone
is_read : is_simple grammar ≡ true
unfolding clap_on_literals
is_read = refl

is_judged : is_simple_and_free grammar ≡ true
unfolding clap_on_literals
is_judged = refl

-- words that were taken have no fault
pub without_fault : (a : App) (words : List Text) → a ≡ grammar
    → (is_simple_and_free a ≡ true → fault_of a words ≡ []) → fault_of grammar words ≡ []
without_fault a words same judged = subst (λ (b : App). fault_of b words ≡ []) same (judged (rw same is_judged))

-- words that were not taken have the fault that was found
pub with_fault : {T : Type 0} (a : App) (words : List Text) (e : Error) (r : Result T Error) → a ≡ grammar
    → (is_simple_and_free a ≡ true → HasKind (fault_of a words) e) → IsErrAnd r (λ y. y ≡ e) → FailsBy (fault_of grammar words) r
with_fault a words e (Ok x) same judged is = absurd is
with_fault a words e (Err y) same judged is =
    let has : HasKind (fault_of grammar words) e = subst (λ (b : App). HasKind (fault_of b words) e) same (judged (rw same is_judged)) in
    subst (HasKind (fault_of grammar words)) (sym is) has

-- the subcommand that was met is that of the words
pub met : (a : App) (words : List Text) (m : ArgMatches) → a ≡ grammar → HasMatchesOf a words m
    → subcommand_rows_of m ≡ subcommand_of grammar words
met a words m same read = (read (rw same is_read)).1 ∙ ap (λ (b : App). subcommand_of b words) same

-- what comes second is empty where all is
second_empty : (first second : Kinds) → or_else first second ≡ [] → second ≡ []
second_empty [] second e = e
second_empty (k ∷ ks) second e = cc

-- where one is wanted, words without fault have a subcommand
wanted : (s : Shape) (rows : List Row) (has : Bool) → s.subcommand_required ≡ true → s.arg_required_else_help ≡ false
    → check_fault s rows has ≡ [] → has ≡ true
wanted s rows true required plain e = refl
wanted s rows false required plain e =
    let asked : check_kinds false true (not false && list_any (λ a. a.required && not (is_given a.id rows)) s.rules) ≡ [] = rw (required, plain) at e in cc

level_wanted : (s : Shape) (names : Names) (h : Held) (words : List Text) (has : Bool) (below : Kinds)
    → s.subcommand_required ≡ true → s.arg_required_else_help ≡ false
    → level_fault s names h words has below ≡ [] → has ≡ true
level_wanted s names h words has below required plain e =
    let end = (walk s.rules names h words).held in
    let last = check_fault s (finished s.rules end) has in
    let defaults = defaults_fault (settled s.rules end).rows s.rules in
    let settle = settle_fault s.rules s.args_override_self end in
    wanted s (finished s.rules end) has required plain
    (second_empty defaults last
    (second_empty settle (or_else defaults last)
    (second_empty below (or_else settle (or_else defaults last))
    (second_empty (walk_fault s names (walk_from h) words) (or_else below (or_else settle (or_else defaults last))) e))))

pub has_subcommand_without_fault : (words : List Text) → fault_of grammar words ≡ [] → is_some (subcommand_of grammar words) ≡ true
has_subcommand_without_fault words e =
    let stop = (walk (built grammar).top.rules (names_of (built grammar)) nothing_held (argument_words grammar words)).stopped in
    level_wanted (built grammar).top (names_of (built grammar)) nothing_held (argument_words grammar words)
    (is_some (entered (built grammar) stop)) (entered_fault (built grammar) stop) refl refl e

-- a shape is one of some
abbrev pub IsOneOf : Shape → List Shape → Type 0
IsOneOf s [] = ⊥
IsOneOf s (x ∷ xs) = (s ≡ x) ⊎ IsOneOf s xs

-- a name is that of one of them
abbrev pub IsNamed : Text → List Shape → Type 0
IsNamed name [] = ⊥
IsNamed name (x ∷ xs) = (name ≡ x.name) ⊎ IsNamed name xs

-- the one that is found is one of them
found : (test : Shape → Bool) (xs : List Shape) (s : Shape) → find test xs ≡ Some s → IsOneOf s xs
found test [] s e = cc
found test (x ∷ xs) s e = by_first (test x) refl (found test xs s)
  where
    by_first : (t : Bool) → test x ≡ t → (find test xs ≡ Some s → IsOneOf s xs) → (s ≡ x) ⊎ IsOneOf s xs
    by_first true t further = let got : Some x ≡ Some s = rw t at e in inl (grind rules)
    by_first false t further = let got : find test xs ≡ Some s = rw t at e in inr (further got)

-- and has its name
has_name : (s : Shape) (xs : List Shape) → IsOneOf s xs → IsNamed s.name xs
has_name s [] one = one
has_name s (x ∷ xs) (inl first) = inl (ap (λ (t : Shape). t.name) first)
has_name s (x ∷ xs) (inr more) = inr (has_name s xs more)

-- the subcommand that words name is one of those of the grammar
pub one_of_all : (words : List Text) (named : Text × List Row) → subcommand_of grammar words ≡ Some named → IsNamed named.0 (built grammar).subs
one_of_all words named e = by_stop (walk (built grammar).top.rules (names_of (built grammar)) nothing_held (argument_words grammar words)).stopped e
  where
    by_found : (p : Text × List Text) (o : Option Shape) → find (λ s. answers_to p.0 (label_of s)) (built grammar).subs ≡ o
        → option_map (λ s. rows_at s p.1) o ≡ Some named → IsNamed named.0 (built grammar).subs
    by_found p None at same = cc
    by_found p (Some s) at same =
        let name : s.name ≡ named.0 = ap (λ (o : Option (Text × List Row)). unwrap_or (option_map (λ n. n.0) o) []) same in
        subst (λ n. IsNamed n (built grammar).subs) name (has_name s (built grammar).subs (found (λ s. answers_to p.0 (label_of s)) (built grammar).subs s at))

    by_stop : (o : Option (Text × List Text)) → entered (built grammar) o ≡ Some named → IsNamed named.0 (built grammar).subs
    by_stop None same = cc
    by_stop (Some p) same = by_found p (find (λ s. answers_to p.0 (label_of s)) (built grammar).subs) refl same

-- the name that was met is that of the rows
name_of_rows : {Z : Type 0} (o : Option (Box SubCommand Z)) → option_map (λ n. n.0) (subcommand_rows o)
    ≡ option_map (λ b. (out-SubCommand (box_value b)).name.now) o
name_of_rows None = refl
name_of_rows (Some b) = refl

-- words whose subcommand has this name, with these rows behind it, ask for the task that both say
pub asks_behind : (name : Text) (rows : List Row) (task : Task) → task_named name rows ≡ Some task → (words : List Text) (m : ArgMatches)
    → subcommand_rows_of m ≡ subcommand_of grammar words → subcommand_name_of m ≡ Some name
    → option_map (λ n. n.1) (subcommand_rows_of m) ≡ Some rows → task_of (subcommand_of grammar words) ≡ Some task
asks_behind name rows task says words m same called behind = by_rows (subcommand_rows_of m) refl
  where
    by_rows : (o : Option (Text × List Row)) → subcommand_rows_of m ≡ o → task_of (subcommand_of grammar words) ≡ Some task
    by_rows None at = let gone : None ≡ Some rows = rw at at behind in cc
    by_rows (Some named) at =
        let its_name : Some named.0 ≡ Some name = ap (option_map (λ n. n.0)) (sym at) ∙ name_of_rows (out-ArgMatches m).subcommand ∙ called in
        let is_name : named.0 ≡ name = ap (λ o. unwrap_or o []) its_name in
        let its_rows : named.1 ≡ rows = ap (λ o. unwrap_or o []) (ap (option_map (λ n. n.1)) (sym at) ∙ behind) in
        ap task_of (sym same ∙ at) ∙ ap₂ task_named is_name its_rows ∙ says

-- the flag that was read is that of the rows
pub flag_read : (f : Found) (id : Text) (o : Option Text) → o ≡ first_value f id → option_map_or (λ text. bytes_eq text (codes "true")) o false ≡ is_set id (rows_of f)
flag_read f id o read = ap (λ (x : Option Text). option_map_or (λ text. bytes_eq text (codes "true")) x false) (read ∙ first_value-rows f id)

-- words whose subcommand has this name ask for the task that the name alone says
pub asks_for : (name : Text) (task : Task) → ((rows : List Row) → task_named name rows ≡ Some task) → (words : List Text) (m : ArgMatches)
    → subcommand_rows_of m ≡ subcommand_of grammar words → subcommand_name_of m ≡ Some name
    → task_of (subcommand_of grammar words) ≡ Some task
asks_for name task says words m same is_name = by_rows (subcommand_rows_of m) refl
  where
    by_rows : (o : Option (Text × List Row)) → subcommand_rows_of m ≡ o → task_of (subcommand_of grammar words) ≡ Some task
    by_rows None at =
        let none : None ≡ Some name = ap (option_map (λ n. n.0)) (sym at) ∙ name_of_rows (out-ArgMatches m).subcommand ∙ is_name in cc
    by_rows (Some named) at =
        let its_name : Some named.0 ≡ Some name = ap (option_map (λ n. n.0)) (sym at) ∙ name_of_rows (out-ArgMatches m).subcommand ∙ is_name in
        let its : named.0 ≡ name = ap (λ o. unwrap_or o []) its_name in
        ap task_of (sym same ∙ at) ∙ (ap (λ (n : Text). task_named n named.1) its ∙ says named.1)

-- words without fault have one of the subcommands
pub has_one : (words : List Text) (m : ArgMatches) (task : Task) → subcommand_rows_of m ≡ subcommand_of grammar words
    → (subcommand_name_of m ≡ Some (codes "alone") → ⊥) → (subcommand_name_of m ≡ Some (codes "live") → ⊥) → (subcommand_name_of m ≡ Some (codes "left") → ⊥)
    → (subcommand_name_of m ≡ Some (codes "check") → ⊥) → (subcommand_name_of m ≡ Some (codes "draw") → ⊥) → (subcommand_name_of m ≡ Some (codes "capture") → ⊥)
    → (subcommand_name_of m ≡ Some (codes "devices") → ⊥) → (subcommand_name_of m ≡ Some (codes "explain") → ⊥) → (subcommand_name_of m ≡ Some (codes "test") → ⊥)
    → (subcommand_name_of m ≡ Some (codes "device") → ⊥) → (subcommand_name_of m ≡ Some (codes "describe") → ⊥) → (subcommand_name_of m ≡ Some (codes "run") → ⊥)
    → fault_of grammar words ≡ [] → task_of (subcommand_of grammar words) ≡ Some task
has_one words m task same no_alone no_live no_left no_check no_draw no_capture no_devices no_explain no_test no_device no_describe no_run clear = by_rows (subcommand_of grammar words) refl (has_subcommand_without_fault words clear)
  where
    name_is : (named : Text × List Row) (name : Text) → subcommand_of grammar words ≡ Some named → named.0 ≡ name → subcommand_name_of m ≡ Some name
    name_is named name at is = sym (name_of_rows (out-ArgMatches m).subcommand) ∙ ap (option_map (λ n. n.0)) (same ∙ at) ∙ ap Some is

    by_name : (named : Text × List Row) → subcommand_of grammar words ≡ Some named → IsNamed named.0 (built grammar).subs → ⊥
    by_name named at (inl run) = no_run (name_is named (codes "run") at run)
    by_name named at (inr (inl alone)) = no_alone (name_is named (codes "alone") at alone)
    by_name named at (inr (inr (inl live))) = no_live (name_is named (codes "live") at live)
    by_name named at (inr (inr (inr (inl left)))) = no_left (name_is named (codes "left") at left)
    by_name named at (inr (inr (inr (inr (inl check))))) = no_check (name_is named (codes "check") at check)
    by_name named at (inr (inr (inr (inr (inr (inl draw)))))) = no_draw (name_is named (codes "draw") at draw)
    by_name named at (inr (inr (inr (inr (inr (inr (inl capture))))))) = no_capture (name_is named (codes "capture") at capture)
    by_name named at (inr (inr (inr (inr (inr (inr (inr (inl devices)))))))) = no_devices (name_is named (codes "devices") at devices)
    by_name named at (inr (inr (inr (inr (inr (inr (inr (inr (inl explain))))))))) = no_explain (name_is named (codes "explain") at explain)
    by_name named at (inr (inr (inr (inr (inr (inr (inr (inr (inr (inl test)))))))))) = no_test (name_is named (codes "test") at test)
    by_name named at (inr (inr (inr (inr (inr (inr (inr (inr (inr (inr (inl device))))))))))) = no_device (name_is named (codes "device") at device)
    by_name named at (inr (inr (inr (inr (inr (inr (inr (inr (inr (inr (inr (inl describe)))))))))))) = no_describe (name_is named (codes "describe") at describe)
    by_name named at (inr (inr (inr (inr (inr (inr (inr (inr (inr (inr (inr (inr none)))))))))))) = none

    by_rows : (o : Option (Text × List Row)) → subcommand_of grammar words ≡ o → is_some o ≡ true → task_of (subcommand_of grammar words) ≡ Some task
    by_rows None at some = cc
    by_rows (Some named) at some = absurd (by_name named at (one_of_all words named at))
