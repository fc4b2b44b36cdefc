-- A run of all steps, and one of a handle's own.
use Rattle.std.proofs.Common.{◌≡◌, ℕ, ◌+◌, ◌<◌, ◌≤◌, Bool, true, false, List, [], ◌∷◌, ◌++◌, drop, length, slice_index_or, refl, ap, sym, ◌∙◌, subst, append-nil, append_assoc}
use Rattle.std.specs.Prelude.{IfOk, Result, Ok, Err, if◌then◌else◌}
use Rattle.std.proofs.lemmas.List.{drop_all, drop_more}
use Rattle.usb_model.specs.declared.entry.Entry.{Entry}
use Rattle.usb_model.specs.declared.step.Step.{Step}
use Rattle.usb_model.specs.Setup.{Setup}
use Rattle.usb_model.specs.Machine.Turns.{alone}
use Rattle.usb_model.specs.World.{World, new_world, turn}
use Rattle.usb_model.specs.World.Journal.{entries, is_own, journal, journal_from, own, run_from, world_run}
use Rattle.proof_model.proofs.Handles.Isolation.{entries_from, entries_less, entries_more, own_from, own_less, own_more, sees_alone}
use Rattle.proof_model.proofs.Handles.Alone.{runs_alone}
use Rattle.usb_core.specs.Public.{ShowsWorld, State, TurnsWorld}
use Rattle.usb_plans.specs.declared.comparison.Comparison.{Comparison}
use Rattle.usb_plans.specs.declared.comparison.Part.{Part}
use Rattle.usb_plans.specs.Alone.{AreCalledInOrder, AreCalledOnce, IsNext, IsPart, MakesOwn, RunsPicked, Shares, ShowsSome, picked, place_of, with_own}
use Rattle.proof_model.proofs.Callbacks.{calls_once}
use Rattle.proof_model.proofs.Callbacks.{calls_in_order}

-- a run of its own steps gives what the handle's machine says alone
runs_as_alone : (setup : Setup) (steps : List Step) (h : ℕ) → world_run setup (own setup steps h) ≡ alone setup (own setup steps h) h
runs_as_alone setup steps h = runs_alone setup steps h ∙ sees_alone setup steps h

module _ (setup : Setup) (steps : List Step) (h : ℕ) where
  -- its entries are called once
  pub entries_once : (es : List Entry) → es ≡ entries setup steps h → AreCalledOnce es
  entries_once es are = subst AreCalledOnce (sym are) (calls_once setup steps h)

  -- and in order
  pub entries_in_order : (es : List Entry) → es ≡ entries setup steps h → AreCalledInOrder es
  entries_in_order es are = subst AreCalledInOrder (sym are) (calls_in_order setup steps h)

-- with one in front, where it is marked
abbrev pub with_first : {A : Type 0} → Bool → A → List A → List A
with_first mine x xs = if mine then x ∷ xs else xs

module _ {A : Type 0} where
  -- of the first and the rest
  pub picked_first : (mine : Bool) (marks : List Bool) (x : A) (xs : List A) → picked (mine ∷ marks) (x ∷ xs) ≡ with_first mine x (picked marks xs)
  unfolding picked
  picked_first mine marks x xs = refl

  -- with no marks none is picked
  pub picked_unmarked : (xs : List A) → picked [] xs ≡ []
  unfolding picked
  picked_unmarked xs = refl

  -- nor of none
  pub picked_none : (marks : List Bool) → ◌≡◌ {A = List A} (picked marks []) []
  unfolding picked
  picked_none [] = refl
  picked_none (mine ∷ marks) = refl

  -- by the next mark
  pub picked_next : (left more : List Bool) (mine : Bool) (x : A) (xs : List A) → IsNext left more mine → picked left (x ∷ xs) ≡ with_first mine x (picked more xs)
  unfolding picked
  picked_next [] more mine x xs (none, rest) = rw (none, rest) refl
  picked_next (mark ∷ marks) more mine x xs (is, rest) = rw (is, rest) refl

module _ {P : Type 0} (h : ℕ) (step : Step) (core core' : State P) (entry : Entry) (part : Part) (marks : List Bool) (mine : Bool) where
  -- a step of another was made
  pub shares_others : TurnsWorld core step entry core' → mine ≡ is_own h (place_of step entry) → mine ≡ false → marks ≡ part.own ++ mine ∷ [] → Shares h step core core' part (record { entries = part.entries; own = marks })
  shares_others turned tested others marked = (
    entry,
    turned,
    marked ∙ ap (λ b. part.own ++ b ∷ []) tested,
    sym (ap (λ b. with_own b (entry ∷ []) part.entries) (sym tested ∙ others)),
  )

  -- one of its own was
  pub shares_own : (es : List Entry) → TurnsWorld core step entry core' → mine ≡ is_own h (place_of step entry) → mine ≡ true → marks ≡ part.own ++ mine ∷ [] → es ≡ part.entries ++ entry ∷ [] → Shares h step core core' part (record { entries = es; own = marks })
  shares_own es turned tested owned marked pushed = (
    entry,
    turned,
    marked ∙ ap (λ b. part.own ++ b ∷ []) tested,
    pushed ∙ sym (ap (λ b. with_own b (entry ∷ []) part.entries) (sym tested ∙ owned)),
  )

-- what is left at a step
rest_is : (steps : List Step) (i : ℕ) (x : Step) → i < length steps → x ≡ slice_index_or steps i x → drop i steps ≡ x ∷ drop (i + 1) steps
rest_is steps i x within item = drop_more steps i x within ∙ ap (λ y. y ∷ drop (i + 1) steps) (sym item)

module _ {P : Type 0} (setup : Setup) (steps : List Step) (h : ℕ) where
  -- so many steps were made, and this is the handle's part of them
  pub record Amid (s : State P) (part : Part) (i : ℕ) : Type 0 where
    pub world : World
    pub shows : ShowsWorld setup s world
    pub told : part.entries ++ entries_from setup h world (drop i steps) ≡ entries setup steps h
    pub joins : (more : List Bool) → picked more (drop i steps) ≡ own_from setup h world (drop i steps) → picked (part.own ++ more) steps ≡ own setup steps h

  -- none was
  pub none_yet : (s : State P) → ShowsWorld setup s (new_world setup) → Amid s (record { entries = []; own = [] }) 0
  unfolding journal
  none_yet s shows = record { world = new_world setup; shows = shows; told = refl; joins = λ more is. is }

  -- one more
  pub one_more : (s s' : State P) (part part' : Part) (i : ℕ) (x : Step) → i < length steps → x ≡ slice_index_or steps i x → Amid s part i → Shares h x s s' part part' → Amid s' part' (i + 1)
  one_more s s' part part' i x within item a (entry, turned, marked, pushed) = record {
    world = (turn setup w x).world;
    shows = made.1;
    told = told_by (is_own h (place_of x entry)) refl pushed;
    joins = λ more is. ap (λ l. picked (l ++ more) steps) marked ∙ (ap (λ l. picked l steps) (append_assoc part.own (is_own h (place_of x entry) ∷ []) more) ∙ a.joins (is_own h (place_of x entry) ∷ more) (picks more (is_own h (place_of x entry)) refl is));
  }
    where
      w : World
      w = a.world

      made : (entry ≡ (turn setup w x).entry) × ShowsWorld setup s' (turn setup w x).world
      made = turned setup w a.shows

      rest : List Step
      rest = drop (i + 1) steps

      left_is : drop i steps ≡ x ∷ rest
      left_is = rest_is steps i x within item

      here : (mine : Bool) → is_own h (place_of x entry) ≡ mine → is_own h (place_of x (turn setup w x).entry) ≡ mine
      here mine e = sym (ap (λ k. is_own h (place_of x k)) made.0) ∙ e

      later : List Entry
      later = entries_from setup h (turn setup w x).world rest

      more_told : is_own h (place_of x entry) ≡ true → entries_from setup h w (drop i steps) ≡ entry ∷ later
      more_told e = ap (entries_from setup h w) left_is ∙ (entries_more setup h w x rest (here true e) ∙ ap (λ k. k ∷ later) (sym made.0))

      none_told : is_own h (place_of x entry) ≡ false → entries_from setup h w (drop i steps) ≡ later
      none_told e = ap (entries_from setup h w) left_is ∙ entries_less setup h w x rest (here false e)

      told_by : (mine : Bool) → is_own h (place_of x entry) ≡ mine → part'.entries ≡ with_own mine (entry ∷ []) part.entries → part'.entries ++ later ≡ entries setup steps h
      told_by true e is = ap (λ l. l ++ later) is ∙ (append_assoc part.entries (entry ∷ []) later ∙ (sym (ap (λ l. part.entries ++ l) (more_told e)) ∙ a.told))
      told_by false e is = ap (λ l. l ++ later) is ∙ (sym (ap (λ l. part.entries ++ l) (none_told e)) ∙ a.told)

      own_here : (mine : Bool) → is_own h (place_of x entry) ≡ mine → own_from setup h w (x ∷ rest) ≡ with_first mine x (own_from setup h (turn setup w x).world rest)
      own_here true e = own_more setup h w x rest (here true e)
      own_here false e = own_less setup h w x rest (here false e)

      picks : (more : List Bool) (mine : Bool) → is_own h (place_of x entry) ≡ mine → picked more rest ≡ own_from setup h (turn setup w x).world rest → picked (mine ∷ more) (drop i steps) ≡ own_from setup h w (drop i steps)
      picks more mine e is =
          ap (λ l. picked (mine ∷ more) l) left_is
          ∙ (picked_first mine more x rest
          ∙ (ap (λ l. with_first mine x l) is
          ∙ (sym (own_here mine e)
          ∙ sym (ap (own_from setup h w) left_is))))

  -- at the end it is the handle's part of all
  pub all_told : (s : State P) (part : Part) (i : ℕ) → length steps ≤ i → Amid s part i → IsPart setup steps h part × ShowsSome setup s
  unfolding journal_from
  all_told s part i past a = (
    record {
      told = sym (append-nil part.entries) ∙ (sym (ap (λ l. part.entries ++ entries_from setup h a.world l) none) ∙ a.told);
      steps_are = sym (ap (λ l. picked l steps) (append-nil part.own)) ∙ a.joins [] (picked_unmarked (drop i steps) ∙ sym (ap (own_from setup h a.world) none));
    },
    (a.world, a.shows),
  )
    where
      none : drop i steps ≡ []
      none = drop_all i steps past

-- the entries from a step on
run_more : (setup : Setup) (w : World) (x : Step) (xs : List Step) → run_from setup w (x ∷ xs) ≡ (turn setup w x).entry ∷ run_from setup (turn setup w x).world xs
unfolding journal_from
run_more setup w x xs = refl

module _ {P : Type 0} (setup : Setup) (steps : List Step) (marks : List Bool) where
  -- so many steps were gone through, and those that are marked were made, with these entries
  pub record Again (s : State P) (told : List Entry) (i : ℕ) (left : List Bool) : Type 0 where
    pub world : World
    pub shows : ShowsWorld setup s world
    pub run : told ++ run_from setup world (picked left (drop i steps)) ≡ world_run setup (picked marks steps)

  -- none was
  pub none_again : (s : State P) → ShowsWorld setup s (new_world setup) → Again s [] 0 marks
  unfolding journal
  none_again s shows = record { world = new_world setup; shows = shows; run = refl }

  -- one more
  pub one_again : (s s' : State P) (es fs : List Entry) (i : ℕ) (left more : List Bool) (mine : Bool) (x : Step) → i < length steps → x ≡ slice_index_or steps i x → Again s es i left → IsNext left more mine → MakesOwn mine x s s' es fs → Again s' fs (i + 1) more
  one_again s s' es fs i left more mine x within item a next makes = by_mine mine (ap (λ l. picked left l) (rest_is steps i x within item) ∙ picked_next left more mine x (drop (i + 1) steps) next) makes
    where
      w : World
      w = a.world

      rest : List Step
      rest = picked more (drop (i + 1) steps)

      by_mine : (b : Bool) → picked left (drop i steps) ≡ with_first b x rest → MakesOwn b x s s' es fs → Again s' fs (i + 1) more
      by_mine true is (entry, turned, pushed) = record { world = (turn setup w x).world; shows = made.1; run = ap (λ l. l ++ later) pushed ∙ (append_assoc es (entry ∷ []) later ∙ (sym (ap (λ l. es ++ l) split) ∙ a.run)) }
        where
          made : (entry ≡ (turn setup w x).entry) × ShowsWorld setup s' (turn setup w x).world
          made = turned setup w a.shows

          later : List Entry
          later = run_from setup (turn setup w x).world rest

          split : run_from setup w (picked left (drop i steps)) ≡ entry ∷ later
          split = ap (run_from setup w) is ∙ (run_more setup w x rest ∙ ap (λ k. k ∷ later) (sym made.0))
      by_mine false is (stays, same) = record {
        world = w;
        shows = subst (λ u. ShowsWorld setup u w) (sym stays) a.shows;
        run = ap (λ l. l ++ run_from setup w rest) same ∙ (sym (ap (λ l. es ++ run_from setup w l) is) ∙ a.run);
      }

  -- at the end these are all
  pub all_again : (s : State P) (es : List Entry) (i : ℕ) (left : List Bool) → length steps ≤ i → Again s es i left → es ≡ world_run setup (picked marks steps)
  unfolding journal_from
  all_again s es i left past a = sym (append-nil es) ∙ (sym (ap (λ l. es ++ run_from setup a.world l) none) ∙ a.run)
    where
      none : picked left (drop i steps) ≡ []
      none = ap (λ l. picked left l) (drop_all i steps past) ∙ picked_none left

-- what a core that shows the new world of these devices was told to run
pub ran : {P E : Type 0} (r : Result (List Entry) E) (setup : Setup) (steps : List Step) (marks : List Bool) (core : State P) → ShowsWorld setup core (new_world setup) → IfOk r (λ told. RunsPicked steps marks core told) → IfOk r (λ told. told ≡ world_run setup (picked marks steps))
ran (Ok told) setup steps marks core shows runs = runs setup shows
ran (Err e) setup steps marks core shows runs = tt

-- what holds of a handle's entries in both runs
pub record IsCompared (setup : Setup) (steps : List Step) (h : ℕ) (told : Comparison) : Type 0 where
  pub shared : told.shared ≡ entries setup steps h
  pub machine : told.alone ≡ alone setup (own setup steps h) h
  pub runs : told.alone ≡ world_run setup (own setup steps h)
  pub same : told.shared ≡ told.alone
  pub once : AreCalledOnce told.shared
  pub order : AreCalledInOrder told.shared

-- it holds of the handle's part of a run, and of a run of just these steps over devices that were handed back
pub compared : (setup back : Setup) (steps : List Step) (h : ℕ) (part : Part) (es : List Entry) → IsPart setup steps h part → back ≡ setup → es ≡ world_run back (picked part.own steps) → IsCompared setup steps h (record { shared = part.entries; alone = es })
compared setup back steps h part es its same_devices run = record {
  shared = its.told;
  machine = runs ∙ runs_as_alone setup steps h;
  runs = runs;
  same = its.told ∙ (sym (runs_alone setup steps h) ∙ sym runs);
  once = entries_once setup steps h part.entries its.told;
  order = entries_in_order setup steps h part.entries its.told;
}
  where
    runs : es ≡ world_run setup (own setup steps h)
    runs = run ∙ (ap (λ d. world_run d (picked part.own steps)) same_devices ∙ ap (world_run setup) its.steps_are)
