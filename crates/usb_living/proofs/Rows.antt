-- Calls in a row, some of which feed devices, are as if the scripts had been known as they are at the end.
use Rattle.std.proofs.Common.{◌≡◌, ◌∙◌, List, [], ◌∷◌, ◌++◌, refl, sym, ap, ap₂, subst, map}
use Rattle.usb_model.specs.declared.entry.Entry.{Entry}
use Rattle.usb_model.specs.Setup.{Setup, endpoint_id}
use Rattle.usb_model.specs.World.{World, new_world, world_from}
use Rattle.usb_model.specs.World.Journal.{Place, journal_from, run_from}
use Rattle.usb_model.specs.World.Journal.{journal}
use Rattle.proof_model.proofs.Handles.Runs.{world_append}
use Rattle.proof_model.proofs.Handles.Runs.{run_append}
use Rattle.refine_world.specs.Living.{GoesOn, More, StaysWithin, world_with}
use Rattle.refine_world.specs.NoWants.{WantsNone}
use Rattle.refine_world.proofs.Fed.{fed_goes_on}
use Rattle.refine_world.proofs.Worlds.{new_same}
use Rattle.refine_world.proofs.Runs.{journal_same, world_same}
use Rattle.refine_world.proofs.Feeding.{goes_none, goes_twice, world_none, world_twice}
use Rattle.refine_world.proofs.NoWants.{stays_within}
use Rattle.refine_core.specs.State.{ShowsWorld, State}
use Rattle.usb_living.specs.Rows.{Deed, Does, Fed, HasAnswers, Leads, Made, RowsAreAsIfKnown, entries_in, more_in, more_of, setup_behind, setup_in, steps_in, steps_of, world_behind}

-- one call leaves scripts that go on
goes_on_by : (setup : Setup) (x : Deed) → GoesOn setup (setup_behind setup x) (more_of setup x)
goes_on_by setup (Made steps) = goes_none setup
goes_on_by setup (Fed dev ep a) = fed_goes_on setup dev (endpoint_id ep) (a ∷ [])

goes_on_in : (setup : Setup) (xs : List Deed) → GoesOn setup (setup_in setup xs) (more_in setup xs)
goes_on_in setup [] = goes_none setup
goes_on_in setup (x ∷ xs) = goes_twice setup (setup_behind setup x) (setup_in (setup_behind setup x) xs) (more_of setup x) (more_in (setup_behind setup x) xs) (goes_on_by setup x) (goes_on_in (setup_behind setup x) xs)

-- the world behind it, where all that is fed later is left too, is reached over the longest scripts
record IsReached (setup longest : Setup) (more rest : More) (w : World) (x : Deed) : Type 0 where
  world : world_from longest (world_with more w) (steps_of setup w x) ≡ world_with rest (world_behind setup w x)
  told : run_from longest (world_with more w) (steps_of setup w x) ≡ run_from setup w (steps_of setup w x)

reached : (setup longest : Setup) (rest : More) (w : World) (x : Deed) → GoesOn setup longest (λ d ep. more_of setup x d ep ++ rest d ep) → WantsNone setup w (steps_of setup w x)
    → IsReached setup longest (λ d ep. more_of setup x d ep ++ rest d ep) rest w x
unfolding world_from journal_from
reached setup longest rest w (Made steps) g none =
    let within : StaysWithin setup rest w (steps setup w) = stays_within setup rest w (steps setup w) none in
    record {
      world = world_same setup longest rest w (steps setup w) g within;
      told = ap (λ places. map (λ (p : Place). p.entry) places) (journal_same setup longest rest w (steps setup w) g within);
    }
reached setup longest rest w (Fed dev ep a) g none = record { world = world_twice (more_of setup (Fed dev ep a)) rest w; told = refl }

-- so the run over the longest scripts leads where the calls lead
record IsRun (setup : Setup) (w : World) (xs : List Deed) (ending : World) : Type 0 where
  world : world_from (setup_in setup xs) (world_with (more_in setup xs) w) (steps_in setup w xs) ≡ ending
  told : run_from (setup_in setup xs) (world_with (more_in setup xs) w) (steps_in setup w xs) ≡ entries_in setup w xs

abbrev world_in : Setup → World → List Deed → World
world_in setup w [] = w
world_in setup w (x ∷ xs) = world_in (setup_behind setup x) (world_behind setup w x) xs

behind_first : (setup : Setup) (w : World) (x : Deed) (xs : List Deed) → WantsNone setup w (steps_of setup w x)
    → IsRun (setup_behind setup x) (world_behind setup w x) xs (world_in (setup_behind setup x) (world_behind setup w x) xs) → IsRun setup w (x ∷ xs) (world_in setup w (x ∷ xs))
behind_first setup w x xs none rest =
    let next : Setup = setup_behind setup x in
    let behind : World = world_behind setup w x in
    let longest : Setup = setup_in next xs in
    let from : World = world_with (more_in setup (x ∷ xs)) w in
    let first : IsReached setup longest (more_in setup (x ∷ xs)) (more_in next xs) w x = reached setup longest (more_in next xs) w x (goes_on_in setup (x ∷ xs)) none in
    record {
      world =
          world_append longest from (steps_of setup w x) (steps_in next behind xs)
          ∙ ap (λ (v : World). world_from longest v (steps_in next behind xs)) first.world
          ∙ rest.world;
      told =
          run_append longest from (steps_of setup w x) (steps_in next behind xs)
          ∙ ap₂ (λ (es : List Entry) (v : World). es ++ run_from longest v (steps_in next behind xs)) first.told first.world
          ∙ ap (λ (es : List Entry). run_from setup w (steps_of setup w x) ++ es) rest.told;
    }

is_run : (setup : Setup) (w : World) (xs : List Deed) → HasAnswers setup w xs → IsRun setup w xs (world_in setup w xs)
unfolding world_from journal_from
is_run setup w [] answers = record { world = world_none w; told = refl }
is_run setup w (x ∷ xs) answers = behind_first setup w x xs answers.0 (is_run (setup_behind setup x) (world_behind setup w x) xs answers.1)

-- and the parts show that world
module _ {P : Type 0} where
  done : (setup : Setup) (w : World) (x : Deed) (s t : State P) → ShowsWorld setup s w → Does x s t → ShowsWorld (setup_behind setup x) t (world_behind setup w x)
  done setup w (Made steps) s t shows does = does setup w shows
  done setup w (Fed dev ep a) s t shows does = does setup w shows

  led : (setup : Setup) (w : World) (xs : List Deed) (s t : State P) → ShowsWorld setup s w → Leads xs s t → ShowsWorld (setup_in setup xs) t (world_in setup w xs)
  led setup w [] s t shows leads = subst (λ (u : State P). ShowsWorld setup u w) (sym leads) shows
  led setup w (x ∷ xs) s t shows leads = led (setup_behind setup x) (world_behind setup w x) xs leads.0 t (done setup w x s leads.0 shows leads.1) leads.2

pub rows_are_as_if_known : {P : Type 0} → RowsAreAsIfKnown P
unfolding journal
rows_are_as_if_known {P} setup xs s t shows leads answers =
    let goes_on : GoesOn setup (setup_in setup xs) (more_in setup xs) = goes_on_in setup xs in
    let begun : new_world (setup_in setup xs) ≡ world_with (more_in setup xs) (new_world setup) = new_same setup (setup_in setup xs) (more_in setup xs) goes_on in
    let run : IsRun setup (new_world setup) xs (world_in setup (new_world setup) xs) = is_run setup (new_world setup) xs answers in
    record {
      goes_on = goes_on;
      shows =
          subst (λ (w : World). ShowsWorld (setup_in setup xs) t w)
          (sym run.world ∙ ap (λ (w : World). world_from (setup_in setup xs) w (steps_in setup (new_world setup) xs)) (sym begun))
          (led setup (new_world setup) xs s t shows leads);
      told = sym run.told ∙ ap (λ (w : World). run_from (setup_in setup xs) w (steps_in setup (new_world setup) xs)) (sym begun);
    }
