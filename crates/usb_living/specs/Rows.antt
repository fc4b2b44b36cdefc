-- What is done to a core whose devices are fed, call by call in a row.
use Rattle.std.specs.Prelude.{◌≡◌, ℕ, List, [], ◌∷◌, ◌++◌}
use Rattle.usb_core.specs.Public.{FeedsWorld, ShowsWorld, State}
use Rattle.usb_model.specs.declared.entry.Entry.{Entry}
use Rattle.usb_model.specs.declared.response.Response.{Response}
use Rattle.usb_model.specs.declared.step.Step.{Step}
use Rattle.usb_model.specs.Setup.{Setup, endpoint_id}
use Rattle.usb_model.specs.World.{World, new_world, world_from}
use Rattle.usb_model.specs.World.Journal.{run_from, world_run}
use Rattle.refine_world.specs.Fed.{fed, fed_at}
use Rattle.refine_world.specs.Living.{GoesOn, More, world_with}
use Rattle.refine_world.specs.NoWants.{WantsNone}

-- a call made the steps that were to be made in its world; or it put an answer behind a script
pub data Deed : Type 0 where
  Made : (steps : Setup → World → List Step) → Deed
  Fed : (dev ep : ℕ) (a : Response) → Deed

-- the devices and the world behind it
abbrev pub setup_behind : Setup → Deed → Setup
setup_behind setup (Made steps) = setup
setup_behind setup (Fed dev ep a) = fed setup dev (endpoint_id ep) (a ∷ [])

abbrev pub world_behind : Setup → World → Deed → World
world_behind setup w (Made steps) = world_from setup w (steps setup w)
world_behind setup w (Fed dev ep a) = world_with (fed_at setup dev (endpoint_id ep) (a ∷ [])) w

-- the steps that it made, what it told of them, and what it put behind scripts
abbrev pub steps_of : Setup → World → Deed → List Step
steps_of setup w (Made steps) = steps setup w
steps_of setup w (Fed dev ep a) = []

abbrev pub more_of : Setup → Deed → More
more_of setup (Made steps) d ep = []
more_of setup (Fed dev e a) d ep = fed_at setup dev (endpoint_id e) (a ∷ []) d ep

-- the same of calls in a row
abbrev pub setup_in : Setup → List Deed → Setup
setup_in setup [] = setup
setup_in setup (x ∷ xs) = setup_in (setup_behind setup x) xs

abbrev pub steps_in : Setup → World → List Deed → List Step
steps_in setup w [] = []
steps_in setup w (x ∷ xs) = steps_of setup w x ++ steps_in (setup_behind setup x) (world_behind setup w x) xs

abbrev pub more_in : Setup → List Deed → More
more_in setup [] d ep = []
more_in setup (x ∷ xs) d ep = more_of setup x d ep ++ more_in (setup_behind setup x) xs d ep

abbrev pub entries_in : Setup → World → List Deed → List Entry
entries_in setup w [] = []
entries_in setup w (x ∷ xs) = run_from setup w (steps_of setup w x) ++ entries_in (setup_behind setup x) (world_behind setup w x) xs

-- each packet that is served has an answer: none of the steps wants for one
abbrev pub HasAnswers : Setup → World → List Deed → Type 0
HasAnswers setup w [] = Unit {0}
HasAnswers setup w (x ∷ xs) = WantsNone setup w (steps_of setup w x) × HasAnswers (setup_behind setup x) (world_behind setup w x) xs

-- parts before a call, and behind it
abbrev pub Does : {P : Type 0} → Deed → (s t : State P) → Type 0
Does (Made steps) s t = (setup : Setup) (w : World) → ShowsWorld setup s w → ShowsWorld setup t (world_from setup w (steps setup w))
Does (Fed dev ep a) s t = FeedsWorld s dev ep a t

-- and of calls in a row
abbrev pub Leads : {P : Type 0} → List Deed → (s t : State P) → Type 0
Leads [] s t = t ≡ s
Leads {P} (x ∷ xs) s t = (between : State P) × Does x s between × Leads xs between t

-- then all is as if the scripts had been known as they are at the end: the world that is shown, and what was told
pub record IsAsIfKnown {P : Type 0} (setup : Setup) (xs : List Deed) (t : State P) : Type 0 where
  pub goes_on : GoesOn setup (setup_in setup xs) (more_in setup xs)
  pub shows : ShowsWorld (setup_in setup xs) t (world_from (setup_in setup xs) (new_world (setup_in setup xs)) (steps_in setup (new_world setup) xs))
  pub told : entries_in setup (new_world setup) xs ≡ world_run (setup_in setup xs) (steps_in setup (new_world setup) xs)

abbrev pub RowsAreAsIfKnown : Type 0 → Type 0
RowsAreAsIfKnown P = (setup : Setup) (xs : List Deed) (s t : State P) → ShowsWorld setup s (new_world setup) → Leads xs s t → HasAnswers setup (new_world setup) xs → IsAsIfKnown setup xs t
