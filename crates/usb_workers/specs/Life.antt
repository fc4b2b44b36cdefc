-- What a library that lived leaves.
use Rattle.std.specs.Prelude.{◌≡◌, ◌≤◌, ◌==◌, ℕ, Bool, true, false, List, [], ◌∷◌, All, count_by, length, map, ⊤}
use Rattle.std.specs.List.{list_all, sum_by}
use Rattle.usb_model.specs.declared.reply.Returned.{Returned}
use Rattle.usb_model.specs.declared.verdict.Verdict.{Verdict}
use Rattle.usb_model.specs.Setup.{Setup}
use Rattle.usb_core.specs.Public.{ShowsWorld, State}
use Rattle.usb_recorder.specs.declared.place.Place.{Place}
use Rattle.usb_journal.specs.Booked.{IsRun, world_where}
use Rattle.usb_library.specs.Calls.{Calling, IsAtRest, Knows, LacksEvents, LacksWork, ShowsEvents, ShowsPending}
use Rattle.usb_workers.specs.Rounds.{Controls, Handles, HasEnded, Rounds}

-- the entries of a journal are those of the definitions' run of its steps over these devices; it is what a recorder kept, and has so many places; and the core shows the world where the run ends
pub record KeepsRun {J P : Type 0} (stands : J → List Place → Type 0) (setup : Setup) (journal : List Place) (kept : J) (places : ℕ) (core : State P) : Type 0 where
  pub run : IsRun setup journal
  pub is_kept : stands kept journal
  pub are_counted : places ≡ length journal
  pub is_shown : ShowsWorld setup core (world_where setup journal)

-- each of one list stands so to that of the other at its place, and both are as long
unfoldable pub Each : {A B : Type 0} → (A → B → Type 0) → List A → List B → Type 0
Each R [] [] = ⊤
Each R (x ∷ xs) (y ∷ ys) = R x y × Each R xs ys
Each R [] (y ∷ ys) = ⊥
Each R (x ∷ xs) [] = ⊥

-- what a caller made from when it had no places
abbrev pub Made : (Calling → Calling → Type 0) → Calling → Type 0
Made Act last = (first : Calling) × (first.own ≡ []) × Act first last

-- the controller's worker, to its end: look by look, until nothing of its part was left, or it gave up
pub record ControlsAll (setup : Setup) (old new : Calling) : Type 0 where
  pub rounds : Rounds (ShowsPending setup) (Controls setup) old new
  pub ended : HasEnded (LacksWork setup) new

-- the worker that handles events, likewise
pub record HandlesAll (setup : Setup) (may : Calling → Returned → Verdict → Type 0) (old new : Calling) : Type 0 where
  pub rounds : Rounds (ShowsEvents setup) (Handles setup may) old new
  pub ended : HasEnded (LacksEvents setup) new

-- whether the run of a journal ended at rest is what is told
pub record TellsRest (setup : Setup) (journal : List Place) (told : Bool) : Type 0 where
  pub rests : told ≡ true → IsAtRest setup (world_where setup journal)
  pub shown : IsAtRest setup (world_where setup journal) → told ≡ true

-- a caller, and what the driver left that made its calls
pub record Returns (X : Type 0) : Type 0 where
  pub caller : Calling
  pub left : X

-- what a driver may make, and leave
abbrev pub Drives : {T X : Type 0} → (T → Setup → Calling → Calling → X → Type 0) → Setup → T → Returns X → Type 0
Drives makes setup driver home = Made (λ old new. makes driver setup old new home.left) home.caller

-- all places of a journal are these callers': each knows the journal, no two have one number, and together they have as many places
pub record AreAll (journal : List Place) (callers : List Calling) : Type 0 where
  pub knows : All (Knows journal) callers
  pub numbers : (n : ℕ) → count_by (λ c. c.number == n) callers ≤ 1
  pub counted : length journal ≡ sum_by (λ c. length c.own) callers

-- who made the places of a journal: the controller's worker what its looks showed, until nothing of its part was left; the worker that handles events likewise; and each driver what it may make; and nobody else. lacked: whether memory may have been refused to one of them
pub record LivedBy {T X : Type 0} (may : Calling → Returned → Verdict → Type 0) (makes : T → Setup → Calling → Calling → X → Type 0) (setup : Setup) (journal : List Place) (drivers : List T) (left : List X) (lacked : Bool) : Type 0 where
  pub controller : Calling
  pub events : Calling
  pub homes : List (Returns X)
  pub controls : Made (ControlsAll setup) controller
  pub handles : Made (HandlesAll setup may) events
  pub drives : Each (Drives makes setup) drivers homes
  pub leaves : left ≡ map (λ h. h.left) homes
  pub all : AreAll journal (controller ∷ events ∷ map (λ h. h.caller) homes)
  pub lacks : lacked ≡ false → list_all (λ c. c.missed == 0) (controller ∷ events ∷ map (λ h. h.caller) homes) ≡ true
