-- What is called back is what was made: each result goes out to its callback in order, with all that it has.
use Rattle.std.specs.Prelude.{◌≡◌, ℕ, ◌<◌, ◌==◌, List, [], ◌∷◌, ◌++◌, length, map, Option, Some, None, if◌then◌else◌}
use Rattle.std.specs.List.{AllByRecursion}
use Rattle.usb_model.specs.declared.reply.Returned.{Returned}
use Rattle.usb_model.specs.declared.step.Step.{Step}
use Rattle.usb_model.specs.declared.result.InCallback.{InCallback}
use Rattle.usb_model.specs.declared.result.TransferResult.{TransferResult}
use Rattle.usb_model.specs.Setup.{Setup}
use Rattle.usb_model.specs.Machine.{Effect}
use Rattle.usb_model.specs.Machine.Turns.{effect}
use Rattle.usb_model.specs.World.Shared.{pieces_of}
use Rattle.usb_model.specs.World.{World, new_world, machine_of, owner_of, is_blocked, turn, world_from}
use Rattle.usb_model.specs.World.Journal.{entries}
use Rattle.usb_model.specs.Laws.Places.{calls}

-- the results that a step of this name makes
abbrev pub made_by : Setup → ℕ → World → Step → List TransferResult
made_by setup g w step =
    let done : Effect = effect setup g (machine_of setup g w) step in
    if is_blocked setup g w done.change then [] else done.results

-- those of handle h, by the step's owner
abbrev pub made_of_turn : Setup → ℕ → World → Step → Option ℕ → List TransferResult
made_of_turn setup h w step None = []
made_of_turn setup h w step (Some g) = if g == h then made_by setup g w step else []

unfoldable pub made_from : Setup → ℕ → World → List Step → List TransferResult
made_from setup h w [] = []
made_from setup h w (step ∷ steps) = made_of_turn setup h w step (owner_of setup w step) ++ made_from setup h (turn setup w step).world steps

-- the results of a handle's transfers, as they were made over a whole run, in order
unfoldable pub made : Setup → List Step → ℕ → List TransferResult
made setup steps h = made_from setup h (new_world setup) steps

-- those that wait where the run ends
abbrev pub waiting : Setup → List Step → ℕ → List TransferResult
waiting setup steps h = pieces_of h (world_from setup (new_world setup) steps).results

-- what a callback of the handle is owed of a result
abbrev pub returned : ℕ → TransferResult → Returned
returned h r = record { h = h; n = r.n; ep = r.request.ep; round = r.round; status = r.status; actual = r.actual; bytes = r.bytes }

-- the results made are, in order, those that were called back, and then those that wait
abbrev pub CallsWhatWasMade : Setup → List Step → ℕ → Type 0
CallsWhatWasMade setup steps h = map (returned h) (made setup steps h) ≡ calls (entries setup steps h) ++ map (returned h) (waiting setup steps h)

-- a transfer in its callback: one of the first so many of these results has its number, its request, its round and its status
pub record IsOfCall (results : List TransferResult) (called : ℕ) (x : InCallback) : Type 0 where
  pub before : List TransferResult
  pub result : TransferResult
  pub behind : List TransferResult
  pub there : results ≡ before ++ result ∷ behind
  pub was_called : length before < called
  pub number : x.n ≡ result.n
  pub request : x.request ≡ result.request
  pub round : x.round ≡ result.round
  pub status : x.status ≡ result.status

-- each transfer that is in its callback where a run ends is of a result that was called back
abbrev pub CallbacksAreOfCalls : Setup → List Step → ℕ → Type 0
CallbacksAreOfCalls setup steps h =
    AllByRecursion (IsOfCall (made setup steps h) (length (calls (entries setup steps h)))) ((world_from setup (new_world setup) steps).names h).in_callbacks
