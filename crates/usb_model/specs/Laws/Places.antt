-- Each transfer of a handle is in one place: no transfer is lost, and none doubled.
use Rattle.std.specs.Prelude.{◌≡◌, ℕ, ◌+◌, ◌<◌, ◌≤◌, ◌==◌, false, List, [], ◌∷◌, map, Option, Some, None}
use Rattle.std.specs.List.{flat_map}
use Rattle.usb_model.specs.declared.entry.Entry.{Entry}
use Rattle.usb_model.specs.declared.reply.Reply.{Reply}
use Rattle.usb_model.specs.declared.reply.Reply.TheVariants.{Number, Called}
use Rattle.usb_model.specs.declared.reply.Returned.{Returned}
use Rattle.usb_model.specs.declared.step.Step.{Step}
use Rattle.usb_model.specs.declared.endpoint.Endpoint.{Endpoint}
use Rattle.usb_model.specs.Setup.{Setup}
use Rattle.usb_model.specs.Endpoint.{live_numbers}
use Rattle.usb_model.specs.Machine.{Machine, endpoint_at}
use Rattle.usb_model.specs.World.{new_world, machine_of, world_from}
use Rattle.usb_model.specs.World.Journal.{entries}
use Rattle.usb_model.specs.Laws.Cut.{times}

-- what the callback of an entry is given, where it is one
abbrev pub call_of : Reply → List Returned
call_of (Called r) = r ∷ []
call_of _ = []

-- the number that an entry gives
abbrev pub number_of : Reply → List ℕ
number_of (Number n) = n ∷ []
number_of _ = []

-- the calls among the entries, and the numbers given
unfoldable pub calls : List Entry → List Returned
calls xs = flat_map (λ x. call_of x.reply) xs

unfoldable pub numbers_given : List Entry → List ℕ
numbers_given xs = flat_map (λ x. number_of x.reply) xs

abbrev pub numbers_called : List Entry → List ℕ
numbers_called xs = map (λ r. r.n) (calls xs)

-- the numbers in progress at an endpoint that may be the handle's
abbrev pub numbers_at : Option Endpoint → List ℕ
numbers_at None = []
numbers_at (Some e) = live_numbers e.line

-- the number is in one place: in progress at one endpoint, in a result that waits, or called back; and in its callback at most once, after that
pub record InOnePlace (n : ℕ) (m : Machine) (called : List ℕ) : Type 0 where
  pub home : ℕ
  pub once : times n called + (times n (map (λ x. x.n) m.results) + times n (numbers_at (endpoint_at m home))) ≡ 1
  pub nowhere_else : (ep : ℕ) → (home == ep) ≡ false → times n (numbers_at (endpoint_at m ep)) ≡ 0
  pub in_callback : times n (map (λ x. x.n) m.handle.in_callbacks) ≤ times n called

-- the number is in no place
pub record InNoPlace (n : ℕ) (m : Machine) (called : List ℕ) : Type 0 where
  pub uncalled : times n called ≡ 0
  pub no_result : times n (map (λ x. x.n) m.results) ≡ 0
  pub not_in_progress : (ep : ℕ) → times n (numbers_at (endpoint_at m ep)) ≡ 0
  pub in_no_callback : times n (map (λ x. x.n) m.handle.in_callbacks) ≡ 0

-- where a run ends, each number below the handle's next is in one place, and each other in none
pub record KeepsPlaces (setup : Setup) (steps : List Step) (h : ℕ) : Type 0 where
  pub given : (n : ℕ) → n < (machine_of setup h (world_from setup (new_world setup) steps)).handle.next_number
      → InOnePlace n (machine_of setup h (world_from setup (new_world setup) steps)) (numbers_called (entries setup steps h))
  pub not_given : (n : ℕ) → (machine_of setup h (world_from setup (new_world setup) steps)).handle.next_number ≤ n
      → InNoPlace n (machine_of setup h (world_from setup (new_world setup) steps)) (numbers_called (entries setup steps h))
