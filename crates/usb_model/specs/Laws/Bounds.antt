-- Bounds of what waits for one endpoint, and of how often a transfer was submitted before, where any run ends.
use Rattle.std.specs.Prelude.{ℕ, ◌+◌, ◌≤◌, List, [], length, Option, Some, None}
use Rattle.std.specs.List.{AllByRecursion, count_by}
use Rattle.usb_model.specs.declared.step.Step.{Step}
use Rattle.usb_model.specs.declared.item.Item.{Item}
use Rattle.usb_model.specs.declared.endpoint.Endpoint.{Endpoint}
use Rattle.usb_model.specs.Setup.{Setup}
use Rattle.usb_model.specs.Fitness.{errands_of, events_of}
use Rattle.usb_model.specs.Machine.{Machine, endpoint_at, is_result_at}
use Rattle.usb_model.specs.World.{new_world, machine_of, world_from}
use Rattle.usb_model.specs.Laws.Places.{numbers_at}

-- the line of an endpoint that may be the handle's
abbrev pub line_at : Option Endpoint → List Item
line_at None = []
line_at (Some e) = e.line

-- no transfer was submitted before more often than numbers were given before its own; of each endpoint at most 16 transfers
-- are in its line, 1 order and 17 pieces of news wait, and those in progress and the results that wait are at most 16 together
pub record IsWithinBounds (m : Machine) : Type 0 where
  pub rounds_in_line : (ep : ℕ) → AllByRecursion (λ x. x.round ≤ x.n) (line_at (endpoint_at m ep))
  pub rounds_of_results : AllByRecursion (λ x. x.round ≤ x.n) m.results
  pub rounds_in_callbacks : AllByRecursion (λ x. x.round ≤ x.n) m.handle.in_callbacks
  pub line : (ep : ℕ) → length (line_at (endpoint_at m ep)) ≤ 16
  pub orders : (ep : ℕ) → length (errands_of ep m.orders) ≤ 1
  pub news : (ep : ℕ) → length (events_of ep m.news) ≤ 17
  pub results : (ep : ℕ) → count_by (is_result_at ep) m.results + length (numbers_at (endpoint_at m ep)) ≤ 16

abbrev pub KeepsBounds : Setup → List Step → ℕ → Type 0
KeepsBounds setup steps h = IsWithinBounds (machine_of setup h (world_from setup (new_world setup) steps))
