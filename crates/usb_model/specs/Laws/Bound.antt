-- The bound of a transfer that was asked to end: no ask is lost.
use Rattle.std.specs.Prelude.{◌≡◌, ℕ, ◌+◌, ◌<◌, ◌≤◌, ◌==◌, Bool, true, false, ◌&&◌, ◌||◌, List, [], ◌∷◌, ◌++◌, map, if◌then◌else◌}
use Rattle.std.specs.List.{list_any}
use Rattle.usb_model.specs.declared.reply.Reply.TheVariants.{Done}
use Rattle.usb_model.specs.declared.step.Step.{Step}
use Rattle.usb_model.specs.declared.step.Step.TheVariants.{Cancel, Expire, Command, Deliver}
use Rattle.usb_model.specs.declared.order.Order.{Order}
use Rattle.usb_model.specs.declared.news.News.{News}
use Rattle.usb_model.specs.declared.shared.Tagged.{Tagged}
use Rattle.usb_model.specs.Setup.{Setup}
use Rattle.usb_model.specs.Endpoint.{has_in_progress}
use Rattle.usb_model.specs.Machine.{endpoint_at}
use Rattle.usb_model.specs.World.{World, new_world, machine_of, turn, world_from}
use Rattle.usb_model.specs.World.Journal.{entries}
use Rattle.usb_model.specs.Laws.Cut.{times}
use Rattle.usb_model.specs.Laws.Places.{numbers_called}

-- the step asks the handle's transfer of this number to end
abbrev pub is_ask : ℕ → ℕ → Step → Bool
is_ask h n (Cancel g k) = (g == h) && (k == n)
is_ask h n (Expire g k) = (g == h) && (k == n)
is_ask h n _ = false

abbrev pub IsAccepted : Setup → World → Step → Type 0
IsAccepted setup w step = (turn setup w step).entry.reply ≡ Done

-- the handle's transfer is in progress at the endpoint
abbrev pub is_in_progress : Setup → ℕ → ℕ → ℕ → World → Bool
is_in_progress setup h ep n w = has_in_progress n (endpoint_at (machine_of setup h w) ep)

abbrev pub is_order_at : ℕ → ℕ → Tagged Order → Bool
is_order_at h ep x = (x.name == h) && (x.piece.ep == ep)

abbrev pub is_news_at : ℕ → ℕ → Tagged News → Bool
is_news_at h ep x = (x.name == h) && (x.piece.ep == ep)

-- an order or a piece of news of the handle's endpoint waits
abbrev pub something_waits_at : ℕ → ℕ → World → Bool
something_waits_at h ep w = list_any (is_order_at h ep) w.orders || list_any (is_news_at h ep) w.news

-- one where the first of the list passes the test
abbrev pub first_counts : {A : Type 0} → (A → Bool) → List A → ℕ
first_counts p [] = 0
first_counts p (x ∷ xs) = if p x then 1 else 0

-- whether the step is a Command, or a Deliver, of the handle's endpoint
abbrev pub commands_by : ℕ → ℕ → World → Step → ℕ
commands_by h ep w Command = first_counts (is_order_at h ep) w.orders
commands_by h ep w _ = 0

abbrev pub delivers_by : ℕ → ℕ → World → Step → ℕ
delivers_by h ep w Deliver = first_counts (is_news_at h ep) w.news
delivers_by h ep w _ = 0

-- how many of these steps are
unfoldable pub commands_in : Setup → ℕ → ℕ → World → List Step → ℕ
commands_in setup h ep w [] = 0
commands_in setup h ep w (step ∷ steps) = commands_by h ep w step + commands_in setup h ep (turn setup w step).world steps

unfoldable pub delivers_in : Setup → ℕ → ℕ → World → List Step → ℕ
delivers_in setup h ep w [] = 0
delivers_in setup h ep w (step ∷ steps) = delivers_by h ep w step + delivers_in setup h ep (turn setup w step).world steps

-- the world where these steps end, and that behind an ask after them
abbrev pub world_at : Setup → List Step → World
world_at setup steps = world_from setup (new_world setup) steps

abbrev pub asked_world : Setup → List Step → Step → World
asked_world setup before ask = (turn setup (world_at setup before) ask).world

-- while the transfer is in progress, something of its endpoint waits, and since the ask at most 2 Commands and 16 Delivers were the endpoint's
pub record IsBounded (setup : Setup) (h ep n : ℕ) (before after : List Step) (ask : Step) : Type 0 where
  pub waits : something_waits_at h ep (world_at setup (before ++ ask ∷ after)) ≡ true
  pub commands : commands_in setup h ep (asked_world setup before ask) after ≤ 2
  pub delivers : delivers_in setup h ep (asked_world setup before ask) after ≤ 16

-- how many results of this number were made: those that wait, and those that were called back
abbrev pub results_of : Setup → List Step → ℕ → ℕ → ℕ
results_of setup steps h n = times n (map (λ x. x.n) (machine_of setup h (world_at setup steps)).results) + times n (numbers_called (entries setup steps h))

-- an accepted ask of a handle's transfer: it was in progress at an endpoint; while it is, the bound holds there; so the 17th Deliver at the latest
-- ends it, and its one result is made
pub record AskEnds (setup : Setup) (h n : ℕ) (before after : List Step) (ask : Step) : Type 0 where
  pub ep : ℕ
  pub was_there : is_in_progress setup h ep n (world_at setup before) ≡ true
  pub bounded : is_in_progress setup h ep n (world_at setup (before ++ ask ∷ after)) ≡ true → IsBounded setup h ep n before after ask
  pub made : is_in_progress setup h ep n (world_at setup (before ++ ask ∷ after)) ≡ false → results_of setup (before ++ ask ∷ after) h n ≡ 1
  pub by_then : 16 < delivers_in setup h ep (asked_world setup before ask) after → results_of setup (before ++ ask ∷ after) h n ≡ 1

abbrev pub AskedEnds : Setup → List Step → ℕ → Type 0
AskedEnds setup steps h = (before after : List Step) (ask : Step) (n : ℕ)
    → steps ≡ before ++ ask ∷ after
    → is_ask h n ask ≡ true
    → IsAccepted setup (world_at setup before) ask
    → AskEnds setup h n before after ask
