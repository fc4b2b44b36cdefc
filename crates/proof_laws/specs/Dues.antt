-- Whose time is over (libusb_transfer, timeout).
use Rattle.std.specs.Prelude.{◌≡◌, ◌≢◌, ◌↔◌, ◌⊎◌, ℕ, ◌+◌, ◌<◌, ◌≤◌, min, false, List, [], ◌∷◌, map, Some, None, AllPairs, Contains}
use Rattle.usb_model.specs.declared.item.Item.{Item}
use Rattle.usb_model.specs.declared.reply.Reply.TheVariants.{Number}
use Rattle.usb_model.specs.declared.step.Step.{Step}
use Rattle.usb_model.specs.declared.step.Step.TheVariants.{Expire}
use Rattle.usb_model.specs.Setup.{Setup}
use Rattle.usb_model.specs.Endpoint.{is_blank}
use Rattle.usb_model.specs.World.{World, new_world, holder, world_from}
use Rattle.usb_model.specs.World.Journal.{steps_in}
use Rattle.usb_model.specs.World.Due.{Dated, due}

-- a transfer of a name is in progress: it stands in the line of an endpoint of the device that the name has open, of an interface that the name holds, and isn't blank
pub record IsInProgress (setup : Setup) (w : World) (h : ℕ) (x : Item) : Type 0 where
  pub device : ℕ
  pub ep : ℕ
  pub opened : (w.names h).device ≡ Some device
  pub held : holder setup w.claims device ep ≡ Some h
  pub stands : Contains (w.endpoints device ep).line x
  pub lives : is_blank x ≡ false

-- a place gives a name's transfer this number
pub record Gives (h n : ℕ) (x : Dated) : Type 0 where
  pub owner : x.place.entry.owner ≡ Some h
  pub reply : x.place.entry.reply ≡ Number n

-- the moment of the first place that gives it; 0 where none does
abbrev pub IsGivenAt : ℕ → ℕ → List Dated → ℕ → Type 0
IsGivenAt h n [] moment = moment ≡ 0
IsGivenAt h n (x ∷ xs) moment = (Gives h n x × (moment ≡ x.moment)) ⊎ ((Gives h n x → ⊥) × IsGivenAt h n xs moment)

-- the world where the steps of a book end
abbrev pub world_of : Setup → List Dated → World
world_of setup book = world_from setup (new_world setup) (steps_in (map (λ x. x.place) book))

-- a name's transfer is due: the name is one of 64; the transfer is in progress, and nobody has asked it to end; it has a timeout; and its
-- deadline isn't after the moment: the moment at which its number was given, plus the timeout, and 2^64 - 1 at most
pub record IsDue (setup : Setup) (book : List Dated) (moment h n : ℕ) : Type 0 where
  pub name : h < 64
  pub item : Item
  pub number : item.n ≡ n
  pub lives : IsInProgress setup (world_of setup book) h item
  pub unasked : item.ask ≡ None
  pub timed : item.request.timeout ≢ 0
  pub given : ℕ
  pub since : IsGivenAt h n book given
  pub over : min (given + item.request.timeout) 18446744073709551615 ≤ moment

-- what the passing of time asks for: that a transfer expires which is due
abbrev pub IsAskedFor : Setup → List Dated → ℕ → Step → Type 0
IsAskedFor setup book moment (Expire h n) = IsDue setup book moment h n
IsAskedFor setup book moment _ = ⊥

-- by name, and of one name by number
abbrev pub ComesBefore : Step → Step → Type 0
ComesBefore (Expire g k) (Expire h n) = (g < h) ⊎ ((g ≡ h) × (k < n))
ComesBefore _ _ = ⊥

-- at any moment, whatever the book, it asks for just these steps, in this order
pub record AsksForDue (setup : Setup) (book : List Dated) (moment : ℕ) : Type 0 where
  pub each : (step : Step) → Contains (due setup book moment) step ↔ IsAskedFor setup book moment step
  pub rising : AllPairs ComesBefore (due setup book moment)
