-- Whose time is over: the steps that the passing of time asks for.
use Rattle.std.specs.Prelude.{ℕ, zero, suc, ◌+◌, ◌==◌, min, nat_le, Bool, false, not, ◌&&◌, List, [], ◌∷◌, ◌++◌, map, is_none, Option, Some, None, if◌then◌else◌}
use Rattle.std.specs.List.{filter, flat_map}
use Rattle.usb_model.specs.declared.reply.Reply.{Reply}
use Rattle.usb_model.specs.declared.reply.Reply.TheVariants.{Number}
use Rattle.usb_model.specs.declared.step.Step.{Step}
use Rattle.usb_model.specs.declared.step.Step.TheVariants.{Expire}
use Rattle.usb_model.specs.Setup.{Setup, endpoints_of}
use Rattle.usb_model.specs.Machine.{Machine, device_of}
use Rattle.usb_model.specs.Machine.Calls.{Home, home_of}
use Rattle.usb_model.specs.World.{World, new_world, machine_of, is_its, world_from}
use Rattle.usb_model.specs.World.Journal.{Place, steps_in}

-- a place of the journal, and the moment at which it was made, in milliseconds
pub record Dated : Type 0 where
  pub place : Place
  pub moment : ℕ

abbrev pub is_number : ℕ → Reply → Bool
is_number n (Number k) = k == n
is_number n _ = false

-- the moment of the place that gave a handle's transfer this number
abbrev pub given_at : ℕ → ℕ → List Dated → ℕ
given_at h n [] = 0
given_at h n (x ∷ xs) = if is_its h x.place.entry.owner && is_number n x.place.entry.reply then x.moment else given_at h n xs

-- when a transfer that was submitted then is due: after its timeout, at the largest moment at the latest
abbrev pub deadline : ℕ → ℕ → ℕ
deadline given timeout = min (given + timeout) 18446744073709551615

-- in progress, not asked to end, with a timeout, and at or past its deadline
abbrev pub is_due : ℕ → ℕ → Option Home → Bool
is_due moment given None = false
is_due moment given (Some home) =
    is_none home.item.ask && (not (home.item.request.timeout == 0) && nat_le (deadline given home.item.request.timeout) moment)

-- the numbers below n, rising
abbrev pub below : ℕ → List ℕ
below zero = []
below (suc n) = below n ++ n ∷ []

-- the numbers of one handle that are due
abbrev pub due_of : Setup → List Dated → ℕ → ℕ → Machine → List ℕ
due_of setup book moment h m = filter (λ n. is_due moment (given_at h n book) (home_of m n (endpoints_of setup (device_of m)))) (below m.handle.next_number)

-- an Expire for each transfer that is due at the moment, by rising name and number
unfoldable pub due : Setup → List Dated → ℕ → List Step
due setup book moment =
    let w : World = world_from setup (new_world setup) (steps_in (map (λ x. x.place) book)) in
    flat_map (λ h. map (λ n. Expire h n) (due_of setup book moment h (machine_of setup h w))) (below 64)
