-- Each transfer is called back at most once, after its number was given, and in order.
use Rattle.std.specs.Prelude.{◌≡◌, ℕ, ◌<◌, ◌≤◌, ◌==◌, ◌&&◌, List, ◌∷◌, ◌++◌, map, Option, Some}
use Rattle.std.specs.List.{filter}
use Rattle.std.specs.List.Sorted.{IsStrictlyIncreasing}
use Rattle.usb_model.specs.declared.entry.Entry.{Entry}
use Rattle.usb_model.specs.declared.reply.Reply.TheVariants.{Called}
use Rattle.usb_model.specs.declared.reply.Returned.{Returned}
use Rattle.usb_model.specs.declared.step.Step.{Step}
use Rattle.usb_model.specs.Setup.{Setup}
use Rattle.usb_model.specs.Endpoint.Status.{is_uncut}
use Rattle.usb_model.specs.World.Journal.{entries}
use Rattle.usb_model.specs.Laws.Cut.{times}
use Rattle.usb_model.specs.Laws.Places.{calls, numbers_called, numbers_given}

-- each transfer is called back at most once
abbrev pub CallsOnce : Setup → List Step → ℕ → Type 0
CallsOnce setup steps h = (n : ℕ) → times n (numbers_called (entries setup steps h)) ≤ 1

-- a call among a handle's entries is the handle's, and its number was given before
pub record IsCallOf (h : ℕ) (before : List Entry) (owner : Option ℕ) (r : Returned) : Type 0 where
  pub owned : owner ≡ Some h
  pub its : r.h ≡ h
  pub given : 0 < times r.n (numbers_given before)

abbrev pub CallsAfterNumber : Setup → List Step → ℕ → Type 0
CallsAfterNumber setup steps h = (before after : List Entry) (owner : Option ℕ) (r : Returned)
    → entries setup steps h ≡ before ++ record { owner = owner; reply = Called r } ∷ after
    → IsCallOf h before owner r

-- the numbers of the calls at one endpoint that were neither cancelled nor timed out
abbrev pub uncut_numbers : ℕ → List Returned → List ℕ
uncut_numbers ep calls = map (λ r. r.n) (filter (λ r. (r.ep == ep) && is_uncut r.status) calls)

-- they are called back in the order of their numbers
abbrev pub CallsInOrder : Setup → List Step → ℕ → Type 0
CallsInOrder setup steps h = (ep : ℕ) → IsStrictlyIncreasing (uncut_numbers ep (calls (entries setup steps h)))
