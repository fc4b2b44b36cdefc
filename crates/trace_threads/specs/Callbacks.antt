-- What the callbacks of a library were told.
use Rattle.std.specs.Prelude.{◌+◌, ◌*◌, ◌^◌, ℕ, Bool, true, false, List, filter}
use Rattle.std.specs.List.Sorted.{IsNonDecreasingBy, IsPermutation}
use Rattle.usb_model.specs.declared.entry.Entry.{Entry}
use Rattle.usb_model.specs.declared.reply.Reply.{Reply}
use Rattle.usb_model.specs.declared.reply.Reply.TheVariants.{Called}
use Rattle.usb_model.specs.declared.step.Step.{Step}
use Rattle.usb_model.specs.Setup.{Setup}
use Rattle.usb_model.specs.World.Journal.{world_run}

-- whether a reply tells a callback something
abbrev pub is_called : Reply → Bool
is_called (Called r) = true
is_called reply = false

abbrev pub is_callback : Entry → Bool
is_callback e = is_called e.reply

-- where the line of a callback stands: by its handle, and then by its number
abbrev pub rank_in : Reply → ℕ
rank_in (Called r) = r.h * 2 ^ 64 + r.n
rank_in reply = 0

abbrev pub rank : Entry → ℕ
rank e = rank_in e.reply

-- what callbacks were told in a run of these steps, by handle and number
pub record AreCallbacks (setup : Setup) (steps : List Step) (lines : List Entry) : Type 0 where
  pub all : IsPermutation (filter is_callback (world_run setup steps)) lines
  pub order : IsNonDecreasingBy rank lines
