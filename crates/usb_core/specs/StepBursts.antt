-- Packets in a row at an endpoint, by their entries.
use Rattle.std.specs.Prelude.{◌≡◌, ℕ, List, [], ◌∷◌, ◌++◌, replicate, Option, Some, None}
use Rattle.usb_model.specs.declared.entry.Entry.{Entry}
use Rattle.usb_model.specs.declared.reply.Reply.TheVariants.{Moved}
use Rattle.usb_tables.specs.declared.transfer.Transfer.{Transfer as InFlight}
use Rattle.usb_tables.specs.TransfersInFlight.{item_at}
use Rattle.usb_xhc.specs.Skims.{size_at}
use Rattle.refine_core.specs.State.{State}
use Rattle.refine_core.specs.Works.{IsFront, IsHolder}
use Rattle.usb_core.specs.declared.step_bursts.Whole.{Whole}
use Rattle.usb_core.specs.declared.step_bursts.Burst.{Burst}

-- the entry of a packet that did this
abbrev pub whole_entry : Whole → Entry
whole_entry x = record { owner = Some x.owner; reply = Moved x.n x.size }

-- those of so many
abbrev pub whole_entries : Option Whole → ℕ → List Entry
whole_entries None count = []
whole_entries (Some x) count = replicate count (whole_entry x)

-- those of packets in a row
abbrev pub burst_entries : Burst → List Entry
burst_entries x = whole_entries x.each x.full ++ x.last ∷ []

-- a packet did something else than those before it; with none before it, it didn't move bytes of a transfer that goes on
abbrev pub Differs : Option Whole → Entry → Type 0
Differs None last = (x : Whole) → last ≡ whole_entry x → ⊥
Differs (Some x) last = last ≡ whole_entry x → ⊥

-- the item where the controller works is a transfer of this name and number, and the endpoint's packets have this size
pub record IsWholeAt {P : Type 0} (s : State P) (d e : ℕ) (x : Whole) (item : ℕ) : Type 0 where
  pub held : IsHolder s d e (Some x.owner)
  pub front : IsFront s d e (Some item)
  pub number : (t : InFlight P) → item_at s.flights d e item ≡ Some t → t.n ≡ x.n
  pub size : size_at s.controller d e ≡ x.size
