-- What an event tells of a transfer, as the code answers it.
use Rattle.std.specs.Prelude.{◌≡◌, ℕ, ◌==◌, Bool, take, Option, Some, None, if◌then◌else◌}
use Rattle.usb_model.specs.Completion.{stopped}
use Rattle.usb_model.specs.Requests.{length_of}
use Rattle.usb_model.specs.Setup.{Setup}
use Rattle.usb_model.specs.declared.reply.Reply.{Reply}
use Rattle.usb_model.specs.Events.{kept_result}
use Rattle.usb_model.specs.Kept.{KeptTransfer}
use Rattle.usb_model.specs.Stands.{length_at, total}
use Rattle.usb_tables.specs.declared.target.Reading.{Reading}
use Rattle.usb_tables.specs.declared.target.Reading.TheVariants.{Ended, Paused}
use Rattle.usb_tables.specs.declared.target.Target.{Target}
use Rattle.usb_tables.specs.declared.transfer.Transfer.{Transfer}
use Rattle.usb_tables.specs.Tds.{lengths, tds_of}
use Rattle.refine_world.specs.Shows.{Core}
use Rattle.refine_world.specs.Steps.{deliver_core}
use Rattle.refine_core.specs.Deliveries.{Tells}
use Rattle.refine_core.specs.State.{State}
use Rattle.refine_core.specs.Steps.{Is}
use Rattle.usb_core.specs.declared.reports.Report.{Report}

-- a transfer of a line, and its TRB of number trb, as an event that points there is read
abbrev pub target_of : {P : Type 0} → Bool → (size item trb : ℕ) → Transfer P → Target
target_of gone size item trb t = record {
  item = item;
  gone = gone;
  flags = t.request.flags;
  length = length_of t.request.body;
  ask = t.ask;
  before = total (take trb (lengths (tds_of size t.request)));
  here = length_at (lengths (tds_of size t.request)) trb;
}

-- a kept transfer ended with this code, or stands; actual: how many of its bytes moved
abbrev pub told_of : Bool → KeptTransfer → (item code actual : ℕ) → Reading
told_of gone y item code actual = if code == stopped then Paused item actual else Ended item (kept_result gone code y actual).status actual

module _ {P : Type 0} where
  -- an event of this code tells of this transfer, and says this of it
  pub record IsTold (setup : Setup) (s : State P) (c : Core) (code : ℕ) (x : Report) : Type 0 where
    pub item : ℕ
    pub actual : ℕ
    pub tells : Tells setup s c x.at.name x.at.dev x.at.ep item x.n actual code
    pub reading : x.reading ≡ told_of (c.gone x.at.dev) tells.kept item code actual

  -- no event is stray
  abbrev pub ToldIs : Setup → State P → Core → ℕ → Option Report → Type 0
  ToldIs setup s c code None = ⊥
  ToldIs setup s c code (Some x) = IsTold setup s c code x

  -- of some core
  abbrev pub SomeTold : State P → ℕ → Report → Type 0
  SomeTold s code x = (setup : Setup) × (c : Core) × IsTold setup s c code x

  -- an event that tells of a transfer is handled as the core handles it
  abbrev pub Handles : State P → ℕ → Report → Reply → State P → Type 0
  Handles old code x reply new = (setup : Setup) (c : Core) → IsTold setup old c code x → Is setup (deliver_core setup c) (record { owner = Some x.at.name; reply = reply }) new
