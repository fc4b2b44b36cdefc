-- What became of a packet whose device may be asked, and of the device.
use Rattle.std.specs.Prelude.{◌≡◌, ℕ, Bool, true, false, List, Option, Some, None, if◌then◌else◌}
use Rattle.usb_core.specs.Public.{FeedsWorld, HasNone, IsNext, ShowsWorld, State, TurnsWorld, may_be_fed_at}
use Rattle.usb_model.specs.declared.entry.Entry.{Entry}
use Rattle.usb_model.specs.declared.refused.Refused.{Refused}
use Rattle.usb_model.specs.declared.refused.Refused.TheVariants.{InvalidParam, NoMem}
use Rattle.usb_model.specs.declared.reply.Reply.TheVariants.{Nak}
use Rattle.usb_model.specs.declared.response.Response.{Response}
use Rattle.usb_model.specs.declared.step.Step.TheVariants.{Serve}
use Rattle.usb_model.specs.Setup.{Setup}
use Rattle.usb_model.specs.World.{World}

-- a packet that is next: whose transfer it is of, that transfer's number, its bytes, how many it has or may have
pub record Packet : Type 0 where
  pub owner : ℕ
  pub n : ℕ
  pub out : List ℕ
  pub room : ℕ

-- nothing is next; the device isn't asked for what is; it answered; it isn't ready
pub data Way : Type 0 where
  Nothing : Way
  Unasked : Packet → Way
  Answered : Packet → Response → Way
  Unready : Packet → Way

module _ {P L : Type 0} (may : L → ℕ → ℕ → List ℕ → ℕ → Option Response → L → Type 0) (old new : State P) (was now : L) (dev ep : ℕ) where
  -- in each world that the core shows this packet is next, and the device is asked for it, or isn't
  abbrev pub Offers : Packet → Bool → Type 0
  Offers x asked = (setup : Setup) (w : World) → ShowsWorld setup old w → IsNext setup w dev ep x.owner x.n x.out x.room asked

  abbrev pub Goes : Way → Entry → Type 0
  Goes Nothing entry = ((setup : Setup) (w : World) → ShowsWorld setup old w → HasNone setup w dev ep) × (now ≡ was) × TurnsWorld old (Serve dev ep) entry new
  Goes (Unasked x) entry = Offers x false × (now ≡ was) × TurnsWorld old (Serve dev ep) entry new
  Goes (Answered x a) entry =
      Offers x true × may was dev ep x.out x.room (Some a) now × ((fed : State P) × FeedsWorld old dev ep a fed × TurnsWorld fed (Serve dev ep) entry new)
  Goes (Unready x) entry = Offers x true × may was dev ep x.out x.room None now × (new ≡ old) × (entry ≡ record { owner = Some x.owner; reply = Nak x.n })

  pub record Asks (entry : Entry) : Type 0 where
    pub way : Way
    pub goes : Goes way entry

-- an answer is refused: the endpoint can't have it, or there is no memory
pub record RefusesAnswer {P L : Type 0} (may : L → ℕ → ℕ → List ℕ → ℕ → Option Response → L → Type 0) (old : State P) (was now : L) (dev ep : ℕ) (why : Refused) : Type 0 where
  pub packet : Packet
  pub answer : Response
  pub offers : (setup : Setup) (w : World) → ShowsWorld setup old w → IsNext setup w dev ep packet.owner packet.n packet.out packet.room true
  pub answered : may was dev ep packet.out packet.room (Some answer) now
  pub refused : why ≡ (if may_be_fed_at dev ep answer old then NoMem else InvalidParam)
