-- A device that is fed by C while the run goes on, and the packet that it is to answer next.
use Rattle.std.specs.Prelude.{◌≡◌, ℕ, ℤ, pos, negsuc, ◌==◌, Bool, true, false, ◌||◌, List, Option, Some, None, if◌then◌else◌}
use Rattle.usb_core.specs.Public.{FeedsWorld, HasNone, IsNext, ShowsWorld, StillCarries, may_be_fed_at}
use Rattle.usb_model.specs.declared.response.Response.{Response}
use Rattle.usb_model.specs.declared.response.Response.TheVariants.{Ack, Broken, Data, Nak, Stall}
use Rattle.usb_model.specs.Setup.{Setup}
use Rattle.usb_model.specs.World.{World}
use Rattle.tirnouch_c.specs.declared.feeds.PacketOffer.{PacketOffer}
use Rattle.tirnouch_c.specs.declared.session.Session.{Session}
use Rattle.tirnouch_c.specs.Buffers.{filled}
use Rattle.tirnouch_c.specs.Calls.{SameBeside, out_of_range}
use Rattle.tirnouch_c.specs.Exports.{device_by}
use Rattle.tirnouch_c.specs.Replies.{bit, nobody}

-- the answer of a number: a packet of these bytes, taken, not ready, a stall, a broken transaction
unfoldable pub answer_by : ℕ → List ℕ → Option Response
answer_by kind bytes =
    if kind == 0 then Some (Data bytes)
    else if kind == 1 then Some Ack
    else if kind == 2 then Some Nak
    else if kind == 3 then Some Stall
    else if kind == 4 then Some Broken
    else None

abbrev pub is_packet : Response → Bool
is_packet (Data b) = true
is_packet _ = false

-- what came of an answer: it is behind the script; the endpoint can't have it; memory is refused
pub data Fed : Type 0 where
  Behind : Fed
  Unfit : Fed
  Refused : Fed

abbrev pub fed_number : Fed → ℤ
fed_number Behind = pos 0
fed_number Unfit = negsuc 1
fed_number Refused = negsuc 10

-- behind the script: the session shows the world of the longer script where it stood, and carries what it carried. Else it is as it was;
-- no memory is asked for an answer without bytes that the endpoint can't have
abbrev pub FeedsAs : Fed → Option ℕ → ℕ → Option Response → (s t : Session) → Type 0
FeedsAs Behind (Some dev) ep (Some a) s t = (may_be_fed_at dev ep a s.core ≡ true) × FeedsWorld s.core dev ep a t.core × StillCarries s.core t.core × SameBeside s t
FeedsAs Behind _ ep _ s t = ⊥
FeedsAs Unfit (Some dev) ep (Some a) s t = (may_be_fed_at dev ep a s.core ≡ false) × (t ≡ s)
FeedsAs Unfit _ ep _ s t = t ≡ s
FeedsAs Refused (Some dev) ep (Some a) s t = ((is_packet a || may_be_fed_at dev ep a s.core) ≡ true) × (t ≡ s)
FeedsAs Refused _ ep _ s t = ⊥

-- an answer of this number, for a device of a number that may be none
pub record Feeds (dev : Option ℕ) (ep kind : ℕ) (bytes : List ℕ) (answer : ℤ) (s t : Session) : Type 0 where
  pub fed : Fed
  pub answered : answer ≡ fed_number fed
  pub is : FeedsAs fed dev ep (answer_by kind bytes) s t

abbrev pub FeedsBy : (dev ep kind : ℕ) → List ℕ → ℤ → (s t : Session) → Type 0
FeedsBy dev ep kind bytes answer s t = Feeds (device_by dev) ep kind bytes answer s t

-- a packet that is next: whose transfer it is of, that transfer's number, its bytes, how many it may have, whether the device is asked
pub record Next : Type 0 where
  pub owner : ℕ
  pub n : ℕ
  pub out : List ℕ
  pub room : ℕ
  pub wants : Bool

-- in numbers
abbrev pub offer_numbers : (owner n room : ℕ) → (wants : Bool) → PacketOffer
offer_numbers owner n room wants = record { has_packet = 1; is_asked = bit wants; handle = owner; length = room; number = n }

abbrev pub no_packet : PacketOffer
no_packet = record { has_packet = 0; is_asked = 0; handle = nobody; length = 0; number = 0 }

abbrev pub packet_numbers : Option Next → PacketOffer
packet_numbers None = no_packet
packet_numbers (Some x) = offer_numbers x.owner x.n x.room x.wants

abbrev pub next_filled : Option Next → List ℕ → List ℕ
next_filled None old = old
next_filled (Some x) old = filled x.out old

-- it is the world's, or there is none
abbrev pub IsNextOf : Setup → World → (dev ep : ℕ) → Option Next → Type 0
IsNextOf setup w dev ep None = HasNone setup w dev ep
IsNextOf setup w dev ep (Some x) = IsNext setup w dev ep x.owner x.n x.out x.room x.wants

pub record TellsNext (dev ep : ℕ) (packet : PacketOffer) (old new : List ℕ) (s : Session) : Type 0 where
  pub next : Option Next
  pub packet_is : packet ≡ packet_numbers next
  pub buffer : new ≡ next_filled next old
  pub is : (setup : Setup) (w : World) → ShowsWorld setup s.core w → IsNextOf setup w dev ep next
