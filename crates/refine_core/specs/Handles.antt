-- The calls of handles, in the words of the parts.
use Rattle.std.specs.List.{list_all}
use Rattle.std.specs.Prelude.{take, not, ◌||◌, true, List, ◌∷◌, if◌then◌else◌, Bool, Option, Result, Ok, Err, length, is_none, ◌==◌, ◌&&◌, ◌≡◌, ℕ, Bool, false, [], ◌⊎◌, None, Some, slice_get}
use Rattle.std.specs.Option.{option_map_or}
use Rattle.usb_model.specs.declared.handle.Handle.{Handle}
use Rattle.usb_model.specs.declared.refused.Refused.{Refused}
use Rattle.usb_model.specs.declared.reply.Reply.{Reply}
use Rattle.usb_model.specs.declared.reply.Reply.TheVariants as reply
use Rattle.usb_model.specs.declared.entry.Entry.{Entry}
use Rattle.usb_model.specs.declared.setup.EndpointInfo.{EndpointInfo}
use Rattle.usb_model.specs.Setup.{endpoint_id, Setup, interface_of}
use Rattle.usb_model.specs.World.{holder}
use Rattle.usb_model.specs.Kept.{KeptEndpoint}
use Rattle.usb_tables.specs.Holders.{Holding, device_of, owner_of}
use Rattle.usb_tables.specs.Outstanding.{sent_at}
use Rattle.usb_xhc.specs.Controller.{Controller}
use Rattle.usb_tables.specs.TransfersInFlight.{line_at}
use Rattle.usb_tables.specs.HandleStates.{callbacks_at, results_at}
use Rattle.refine_world.specs.Calls as calling
use Rattle.refine_world.specs.Shows.{Core}
use Rattle.refine_rings.specs.Holds.{HoldsCore}
use Rattle.refine_core.specs.State.{Keeps, State}

-- whether a device is gone, as the controller says it
abbrev pub gone_in : Controller → ℕ → Bool
gone_in k d = option_map_or (λ s. s.gone) (slice_get k.slots d) false

-- nothing is left at an endpoint: no transfer, and no errand
pub record IsLeft (b : KeptEndpoint) : Type 0 where
  pub line : b.line ≡ []
  pub errand : b.errand ≡ None

-- an endpoint that stays, with whoever holds it
pub record StaysHeld (setup : Setup) (c after : Core) (d e : ℕ) : Type 0 where
  pub endpoint : after.endpoints d e ≡ c.endpoints d e
  pub holder : holder setup after.claims d e ≡ holder setup c.claims d e

-- one where nothing is left, before and after
pub record StaysLeft (c after : Core) (d e : ℕ) : Type 0 where
  pub was : IsLeft (c.endpoints d e)
  pub is : IsLeft (after.endpoints d e)

-- a name that keeps what it has but for its device, which is this table's
pub record NameRests (v : Holding) (g : ℕ) (old new : Handle) : Type 0 where
  pub device : new.device ≡ device_of v g
  pub number : new.next_number ≡ old.next_number
  pub callbacks : new.in_callbacks ≡ old.in_callbacks

-- a core after a call that does no work at an endpoint, where the tables and the controller are these
pub record RestsTo {P : Type 0} (setup : Setup) (old : State P) (v : Holding) (k : Controller) (c after : Core) : Type 0 where
  pub configs : v.configs ≡ old.claims.configs
  pub held : HoldsCore setup k after
  pub claimed : (d i : ℕ) → after.claims d i ≡ owner_of v d i
  pub named : (g : ℕ) → NameRests v g (c.names g) (after.names g)
  pub results : after.results ≡ c.results
  pub ends : (d e i : ℕ) → interface_of setup d e ≡ Some i → StaysHeld setup c after d e ⊎ StaysLeft c after d e

-- what a call of a name is replied with, by its answer
abbrev pub reply_to : Result (Unit {0}) Refused → Reply
reply_to (Ok done) = reply.Done
reply_to (Err why) = reply.Refused why

-- the entry of a name's call, and of nobody's step
abbrev pub says : ℕ → Reply → Entry
says h r = record { owner = Some h; reply = r }

abbrev pub nobody_says : Reply → Entry
nobody_says r = record { owner = None; reply = r }

-- the interface of an endpoint is this, or all are asked
abbrev pub is_among : Option ℕ → EndpointInfo → Bool
is_among None x = true
is_among (Some i) x = x.interface == i

-- whether an endpoint of a list is quiet, or isn't asked
abbrev pub quiet_in : Setup → Core → (h d : ℕ) → Option ℕ → EndpointInfo → Bool
quiet_in setup c h d among x = not (is_among among x) || calling.is_quiet c h x.address (calling.own_kept setup c h d x.address)

module _ {P : Type 0} where
  -- of an endpoint and a name: no item, no errand, no result that waits, no transfer in a callback
  abbrev pub rests_at : State P → ℕ → ℕ → ℕ → Bool
  rests_at s h d e = (length (line_at s.flights d e) == 0) && (is_none (sent_at s.outstanding d e) && ((results_at s.callers h (endpoint_id e) == 0) && (callbacks_at s.callers h (endpoint_id e) == 0)))

  -- whether an endpoint is quiet, if it is the name's: what this answers
  abbrev pub IsQuiet : State P → (h d e : ℕ) → Bool → Type 0
  IsQuiet s h d e b = (setup : Setup) (c : Core) → Keeps setup s c → b ≡ calling.is_quiet c h e (calling.own_kept setup c h d e)

  -- whether each of the name's endpoints is, or of one interface
  abbrev pub AreQuiet : State P → (h d : ℕ) → Option ℕ → Bool → Type 0
  AreQuiet s h d among b = (setup : Setup) (c : Core) → Keeps setup s c → (c.names h).device ≡ Some d → b ≡ calling.are_quiet setup c h (λ x. is_among among x)

  -- the first of a list are
  abbrev pub FirstQuiet : State P → (h d : ℕ) → Option ℕ → List EndpointInfo → ℕ → Type 0
  FirstQuiet s h d among xs k = (setup : Setup) (c : Core) → Keeps setup s c → list_all (quiet_in setup c h d among) (take k xs) ≡ true

-- why a call is refused: for the first of its tests that holds
abbrev pub first_why : List (Bool × Refused) → Option Refused
first_why [] = None
first_why (x ∷ xs) = if x.0 then Some x.1 else first_why xs
