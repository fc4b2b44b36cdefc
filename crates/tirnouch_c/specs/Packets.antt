-- What is said of packets at an endpoint.
use Rattle.std.specs.Prelude.{◌≡◌, ℕ, zero, suc, ◌<◌, ◌≤◌, Bool, true, false}
use Rattle.usb_core.specs.Public.{ShowsWorld, StillCarries}
use Rattle.usb_model.specs.declared.entry.Entry.{Entry}
use Rattle.usb_model.specs.declared.reply.Reply.{Reply}
use Rattle.usb_model.specs.declared.reply.Reply.TheVariants.{Moved, Nak}
use Rattle.usb_model.specs.declared.step.Step.TheVariants.{Serve}
use Rattle.usb_model.specs.Setup.{Setup}
use Rattle.usb_model.specs.World.{World, turn}
use Rattle.tirnouch_c.specs.declared.replies.StepReply.{StepReply}
use Rattle.tirnouch_c.specs.declared.session.Session.{Session}
use Rattle.tirnouch_c.specs.Calls.{SameBeside}
use Rattle.tirnouch_c.specs.Replies.{entry_numbers}

-- whether an endpoint that replied so may be served once more; ready: whether its device has an answer then
abbrev pub goes_on : Bool → Reply → Bool
goes_on ready (Moved n bytes) = true
goes_on ready (Nak n) = ready
goes_on ready reply = false

-- a packet that ended nothing, or wasn't ready
abbrev pub ends_nothing : Reply → Bool
ends_nothing reply = goes_on true reply

-- the world behind so many packets at an endpoint
unfoldable pub served : Setup → (dev ep : ℕ) → World → ℕ → World
served setup dev ep w zero = w
served setup dev ep w (suc k) = (turn setup (served setup dev ep w k) (Serve dev ep)).world

-- the entry of the packet behind so many
abbrev pub entry_behind : Setup → (dev ep : ℕ) → World → ℕ → Entry
entry_behind setup dev ep w k = (turn setup (served setup dev ep w k) (Serve dev ep)).entry

-- packets in a row: at least one, and none behind one that ended a transfer. The reply is that of the last, with how many they were, and whether the endpoint may be served once more
pub record ServesRow (dev ep most : ℕ) (result : StepReply × Bool) (s t : Session) : Type 0 where
  pub some : 0 < result.0.packets
  pub within : result.0.packets ≤ most
  pub shows : (setup : Setup) (w : World) → ShowsWorld setup s.core w → ShowsWorld setup t.core (served setup dev ep w result.0.packets)
  pub last : (setup : Setup) (w : World) (k : ℕ) → ShowsWorld setup s.core w → result.0.packets ≡ suc k → result.0 ≡ record (entry_numbers (entry_behind setup dev ep w k)) { packets = suc k }
  pub before : (setup : Setup) (w : World) (k : ℕ) → ShowsWorld setup s.core w → suc k < result.0.packets → ends_nothing (entry_behind setup dev ep w k).reply ≡ true
  pub further : (setup : Setup) (w : World) (k : ℕ) → ShowsWorld setup s.core w → result.1 ≡ true → result.0.packets ≡ suc k → ends_nothing (entry_behind setup dev ep w k).reply ≡ true
  pub stops : result.1 ≡ false → result.0.kind ≡ 5 → ⊥
  pub carries : StillCarries s.core t.core
  pub same : SameBeside s t

-- as many packets as it says: none only where none was wanted, not behind one that ended a transfer, and fewer than wanted only where the last one didn't just move bytes
pub record Serves (dev ep most : ℕ) (reply : StepReply) (s t : Session) : Type 0 where
  pub within : reply.packets ≤ most
  pub begun : reply.packets ≡ 0 → most ≡ 0
  pub shows : (setup : Setup) (w : World) → ShowsWorld setup s.core w → ShowsWorld setup t.core (served setup dev ep w reply.packets)
  pub last : (setup : Setup) (w : World) (k : ℕ) → ShowsWorld setup s.core w → reply.packets ≡ suc k → reply ≡ record (entry_numbers (entry_behind setup dev ep w k)) { packets = suc k }
  pub before : (setup : Setup) (w : World) (k : ℕ) → ShowsWorld setup s.core w → suc k < reply.packets → ends_nothing (entry_behind setup dev ep w k).reply ≡ true
  pub stops : reply.packets < most → reply.kind ≡ 5 → ⊥
  pub carries : StillCarries s.core t.core
  pub same : SameBeside s t
