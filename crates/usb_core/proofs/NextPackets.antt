-- The packet that is next, or that there is none.
use Rattle.std.proofs.Common.{ℕ, Some, None, ap, sym}
use Rattle.usb_model.specs.declared.entry.Entry.{Entry}
use Rattle.usb_model.specs.declared.reply.Reply.TheVariants.{Idle}
use Rattle.usb_model.specs.declared.step.Step.TheVariants.{Serve}
use Rattle.usb_model.specs.Setup.{Setup}
use Rattle.usb_model.specs.World.{World}
use Rattle.refine_world.specs.Shows.{Core, Shows}
use Rattle.refine_core.specs.Offers.{HasNone}
use Rattle.refine_core.specs.State.{Keeps, State}
use Rattle.refine_core.specs.Works.{IsFront, IsHolder}
use Rattle.refine_core.proofs.Turns.{turns}
use Rattle.usb_core.proofs.Serves.{nobody, nothing}

module _ {P : Type 0} where
  -- nobody holds the endpoint
  pub none_held : (s : State P) (d e : ℕ) (setup : Setup) (w : World) (c : Core) → IsHolder s d e None → Keeps setup s c → Shows setup w c → HasNone setup w d e
  none_held s d e setup w c held keeps shows = ap (λ (x : Entry). x.reply) (sym (turns s s (Serve d e) (record { owner = None; reply = Idle }) (nobody s d e held) setup w (c, keeps, shows)).0)

  -- nothing is to be served
  pub none_front : (s : State P) (h d e : ℕ) (setup : Setup) (w : World) (c : Core) → IsHolder s d e (Some h) → IsFront s d e None → Keeps setup s c → Shows setup w c → HasNone setup w d e
  none_front s h d e setup w c held front keeps shows = ap (λ (x : Entry). x.reply) (sym (turns s s (Serve d e) (record { owner = Some h; reply = Idle }) (nothing s h d e held front) setup w (c, keeps, shows)).0)
