-- A packet's way in one call.
use Rattle.std.specs.Prelude.{ℕ, ℤ, false}
use Rattle.tirnouch_c.specs.declared.lent_memory.LentMemory.{LentMemory}
use Rattle.tirnouch_c.specs.declared.replies.StepReply.{StepReply}
use Rattle.tirnouch_c.specs.declared.results.TakenResult.{TakenResult}
use Rattle.tirnouch_c.specs.declared.session.Session.{Session}
use Rattle.tirnouch_c.specs.declared.settling.SettleProgress.{SettleProgress}
use Rattle.tirnouch_c.specs.Packets.{Serves}
use Rattle.tirnouch_c.specs.Results.{Takes}
use Rattle.tirnouch_c.specs.Settling.{Settles}

-- packets at an endpoint, then what is to be done behind them, then the oldest result
pub record Works (dev ep packets steps : ℕ) (answer : ℤ) (out : TakenResult) (old new : LentMemory) (s t : Session) : Type 0 where
  pub behind_packets : Session
  pub behind_steps : Session
  pub served : StepReply
  pub settled : SettleProgress
  pub serves : Serves dev ep packets served s behind_packets
  pub settles : Settles false steps settled behind_packets behind_steps
  pub takes : Takes answer out old new behind_steps t
