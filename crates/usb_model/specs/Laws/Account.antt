-- What came of the transfers of one endpoint since it was last made new, over a whole run.
use Rattle.std.specs.Prelude.{ℕ, ◌+◌, ◌==◌, Bool, ◌&&◌, List, [], ◌∷◌, ◌++◌, map, Option, Some, None, if◌then◌else◌}
use Rattle.usb_model.specs.declared.request.Body.TheVariants.{Out}
use Rattle.usb_model.specs.declared.request.Request.{Request}
use Rattle.usb_model.specs.declared.reply.Reply.{Reply}
use Rattle.usb_model.specs.declared.reply.Reply.TheVariants.{Done, Number, Ended}
use Rattle.usb_model.specs.declared.step.Step.{Step}
use Rattle.usb_model.specs.declared.step.Step.TheVariants.{ClearHalt, Submit, Cancel, Expire, Answer}
use Rattle.usb_model.specs.declared.verdict.Verdict.{Verdict}
use Rattle.usb_model.specs.declared.verdict.Verdict.TheVariants.{Again, AgainWith}
use Rattle.usb_model.specs.declared.handle.Handle.{Handle}
use Rattle.usb_model.specs.declared.item.Ask.{Ask}
use Rattle.usb_model.specs.declared.item.Ask.TheVariants as ask
use Rattle.usb_model.specs.declared.result.TransferResult.{TransferResult}
use Rattle.usb_model.specs.declared.result.InCallback.{InCallback}
use Rattle.usb_model.specs.Setup.{Setup, is_within}
use Rattle.usb_model.specs.Machine.{Change, Gains, Renews, Sets, Effect}
use Rattle.usb_model.specs.Machine.Calls.{callback_of}
use Rattle.usb_model.specs.Machine.Turns.{effect}
use Rattle.usb_model.specs.World.{World, new_world, holder, is_its, machine_of, owner_of, is_blocked, turn}

-- what was accepted at an endpoint: a transfer, or that its device's halt ends
pub data Accepted : Type 0 where
  Transfer : (n : ℕ) (request : Request) (round : ℕ) → Accepted
  Clearing : Accepted

-- the first ask that a transfer end
pub record Asked : Type 0 where
  pub n : ℕ
  pub ask : Ask

-- a transfer that ended at its device; gone: whether that was gone by then
pub record End : Type 0 where
  pub n : ℕ
  pub code : ℕ
  pub gone : Bool

-- a result that was made; gone: whether the device was by then
pub record Made : Type 0 where
  pub result : TransferResult
  pub gone : Bool

-- each list in order
pub record Account : Type 0 where
  pub accepted : List Accepted
  pub asked : List Asked
  pub ended : List End
  pub made : List Made

abbrev pub new_account : Account
new_account = record { accepted = []; asked = []; ended = []; made = [] }

-- a transfer that is submitted again
abbrev pub accepted_again : ℕ → Verdict → Option InCallback → List Accepted
accepted_again n Again (Some x) = Transfer n x.request (x.round + 1) ∷ []
accepted_again n (AgainWith bytes) (Some x) = Transfer n (record x.request { body = Out bytes }) (x.round + 1) ∷ []
accepted_again n _ _ = []

-- what a step of the handle with this reply has accepted
abbrev pub accepted_by : Handle → Step → Reply → List Accepted
accepted_by handle (Submit h request) (Number n) = Transfer n request 0 ∷ []
accepted_by handle (Answer h k verdict) (Number n) = accepted_again n verdict (callback_of k handle.in_callbacks)
accepted_by handle (ClearHalt h ep) Done = Clearing ∷ []
accepted_by handle _ _ = []

abbrev pub asked_by : Step → Reply → List Asked
asked_by (Cancel h n) Done = record { n = n; ask = ask.Cancel } ∷ []
asked_by (Expire h n) Done = record { n = n; ask = ask.Time } ∷ []
asked_by _ _ = []

abbrev pub ended_by : Bool → Reply → List End
ended_by gone (Ended n code) = record { n = n; code = code; gone = gone } ∷ []
ended_by gone _ = []

-- the account with what a step of the handle did at the endpoint; gone: whether the device is
abbrev pub added : Bool → Handle → Step → Effect → Account → Account
added gone handle step done a = record {
  accepted = a.accepted ++ accepted_by handle step done.reply;
  asked = a.asked ++ asked_by step done.reply;
  ended = a.ended ++ ended_by gone done.reply;
  made = a.made ++ map (λ r. record { result = r; gone = gone }) done.results;
}

-- the account of endpoint e of device d after this change by handle h
abbrev pub account_by : Setup → ℕ → ℕ → ℕ → World → Step → Effect → Change → Account → Account
account_by setup d e h w step done (Gains dev k) a = if is_within setup dev k d e then new_account else a
account_by setup d e h w step done (Renews dev) a = if is_its h (holder setup w.claims d e) then new_account else a
account_by setup d e h w step done (Sets dev ep x) a =
    if ((dev == d) && (ep == e)) && is_its h (holder setup w.claims d e) then added (w.gone d) (w.names h) step done a else a
account_by setup d e h w step done _ a = a

-- after the step of its owner
unfoldable pub account_of : Setup → ℕ → ℕ → World → Step → Option ℕ → Account → Account
account_of setup d e w step None a = a
account_of setup d e w step (Some h) a =
    let done : Effect = effect setup h (machine_of setup h w) step in
    if is_blocked setup h w done.change then a else account_by setup d e h w step done done.change a

unfoldable pub account_from : Setup → ℕ → ℕ → World → Account → List Step → Account
account_from setup d e w a [] = a
account_from setup d e w a (step ∷ steps) =
    account_from setup d e (turn setup w step).world (account_of setup d e w step (owner_of setup w step) a) steps

-- the account of endpoint e of device d where a run ends
unfoldable pub account : Setup → ℕ → ℕ → List Step → Account
account setup d e steps = account_from setup d e (new_world setup) new_account steps
