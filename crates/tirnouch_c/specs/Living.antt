-- What calls of a slot leave, one behind the other, where some of them feed devices.
use Rattle.std.specs.Prelude.{◌≡◌, ℕ, ℤ, zero, suc, Bool, List, [], ◌∷◌, ◌++◌, replicate, Some}
use Rattle.std.specs.Option.{option_to_list}
use Rattle.usb_core.specs.declared.results.Taken.{Taken}
use Rattle.usb_model.specs.declared.reply.Reply.{Reply}
use Rattle.usb_model.specs.declared.reply.Reply.TheVariants as reply
use Rattle.usb_model.specs.declared.refused.Refused.TheVariants.{NoMem}
use Rattle.usb_model.specs.declared.request.Request.{Request}
use Rattle.usb_model.specs.declared.response.Response.{Response}
use Rattle.usb_model.specs.declared.step.Step.{Step}
use Rattle.usb_model.specs.declared.step.Step.TheVariants.{Answer, Serve, Submit, Take}
use Rattle.usb_model.specs.declared.verdict.Verdict.TheVariants.{Stop}
use Rattle.usb_model.specs.Setup.{Setup}
use Rattle.usb_model.specs.World.{World, new_world}
use Rattle.usb_living.specs.Rows.{Deed, Fed, HasAnswers, IsAsIfKnown, Made}
use Rattle.tirnouch_c.specs.declared.replies.StepReply.{StepReply}
use Rattle.tirnouch_c.specs.declared.session.Session.{Session}
use Rattle.tirnouch_c.specs.declared.settling.SettleProgress.{SettleProgress}
use Rattle.tirnouch_c.specs.Calls.{Makes}
use Rattle.tirnouch_c.specs.Feeds.{Behind, FeedsAs}
use Rattle.tirnouch_c.specs.Packets.{Serves}
use Rattle.tirnouch_c.specs.Results.{GoesOut}
use Rattle.tirnouch_c.specs.Sessions.{IsMade}
use Rattle.tirnouch_c.specs.Settling.{Settles, next_step, worked}
use Rattle.tirnouch_c.specs.Submission.{SubmitsAs}

-- the steps that are to be made next, so many of them
unfoldable pub next_steps : Bool → ℕ → Setup → World → List Step
next_steps packets zero setup w = []
next_steps packets (suc k) setup w = next_steps packets k setup w ++ option_to_list (next_step setup packets (worked setup packets w k))

-- the step of a submission, where memory wasn't refused
abbrev pub submitted : ℕ → Request → Reply → List Step
submitted h request (reply.Refused NoMem) = []
submitted h request reply = Submit h request ∷ []

-- what a call does to a session, by the contract of its export: a step; packets, as many as its reply says; steps that are to be made, as many as it says; a
-- submission; a result that goes out, whose callback ends; an answer that is fed; or nothing
pub data Does : Deed → (s t : Session) → Type 0 where
  steps : (step : Step) (answer : ℤ) (reply : StepReply) (s t : Session) → Makes step answer reply s t → Does (Made (λ setup w. step ∷ [])) s t
  serves : (dev ep most : ℕ) (reply : StepReply) (s t : Session) → Serves dev ep most reply s t → Does (Made (λ setup w. replicate reply.packets (Serve dev ep))) s t
  settles : (packets : Bool) (most : ℕ) (progress : SettleProgress) (s t : Session) → Settles packets most progress s t → Does (Made (next_steps packets progress.steps)) s t
  submits : (h payload : ℕ) (request : Request) (reply : Reply) (s t : Session) → SubmitsAs h request payload reply s.core t.core → Does (Made (λ setup w. submitted h request reply)) s t
  takes : (x : Taken ℕ) (s t : Session) → GoesOut x s.core t.core → Does (Made (λ setup w. Take ∷ Answer x.returned.h x.returned.n Stop ∷ [])) s t
  feeds : (dev ep : ℕ) (a : Response) (s t : Session) → FeedsAs Behind (Some dev) ep (Some a) s t → Does (Fed dev ep a) s t
  stays : (s t : Session) → t.core ≡ s.core → Does (Made (λ setup w. [])) s t

-- and calls in a row
abbrev pub Calls : List Deed → (s t : Session) → Type 0
Calls [] s t = t ≡ s
Calls (x ∷ xs) s t = (between : Session) × Does x s between × Calls xs between t

-- a session of a text, by any calls in a row each of whose packets had an answer, whether it stood in the text or was fed: its world is that where their steps
-- lead over the scripts as they are at the end, and what was told is what is told over these
abbrev pub FedSessionsAreAsIfKnown : Type 0
FedSessionsAreAsIfKnown = (text : List ℕ) (xs : List Deed) (s t : Session) (made : IsMade text s) → Calls xs s t
    → HasAnswers made.desk.scripted (new_world made.desk.scripted) xs → IsAsIfKnown made.desk.scripted xs t.core
