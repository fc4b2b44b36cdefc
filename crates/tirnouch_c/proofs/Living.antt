-- Each call of a slot is steps of its core, or an answer behind a script.
use Rattle.std.proofs.Common.{◌≡◌, ◌∙◌, ℕ, zero, suc, Bool, List, [], ◌∷◌, ◌++◌, Option, Some, None, refl, sym, ap, subst, replicate}
use Rattle.std.specs.Option.{option_to_list}
use Rattle.usb_model.specs.declared.refused.Refused.{Refused}
use Rattle.usb_model.specs.declared.refused.Refused.TheVariants as refused
use Rattle.usb_model.specs.declared.reply.Reply.{Reply}
use Rattle.usb_model.specs.declared.reply.Reply.TheVariants as reply
use Rattle.usb_model.specs.declared.request.Request.{Request}
use Rattle.usb_model.specs.declared.step.Step.{Step}
use Rattle.usb_model.specs.declared.step.Step.TheVariants.{Serve}
use Rattle.usb_model.specs.Setup.{Setup}
use Rattle.usb_model.specs.World.{World, turn, world_from}
use Rattle.usb_core.specs.Public.{ShowsWorld, State}
use Rattle.proof_model.proofs.Handles.Runs.{world_append}
use Rattle.usb_living.specs.Rows.{Deed, Leads}
use Rattle.usb_living.specs.Rows as rows
use Rattle.usb_living.proofs.Rows.{rows_are_as_if_known}
use Rattle.tirnouch_c.specs.declared.session.Session.{Session}
use Rattle.tirnouch_c.specs.Living.{Calls, Does, FedSessionsAreAsIfKnown, feeds, next_steps, serves, settles, stays, steps, submits, submitted, takes}
use Rattle.tirnouch_c.specs.Packets.{served}
use Rattle.tirnouch_c.specs.Settling.{behind_step, next_step, worked}
use Rattle.tirnouch_c.specs.Submission.{SubmitsAs}

-- one packet first is as good as one packet last
served_first : (setup : Setup) (dev ep : ℕ) (w : World) (k : ℕ) → served setup dev ep (turn setup w (Serve dev ep)).world k ≡ served setup dev ep w (suc k)
unfolding served
served_first setup dev ep w zero = refl
served_first setup dev ep w (suc k) = ap (λ (v : World). (turn setup v (Serve dev ep)).world) (served_first setup dev ep w k)

-- packets in a row are that many steps
served_is : (setup : Setup) (dev ep : ℕ) (w : World) (k : ℕ) → served setup dev ep w k ≡ world_from setup w (replicate k (Serve dev ep))
unfolding served world_from
served_is setup dev ep w zero = refl
served_is setup dev ep w (suc k) = sym (served_first setup dev ep w k) ∙ served_is setup dev ep (turn setup w (Serve dev ep)).world k

-- and so are the steps that are to be made next
worked_is : (setup : Setup) (packets : Bool) (w : World) (k : ℕ) → worked setup packets w k ≡ world_from setup w (next_steps packets k setup w)
unfolding worked next_steps world_from
worked_is setup packets w zero = refl
worked_is setup packets w (suc k) =
    by_step (next_step setup packets (worked setup packets w k))
    ∙ ap (λ (v : World). world_from setup v (option_to_list (next_step setup packets (worked setup packets w k)))) (worked_is setup packets w k)
    ∙ sym (world_append setup w (next_steps packets k setup w) (option_to_list (next_step setup packets (worked setup packets w k))))
  where
    by_step : (o : Option Step) → behind_step setup (worked setup packets w k) o ≡ world_from setup (worked setup packets w k) (option_to_list o)
    by_step None = refl
    by_step (Some step) = refl

-- a submission is its step, where memory wasn't refused
submission : (h payload : ℕ) (request : Request) (reply : Reply) (s t : State ℕ) → SubmitsAs h request payload reply s t
    → (setup : Setup) (w : World) → ShowsWorld setup s w → ShowsWorld setup t (world_from setup w (submitted h request reply))
unfolding world_from
submission h payload request (reply.Number n) s t made setup w shows = (made.0 setup w shows).1
submission h payload request (reply.Refused refused.NoMem) s t made setup w shows = (shows.0, made.0 setup shows.0 shows.1, shows.2)
submission h payload request (reply.Refused refused.InvalidParam) s t made setup w shows = (made.0 setup w shows).1
submission h payload request (reply.Refused refused.NoDevice) s t made setup w shows = (made.0 setup w shows).1
submission h payload request (reply.Refused refused.NotFound) s t made setup w shows = (made.0 setup w shows).1
submission h payload request (reply.Refused refused.Busy) s t made setup w shows = (made.0 setup w shows).1
submission h payload request (reply.Refused refused.HeldElsewhere) s t made setup w shows = (made.0 setup w shows).1
submission h payload request (reply.Refused refused.NotSupported) s t made setup w shows = (made.0 setup w shows).1
submission h payload request reply.Done s t made setup w shows = absurd made
submission h payload request reply.Idle s t made setup w shows = absurd made
submission h payload request (reply.Nak n) s t made setup w shows = absurd made
submission h payload request (reply.Moved n bytes) s t made setup w shows = absurd made
submission h payload request (reply.Ended n code) s t made setup w shows = absurd made
submission h payload request (reply.Ran ep errand ok) s t made setup w shows = absurd made
submission h payload request (reply.Finished n) s t made setup w shows = absurd made
submission h payload request (reply.Paused n) s t made setup w shows = absurd made
submission h payload request (reply.Settled ep errand ok) s t made setup w shows = absurd made
submission h payload request (reply.Called x) s t made setup w shows = absurd made

-- each call does to the core what its contract says
does : (x : Deed) (s t : Session) → Does x s t → rows.Does x s.core t.core
unfolding world_from
does _ _ _ (steps step answer reply s t made) = λ setup w shows. (made.0 setup w shows).2
does _ _ _ (serves dev ep most reply s t row) = λ setup w shows. subst (λ (v : World). ShowsWorld setup t.core v) (served_is setup dev ep w reply.packets) (row.shows setup w shows)
does _ _ _ (settles packets most progress s t row) = λ setup w shows. subst (λ (v : World). ShowsWorld setup t.core v) (worked_is setup packets w progress.steps) (row.shows setup w shows)
does _ _ _ (submits h payload request reply s t made) = submission h payload request reply s.core t.core made
does _ _ _ (takes result s t out) = λ setup w shows. out.shows setup w shows
does _ _ _ (feeds dev ep a s t fed) = fed.1
does _ _ _ (stays s t same) = λ setup w shows. subst (λ (u : State ℕ). ShowsWorld setup u w) (sym same) shows

leads : (xs : List Deed) (s t : Session) → Calls xs s t → Leads xs s.core t.core
leads [] s t calls = ap (λ (u : Session). u.core) calls
leads (x ∷ xs) s t calls = (calls.0.core, does x s calls.0 calls.1, leads xs calls.0 t calls.2)

pub fed_sessions : FedSessionsAreAsIfKnown
fed_sessions text xs s t made calls answers = rows_are_as_if_known made.desk.scripted xs s.core t.core made.shows (leads xs s t calls) answers
