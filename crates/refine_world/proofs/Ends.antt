-- Command and Deliver don't look at what is left.
use Rattle.std.proofs.Common.{◌≡◌, ℕ, Bool, true, false, List, [], ◌∷◌, map, Option, Some, None, refl}
use Rattle.std.specs.Prelude.{if◌then◌else◌}
use Rattle.usb_model.specs.declared.errand.Errand.{Errand}
use Rattle.usb_model.specs.declared.errand.Errand.TheVariants as errand
use Rattle.usb_model.specs.declared.reply.Reply.{Reply}
use Rattle.usb_model.specs.declared.response.Response.{Response}
use Rattle.usb_model.specs.declared.item.Item.{Item}
use Rattle.usb_model.specs.declared.news.Event.{Event}
use Rattle.usb_model.specs.declared.news.Event.TheVariants.{Finished, Paused, Settled}
use Rattle.usb_model.specs.declared.endpoint.Endpoint.{Endpoint}
use Rattle.usb_model.specs.declared.endpoint.EndpointState.{EndpointState}
use Rattle.usb_model.specs.declared.endpoint.EndpointState.TheVariants.{Running, Stopped, Halted}
use Rattle.usb_model.specs.declared.endpoint_effect.EndpointEffect.{EndpointEffect}
use Rattle.usb_model.specs.Endpoint.{past_blanks}
use Rattle.usb_model.specs.Endpoint.Command.{command}
use Rattle.usb_model.specs.Endpoint.Deliver.{deliver, resume, needs_reset, leads_blank, blanked}
use Rattle.refine_world.specs.Living.{with_more}
use Rattle.refine_world.proofs.LivingServes.{effect_of_end}

pub command_same : (size ep : ℕ) (more : List Response) (e : Endpoint) (errand : Errand) (state : EndpointState)
    → command size ep (with_more more e) errand state ≡ effect_of_end more (command size ep e errand state)
unfolding command
command_same size ep more e errand.Stop Running = refl
command_same size ep more e errand.Stop Stopped = refl
command_same size ep more e errand.Stop Halted = refl
command_same size ep more e errand.Reset Running = refl
command_same size ep more e errand.Reset Stopped = refl
command_same size ep more e errand.Reset Halted = refl
command_same size ep more e errand.Move Running = refl
command_same size ep more e errand.Move Stopped = refl
command_same size ep more e errand.Move Halted = refl

either : (more : List Response) (b : Bool) (x y : EndpointEffect) → (if b then effect_of_end more x else effect_of_end more y) ≡ effect_of_end more (if b then x else y)
either more true x y = refl
either more false x y = refl

resume_same : (size : ℕ) (more : List Response) (e : Endpoint) (r : Reply) (line : List Item) → resume size (with_more more e) r line ≡ effect_of_end more (resume size e r line)
unfolding resume
resume_same size more e r line = either more (leads_blank (map blanked line)) _ _

pub deliver_same : (size ep : ℕ) (gone : Bool) (more : List Response) (e : Endpoint) (event : Event)
    → deliver size ep gone (with_more more e) event ≡ effect_of_end more (deliver size ep gone e event)
unfolding deliver
deliver_same size ep gone more e (Finished n code) = either more (needs_reset code e.errand) _ _
deliver_same size ep gone more e (Paused n) = refl
deliver_same size ep gone more e (Settled errand.Stop false) = refl
deliver_same size ep gone more e (Settled errand.Stop true) = resume_same size more e _ e.line
deliver_same size ep gone more e (Settled errand.Reset ok) = refl
deliver_same size ep gone more e (Settled errand.Move ok) = resume_same size more e _ (past_blanks e.line)
