-- What work at an endpoint replies.
use Rattle.std.proofs.Common.{◌≡◌, ℕ, Bool, true, false, List, [], Option, Some, None, refl}
use Rattle.std.specs.Prelude.{if◌then◌else◌}
use Rattle.usb_model.specs.declared.errand.Errand.{Errand}
use Rattle.usb_model.specs.declared.errand.Errand.TheVariants as errand
use Rattle.usb_model.specs.declared.reply.Reply.{Reply}
use Rattle.usb_model.specs.declared.reply.Reply.TheVariants as reply
use Rattle.usb_model.specs.declared.endpoint.Endpoint.{Endpoint}
use Rattle.usb_model.specs.declared.endpoint.EndpointState.{EndpointState}
use Rattle.usb_model.specs.declared.endpoint.EndpointState.TheVariants.{Running, Stopped, Halted}
use Rattle.usb_model.specs.declared.item.Ask.{Ask}
use Rattle.usb_model.specs.declared.item.Item.{Item}
use Rattle.usb_model.specs.declared.news.Event.{Event}
use Rattle.usb_model.specs.declared.news.Event.TheVariants as event
use Rattle.usb_model.specs.declared.outcome.Outcome.{Outcome}
use Rattle.usb_model.specs.declared.endpoint_effect.EndpointEffect.{EndpointEffect}
use Rattle.usb_model.specs.Endpoint.Serve.{next_answer, is_no_packet, serve_by, serve_gone, serve_first, serve}
use Rattle.usb_model.specs.Endpoint.Command.{command}
use Rattle.usb_model.specs.Endpoint.Deliver.{leads_blank, needs_reset, resume, deliver}
use Rattle.usb_model.specs.Machine.Calls.{asks}
use Rattle.usb_model.specs.World.Journal.{is_held_elsewhere}
use Rattle.usb_model.specs.Laws.Places.{call_of, number_of}

-- neither a refusal, nor a number, nor a call
abbrev pub is_told : Reply → Bool
is_told (reply.Refused why) = false
is_told (reply.Number n) = false
is_told (reply.Called returned) = false
is_told _ = true

-- such a reply isn't because of another handle
pub told_fair : (r : Reply) → is_told r ≡ true → is_held_elsewhere r ≡ false
told_fair (reply.Refused why) e = absurd cc
told_fair _ e = refl

-- and it neither calls nor gives a number
pub told_plain : (r : Reply) → is_told r ≡ true → (call_of r ≡ []) × (number_of r ≡ [])
told_plain (reply.Number n) e = absurd cc
told_plain (reply.Called returned) e = absurd cc
told_plain _ e = (refl, refl)

-- a choice of two such
either_told : (b : Bool) (x y : Reply) → is_told x ≡ true → is_told y ≡ true → is_told (if b then x else y) ≡ true
either_told true x y p q = p
either_told false x y p q = q

-- a choice of two works that reply so
either_tells : (b : Bool) (x y : EndpointEffect) → is_told x.reply ≡ true → is_told y.reply ≡ true → is_told (if b then x else y).reply ≡ true
either_tells true x y p q = p
either_tells false x y p q = q

-- by the code with which the transfer ends, if it does
serve_by_told : (e : Endpoint) (x : Item) (before after : Outcome) (code : Option ℕ) → is_told (serve_by e x before after code).reply ≡ true
unfolding serve_by
serve_by_told e x before after None = either_told (is_no_packet (next_answer e)) _ _ refl refl
serve_by_told e x before after (Some code) = refl

-- by the state, and the first transfer that waits
serve_first_told : (size : ℕ) (gone : Bool) (e : Endpoint) (s : EndpointState) (o : Option Item) → is_told (serve_first size gone e s o).reply ≡ true
unfolding serve_first serve_gone
serve_first_told size true e Running (Some x) = refl
serve_first_told size false e Running (Some x) = serve_by_told e x _ _ _
serve_first_told size gone e _ _ = refl

-- the device answers a packet
pub serve_told : (size : ℕ) (gone : Bool) (e : Endpoint) → is_told (serve size gone e).reply ≡ true
unfolding serve
serve_told size gone e = serve_first_told size gone e _ _

-- the controller carries out an order
pub command_told : (size ep : ℕ) (e : Endpoint) (errand : Errand) (s : EndpointState) → is_told (command size ep e errand s).reply ≡ true
unfolding command
command_told size ep e errand.Stop Running = refl
command_told size ep e errand.Reset Halted = refl
command_told size ep e errand.Move Stopped = refl
command_told size ep e _ _ = refl

-- where an endpoint goes on
resume_told : (size : ℕ) (e : Endpoint) (r : Reply) (line : List Item) → is_told r ≡ true → is_told (resume size e r line).reply ≡ true
unfolding resume
resume_told size e r line told = either_tells (leads_blank _) _ _ told told

-- a piece of news is handled
pub deliver_told : (size ep : ℕ) (gone : Bool) (e : Endpoint) (event : Event) → is_told (deliver size ep gone e event).reply ≡ true
unfolding deliver
deliver_told size ep gone e (event.Finished n code) = either_tells (needs_reset code e.errand) _ _ refl refl
deliver_told size ep gone e (event.Paused n) = refl
deliver_told size ep gone e (event.Settled errand.Stop false) = refl
deliver_told size ep gone e (event.Settled errand.Stop true) = resume_told size e _ _ refl
deliver_told size ep gone e (event.Settled errand.Reset ok) = refl
deliver_told size ep gone e (event.Settled errand.Move ok) = resume_told size e _ _ refl

-- a transfer is asked to end
pub asks_told : (e : Endpoint) (n : ℕ) (ask : Ask) → is_told (asks e n ask).reply ≡ true
unfolding asks
asks_told e n ask = refl
