-- The line that each kind of work leaves, and the results that it makes.
use Rattle.std.proofs.Common.{Bool, List, false, map, refl, true, ℕ, ◌≡◌}
use Rattle.std.specs.Prelude.{if◌then◌else◌}
use Rattle.usb_model.specs.declared.errand.Errand.TheVariants as errand
use Rattle.usb_model.specs.declared.errand.Errand.{Errand}
use Rattle.usb_model.specs.declared.endpoint.Endpoint.{Endpoint}
use Rattle.usb_model.specs.declared.endpoint.EndpointState.TheVariants.{Halted, Running, Stopped}
use Rattle.usb_model.specs.declared.endpoint.EndpointState.{EndpointState}
use Rattle.usb_model.specs.declared.item.Item.{Item}
use Rattle.usb_model.specs.declared.news.Event.TheVariants.{Finished}
use Rattle.usb_model.specs.declared.reply.Reply.{Reply}
use Rattle.usb_model.specs.Endpoint.Command.{command}
use Rattle.usb_model.specs.Endpoint.Deliver.{blanked, deliver, finished_result, leads_blank, line_after, needs_reset, resume, withdrawn}
use Rattle.usb_model.specs.declared.endpoint_effect.EndpointEffect.{EndpointEffect}
use Rattle.usb_model.specs.Endpoint.{in_progress}

-- what both branches of an if have, it has
pub if_same : {A B : Type 0} (f : A → B) (b : Bool) (x y : A) (v : B) → f x ≡ v → f y ≡ v → f (if b then x else y) ≡ v
if_same f true x y v p q = p
if_same f false x y v p q = q

-- a command leaves the line as it is
pub line-command : (size ep : ℕ) (e : Endpoint) (o : Errand) (s : EndpointState) → (command size ep e o s).endpoint.line ≡ e.line
unfolding command
line-command size ep e errand.Stop Running = refl
line-command size ep e errand.Reset Halted = refl
line-command size ep e errand.Move Stopped = refl
line-command size ep e _ _ = refl

-- asked items are withdrawn, whether Move is ordered or the endpoint runs
pub line-resume : (size : ℕ) (e : Endpoint) (r : Reply) (line : List Item) → (resume size e r line).endpoint.line ≡ map blanked line
unfolding resume
line-resume size e r line = if_same (λ (d : EndpointEffect). d.endpoint.line) (leads_blank (map blanked line)) _ _ _ refl refl

-- results of a halt that is over: the withdrawn transfers'
pub results-resume : (size : ℕ) (e : Endpoint) (r : Reply) (line : List Item) → (resume size e r line).results ≡ withdrawn size line
unfolding resume
results-resume size e r line = if_same (λ (d : EndpointEffect). d.results) (leads_blank (map blanked line)) _ _ _ refl refl

-- a transfer whose end is told leaves its line, whether Reset is ordered or not
pub line-finished : (size ep : ℕ) (gone : Bool) (e : Endpoint) (n code : ℕ) → (deliver size ep gone e (Finished n code)).endpoint.line ≡ line_after n code e.line
unfolding deliver
line-finished size ep gone e n code = if_same (λ (d : EndpointEffect). d.endpoint.line) (needs_reset code e.errand) _ _ _ refl refl

-- the result of an end that is delivered: that of its transfer, where that is in progress
pub results-finished : (size ep : ℕ) (gone : Bool) (e : Endpoint) (n code : ℕ) → (deliver size ep gone e (Finished n code)).results ≡ finished_result size gone code (in_progress n e.line)
unfolding deliver
results-finished size ep gone e n code = if_same (λ (d : EndpointEffect). d.results) (needs_reset code e.errand) _ _ _ refl refl
