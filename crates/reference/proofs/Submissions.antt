-- What a submission comes to, at a handle that is open.
use Rattle.std.proofs.Common.{◌≡◌, ℕ, ◌+◌, Some, None, ap, ◌∙◌}
use Rattle.usb_model.specs.declared.refused.Refused.TheVariants.{NotFound}
use Rattle.usb_model.specs.declared.reply.Reply.TheVariants as reply
use Rattle.usb_model.specs.declared.request.Request.{Request}
use Rattle.usb_model.specs.declared.effect.Effect.{Effect}
use Rattle.usb_model.specs.declared.endpoint.Endpoint.{Endpoint}
use Rattle.usb_model.specs.declared.handle.Handle.{Handle}
use Rattle.usb_model.specs.Setup.{Setup}
use Rattle.usb_model.specs.Machine.{Machine, says, at_endpoint, unless}
use Rattle.usb_model.specs.Machine.Calls.{submitted, submit_to, submit_effect}
use Rattle.usb_model.specs.Machine.Calls.{submit_tests}
use Rattle.reference.specs.Submit.{Admits}

-- where the endpoint isn't the handle's own, it is refused
pub not_there : (setup : Setup) (m : Machine) (after : Handle) (request : Request) (round : ℕ) (dev : ℕ) → m.handle.device ≡ Some dev → m.endpoints dev request.ep ≡ None
    → submit_effect setup m after request round ≡ says m (reply.Refused NotFound)
unfolding submit_effect submit_to
not_there setup m after request round dev opened none = rw (opened, none)

-- at an endpoint of its own the tests decide
pub tests_decide : (setup : Setup) (m : Machine) (after : Handle) (request : Request) (round : ℕ) (dev : ℕ) (e : Endpoint) → m.handle.device ≡ Some dev → m.endpoints dev request.ep ≡ Some e
    → submit_effect setup m after request round ≡ unless m (submit_tests setup m request e) (at_endpoint (record after { next_number = m.handle.next_number + 1 }) dev request.ep (submitted m.handle.next_number request round e))
unfolding submit_effect submit_to
tests_decide setup m after request round dev e opened there = rw (opened, there)

-- so it is admitted where none holds
pub admits_at : (setup : Setup) (m : Machine) (dev : ℕ) (request : Request) (x : Endpoint) → m.handle.device ≡ Some dev → m.endpoints dev request.ep ≡ Some x
    → ((rest : Effect) → unless m (submit_tests setup m request x) rest ≡ rest) → Admits setup m dev request
admits_at setup m dev request x opened there passes after round e found =
    let same : x ≡ e = cc in
    tests_decide setup m after request round dev x opened there ∙ (passes (at_endpoint (record after { next_number = m.handle.next_number + 1 }) dev request.ep (submitted m.handle.next_number request round x))
    ∙ ap (λ y. at_endpoint (record after { next_number = m.handle.next_number + 1 }) dev request.ep (submitted m.handle.next_number request round y)) same)
