-- Interfaces, then endpoints.
use Rattle.std.proofs.Common.{ℕ, ◌≡◌, ◌++◌, ◌∙◌, ap, ap₂, append_assoc, subst}
use Rattle.std.specs.Prelude.{IfOk}
use Rattle.std.specs.List.{flat_map}
use Rattle.usb_model.specs.declared.setup.EndpointInfo.{EndpointInfo}
use Rattle.usb_model.specs.World.{own_endpoint}
use Rattle.trace_left.specs.Gathered.{end_read, held_read}
use Rattle.trace_left.proofs.inventory.add_configured.Goals as goal

pub returns : goal.returns
returns g c = λ setup w shown.
    let held = λ (i : ℕ). held_read c.args.h i (w.claims c.args.dev i) in
    let ends = λ (x : EndpointInfo). end_read c.args.h x.address (own_endpoint setup c.args.h w c.args.dev x.address) in
    subst (λ l. IfOk c.add_endpoints.result (λ _. c.add_endpoints.new.left.items ≡ l))
    (ap₂ (λ a b. a ++ flat_map ends b) (c.in_ok-add_interfaces.ensures setup w shown ∙ ap (λ l. c.args.left.now.items ++ flat_map held l) c.interfaces.ensures.value) c.endpoints.ensures.value
    ∙ append_assoc c.args.left.now.items (flat_map held c.args.config.now.interfaces) (flat_map ends c.args.config.now.endpoints))
    (c.add_endpoints.ensures setup w shown)
